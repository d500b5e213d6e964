-- The items that are left have the right form exactly where all items have it. Each call gets a part of an element, or
-- one level less.
use Rattle.std.proofs.Common.{◌≡◌, ◌+◌, ◌*◌, ◌&&◌, nat_le, drop, map}
use Rattle.std.specs.List.{list_all}
use Rattle.acl_model.specs.inside.Form.{allows}
use Rattle.acl_model.specs.Document.{item_well_formed, greatest, height_of_item}
use Rattle.acl_model.proofs.form.+form.Given as goal

abbrev pub invariant-items_are_formed-loop-item : goal.invariant-items_are_formed-loop-item
invariant-items_are_formed-loop-item l =
    (list_all (λ b. b) (map (item_well_formed (allows l.names)) (drop l.item-index l.items)) && nat_le (greatest (map height_of_item (drop l.item-index l.items))) l.levels)
    ≡ (list_all (λ b. b) (map (item_well_formed (allows l.names)) l.items) && nat_le (greatest (map height_of_item l.items)) l.levels)

abbrev pub decreases-element_is_formed : goal.decreases-element_is_formed
decreases-element_is_formed l = 3 * l.levels

abbrev pub decreases-items_are_formed : goal.decreases-items_are_formed
decreases-items_are_formed l = 3 * l.levels + 2

abbrev pub decreases-item_is_formed : goal.decreases-item_is_formed
decreases-item_is_formed l = 3 * l.levels + 1
