-- The items that are left have the levels exactly where all items have them. Each call gets one level less, or a child.
use Rattle.std.proofs.Common.{◌≡◌, ◌+◌, ◌-◌, ◌*◌, nat_le, drop, map}
use Rattle.acl_model.specs.Document.{greatest, height_of_item}
use Rattle.skip_decode.proofs.height.+tree.Given as goal

abbrev pub invariant-has_levels-loop-item : goal.invariant-has_levels-loop-item
invariant-has_levels-loop-item l =
    nat_le (l.levels - 1) (greatest (map height_of_item (drop l.item-index l.element.items)))
    ≡ nat_le (l.levels - 1) (greatest (map height_of_item l.element.items))

abbrev pub decreases-has_levels : goal.decreases-has_levels
decreases-has_levels l = 2 * l.levels

abbrev pub decreases-item_has_levels : goal.decreases-item_has_levels
decreases-item_has_levels l = 2 * l.levels + 1
