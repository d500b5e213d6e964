-- The items so far are of the right form and high enough. Each call has a part of a level, or one level less.
use Rattle.std.proofs.Common.{◌≡◌, ◌≤◌, ◌+◌, ◌*◌, true, map}
use Rattle.std.specs.List.{list_all}
use Rattle.acl_model.specs.Document.{item_well_formed, greatest, height_of_item}
use Rattle.acl_model.specs.Names.{is_name}
use Rattle.cross_tests.proofs.documents.+made.Given as goal

abbrev pub invariant-some_items-loop-item : goal.invariant-some_items-loop-item
invariant-some_items-loop-item l = record {
  formed : list_all (λ b. b) (map (item_well_formed is_name) l.items.items) ≡ true;
  few : greatest (map height_of_item l.items.items) ≤ l.levels;
}

abbrev pub decreases-some_element : goal.decreases-some_element
decreases-some_element l = 3 * l.levels

abbrev pub decreases-some_items : goal.decreases-some_items
decreases-some_items l = 3 * l.levels + 2

abbrev pub decreases-some_item : goal.decreases-some_item
decreases-some_item l = 3 * l.levels + 1
