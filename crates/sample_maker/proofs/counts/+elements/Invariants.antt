-- The elements counted so far, and those of the items left, are together those of the element.
use Rattle.std.proofs.Common.{◌≡◌, ◌+◌, ◌*◌, ◌≤◌, map, drop}
use Rattle.sample_maker.specs.inside.Counts.{total, element_count, item_element_count}
use Rattle.sample_maker.proofs.counts.+elements.Given as goal

abbrev pub invariant-elements_in-loop-item : goal.invariant-elements_in-loop-item
invariant-elements_in-loop-item l = (l.count + total (map item_element_count (drop l.item-index l.item-items)) ≡ element_count l.element) × (1 ≤ l.count)

-- An item has fewer elements than the element around it. An item that is a child has as many as its own element.
abbrev pub decreases-elements_in : goal.decreases-elements_in
decreases-elements_in l = 2 * element_count l.element.now

abbrev pub decreases-elements_in_item : goal.decreases-elements_in_item
decreases-elements_in_item l = 2 * item_element_count l.item.now + 1
