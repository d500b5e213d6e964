-- The lines counted so far, and those of the items left, are together those of the element.
use Rattle.std.proofs.Common.{◌≡◌, ◌+◌, ◌*◌, ◌≤◌, map, drop}
use Rattle.sample_maker.specs.inside.Counts.{total, line_count, item_line_count}
use Rattle.sample_maker.proofs.counts.+lines.Given as goal

abbrev pub invariant-lines_in-loop-item : goal.invariant-lines_in-loop-item
invariant-lines_in-loop-item l = (l.count + total (map item_line_count (drop l.item-index l.item-items)) ≡ line_count l.element) × (1 ≤ l.count)

-- An item has fewer lines than the element around it. An item that is a child has as many as its own element.
abbrev pub decreases-lines_in : goal.decreases-lines_in
decreases-lines_in l = 2 * line_count l.element.now

abbrev pub decreases-lines_in_item : goal.decreases-lines_in_item
decreases-lines_in_item l = 2 * item_line_count l.item.now + 1
