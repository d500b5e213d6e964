use Rattle.std.proofs.Common.{◌≡◌, ◌+◌, ◌*◌, ◌++◌, drop, length}
use Rattle.acl_model.specs.Document.{height, height_of_item}
use Rattle.tree_meaning.specs.inside.Known.{preds_of, flags_of_items}
use Rattle.tree_meaning.specs.inside.StepMarks.{marked_steps}
use Rattle.tree_meaning.specs.inside.Decided.{entries_of_items}
use Rattle.tree_meaning.proofs.decided.+decided.Given as goal

-- an item is lower than its element, and a child element is as high as its item
abbrev pub decreases-find_in_element : goal.decreases-find_in_element
decreases-find_in_element l = 3 * height l.element.now + 2

abbrev pub decreases-find_in_items : goal.decreases-find_in_items
decreases-find_in_items l = 3 * height l.element.now + 1

abbrev pub decreases-find_in_item : goal.decreases-find_in_item
decreases-find_in_item l = 3 * height_of_item l.item.now + 3

abbrev pub invariant-find_in_items-loop-item : goal.invariant-find_in_items-loop-item
invariant-find_in_items-loop-item l =
    (l.entries.items ++ entries_of_items (marked_steps l.row) (drop l.item-index l.item-items) ≡ l.initial.entries.items ++ entries_of_items (marked_steps l.row) l.item-items)
    × (l.known ≡ flags_of_items (preds_of (marked_steps l.row)) (drop l.item-index l.item-items) ++ drop (length (flags_of_items (preds_of (marked_steps l.row)) l.element.items)) l.fn.known)
