use Rattle.std.proofs.Common.{◌≡◌, ◌+◌, ◌*◌, ◌++◌, drop, length}
use Rattle.acl_model.specs.Document.{height, height_of_item}
use Rattle.tree_meaning.specs.inside.Known.{preds_of, flags_within, flags_of_items}
use Rattle.tree_meaning.specs.inside.StepMarks.{marked_steps, items_view}
use Rattle.tree_meaning.proofs.view.+view.Given as goal

-- an item is lower than its element, and a child element is as high as its item
abbrev pub decreases-element_in_view : goal.decreases-element_in_view
decreases-element_in_view l = 2 * height l.element.now

abbrev pub decreases-item_in_view : goal.decreases-item_in_view
decreases-item_in_view l = 2 * height_of_item l.item.now + 1

abbrev pub invariant-element_in_view-loop-item : goal.invariant-element_in_view-loop-item
invariant-element_in_view-loop-item l =
    (l.items.items ++ items_view (marked_steps l.row.items) l.own (drop l.item-index l.item-items) ≡ items_view (marked_steps l.row.items) l.own l.item-items)
    × (l.known ≡ flags_of_items (preds_of (marked_steps l.row.items)) (drop l.item-index l.item-items) ++ drop (length (flags_within (preds_of (marked_steps l.fn.row)) l.element)) l.fn.known)
