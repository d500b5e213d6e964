use Rattle.std.proofs.Common.{◌≡◌, ◌≤◌, ◌+◌, ◌*◌, ◌++◌, drop, length}
use Rattle.acl_model.specs.Document.{height, height_of_item}
use Rattle.tree_meaning.specs.inside.Known.{preds_of, flags_within, flags_of_items}
use Rattle.tree_meaning.specs.inside.StepMarks.{marked_steps}
use Rattle.tree_meaning.specs.inside.ExplainWalk.{explanations_in, told_of_items}
use Rattle.tree_meaning.proofs.explain.+walk.Given as goal

-- an item is lower than its element, and a child element is as high as its item
abbrev pub decreases-explain_element : goal.decreases-explain_element
decreases-explain_element l = 2 * height l.element.now

abbrev pub decreases-explain_item : goal.decreases-explain_item
decreases-explain_item l = 2 * height_of_item l.item.now + 1

abbrev pub invariant-explain_element-loop-item : goal.invariant-explain_element-loop-item
invariant-explain_element-loop-item l =
    (l.number ≤ l.item-index + 1)
    × (l.place.items ≡ l.initial.place.items)
    × (explanations_in l.told.items ++ told_of_items (marked_steps l.row.items) l.initial.place.items (drop l.item-index l.item-items) l.number
    ≡ explanations_in l.initial.told.items ++ told_of_items (marked_steps l.row.items) l.initial.place.items l.item-items 1)
    × (l.known ≡ flags_of_items (preds_of (marked_steps l.row.items)) (drop l.item-index l.item-items) ++ drop (length (flags_within (preds_of (marked_steps l.fn.row)) l.element)) l.fn.known)
