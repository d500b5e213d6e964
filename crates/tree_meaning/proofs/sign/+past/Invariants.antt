use Rattle.std.proofs.Common.{◌≡◌, drop, length}
use Rattle.predicate_walk.specs.Truths.{preds_in}
use Rattle.tree_meaning.specs.inside.Known.{flags_within, flags_of_items}
use Rattle.tree_meaning.proofs.sign.+past.Given as goal

abbrev pub invariant-pass_element-loop-item : goal.invariant-pass_element-loop-item
invariant-pass_element-loop-item l =
    drop (length (flags_of_items (preds_in l.preds) (drop l.item-index l.item-items))) l.known ≡ drop (length (flags_within (preds_in l.preds) l.element)) l.fn.known
