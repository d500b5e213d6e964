use Rattle.std.proofs.Common.{◌≡◌, ◌++◌, drop, length}
use Rattle.acl_model.specs.Places.{child}
use Rattle.predicate_walk.specs.Truths.{preds_in}
use Rattle.tree_meaning.specs.inside.Known.{flags_of_items}
use Rattle.tree_meaning.proofs.sign.child_at.Given as goal

abbrev pub invariant-loop-item : goal.invariant-loop-item
invariant-loop-item l =
    (child (drop l.item-index l.items) l.left ≡ child l.items l.number)
    × (l.known ≡ flags_of_items (preds_in l.preds) (drop l.item-index l.items) ++ drop (length (flags_of_items (preds_in l.preds) l.items)) l.fn.known)
