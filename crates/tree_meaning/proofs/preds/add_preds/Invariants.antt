use Rattle.std.proofs.Common.{◌≡◌, ◌++◌, drop}
use Rattle.predicate_walk.specs.Truths.{preds_in}
use Rattle.tree_meaning.proofs.preds.add_preds.Given as goal

abbrev pub invariant-loop-pred : goal.invariant-loop-pred
invariant-loop-pred l = preds_in l.preds.items ++ drop l.pred-index l.pred-items ≡ preds_in l.initial.preds.items ++ l.pred-items
