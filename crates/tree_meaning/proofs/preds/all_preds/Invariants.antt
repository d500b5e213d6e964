use Rattle.std.proofs.Common.{◌≡◌, ◌++◌, drop}
use Rattle.predicate_walk.specs.Truths.{preds_in}
use Rattle.tree_meaning.specs.inside.Known.{preds_of}
use Rattle.tree_meaning.specs.inside.StepMarks.{marked_steps}
use Rattle.tree_meaning.proofs.preds.all_preds.Given as goal

abbrev pub invariant-loop-progress : goal.invariant-loop-progress
invariant-loop-progress l = preds_in l.preds.items ++ preds_of (marked_steps (drop l.progress-index l.row)) ≡ preds_of (marked_steps l.row)
