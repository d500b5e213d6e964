use Rattle.std.proofs.Common.{◌≡◌, ◌++◌, drop, length}
use Rattle.predicate_walk.specs.Truths.{truths_at}
use Rattle.tree_meaning.specs.inside.Known.{preds_of}
use Rattle.tree_meaning.specs.inside.StepMarks.{marked_steps, moved, no_step}
use Rattle.tree_meaning.proofs.marks.all_below.Given as goal

abbrev pub invariant-loop-progress : goal.invariant-loop-progress
invariant-loop-progress l =
    (marked_steps l.moved.items ++ moved l.element l.before (marked_steps (drop l.progress-index l.row)) ≡ moved l.element no_step (marked_steps l.row))
    × (l.known ≡ truths_at (preds_of (marked_steps (drop l.progress-index l.row))) l.element ++ drop (length (truths_at (preds_of (marked_steps l.row)) l.element)) l.initial.known)
