use Rattle.std.proofs.Common.{◌≡◌, ◌++◌, drop}
use Rattle.predicate_walk.specs.inside.States.{does_answer, answers}
use Rattle.predicate_walk.specs.Truths.{preds_in}
use Rattle.predicate_walk.proofs.rows.find_answers.Given as goal

abbrev pub invariant-loop-r : goal.invariant-loop-r
invariant-loop-r l =
    l.flags ++ answers (does_answer l.question) (preds_in (drop l.r-index l.preds)) ≡ answers (does_answer l.question)
    (preds_in l.preds)
