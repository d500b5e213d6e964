use Rattle.std.proofs.Common.{◌∙◌, ◌++◌, ap, map, reverse}
use Rattle.predicate_walk.specs.inside.States.{does_answer}
use Rattle.predicate_walk.proofs.RowLaws.{answer_step, answer_end}
use Rattle.predicate_walk.proofs.rows.find_answers.Goals as goal

pub loop-r-preserved : goal.loop-r-preserved
loop-r-preserved c =
    answer_step (does_answer c.args.question) c.args.preds.now c.loop-r.r-index c.r-item.result c.loop-r.flags
    c.push_flag.new.flags c.push_answers.new.flags _
    c.loop-r-test.true c.r-item.is c.in_ok-push_flag.ensures (c.in_ok-push_answers.ensures ∙ ap (λ w. c.push_flag.new.flags ++ map (does_answer c.args.question) (reverse w)) c.as_slice.ensures) c.loop-r.invariant

pub returns : goal.returns
returns c =
    answer_end (does_answer c.args.question) c.args.preds.now c.loop-r.r-index c.loop-r.flags _ c.loop-r-test.false
    c.loop-r.invariant
