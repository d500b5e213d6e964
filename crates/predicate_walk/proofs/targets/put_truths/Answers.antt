use Rattle.std.proofs.Common.{◌∙◌}
use Rattle.predicate_walk.proofs.RowLaws.{put_truths_step, put_truths_end}
use Rattle.predicate_walk.proofs.targets.put_truths.Goals as goal

pub loop-r-preserved : goal.loop-r-preserved
loop-r-preserved c =
    let step = put_truths_step c.args.preds.now c.loop-r.r-index c.r-item.result c.loop-r.start c.len-in-loop-r.result c.loop-r.place c.args.row.now c.loop-r.flags c.put_flag.new.flags _ c.has.result
    c.loop-r-test.true c.r-item.is c.len-in-loop-r.ensures c.loop-r.invariant.long c.loop-r.invariant.room
    c.loop-r.invariant.clear c.loop-r.invariant.told c.has.ensures c.put_flag.ensures in
    record { long = step.0; room = step.1; same = step.2 ∙ c.loop-r.invariant.same; clear = step.3; told = step.4 }

pub returns : goal.returns
returns c =
    put_truths_end c.args.preds.now c.loop-r.r-index c.loop-r.place _ c.loop-r.flags _ c.loop-r-test.false
    c.loop-r.invariant.told
