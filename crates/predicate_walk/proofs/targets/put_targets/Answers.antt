use Rattle.std.proofs.Common.{◌≡◌, ◌∙◌, ap, length, refl, arith}
use Rattle.predicate_walk.specs.inside.States.{number_of_states}
use Rattle.predicate_walk.specs.Truths.{preds_in}
use Rattle.predicate_walk.proofs.RowLaws.{put_targets_step, put_targets_end, put_targets_clear, length-inner_row_at}
use Rattle.predicate_walk.proofs.TextLaws.{texts_are_there}
use Rattle.predicate_walk.proofs.targets.put_targets.Goals as goal

pub loop-r-init : goal.loop-r-init
loop-r-init c =
    let long : length c.args.row.now ≡ number_of_states (preds_in c.args.preds.now) = ap length c.requires.inside ∙ length-inner_row_at (preds_in c.args.preds.now) c.args.element.now in
    record { long = omega (arith, long); same = refl; left = c.requires.inside; made = refl }

pub is_target_enough-requires : goal.is_target_enough-requires
is_target_enough-requires c =
    texts_are_there c.args.preds.now c.loop-r.r-index c.r-item.result c.args.value.now _ c.loop-r-test.true
    c.r-item.is c.requires.value

pub put_flag-requires-clause-clear : goal.put_flag-requires-clause-clear
put_flag-requires-clause-clear c =
    put_targets_clear c.args.preds.now c.loop-r.r-index c.r-item.result c.args.element.now c.loop-r.start c.loop-r.row
    c.loop-r-test.true c.r-item.is c.loop-r.invariant.left

pub loop-r-preserved : goal.loop-r-preserved
loop-r-preserved c =
    let step = put_targets_step c.args.preds.now c.loop-r.r-index c.r-item.result c.args.element.now c.loop-r.start c.len-in-loop-r.result c.loop-r.row c.put_flag.new.flags _ c.is_target_enough.result
    c.loop-r-test.true c.r-item.is c.len-in-loop-r.ensures c.loop-r.invariant.long c.loop-r.invariant.left
    c.loop-r.invariant.made c.is_target_enough.ensures c.put_flag.ensures in
    record { long = step.3; same = step.2 ∙ c.loop-r.invariant.same; left = step.0; made = step.1 }

pub returns : goal.returns
returns c =
    put_targets_end c.args.preds.now c.loop-r.r-index c.args.element.now c.loop-r.start c.loop-r.row _
    c.loop-r-test.false c.loop-r.invariant.long c.loop-r.invariant.made
