use Rattle.std.proofs.Common.{◌∙◌, sym, arith}
use Rattle.tree_meaning.proofs.ToldLaws.{first_passed, first_within, rules_passed}
use Rattle.tree_meaning.proofs.explain.first_rule.Goals as goal

pub overflow_cast-result : goal.overflow_cast-result
overflow_cast-result c =
    let within = first_within c.args.own c.args.row.now c.loop-progress.progress-index c.loop-progress.number _ c.progress-item.result c.loop-progress-test.true c.progress-item.is
    (sym c.does_select_as.ensures ∙ c.if-does_select_as.true) c.loop-progress.invariant.1 in
    omega (arith, within, c.requires)

pub loop-progress-preserved : goal.loop-progress-preserved
loop-progress-preserved c = (
  first_passed c.args.own c.args.row.now c.loop-progress.progress-index c.loop-progress.number _ c.progress-item.result _ c.loop-progress-test.true c.progress-item.is
      (sym c.does_select_as.ensures ∙ c.if-does_select_as.false) c.next_child_number-number.ensures c.loop-progress.invariant.0,
  rules_passed c.args.row.now c.loop-progress.progress-index c.loop-progress.number _ _ c.progress-item.result c.loop-progress-test.true c.progress-item.is c.next_child_number-number.ensures c.loop-progress.invariant.1,
)
