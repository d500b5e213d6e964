use Rattle.std.proofs.Common.{refl, subst}
use Rattle.acl_model.specs.Explain.{explanation_line}
use Rattle.acl_outside.specs.WrittenText.{Writes}
use Rattle.acl_outside.proofs.Remaining.{Writes-cut_part}
use Rattle.tree_meaning.specs.inside.ExplainWalk.{explanation_in}
use Rattle.tree_meaning.proofs.LineLaws.{line_told, Writes-parts}
use Rattle.tree_meaning.proofs.ToldLaws.{lines_told}
use Rattle.tree_meaning.proofs.lines.write_explanation.Goals as goal

pub returns-in_err-write_explanation_line : goal.returns-in_err-write_explanation_line
returns-in_err-write_explanation_line g c = record {
  written = subst (Writes _ _ _ _ _ _ _) (lines_told c.args.rules.now c.args.told.now)
      (Writes-cut_part (λ one. explanation_line c.args.rules.now (explanation_in one)) _ _ _ c.from_residual.ensures.0 c.loop-one.invariant
      c.write_explanation_line.ensures.written c.branch-write_explanation_line.ensures c.in_err-write_explanation_line.is c.loop-one-test.true c.one-item.is
      (line_told c.args.rules.now c.one-item.result _ _ c.rule_word.ensures.word c.as_slice.ensures));
}

pub returns : goal.returns
returns g c = record {
  written = Writes-parts (λ one. explanation_line c.args.rules.now (explanation_in one)) c.args.told.now c.loop-one.one-index _ c.loop-one-test.false (lines_told c.args.rules.now c.args.told.now) c.loop-one.invariant;
}
