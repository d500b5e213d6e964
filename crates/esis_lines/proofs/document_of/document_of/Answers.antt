use Rattle.std.proofs.Common.{◌+◌, Bool, false, List, ℕ, ap, sym, ◌∙◌, arith}
use Rattle.acl_model.specs.Lines.{lines}
use Rattle.esis_lines.specs.inside.CodeValues.{line_value}
use Rattle.esis_lines.specs.LineMachine.{run}
use Rattle.esis_lines.proofs.Running.{run_taken}
use Rattle.esis_lines.proofs.document_of.document_of.Goals as goal

pub lines-preserved : goal.lines-preserved
lines-preserved c = record {
  means =
      ap (λ (closed : Bool). run (c.lines.number + 1) closed (lines c.in-Some.after.now) c.take.new.self) c.is_closing-closed.ensures
      ∙ sym (run_taken c.lines.number c.in-Some.line.now (lines c.in-Some.after.now) c.lines.reader c.take.new.self (line_value c.in_ok-said.said) (sym c.in_ok-said.ensures) (sym c.in_ok-take.ensures))
      ∙ ap (λ (ls : List (List ℕ)). run c.lines.number false ls c.lines.reader) (sym c.in-Some.ensures.lines)
      ∙ ap (λ (closed : Bool). run c.lines.number closed (lines c.lines.rest.now) c.lines.reader) (sym c.if-closed.false)
      ∙ c.lines.invariant.means;
  in_range = omega (arith, c.in-Some.ensures.shorter);
}
