use Rattle.std.proofs.Common.{ap}
use Rattle.acl_model.specs.Ascii.{capital_a}
use Rattle.acl_model.specs.Text.{line}
use Rattle.acl_outside.proofs.Remaining.{Writes-cut_part}
use Rattle.line_writer.proofs.document_lines.write_attributes.Goals as goal

pub returns-in_err-write_attribute : goal.returns-in_err-write_attribute
returns-in_err-write_attribute g c = record {
  written = Writes-cut_part (line capital_a) _ _ _ c.from_residual.ensures.0 c.loop-attribute.invariant
      c.write_attribute.ensures.written c.branch-write_attribute.ensures c.in_err-write_attribute.is
      c.loop-attribute-test.true c.attribute-item.is (ap (line capital_a) c.as_slice.ensures);
}
