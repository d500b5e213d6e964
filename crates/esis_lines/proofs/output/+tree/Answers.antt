use Rattle.acl_outside.proofs.Remaining.{loop}
use Rattle.esis_lines.proofs.Elements.{Writes-element, Writes-start, Writes-items}
use Rattle.esis_lines.proofs.output.+tree.Goals as goal

pub write_element-returns-in_err-write_attributes_and_start : goal.write_element-returns-in_err-write_attributes_and_start
write_element-returns-in_err-write_attributes_and_start g t c = record {
  written = Writes-start c.args.element.now c.from_residual.ensures.0 (rw (c.as_slice.ensures, c.as_slice-2.ensures) at c.in_err-write_attributes_and_start.ensures.written);
}

pub write_element-returns-in_err-write_items : goal.write_element-returns-in_err-write_items
write_element-returns-in_err-write_items g t c = record {
  written = Writes-items c.args.element.now c.from_residual-in_err-write_items.ensures.0
      (rw (c.as_slice.ensures, c.as_slice-2.ensures) at c.in_ok-write_attributes_and_start.ensures.written) (rw c.as_slice-3.ensures at c.in_err-write_items.ensures.written);
}

pub write_element-returns : goal.write_element-returns
write_element-returns g t c = record {
  written = Writes-element c.args.element.now
      (rw (c.as_slice.ensures, c.as_slice-2.ensures) at c.in_ok-write_attributes_and_start.ensures.written) (rw c.as_slice-3.ensures at c.in_ok-write_items.ensures.written)
      (rw c.as_slice-4.ensures at c.write_end.ensures.written);
}

pub write_items-returns-in_err-write_item : goal.write_items-returns-in_err-write_item
write_items-returns-in_err-write_item g t c = search loop
