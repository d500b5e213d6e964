-- An item that is a child has as many lines as its element.
use Rattle.std.proofs.Common.{ap, arith}
use Rattle.sample_maker.specs.inside.Counts.{line_count, item_line_count}
use Rattle.sample_maker.proofs.CountEquations.{item_line_count-Child, total_item}
use Rattle.sample_maker.proofs.counts.+lines.Goals as goal

pub lines_in_item-lines_in-requires : goal.lines_in_item-lines_in-requires
lines_in_item-lines_in-requires t c = (
  omega (arith, ap line_count c.get.ensures, item_line_count-Child c.in-Child.element, ap item_line_count c.in-Child.is),
  omega (arith, ap line_count c.get.ensures, item_line_count-Child c.in-Child.element, ap item_line_count c.in-Child.is, c.requires),
)

pub lines_in-lines_in_item-count-requires : goal.lines_in-lines_in_item-count-requires
lines_in-lines_in_item-count-requires t c =
    let within = total_item item_line_count c.as_slice-item-items.result.now c.loop-item.item-index c.item-item.result c.loop-item-test.true c.item-item.is in
    (omega (arith, within, c.loop-item.invariant.0, c.loop-item.invariant.1), omega (arith, within, c.loop-item.invariant.0, c.requires))
