-- An item that is a child has as many elements as its element.
use Rattle.std.proofs.Common.{ap, arith}
use Rattle.sample_maker.specs.inside.Counts.{element_count, item_element_count}
use Rattle.sample_maker.proofs.CountEquations.{item_element_count-Child, total_item}
use Rattle.sample_maker.proofs.counts.+elements.Goals as goal

pub elements_in_item-elements_in-requires : goal.elements_in_item-elements_in-requires
elements_in_item-elements_in-requires t c = (
  omega (arith, ap element_count c.get.ensures, item_element_count-Child c.in-Child.element, ap item_element_count c.in-Child.is),
  omega (arith, ap element_count c.get.ensures, item_element_count-Child c.in-Child.element, ap item_element_count c.in-Child.is, c.requires),
)

pub elements_in-elements_in_item-count-requires : goal.elements_in-elements_in_item-count-requires
elements_in-elements_in_item-count-requires t c =
    let within = total_item item_element_count c.as_slice-item-items.result.now c.loop-item.item-index c.item-item.result c.loop-item-test.true c.item-item.is in
    (omega (arith, within, c.loop-item.invariant.0, c.loop-item.invariant.1), omega (arith, within, c.loop-item.invariant.0, c.requires))
