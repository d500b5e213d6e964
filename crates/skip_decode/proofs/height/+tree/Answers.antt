use Rattle.std.proofs.Common.{◌-◌, sym, ◌∙◌, arith}
use Rattle.skip_decode.proofs.ItemLevels.{element-levels, levels-found, levels-none}
use Rattle.skip_decode.proofs.height.+tree.Goals as goal

pub has_levels-returns-then-item_has_levels : goal.has_levels-returns-then-item_has_levels
has_levels-returns-then-item_has_levels t c =
    let within = rw c.as_slice-item-items.ensures at c.loop-item-test.true in
    let is = rw c.as_slice-item-items.ensures at c.item-item.is in
    sym (levels-found c.args.element.now.items c.loop-item.item-index (c.args.levels - 1) c.item-item.result within is
    (sym c.item_has_levels.ensures ∙ c.if-item_has_levels.true))
    ∙ c.loop-item.invariant
    ∙ element-levels c.args.element.now c.args.levels (omega (arith, c.if-levels-le1.false))

-- All items were passed.
pub has_levels-returns : goal.has_levels-returns
has_levels-returns t c =
    let past = rw c.as_slice-item-items.ensures at c.loop-item-test.false in
    sym (levels-none c.args.element.now.items c.loop-item.item-index (c.args.levels - 1) past
    (omega (arith, c.if-levels-le1.false)))
    ∙ c.loop-item.invariant
    ∙ element-levels c.args.element.now c.args.levels (omega (arith, c.if-levels-le1.false))
