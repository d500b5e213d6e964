use Rattle.std.proofs.Common.{◌+◌, ap, ◌∙◌, arith}
use Rattle.skip_encode.proofs.Tallying.{with_element-leaf, with_element-inner}
use Rattle.skip_encode.proofs.tally.Tally.add_element.Goals as goal
use Rattle.skip_encode.proofs.tally.Tally.add_element.Goals.{then-count-eq0, else-count-eq0}

-- The element is counted as a leaf or an inner element.
pub returns-clause-added : goal.returns-clause-added
returns-clause-added c = elim c.if-count-eq0.branch [
  | then-count-eq0 w ↦ with_element-leaf c.args.element.now c.args.self.now c.if-count-eq0.self c.in_ok-self.field-0 c.put.new.self c.join.new.self
      (omega (arith, c.count.ensures.number, w.if-count-eq0.true)) (c.in_ok-self.ensures.sum ∙ ap (λ n. c.args.self.now.plain + n) c.from.ensures) w.self-is c.put.ensures c.join.ensures
  | else-count-eq0 w ↦ with_element-inner c.args.element.now c.args.self.now c.if-count-eq0.self c.in_ok-self.field-0 c.put.new.self c.join.new.self
      (omega (arith, c.count.ensures.number, w.if-count-eq0.false)) (c.in_ok-self.ensures.sum ∙ ap (λ n. c.args.self.now.plain + n) c.from.ensures) w.self-is c.put.ensures c.join.ensures
]
