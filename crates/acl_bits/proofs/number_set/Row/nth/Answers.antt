-- The search ends at the member with k members below it.
use Rattle.std.proofs.Common.{arith, sym}
use Rattle.acl_bits.proofs.Words.{count_by-none, count_by-all, slice_get-found}
use Rattle.acl_bits.proofs.number_set.Row.nth.Goals as goal

pub loop-high-init : goal.loop-high-init
loop-high-init c = record {
  order = omega arith;
  top = omega arith;
  before = omega (arith, count_by-none c.args.self.now c.count.ensures.whole);
  after = omega (arith, count_by-all c.args.self.now c.count.ensures.whole);
}

pub returns-clause-value : goal.returns-clause-value
returns-clause-value c = sym (slice_get-found c.args.self.now c.args.k c.loop-high.low c.loop-high.high c.count.ensures.whole c.loop-high.invariant.order (omega arith) c.loop-high.invariant.top c.loop-high.invariant.before c.loop-high.invariant.after)
