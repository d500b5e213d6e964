-- At most k members are below `low`, and more than k below `high`.
use Rattle.std.proofs.Common.{◌-◌, ◌<◌, ◌≤◌, nat_lt, count_by}
use Rattle.acl_bits.proofs.number_set.Row.nth.Given as goal

abbrev pub invariant-loop-high : goal.invariant-loop-high
invariant-loop-high l = record {
  order : l.low < l.high;
  top : l.high ≤ 256;
  before : count_by (λ m. nat_lt m l.low) l.self ≤ l.k;
  after : l.k < count_by (λ m. nat_lt m l.high) l.self;
}

abbrev pub decreases-loop-high : goal.decreases-loop-high
decreases-loop-high l = l.high - l.low
