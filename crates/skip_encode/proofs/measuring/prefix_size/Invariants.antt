use Rattle.std.proofs.Common.{◌≡◌, ◌+◌, ◌≤◌, length, take}
use Rattle.std.specs.Prelude.{sum_by}
use Rattle.skip_encode.proofs.measuring.prefix_size.Given as goal

abbrev pub invariant-loop-raw : goal.invariant-loop-raw
invariant-loop-raw l = record {
  counted : l.bytes ≡ 2 + sum_by (λ raw. 4 + length raw) (take l.raw-index l.attributes);
  small : l.bytes ≤ 33554432;
}
