-- All bits that are left are zero exactly where all are.
use Rattle.std.proofs.Common.{◌≡◌, nat_eq, length}
use Rattle.acl_bits.specs.FilledBits.{number_of}
use Rattle.skip_decode.proofs.head_read.are_zero.Given as goal

abbrev pub invariant-loop-bit : goal.invariant-loop-bit
invariant-loop-bit l = nat_eq (number_of l.bits) 0 ≡ nat_eq (number_of l.fn.bits) 0

abbrev pub decreases-loop-bit : goal.decreases-loop-bit
decreases-loop-bit l = length l.bits
