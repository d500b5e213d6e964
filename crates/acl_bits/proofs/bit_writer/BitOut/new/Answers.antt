-- Forty zeros hold the empty string.
use Rattle.acl_bits.proofs.Windows.{HoldBits-none}
use Rattle.acl_bits.proofs.bit_writer.BitOut.new.Goals as goal

pub invariant_of-result : goal.invariant_of-result
invariant_of-result c = HoldBits-none
