-- The window so far has the bits of the bytes read so far.
use Rattle.acl_bits.proofs.Windows.{IsWindowTo}
use Rattle.acl_bits.proofs.bit_reader.window_of.Given as goal

abbrev pub invariant-loop-i : goal.invariant-loop-i
invariant-loop-i l = IsWindowTo l.window l.bytes l.i
