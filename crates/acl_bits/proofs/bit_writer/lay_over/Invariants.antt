-- The bytes from `first` up to i are combined with the window, and the others are unchanged.
use Rattle.acl_bits.proofs.Windows.{LaysUpTo}
use Rattle.acl_bits.proofs.bit_writer.lay_over.Given as goal

abbrev pub invariant-loop-i : goal.invariant-loop-i
invariant-loop-i l = LaysUpTo l.fn.bytes l.bytes l.first l.window l.i
