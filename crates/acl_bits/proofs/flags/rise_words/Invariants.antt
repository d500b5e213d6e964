-- The words before i are updated, and the carry is the child's flag before word i.
use Rattle.acl_bits.proofs.FlagWords.{RisenUpTo}
use Rattle.acl_bits.proofs.flags.rise_words.Given as goal

abbrev pub invariant-loop-i : goal.invariant-loop-i
invariant-loop-i l = RisenUpTo l.fn.own l.own l.tests l.deep l.below l.i l.carry
