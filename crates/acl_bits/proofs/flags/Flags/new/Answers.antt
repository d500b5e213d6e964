-- The empty list of words holds the empty list of flags.
use Rattle.acl_bits.proofs.FlagLists.{HoldFlags-none}
use Rattle.acl_bits.proofs.flags.Flags.new.Goals as goal

pub invariant_of-result : goal.invariant_of-result
invariant_of-result c = HoldFlags-none c.new.result.items c.new.ensures.items
