-- The length of the list is the stored length.
use Rattle.std.proofs.Common.{sym}
use Rattle.acl_bits.proofs.FlagLists.{length-flags}
use Rattle.acl_bits.proofs.flags.Flags.len.Goals as goal

pub returns : goal.returns
returns c = sym (length-flags c.self.inside.words.items c.self.inside.len c.args.self.now c.self.view_is)
