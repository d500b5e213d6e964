-- The flag is its bit in the words.
use Rattle.acl_bits.proofs.FlagLists.{has_flag, has_no_flag}
use Rattle.acl_bits.proofs.flags.Flags.has.Goals as goal

pub returns-then-n-self : goal.returns-then-n-self
returns-then-n-self c =
    has_flag c.self.inside.words.items c.self.inside.len c.args.self.now c.args.n c.index.result.now c.self.view_is c.self.invariant
    c.if-n-self.true c.index.ensures

pub returns-else-n-self : goal.returns-else-n-self
returns-else-n-self c =
    has_no_flag c.self.inside.words.items c.self.inside.len c.args.self.now c.args.n c.self.view_is c.if-n-self.false
