-- One bit of one word is written.
use Rattle.std.proofs.Common.{arith}
use Rattle.acl_bits.proofs.FlagLists.{length-flags, HoldFlags-put, flags_of-put}
use Rattle.acl_bits.proofs.flags.Flags.put.Goals as goal

pub index_mut-requires : goal.index_mut-requires
index_mut-requires c =
    let long = length-flags c.self.inside.words.items c.self.inside.len c.args.self.now c.self.view_is in
    omega (arith, long, c.self.invariant.exact)

pub invariant_of-self : goal.invariant_of-self
invariant_of-self c =
    let long = length-flags c.self.inside.words.items c.self.inside.len c.args.self.now c.self.view_is in
    HoldFlags-put c.self.inside.words.items c.self.inside.len c.args.n c.index_mut.result.now c.self.invariant (omega (arith, long))
    c.index_mut.ensures.value

pub returns : goal.returns
returns c =
    flags_of-put c.self.inside.words.items c.self.inside.len c.args.self.now c.args.n c.index_mut.result.now c.self.view_is
    c.self.invariant c.requires c.index_mut.ensures.value
