use Rattle.std.proofs.Common.{arith}
use Rattle.skip_encode.proofs.Members.{length-whole}
use Rattle.skip_encode.proofs.tally.Tally.length.Goals as goal

-- A set has at most 256 members.
pub length_within-long-requires-clause-members : goal.length_within-long-requires-clause-members
length_within-long-requires-clause-members c =
    let few = length-whole c.args.self.now.members c.count.ensures.whole in
    omega (arith, few, c.count.ensures.number)
