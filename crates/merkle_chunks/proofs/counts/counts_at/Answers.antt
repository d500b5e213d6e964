use Rattle.std.proofs.Common.{arith}
use Rattle.merkle_chunks.proofs.CountLemmas.{counts-le}
use Rattle.merkle_chunks.proofs.counts.counts_at.Goals as goal

pub overflow_add-below : goal.overflow_add-below
overflow_add-below c = omega (arith, counts-le c.args.fragments c.up._level)

pub returns-clause-bound : goal.returns-clause-bound
returns-clause-bound c =
    omega (arith, counts-le c.args.fragments c.up._level)
