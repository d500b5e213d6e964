use Rattle.std.proofs.Common.{◌++◌}
use Rattle.aes_block.specs.Aes.{shift_rows}
use Rattle.aes_block.proofs.rounds.last_round.Goals as goal

pub returns : goal.returns
unfolding shift_rows
returns c = λ i. c.substituted.ensures i ++ (c.substituted-2.ensures i ++ (c.substituted-3.ensures i ++ c.substituted-4.ensures i))
