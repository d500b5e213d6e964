use Rattle.std.proofs.Common.{◌++◌}
use Rattle.aes_block.specs.Aes.{inverse_shift_rows}
use Rattle.aes_block.proofs.rounds.inverse_last_round.Goals as goal

pub returns : goal.returns
unfolding inverse_shift_rows
returns c = λ i. c.inverse_substituted.ensures i ++ (c.inverse_substituted-2.ensures i ++ (c.inverse_substituted-3.ensures i ++ c.inverse_substituted-4.ensures i))
