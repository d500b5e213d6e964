use Rattle.std.proofs.Common.{◌++◌}
use Rattle.aes_block.specs.Aes.{inverse_mix_columns, inverse_shift_rows}
use Rattle.aes_block.proofs.rounds.inverse_full_round.Goals as goal

pub returns : goal.returns
unfolding inverse_mix_columns inverse_shift_rows
returns c = λ i. c.inverse_mixed.ensures i ++ (c.inverse_mixed-2.ensures i ++ (c.inverse_mixed-3.ensures i ++ c.inverse_mixed-4.ensures i))
