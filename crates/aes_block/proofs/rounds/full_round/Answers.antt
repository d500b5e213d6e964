use Rattle.std.proofs.Common.{◌++◌}
use Rattle.aes_block.specs.Aes.{mix_columns, shift_rows}
use Rattle.aes_block.proofs.rounds.full_round.Goals as goal

pub returns : goal.returns
unfolding mix_columns shift_rows
returns c = λ i. c.mixed.ensures i ++ (c.mixed-2.ensures i ++ (c.mixed-3.ensures i ++ c.mixed-4.ensures i))
