use Rattle.merkle_chunks.proofs.CountLemmas.{level_count-powers}
use Rattle.merkle_chunks.proofs.laws.levels_have_powers_of_two.Goals as goal

pub returns : goal.returns
returns c = level_count-powers
