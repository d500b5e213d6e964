use Rattle.merkle_chunks.proofs.CountLemmas.{top_level-is, one_top_level, top_level-low}
use Rattle.merkle_chunks.proofs.laws.the_top_has_the_first_single_digest.Goals as goal

pub returns : goal.returns
returns c = record { first = top_level-is; one = one_top_level; low = top_level-low }
