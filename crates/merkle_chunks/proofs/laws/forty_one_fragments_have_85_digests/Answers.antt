use Rattle.merkle_chunks.proofs.CountRows.{levels_41, digests_41}
use Rattle.merkle_chunks.proofs.laws.forty_one_fragments_have_85_digests.Goals as goal

pub returns : goal.returns
returns c = record { levels = levels_41; digests = digests_41 }
