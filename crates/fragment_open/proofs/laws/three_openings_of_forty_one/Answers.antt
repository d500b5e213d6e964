use Rattle.std.proofs.Common.{refl}
use Rattle.merkle_chunks.specs.Table.{top_level}
use Rattle.fragment_open.proofs.laws.three_openings_of_forty_one.Goals as goal

pub returns : goal.returns
unfolding top_level
returns c = refl
