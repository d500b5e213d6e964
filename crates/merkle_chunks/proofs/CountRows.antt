-- The table over 41 fragments, computed.
use Rattle.std.proofs.Common.{◌≡◌, [], ◌∷◌, refl}
use Rattle.merkle_chunks.specs.Table.{level_count, digest_count, top_level, each_level}

pub top_41 : top_level 41 ≡ 6
unfolding top_level
top_41 = refl

pub levels_41 : each_level 41 (level_count 41) ≡ 41 ∷ 21 ∷ 11 ∷ 6 ∷ 3 ∷ 2 ∷ 1 ∷ []
unfolding top_level
levels_41 = refl

pub digests_41 : digest_count 41 ≡ 85
unfolding top_level
digests_41 = refl
