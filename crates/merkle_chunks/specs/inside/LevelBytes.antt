-- Equivalent forms of the levels that the proofs use: cut from the bytes of a table, or computed one from the other.
-- The law `tables_are_cut_into_their_levels` says that they are the levels of the table. Defined by this project.
use Rattle.std.specs.Prelude.{ℕ, zero, suc, ◌/◌, List, [], ◌∷◌, length, map, take, drop}
use Rattle.std.specs.Simd.{first_chunks}
use Rattle.merkle_chunks.specs.Layout.{digest_len}
use Rattle.merkle_chunks.specs.Strings.{node_strings}
use Rattle.merkle_chunks.specs.Table.{level_count, count_below, each_level}

-- how many digests of 32 bytes the bytes are cut into
abbrev pub width : List ℕ → ℕ
width bytes = length bytes / digest_len

-- these digests
abbrev pub digests_in : List ℕ → List (List ℕ)
digests_in bytes = first_chunks digest_len (width bytes) bytes

-- the levels over n fragments that bytes are cut into: the digests of a level follow those of the levels below it
unfoldable pub levels_in : ℕ → List ℕ → List (List (List ℕ))
levels_in n bytes = each_level n (λ level. take (level_count n level) (drop (count_below n level) (digests_in bytes)))

module _ (hash : List ℕ → List ℕ) where
  -- the next level above a level of digests: the digests of its node strings
  abbrev pub parents : List (List ℕ) → List (List ℕ)
  parents digests = map hash (node_strings digests)

  -- the level that is so many levels above a level of digests
  unfoldable pub level_above : ℕ → List (List ℕ) → List (List ℕ)
  level_above zero digests = digests
  level_above (suc more) digests = level_above more (parents digests)

  -- so many levels over a level of digests
  unfoldable pub levels_above : ℕ → List (List ℕ) → List (List (List ℕ))
  levels_above zero digests = []
  levels_above (suc more) digests = parents digests ∷ levels_above more (parents digests)
