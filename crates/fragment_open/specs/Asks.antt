-- What a reader asks a store for: the byte offset and the number of bytes of each read. Defined by this project.
use Rattle.std.specs.Prelude.{ℕ, zero, suc, ◌+◌, ◌-◌, ◌*◌, ◌/◌, ◌%◌, Bool, false, ◌&&◌, nat_eq, nat_lt, if◌then◌else◌, List, [], ◌∷◌, ◌++◌}
use Rattle.acl_outside.specs.Outside.{StoreRead}
use Rattle.merkle_chunks.specs.Table.{level_count, node_place, top_level}

-- ---- the path from a fragment to the top (its Merkle path)

-- the index, on a level, of the node over a fragment: the fragment's index is halved once for each level, rounded down
abbrev pub index_at : ℕ → ℕ → ℕ
index_at index zero = index
index_at index (suc level) = index_at index level / 2

-- the index of the other child of the same parent
abbrev pub sibling_of : ℕ → ℕ
sibling_of index = if nat_eq (index % 2) 0 then index + 1 else index - 1

-- whether a table over n fragments has the sibling at a level on the path from a fragment to the top
abbrev pub has_sibling : ℕ → ℕ → ℕ → Bool
has_sibling n index level = nat_lt (sibling_of (index_at index level)) (level_count n level)

-- how many siblings on that path the table has below a level
abbrev pub siblings_below : ℕ → ℕ → ℕ → ℕ
siblings_below n index zero = 0
siblings_below n index (suc level) = siblings_below n index level + (if has_sibling n index level then 1 else 0)

-- whether a fragment is in the same chunk of 16 fragments as that of the opening just before; false where there is
-- none. The newest index is first.
abbrev pub same_chunk : ℕ → List ℕ → Bool
same_chunk index [] = false
same_chunk index (before ∷ others) = nat_eq (index / 16) (before / 16)

-- whether an opening goes up only to the digest of its chunk: there are levels above the chunk's, and the opening just
-- before is in the same chunk
abbrev pub to_chunk : ℕ → ℕ → List ℕ → Bool
to_chunk n index before = nat_lt 4 (top_level n) && same_chunk index before

-- The goal of an opening is the level up to which it is hashed: level 4 where it goes up only to its chunk, and the top
-- level elsewhere. The indexes are those of the openings before it.
abbrev pub goal_level : ℕ → ℕ → List ℕ → ℕ
goal_level n index before = if to_chunk n index before then 4 else top_level n

-- ---- the reads of an opener

-- what a read asked for: its byte offset and a number of bytes
abbrev pub ask_of : StoreRead → ℕ × ℕ
ask_of read = (read.at, read.asked)

-- the ask for the header
abbrev pub header_ask : ℕ × ℕ
header_ask = (0, 64)

-- the ask for the top digest over n fragments
abbrev pub top_ask : ℕ → ℕ × ℕ
top_ask n = (node_place n (top_level n) 0, 32)

-- the ask for the bytes of a fragment
abbrev pub leaf_ask : ℕ → ℕ × ℕ
leaf_ask index = (64 + 256 * index, 256)

-- the ask for the sibling at a level, where the table has it, and none elsewhere
abbrev pub sibling_ask : ℕ → ℕ → ℕ → List (ℕ × ℕ)
sibling_ask n index level = if has_sibling n index level then ((node_place n level (sibling_of (index_at index level)), 32) ∷ []) else []

-- the asks for the siblings below a level, from level 0 up
abbrev pub sibling_asks : ℕ → ℕ → ℕ → List (ℕ × ℕ)
sibling_asks n index zero = []
sibling_asks n index (suc level) = sibling_asks n index level ++ sibling_ask n index level

-- the asks of openings, one after another: for each fragment its bytes, and then its siblings up to its goal. The
-- newest index is first.
abbrev pub opening_asks : ℕ → List ℕ → List (ℕ × ℕ)
opening_asks n [] = []
opening_asks n (index ∷ before) = opening_asks n before ++ (leaf_ask index ∷ sibling_asks n index (goal_level n index before))
