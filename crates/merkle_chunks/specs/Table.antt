-- The table of digests over a file's fragments (a Merkle tree), level by level. Defined by this project, after the
-- integrity checks of VLDB 2004. The hash is any function on byte strings here; that of a file is SHA-256.
use Rattle.std.specs.Prelude.{◌≡◌, ℕ, zero, suc, ◌+◌, ◌*◌, ◌/◌, ◌<◌, ◌≤◌, nat_le, if◌then◌else◌, Option, List, [], ◌∷◌, ◌++◌, length, map, slice_index_or}
use Rattle.std.specs.List.{concat, flat_map, range_with_len, slice_get}
use Rattle.std.specs.Option.{option_and_then}
use Rattle.std.specs.Simd.{first_chunks}
use Rattle.merkle_chunks.specs.Layout.{header_len, digest_len, fragment_len}
use Rattle.merkle_chunks.specs.Strings.{StringName, spot, root, root_string, leaf_strings, node_strings}

-- ---- how many digests

-- the number of digests on a level over n fragments: n on level 0, and on each level above it half of those on the
-- level below, rounded up
abbrev pub level_count : ℕ → ℕ → ℕ
level_count n zero = n
level_count n (suc level) = (level_count n level + 1) / 2

-- the number of digests on the levels below a level
abbrev pub count_below : ℕ → ℕ → ℕ
count_below n zero = 0
count_below n (suc level) = count_below n level + level_count n level

-- how often `count` is halved, rounded up, until it is at most one; at most `most` times
abbrev pub halvings : ℕ → ℕ → ℕ
halvings zero count = 0
halvings (suc most) count = if nat_le count 1 then 0 else suc (halvings most ((count + 1) / 2))

-- the top level over n fragments: the first one with a single digest
unfoldable pub top_level : ℕ → ℕ
top_level n = halvings n n

-- `level` is the lowest level over n fragments with a single digest.
pub record IsTopLevel (n level : ℕ) : Type 0 where
  pub single : level_count n level ≡ 1
  pub first : (lower : ℕ) → lower < level → 1 < level_count n lower

-- the number of digests of the whole table over n fragments
abbrev pub digest_count : ℕ → ℕ
digest_count n = count_below n (suc (top_level n))

-- The table over n fragments has a node at a level and an index.
pub record IsNode (n level index : ℕ) : Type 0 where
  pub on_level : level ≤ top_level n
  pub within : index < level_count n level

-- the byte offset in a file of the node at a level and an index: after the header, the fragments, the levels below it,
-- and the digests before it on its own level
abbrev pub node_place : ℕ → ℕ → ℕ → ℕ
node_place n level index =
    header_len + fragment_len * n + digest_len * (count_below n level + index)

-- ---- levels of digests

-- the fragments of 256 bytes that bytes are cut into
abbrev pub fragments : List ℕ → List (List ℕ)
fragments bytes = first_chunks fragment_len (length bytes / fragment_len) bytes

-- the values of a function on each level, from level 0 to the top one over n fragments
abbrev pub each_level : {A : Type 0} → ℕ → (ℕ → A) → List A
each_level n f = map f (range_with_len 0 (top_level n + 1))

-- the bytes of levels of digests: each level in order, level 0 first
abbrev pub table_bytes : List (List (List ℕ)) → List ℕ
table_bytes levels = flat_map concat levels

-- the digest at a level and an index, where there is one
abbrev pub node_of : List (List (List ℕ)) → ℕ → ℕ → Option (List ℕ)
node_of levels level index = option_and_then (λ digests. slice_get digests index) (slice_get levels level)

-- the strings of a level, the first of which has the index i, each with its name
abbrev pub named_strings : ℕ → ℕ → List (List ℕ) → List (StringName × List ℕ)
named_strings level i [] = []
named_strings level i (string ∷ strings) = (spot level i, string) ∷ named_strings level (i + 1) strings

module _ (hash : List ℕ → List ℕ) where
  -- the strings of a level over fragments: leaf strings on level 0, and on each level above the node strings over the
  -- digests of the strings below it
  unfoldable pub strings_at : List (List ℕ) → ℕ → List (List ℕ)
  strings_at fragments zero = leaf_strings 0 fragments
  strings_at fragments (suc level) = node_strings (map hash (strings_at fragments level))

  -- the digests of a level
  abbrev pub digests_at : List (List ℕ) → ℕ → List (List ℕ)
  digests_at fragments level = map hash (strings_at fragments level)

  -- the levels of a table, from level 0 to the top one
  unfoldable pub table_levels : List (List ℕ) → List (List (List ℕ))
  table_levels fragments = each_level (length fragments) (digests_at fragments)

  -- the top digest: the only one of the top level
  unfoldable pub top_digest : List (List ℕ) → List ℕ
  top_digest fragments = slice_index_or (digests_at fragments (top_level (length fragments))) 0 []

  -- all strings that are hashed for a header and fragments, each with its name: the root string, and those of each
  -- level
  unfoldable pub all_strings : List ℕ → List (List ℕ) → List (StringName × List ℕ)
  all_strings header fragments =
      (root, root_string header (top_digest fragments))
      ∷ flat_map (λ level. named_strings level 0 (strings_at fragments level)) (range_with_len 0 (top_level (length fragments) + 1))

  -- the root: the digest of the root string
  unfoldable pub root_digest : List ℕ → List (List ℕ) → List ℕ
  root_digest header fragments = hash (root_string header (top_digest fragments))

  -- the bytes of a file: the header, the fragments and the table
  unfoldable pub file_bytes : List ℕ → List (List ℕ) → List ℕ
  file_bytes header fragments = header ++ (concat fragments ++ table_bytes (table_levels fragments))
