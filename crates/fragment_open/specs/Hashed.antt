-- Which strings were hashed for a list of reads, and which digest is wanted. An opening *folds to* a digest: its bytes
-- are hashed with the digests of its siblings, level by level, up to its goal. The hash is any function on byte strings
-- here; that of a file is SHA-256. Defined by this project.
use Rattle.std.specs.Prelude.{ℕ, zero, suc, ◌%◌, Bool, false, ◌&&◌, ◌||◌, nat_eq, if◌then◌else◌, is_some, is_none, Option, Some, None, option_map, option_and_then, option_to_list, List, [], ◌∷◌, ◌++◌, map}
use Rattle.std.specs.List.{slice_get}
use Rattle.acl_outside.specs.Outside.{StoreRead}
use Rattle.merkle_chunks.specs.Strings.{StringName, absent_child, leaf_string, node_string, root, spot}
use Rattle.fragment_open.specs.Openings.{Opening, index_of, openings}
use Rattle.fragment_open.specs.Asks.{goal_level, has_sibling, index_at, siblings_below, to_chunk}
use Rattle.fragment_open.specs.Served.{fragments_served, root_served, top_served, whole}

-- The sibling's digest at a level on the path of an opening over n fragments. It is 32 zeros where the table doesn't
-- have the sibling. Elsewhere it is the bytes of the opening's read of it, where that gave 32.
abbrev pub sibling_digest : ℕ → Opening → ℕ → Option (List ℕ)
sibling_digest n opening level =
    if has_sibling n (index_of opening) level
    then option_and_then (whole 32) (slice_get opening.siblings (siblings_below n (index_of opening) level))
    else Some absent_child

-- the node string of the parent of a digest and its sibling; an even index is the left child
abbrev pub parent_string : ℕ → List ℕ → List ℕ → List ℕ
parent_string index digest sibling = if nat_eq (index % 2) 0 then node_string digest sibling else node_string sibling digest

module _ (hash : List ℕ → List ℕ) where
  -- The string that an opening over n fragments hashes on a level, where the reads for it are whole. On level 0 it is
  -- the leaf string of the fragment's bytes, and on each level above the node string of the digest below and its
  -- sibling's.
  unfoldable pub string_at : ℕ → Opening → ℕ → Option (List ℕ)
  string_at n opening zero = option_map (leaf_string (index_of opening)) (whole 256 opening.leaf)
  string_at n opening (suc level) =
      option_and_then
      (λ string. option_map (parent_string (index_at (index_of opening) level) (hash string)) (sibling_digest n opening level))
      (string_at n opening level)

  -- the digest on a level
  abbrev pub digest_at : ℕ → Opening → ℕ → Option (List ℕ)
  digest_at n opening level = option_map hash (string_at n opening level)

  -- the goal of an opening, given the openings before it
  abbrev pub goal_after : ℕ → Opening → List Opening → ℕ
  goal_after n opening before = goal_level n (index_of opening) (map index_of before)

  -- ---- all strings that were hashed

  -- the string on a level with its name, where there is one
  abbrev pub named_at : ℕ → Opening → ℕ → List (StringName × List ℕ)
  named_at n opening level = option_to_list (option_map (λ string. (spot level (index_at (index_of opening) level), string)) (string_at n opening level))

  -- the named strings up to a level
  abbrev pub named_up_to : ℕ → Opening → ℕ → List (StringName × List ℕ)
  named_up_to n opening zero = named_at n opening zero
  named_up_to n opening (suc level) = named_up_to n opening level ++ named_at n opening (suc level)

  -- whether an opening has the bytes of its fragment, but lacks a whole read of a sibling up to its goal
  abbrev pub lacks_sibling : ℕ → Opening → List Opening → Bool
  lacks_sibling n opening before = is_some (string_at n opening 0) && is_none (string_at n opening (goal_after n opening before))

  -- whether one of the openings lacks a sibling; the newest is first
  abbrev pub is_stopped : ℕ → List Opening → Bool
  is_stopped n [] = false
  is_stopped n (opening ∷ before) = is_stopped n before || lacks_sibling n opening before

  -- the named strings of openings, the oldest first, up to the first opening that lacks a sibling
  unfoldable pub hashed_in : ℕ → List Opening → List (StringName × List ℕ)
  hashed_in n [] = []
  hashed_in n (opening ∷ before) =
      if is_stopped n before then hashed_in n before
      else hashed_in n before ++ named_up_to n opening (goal_after n opening before)

  -- the named strings that were hashed, according to the reads: the root string, and those of the openings
  unfoldable pub hashed : List StoreRead → List (StringName × List ℕ)
  hashed reads = option_to_list (option_map (λ string. (root, string)) (root_served reads)) ++ hashed_in (fragments_served reads) (openings reads)

  -- ---- what the newest opening folds to, and the wanted digest

  -- what the newest opening folds to: its digest at its goal
  abbrev pub folded_in : ℕ → List Opening → Option (List ℕ)
  folded_in n [] = None
  folded_in n (opening ∷ before) = digest_at n opening (goal_after n opening before)

  -- the chunk digest that the newest opening gives: that of its string on level 4
  abbrev pub chunk_digest : ℕ → List Opening → Option (List ℕ)
  chunk_digest n [] = None
  chunk_digest n (opening ∷ before) = digest_at n opening 4

  -- the digest that the newest opening must have at its goal. Where it goes up only to its chunk, this is the chunk
  -- digest of the opening just before, and elsewhere the top digest.
  abbrev pub wanted_in : ℕ → Option (List ℕ) → List Opening → Option (List ℕ)
  wanted_in n top [] = None
  wanted_in n top (opening ∷ before) = if to_chunk n (index_of opening) (map index_of before) then chunk_digest n before else top

  -- what the newest opening of reads folds to
  unfoldable pub folded : List StoreRead → Option (List ℕ)
  folded reads = folded_in (fragments_served reads) (openings reads)

  -- the digest that it must fold to
  unfoldable pub wanted : List StoreRead → Option (List ℕ)
  wanted reads = wanted_in (fragments_served reads) (top_served reads) (openings reads)
