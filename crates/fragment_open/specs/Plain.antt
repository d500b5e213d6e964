-- The plain bytes of the openings in reads. Defined by this project.
use Rattle.std.specs.Prelude.{ℕ, Option, Some, None, List, [], ◌∷◌, ◌++◌}
use Rattle.acl_outside.specs.Outside.{StoreRead}
use Rattle.position_cipher.specs.Fragments.{unlocked_fragment}
use Rattle.fragment_open.specs.Openings.{Opening, index_of, openings}

-- the plain bytes of an opening: its enciphered bytes, deciphered at the index of its fragment
abbrev pub plain_of : List ℕ → Opening → List ℕ
plain_of key opening = unlocked_fragment key (index_of opening) opening.leaf.bytes

-- the plain bytes of the newest opening, where there is one
abbrev pub newest_plain : List ℕ → List Opening → Option (List ℕ)
newest_plain key [] = None
newest_plain key (newest ∷ before) = Some (plain_of key newest)

-- the plain bytes of openings, one after another from the oldest on; the list has the newest opening first
abbrev pub plain_in : List ℕ → List Opening → List ℕ
plain_in key [] = []
plain_in key (newest ∷ before) = plain_in key before ++ plain_of key newest

-- the plain bytes of the openings in reads, from the oldest on: the enciphered bytes of each, deciphered under a key at
-- the index of its fragment
unfoldable pub plain_served : List ℕ → List StoreRead → List ℕ
plain_served key reads = plain_in key (openings reads)
