-- The reads of a store, split into openings of fragments by the reads alone. An *opening* is an attempt to open a
-- fragment, which may be incomplete or refused. Defined by this project.
use Rattle.std.specs.Prelude.{ℕ, ◌-◌, ◌/◌, nat_eq, if◌then◌else◌, List, [], ◌∷◌, ◌++◌, map, drop, fold}
use Rattle.acl_outside.specs.Outside.{StoreRead}

-- An opening of a fragment: the read of its bytes, and the reads that follow, of its siblings from level 0 up.
pub record Opening : Type 0 where
  pub leaf : StoreRead
  pub siblings : List StoreRead

-- the index of the fragment of an opening, from the byte offset that was read
abbrev pub index_of : Opening → ℕ
index_of opening = (opening.leaf.at - 64) / 256

-- a read as the first one of an opening
abbrev pub opening_at : StoreRead → Opening
opening_at read = record { leaf = read; siblings = [] }

-- an opening with one more read after its siblings
abbrev pub with_sibling : Opening → StoreRead → Opening
with_sibling opening read = record { leaf = opening.leaf; siblings = opening.siblings ++ (read ∷ []) }

-- openings, the newest first, with a read that begins none: it is a sibling's read of the newest opening
abbrev pub with_next : List Opening → StoreRead → List Opening
with_next [] read = []
with_next (newest ∷ before) read = with_sibling newest read ∷ before

-- openings, the newest first, with one more read: one that asked for 256 bytes begins an opening
abbrev pub with_read : List Opening → StoreRead → List Opening
with_read before read = if nat_eq read.asked 256 then opening_at read ∷ before else with_next before read

-- the openings of all reads, the newest first. The first two reads are those of the header and the top digest, whatever
-- they asked for.
unfoldable pub openings : List StoreRead → List Opening
openings reads = fold with_read [] (drop 2 reads)

-- the indexes of the fragments of the openings, the newest first
abbrev pub indexes : List StoreRead → List ℕ
indexes reads = map index_of (openings reads)
