-- What the notes of a recorder mean. Defined by this project.
use Rattle.std.specs.Prelude.{ℕ, ◌+◌, ◌≤◌, List, [], ◌∷◌, take, drop, map}
use Rattle.acl_outside.specs.Outside.{StoreRead}
use Rattle.acl_outside.specs.declared.served.Served.{Served}

-- the read that a note describes: it gave `count` of the bytes of all noted reads, from index `from` on
abbrev pub read_of : List ℕ → Served → StoreRead
read_of bytes note =
    record { at = note.at; asked = note.asked; bytes = take note.count (drop note.from bytes) }

-- the reads that notes describe, given the bytes of all of them
abbrev pub reads_of : List Served → List ℕ → List StoreRead
reads_of notes bytes = map (read_of bytes) notes

-- the bytes of each note are within the first `count` bytes
abbrev pub AreWithin : List Served → ℕ → Type 0
AreWithin [] count = Unit {0}
AreWithin (note ∷ notes) count = (note.from + note.count ≤ count) × AreWithin notes count
