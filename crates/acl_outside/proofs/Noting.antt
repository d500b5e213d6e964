-- What one more note adds to the reads that notes describe.
use Rattle.std.proofs.Common.{◌≡◌, ℕ, ◌+◌, ◌≤◌, List, [], ◌∷◌, ◌++◌, length, take, drop, map, ap, ◌∙◌, append-nil, length-drop, arith}
use Rattle.std.proofs.Math.Seq.{drop-append_seam}
use Rattle.std.proofs.lemmas.List.{drop-append-le, take-append-le, map-append, take_all}
use Rattle.std.proofs.lemmas.List.Folds.{concat-append}
use Rattle.std.specs.List.{concat}
use Rattle.acl_outside.specs.Fakes.{bytes_of}
use Rattle.acl_outside.specs.Noted.{read_of, reads_of, AreWithin}
use Rattle.acl_outside.specs.Outside.{StoreRead}
use Rattle.acl_outside.specs.declared.served.Served.{Served}

-- a note's bytes stay where they are when more bytes are appended
take-within : (from count : ℕ) (bytes more : List ℕ) → from + count ≤ length bytes
    → take count (drop from (bytes ++ more)) ≡ take count (drop from bytes)
take-within from count bytes more within =
    let short : count ≤ length (drop from bytes) = omega (arith, length-drop from bytes) in
    ap (take count) (drop-append-le from bytes more (omega arith)) ∙ take-append-le count (drop from bytes) more short

-- so a note describes the same read
read_of-within : (note : Served) (bytes more : List ℕ) → note.from + note.count ≤ length bytes
    → read_of (bytes ++ more) note ≡ read_of bytes note
read_of-within note bytes more within =
    ap (λ (part : List ℕ). let read : StoreRead = record { at = note.at; asked = note.asked; bytes = part } in read)
    (take-within note.from note.count bytes more within)

-- the read that the note of the appended bytes describes
read_of-last : (note : Served) (bytes more : List ℕ) → note.from ≡ length bytes → note.count ≡ length more
    → read_of (bytes ++ more) note ≡ record { at = note.at; asked = note.asked; bytes = more }
read_of-last note bytes more start count =
    rw (start, count, drop-append_seam bytes more, take_all (length more) more (omega arith))

-- one more note, of the appended bytes, describes one more read
pub reads_of-more : (notes : List Served) (bytes more : List ℕ) (note : Served) → AreWithin notes (length bytes)
    → note.from ≡ length bytes → note.count ≡ length more
    → reads_of (notes ++ (note ∷ [])) (bytes ++ more) ≡ reads_of notes bytes ++ (record { at = note.at; asked = note.asked; bytes = more } ∷ [])
reads_of-more [] bytes more note within start count =
    ap (λ (read : StoreRead). read ∷ []) (read_of-last note bytes more start count)
reads_of-more (first ∷ notes) bytes more note within start count =
    rw (read_of-within first bytes more within.0, reads_of-more notes bytes more note within.1 start count)

-- the bytes of the notes are within more bytes, and so are those of one more note
pub AreWithin-more : (notes : List Served) (note : Served) (less most : ℕ) → AreWithin notes less → less ≤ most
    → note.from + note.count ≤ most → AreWithin (notes ++ (note ∷ [])) most
AreWithin-more [] note less most within longer last = (last, tt)
AreWithin-more (first ∷ notes) note less most within longer last =
    (omega (arith, within.0), AreWithin-more notes note less most within.1 longer last)

-- the bytes of one more read follow the others
bytes_of-more : (reads : List StoreRead) (read : StoreRead) → bytes_of (reads ++ (read ∷ [])) ≡ bytes_of reads ++ read.bytes
bytes_of-more reads read =
    ap concat (map-append (λ (r : StoreRead). r.bytes) reads (read ∷ []))
    ∙ concat-append (map (λ (r : StoreRead). r.bytes) reads) (read.bytes ∷ [])
    ∙ ap (λ (last : List ℕ). bytes_of reads ++ last) (append-nil read.bytes)

-- where the notes describe reads of all bytes, so do they with one more note, of the bytes that follow
pub bytes_of-noted : (notes : List Served) (bytes more : List ℕ) (note : Served) → AreWithin notes (length bytes)
    → bytes_of (reads_of notes bytes) ≡ bytes → note.from ≡ length bytes → note.count ≡ length more
    → bytes_of (reads_of (notes ++ (note ∷ [])) (bytes ++ more)) ≡ bytes ++ more
bytes_of-noted notes bytes more note within all start count =
    ap bytes_of (reads_of-more notes bytes more note within start count)
    ∙ bytes_of-more (reads_of notes bytes) (record { at = note.at; asked = note.asked; bytes = more })
    ∙ ap (λ (prefix : List ℕ). prefix ++ more) all
