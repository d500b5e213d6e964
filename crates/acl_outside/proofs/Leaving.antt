-- How the writes of the parts of a text are one write of the text, whole or cut off where a part fails.
use Rattle.std.proofs.Common.{◌≡◌, List, ℕ, [], ◌+◌, ◌++◌, ◌≤◌, length, take, Option, Some, None, append_assoc, append-nil, length-append, ap, sym, ◌∙◌, refl, arith}
use Rattle.std.proofs.lemmas.List.{take-append-le, length-take, length-take-le}
use Rattle.std.proofs.Math.Seq.{take-append-add}
use Rattle.std.specs.Io.KnownBytes.{Appends}
use Rattle.acl_outside.specs.Outside.{AppendsPart, MissesAtLeast}

-- of all that was to be appended since `old`, the rest is still to come
abbrev pub Leaves : Option (List ℕ) → Option (List ℕ) → List ℕ → List ℕ → Type 0
Leaves None now rest all = Unit {0}
Leaves (Some a) None rest all = ⊥
Leaves (Some a) (Some b) rest all = (length a ≤ length b) × (b ++ rest ≡ a ++ all)

-- at the start all is still to come
pub Leaves-all : (old : Option (List ℕ)) (all : List ℕ) → Leaves old old all all
Leaves-all None all = tt
Leaves-all (Some a) all = (omega arith, refl)

-- a piece that was appended whole: the rest is what follows it
pub Leaves-piece : (old mid new : Option (List ℕ)) (piece rest more all : List ℕ) → rest ≡ piece ++ more
    → Leaves old mid rest all → Appends mid new piece → Leaves old new more all
Leaves-piece None mid new piece rest more all cut way put = tt
Leaves-piece (Some a) None new piece rest more all cut way put = absurd way
Leaves-piece (Some a) (Some b) None piece rest more all cut way put = absurd put
Leaves-piece (Some a) (Some b) (Some c) piece rest more all cut way put = (
  rw put (omega (arith, length-append b piece, way.0)),
  rw put (append_assoc b piece more ∙ ap (λ r. b ++ r) (sym cut) ∙ way.1),
)

-- where nothing is left, all was appended
pub Leaves-nothing : (old new : Option (List ℕ)) (all : List ℕ) → Leaves old new [] all → Appends old new all
Leaves-nothing None new all way = tt
Leaves-nothing (Some a) None all way = absurd way
Leaves-nothing (Some a) (Some b) all way = sym (append-nil b) ∙ way.1

-- a prefix of a list, as long as another list that begins alike
prefix-alike : (b c piece more all : List ℕ) → take (length c) (b ++ piece) ≡ c → b ++ (piece ++ more) ≡ all → take (length c) all ≡ c
prefix-alike b c piece more all part whole =
    let short : length c ≤ length (b ++ piece) = omega (arith, ap length part, length-take (length c) (b ++ piece)) in
    rw (← whole, ← append_assoc b piece more) (take-append-le (length c) (b ++ piece) more short ∙ part)

-- a piece that was appended in part is a part of all
pub Leaves-part : (old mid new : Option (List ℕ)) (piece rest more all : List ℕ) → rest ≡ piece ++ more
    → Leaves old mid rest all → AppendsPart mid new piece → AppendsPart old new all
Leaves-part None mid new piece rest more all cut way put = tt
Leaves-part (Some a) None new piece rest more all cut way put = absurd way
Leaves-part (Some a) (Some b) None piece rest more all cut way put = absurd put
Leaves-part (Some a) (Some b) (Some c) piece rest more all cut way put =
    (omega (arith, way.0, put.0), prefix-alike b c piece more (a ++ all) put.1 (ap (λ r. b ++ r) (sym cut) ∙ way.1))

-- what is missing of the piece is missing of all
pub Leaves-missing : (old mid new : Option (List ℕ)) (missing : Option ℕ) (piece rest more all : List ℕ) → rest ≡ piece ++ more
    → Leaves old mid rest all → MissesAtLeast mid new missing piece → MissesAtLeast old new missing all
Leaves-missing None mid new missing piece rest more all cut way lack = tt
Leaves-missing (Some a) None new missing piece rest more all cut way lack = absurd way
Leaves-missing (Some a) (Some b) None missing piece rest more all cut way lack = tt
Leaves-missing (Some a) (Some b) (Some c) None piece rest more all cut way lack = tt
Leaves-missing (Some a) (Some b) (Some c) (Some m) piece rest more all cut way lack =
    omega (arith, lack, length-append piece more, length-append b rest, length-append a all, ap length way.1, ap length cut)

-- a prefix of the piece that was appended is a part of it
pub AppendsPart-prefix : (a piece : List ℕ) (n : ℕ) → n ≤ length piece → AppendsPart (Some a) (Some (a ++ take n piece)) piece
AppendsPart-prefix a piece n within =
    let prefix : length (a ++ take n piece) ≡ length a + n = length-append a (take n piece) ∙ ap (λ k. length a + k) (length-take-le n piece within) in
    (omega (arith, prefix), ap (λ k. take k (a ++ piece)) prefix ∙ take-append-add a piece n)
