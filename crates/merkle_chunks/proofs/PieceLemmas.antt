-- Bytes that are cut into pieces of one size, and pieces that are joined again.
use Rattle.std.proofs.Common.{◌≡◌, ℕ, zero, suc, ◌+◌, ◌*◌, ◌<◌, ◌≤◌, List, [], ◌∷◌, ◌++◌, length, take, drop, get_or, refl, sym, ap, ◌∙◌, arith, length-append, length-drop, append-nil}
use Rattle.std.specs.List.{concat}
use Rattle.std.specs.Simd.{first_chunks}
use Rattle.std.proofs.Math.Seq.{take-append-add, drop-append-add, take-nil, drop-nil, take-add}
use Rattle.std.proofs.lemmas.List.{take_at, drop_at, take_more, length-take-le, drop-drop}
use Rattle.std.proofs.lemmas.List.Folds.{concat-append}
use Rattle.std.proofs.lemmas.Slice.{take-put_mid}
use Rattle.merkle_chunks.specs.inside.LevelBytes.{digests_in, width}
use borrow.Rule.Slice.PartMut.{put_mid}

-- each piece has the size
abbrev pub AreSized : ℕ → List (List ℕ) → Type 0
AreSized size [] = Unit {0}
AreSized size (piece ∷ pieces) = (length piece ≡ size) × AreSized size pieces

pub sized_at : (size : ℕ) (pieces : List (List ℕ)) (k : ℕ) → AreSized size pieces → k < length pieces → length (get_or pieces k []) ≡ size
sized_at size [] k sized lt = absurd (omega arith)
sized_at size (piece ∷ pieces) zero sized lt = sized.0
sized_at size (piece ∷ pieces) (suc k) sized lt = sized_at size pieces k sized.1 (omega arith)

pub AreSized-append : (size : ℕ) (xs ys : List (List ℕ)) → AreSized size xs → AreSized size ys → AreSized size (xs ++ ys)
AreSized-append size [] ys here there = there
AreSized-append size (x ∷ xs) ys here there = (here.0, AreSized-append size xs ys here.1 there)

-- ---- joined

pub length-concat : (size : ℕ) (pieces : List (List ℕ)) → AreSized size pieces → length (concat pieces) ≡ size * length pieces
length-concat size [] sized = omega arith
length-concat size (piece ∷ pieces) sized =
    length-append piece (concat pieces) ∙ omega (arith, sized.0, length-concat size pieces sized.1)

one_more : (size k : ℕ) (piece : List ℕ) → length piece ≡ size → size * suc k ≡ length piece + size * k
one_more size k piece same = omega arith

pub take-concat : (size k : ℕ) (pieces : List (List ℕ)) → AreSized size pieces → take (size * k) (concat pieces) ≡ concat (take k pieces)
take-concat size zero pieces sized = let none : size * 0 ≡ 0 = omega arith in ap (λ (n : ℕ). take n (concat pieces)) none
take-concat size (suc k) [] sized = take-nil (size * suc k)
take-concat size (suc k) (piece ∷ pieces) sized =
    ap (λ (n : ℕ). take n (piece ++ concat pieces)) (one_more size k piece sized.0)
    ∙ take-append-add piece (concat pieces) (size * k)
    ∙ ap (λ (l : List ℕ). piece ++ l) (take-concat size k pieces sized.1)

pub drop-concat : (size k : ℕ) (pieces : List (List ℕ)) → AreSized size pieces → drop (size * k) (concat pieces) ≡ concat (drop k pieces)
drop-concat size zero pieces sized = let none : size * 0 ≡ 0 = omega arith in ap (λ (n : ℕ). drop n (concat pieces)) none
drop-concat size (suc k) [] sized = drop-nil (size * suc k)
drop-concat size (suc k) (piece ∷ pieces) sized =
    ap (λ (n : ℕ). drop n (piece ++ concat pieces)) (one_more size k piece sized.0)
    ∙ drop-append-add piece (concat pieces) (size * k)
    ∙ drop-concat size k pieces sized.1

-- the piece at an index follows those before it
pub piece_at : (size k : ℕ) (pieces : List (List ℕ)) → AreSized size pieces → k < length pieces → take size (drop (size * k) (concat pieces)) ≡ get_or pieces k []
piece_at size k [] sized lt = absurd (omega arith)
piece_at size zero (piece ∷ pieces) sized lt =
    let none : size * 0 ≡ 0 = omega arith in
    ap (λ (n : ℕ). take size (drop n (piece ++ concat pieces))) none ∙ take_at piece (concat pieces) size sized.0
piece_at size (suc k) (piece ∷ pieces) sized lt =
    ap (λ (n : ℕ). take size (drop n (piece ++ concat pieces))) (one_more size k piece sized.0)
    ∙ ap (take size) (drop-append-add piece (concat pieces) (size * k))
    ∙ piece_at size k pieces sized.1 (omega arith)

-- ---- cut

pub length-first_chunks : (size k : ℕ) (bytes : List ℕ) → length (first_chunks size k bytes) ≡ k
length-first_chunks size zero bytes = refl
length-first_chunks size (suc k) bytes = ap (λ (n : ℕ). suc n) (length-first_chunks size k (drop size bytes))

pub sized-first_chunks : (size k : ℕ) (bytes : List ℕ) → size * k ≤ length bytes → AreSized size (first_chunks size k bytes)
sized-first_chunks size zero bytes fits = tt
sized-first_chunks size (suc k) bytes fits =
    (length-take-le size bytes (omega arith), sized-first_chunks size k (drop size bytes) (omega (arith, length-drop size bytes)))

-- the pieces that are cut off, joined, are a prefix
pub concat-first_chunks : (size k : ℕ) (bytes : List ℕ) → concat (first_chunks size k bytes) ≡ take (size * k) bytes
concat-first_chunks size zero bytes = let none : size * 0 ≡ 0 = omega arith in ap (λ (n : ℕ). take n bytes) (sym none)
concat-first_chunks size (suc k) bytes =
    let more : size + size * k ≡ size * suc k = omega arith in
    ap (λ (l : List ℕ). take size bytes ++ l) (concat-first_chunks size k (drop size bytes))
    ∙ sym (take-add size (size * k) bytes)
    ∙ ap (λ (n : ℕ). take n bytes) more

-- the piece at an index
pub get_or-first_chunks : (size k i : ℕ) (bytes : List ℕ) → i < k → get_or (first_chunks size k bytes) i [] ≡ take size (drop (size * i) bytes)
get_or-first_chunks size zero i bytes lt = absurd (omega arith)
get_or-first_chunks size (suc k) zero bytes lt =
    let none : size * 0 ≡ 0 = omega arith in ap (λ (n : ℕ). take size (drop n bytes)) (sym none)
get_or-first_chunks size (suc k) (suc i) bytes lt =
    let more : size + size * i ≡ size * suc i = omega arith in
    get_or-first_chunks size k i (drop size bytes) (omega arith)
    ∙ ap (take size) (drop-drop (size * i) size bytes ∙ ap (λ (n : ℕ). drop n bytes) more)

-- joined pieces are cut into the same pieces
pub first_chunks-concat : (size : ℕ) (pieces : List (List ℕ)) → AreSized size pieces → first_chunks size (length pieces) (concat pieces) ≡ pieces
first_chunks-concat size [] sized = refl
first_chunks-concat size (piece ∷ pieces) sized =
    λ i. take_at piece (concat pieces) size sized.0 i
    ∷ (ap (first_chunks size (length pieces)) (drop_at piece (concat pieces) size sized.0) ∙ first_chunks-concat size pieces sized.1) i

-- ---- digests

-- joined digests are cut into the same digests
pub width-concat : (digests : List (List ℕ)) → AreSized 32 digests → width (concat digests) ≡ length digests
width-concat digests sized = omega (arith, length-concat 32 digests sized)

pub digests_in-concat : (digests : List (List ℕ)) → AreSized 32 digests → digests_in (concat digests) ≡ digests
digests_in-concat digests sized =
    ap (λ (k : ℕ). first_chunks 32 k (concat digests)) (width-concat digests sized) ∙ first_chunks-concat 32 digests sized

-- ---- written one after the other

-- one more piece is written after those that are
pub written_more : (size k n : ℕ) (pieces : List (List ℕ)) (bytes piece : List ℕ) → n ≡ size → k < length pieces → length piece ≡ size
    → size * k ≤ length bytes → piece ≡ get_or pieces k [] → take (size * k) bytes ≡ concat (take k pieces)
    → take (size * (k + 1)) (put_mid (size * k) n bytes piece) ≡ concat (take (k + 1) pieces)
written_more size k n pieces bytes piece wide lt long fits is before =
    let end : size * (k + 1) ≡ size * k + length piece = omega arith in
    take-put_mid (size * k) n bytes piece (size * (k + 1)) end fits
    ∙ (λ i. before i ++ (is ∙ sym (append-nil (get_or pieces k []))) i)
    ∙ sym (concat-append (take k pieces) (get_or pieces k [] ∷ []))
    ∙ ap concat (sym (take_more pieces k [] lt))
