-- Lemmas on the exclusive or of lists, and on a loop that changes one block after another.
use Rattle.std.proofs.Common.{◌≡◌, ℕ, zero, suc, ◌+◌, ◌*◌, ◌<◌, List, [], ◌∷◌, ◌++◌, length, take, drop, get_or, refl, sym, ap, ◌∙◌, arith, bit_xor, append_assoc, append-nil}
use Rattle.std.proofs.lemmas.List.{take_all, take-append-le, drop-append-le, length-take-le, length-drop, take-append-drop, length-append, drop-drop, nil_from_length}
use Rattle.std.proofs.lemmas.Grind.{same_number_lists}
use Rattle.std.proofs.Math.Seq.{take-add}
use Rattle.std.proofs.lemmas.Slice.{take-put_mid, drop-put_mid}
use borrow.Rule.Slice.PartMut.{put_mid}
use Rattle.aes_block.specs.Aes.{xor_bytes}
use Rattle.aes_block.proofs.States.{length-xor_bytes}
use Rattle.position_cipher.specs.Fragments.{each_block}

pub get_or-xor_bytes : (xs ys : List ℕ) (k : ℕ) → length xs ≡ length ys → k < length xs → get_or (xor_bytes xs ys) k 0 ≡ bit_xor (get_or xs k 0) (get_or ys k 0)
unfolding xor_bytes
get_or-xor_bytes [] ys k same lt = absurd (omega arith)
get_or-xor_bytes (x ∷ xs) [] k same lt = absurd (omega arith)
get_or-xor_bytes (x ∷ xs) (y ∷ ys) zero same lt = refl
get_or-xor_bytes (x ∷ xs) (y ∷ ys) (suc k) same lt = get_or-xor_bytes xs ys k (omega arith) (omega arith)

-- a list that has, at each index, the exclusive or of two lists' bytes is the exclusive or of the lists
pub xor_bytes_from_each : (zs xs ys : List ℕ) → length xs ≡ length ys → length zs ≡ length xs
    → ((k : ℕ) → k < length xs → get_or zs k 0 ≡ bit_xor (get_or xs k 0) (get_or ys k 0)) → zs ≡ xor_bytes xs ys
xor_bytes_from_each zs xs ys same long each =
    same_number_lists zs (xor_bytes xs ys) (long ∙ sym (length-xor_bytes xs ys same))
    (λ k lt. each k (omega arith) ∙ sym (get_or-xor_bytes xs ys k same (omega arith)))

-- `each_block` of one more block
pub each_block-more : (f : ℕ → List ℕ → List ℕ) (number n : ℕ) (xs block : List ℕ) → length xs ≡ 16 * n → length block ≡ 16
    → each_block f number (suc n) (xs ++ block) ≡ each_block f number n xs ++ f (number + n) block
unfolding each_block
each_block-more f number zero xs block long size =
    let none : xs ≡ [] = nil_from_length xs (omega arith) in
    let here : number ≡ number + 0 = omega arith in
    append-nil (f number (take 16 (xs ++ block)))
    ∙ ap (λ (l : List ℕ). f number (take 16 (l ++ block))) none
    ∙ ap (f number) (take_all 16 block (omega arith))
    ∙ ap (λ (m : ℕ). f m block) here
each_block-more f number (suc n) xs block long size =
    let rest : length (drop 16 xs) ≡ 16 * n = omega (arith, length-drop 16 xs) in
    let there : number + 1 + n ≡ number + suc n = omega arith in
    (λ i. f number (take-append-le 16 xs block (omega arith) i) ++ each_block f (number + 1) (suc n) (drop-append-le 16 xs block (omega arith) i))
    ∙ ap (λ (l : List ℕ). f number (take 16 xs) ++ l) (each_block-more f (number + 1) n (drop 16 xs) block rest size
    ∙ ap (λ (m : ℕ). each_block f (number + 1) n (drop 16 xs) ++ f m block) there)
    ∙ sym (append_assoc (f number (take 16 xs)) (each_block f (number + 1) n (drop 16 xs)) (f (number + suc n) block))

-- The first k blocks are the results of f, g restores them, and the bytes after them are the old ones.
pub record AreDone (f g : ℕ → List ℕ → List ℕ) (number k : ℕ) (old bytes : List ℕ) : Type 0 where
  pub count : length bytes ≡ 256
  pub done : take (16 * k) bytes ≡ each_block f number k (take (16 * k) old)
  pub undone : each_block g number k (take (16 * k) bytes) ≡ take (16 * k) old
  pub rest : drop (16 * k) bytes ≡ drop (16 * k) old

pub AreDone-none : (f g : ℕ → List ℕ → List ℕ) (number : ℕ) (old : List ℕ) → length old ≡ 256 → AreDone f g number 0 old old
unfolding each_block
AreDone-none f g number old long = record { count = long; done = refl; undone = refl; rest = refl }

-- one more block is written
pub AreDone-more : (f g : ℕ → List ℕ → List ℕ) (number k w : ℕ) (old bytes block : List ℕ) → k < 16 → w ≡ 16
    → length old ≡ 256 → length block ≡ 16 → AreDone f g number k old bytes
    → block ≡ f (number + k) (take w (drop (16 * k) bytes)) → g (number + k) block ≡ take w (drop (16 * k) bytes)
    → AreDone f g number (k + 1) old (put_mid (16 * k) w bytes block)
AreDone-more f g number k w old bytes block lt wide long size before made back =
    let a : ℕ = 16 * k in
    let next : List ℕ = put_mid a w bytes block in
    let count : length bytes ≡ 256 = before.count in
    let end : 16 * (k + 1) ≡ a + length block = omega arith in
    let more : k + 1 ≡ suc k = omega arith in
    let piece : List ℕ = take 16 (drop a old) in
    let same : take w (drop a bytes) ≡ piece = ap (λ (n : ℕ). take n (drop a bytes)) wide ∙ ap (take 16) before.rest in
    let fits : length piece ≡ 16 = length-take-le 16 (drop a old) (omega (arith, length-drop a old)) in
    let prefix : length (take a old) ≡ 16 * k = length-take-le a old (omega arith) in
    let prefix_now : length (take a bytes) ≡ 16 * k = length-take-le a bytes (omega arith) in
    let whole : take a old ++ piece ≡ take (16 * (k + 1)) old =
    sym (take-add a 16 old) ∙ ap (λ (n : ℕ). take n old) (omega arith) in
    let written : take (16 * (k + 1)) next ≡ take a bytes ++ block =
    take-put_mid a w bytes block (16 * (k + 1)) end (omega arith) in
    let untouched : drop (16 * (k + 1)) next ≡ drop (16 * (k + 1)) bytes =
    drop-put_mid a w bytes block (16 * (k + 1)) (omega arith) (omega arith) (omega arith) in
    let split : a + 16 ≡ 16 * (k + 1) = omega arith in
    let later : (l : List ℕ) → drop 16 (drop a l) ≡ drop (16 * (k + 1)) l =
    λ l. drop-drop 16 a l ∙ ap (λ (n : ℕ). drop n l) split in
    record {
      count = omega (arith, ap length written, length-append (take a bytes) block, ap length (take-append-drop (16 * (k + 1)) next), length-append (take (16 * (k + 1)) next) (drop (16 * (k + 1)) next), ap length untouched, length-drop (16 * (k + 1)) bytes);
      done = written
          ∙ (λ i. before.done i ++ (made ∙ ap (f (number + k)) same) i)
          ∙ sym (each_block-more f number k (take a old) piece prefix fits)
          ∙ ap (each_block f number (suc k)) whole
          ∙ ap (λ (n : ℕ). each_block f number n (take (16 * (k + 1)) old)) (sym more);
      undone = ap (λ (n : ℕ). each_block g number n (take (16 * (k + 1)) next)) more
          ∙ ap (each_block g number (suc k)) written
          ∙ each_block-more g number k (take a bytes) block prefix_now size
          ∙ (λ i. before.undone i ++ (back ∙ same) i)
          ∙ whole;
      rest = untouched ∙ sym (later bytes) ∙ ap (drop 16) before.rest ∙ later old;
    }

-- all sixteen blocks are written
pub AreDone-all : (f g : ℕ → List ℕ → List ℕ) (number k : ℕ) (old bytes : List ℕ) → k ≡ 16 → length old ≡ 256 → AreDone f g number k old bytes
    → (bytes ≡ each_block f number 16 old) × (each_block g number 16 bytes ≡ old)
AreDone-all f g number k old bytes all long state =
    let end : 16 * k ≡ 256 = omega arith in
    let now : take (16 * k) bytes ≡ bytes = take_all (16 * k) bytes (omega (arith, state.count)) in
    let was : take (16 * k) old ≡ old = take_all (16 * k) old (omega arith) in (
      sym now ∙ state.done ∙ ap (each_block f number k) was ∙ ap (λ (n : ℕ). each_block f number n old) all,
      ap (λ (n : ℕ). each_block g number n bytes) (sym all) ∙ sym (ap (each_block g number k) now) ∙ state.undone ∙ was,
    )
