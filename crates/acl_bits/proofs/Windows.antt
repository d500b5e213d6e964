-- Lemmas on windows of 40 bits: what `put` writes into bytes by `or`, and what `take` reads from them.
use Rattle.std.proofs.Common.{◌≡◌, ℕ, zero, suc, ◌+◌, ◌-◌, ◌*◌, ◌/◌, ◌%◌, ◌^◌, ◌<◌, ◌≤◌, Bool, true, false, eqb, ◌||◌, List, ◌++◌, length, get_or, take, drop, replicate, refl, ap, arith, subst, sym, ◌∙◌, bit_and, bit_or, max, min, set, length-set, get_or-set_other, inl, inr, mod-lt, length-drop, pow-add}
use Rattle.std.specs.Int.{bit_at, div_ceil}
use Rattle.std.proofs.lemmas.Bool.Decides.{nat_tests}
use Rattle.std.proofs.lemmas.Bool.{cases_lt, cases_eq, true≢false}
use Rattle.std.proofs.lemmas.Grind.{get_or-set_at}
use Rattle.std.proofs.lemmas.List.{get_or_past, drop-drop, length-replicate, take_all}
use Rattle.std.proofs.lemmas.Nat.{and_mask, shr_split, shr-shr, shl_whole, one_shl, pow_pos, or_lt}
use Rattle.std.proofs.lemmas.Nat.Bits.{bit_at-lt, bit_at_or, bit_at-zero, bit_at_above, bit_at_cat_low, bit_at_cat_high}
use Rattle.acl_bits.specs.FilledBits.{has_bit, bits_of, number_of, bits_of_bytes, bit_in, HoldBits, LaysOver, IsWindow}
use Rattle.acl_bits.proofs.BitStrings.{answers, answers-same, answers-split, answers-bits_of, take-bits_of_bytes, drop-bits_of_bytes, bits_of_bytes-drop, take-answers, length-answers, length-bits_of_bytes, number_of-bits_of}

-- ---- shifts

shifted_below : (w b p q : ℕ) → w < p → b < 256 → q ≡ p * 256 → w * 256 + b < q
shifted_below w b p q h l e = omega arith

-- a bit of a number that is shifted left, and of one that is shifted right
has_bit-shl_low : (v s i : ℕ) → i < s → has_bit (v * 2 ^ s) i ≡ false
has_bit-shl_low v s i h =
    let plain : v * 2 ^ s + 0 ≡ v * 2 ^ s = omega arith in
    ap (λ x. has_bit x i) (sym plain) ∙ ap (λ k. eqb k 1) (bit_at_cat_low v s 0 i h ∙ bit_at-zero i)

has_bit-shl_high : (v s i : ℕ) → s ≤ i → has_bit (v * 2 ^ s) i ≡ has_bit v (i - s)
has_bit-shl_high v s i h =
    let plain : v * 2 ^ s + 0 ≡ v * 2 ^ s = omega arith in
    ap (λ x. has_bit x i) (sym plain) ∙ ap (λ k. eqb k 1) (bit_at_cat_high v s 0 i (pow_pos s) h)

has_bit-shr : (v s i : ℕ) → has_bit (v / 2 ^ s) i ≡ has_bit v (s + i)
has_bit-shr v s i = ap (λ x. eqb (x % 2) 1) (shr-shr v s i)

pub has_bit-mod : (v n i : ℕ) → i < n → has_bit (v % 2 ^ n) i ≡ has_bit v i
has_bit-mod v n i h =
    sym (ap (λ k. eqb k 1) (bit_at_cat_low (v / 2 ^ n) n (v % 2 ^ n) i h)) ∙ ap (λ x. has_bit x i) (shr_split v n)

pub or_bit : (x y i : ℕ) → has_bit (bit_or x y) i ≡ (has_bit x i || has_bit y i)
or_bit x y i = ap (λ k. eqb k 1) (bit_at_or x y i) ∙ digits (bit_at x i) (bit_at y i) (bit_at-lt x i) (bit_at-lt y i)
  where
    digits : (a b : ℕ) → a < 2 → b < 2 → eqb (max a b) 1 ≡ (eqb a 1 || eqb b 1)
    digits a b h l = grind (arith, nat_tests)

-- ---- what `put` writes

-- a byte of the window
window_byte : (window k first m : ℕ) → first ≤ k → k < first + 5 → m / 8 ≡ k
    → has_bit (bit_and (window / 2 ^ (32 - 8 * (k - first))) 0xff) (7 - m % 8) ≡ has_bit window (39 - (m - 8 * first))
window_byte window k first m h l e =
    let place : 32 - 8 * (k - first) + (7 - m % 8) ≡ 39 - (m - 8 * first) = omega arith in
    ap (λ x. has_bit x (7 - m % 8)) (and_mask (window / 2 ^ (32 - 8 * (k - first))) 8)
    ∙ has_bit-mod (window / 2 ^ (32 - 8 * (k - first))) 8 (7 - m % 8) (omega arith)
    ∙ has_bit-shr window (32 - 8 * (k - first)) (7 - m % 8) ∙ ap (has_bit window) place

-- a bit that the window covers
laid_bit : (old new : List ℕ) (first window m : ℕ) → LaysOver old new first window → 8 * first ≤ m → m < 8 * first + 40
    → m < 8 * length old → bit_in new m ≡ (bit_in old m || has_bit window (39 - (m - 8 * first)))
unfolding bit_in
laid_bit old new first window m laid h l u =
    let k = m / 8 in
    ap (λ b. has_bit b (7 - m % 8)) (laid.written k (omega arith) (omega arith) (omega arith))
    ∙ or_bit (get_or old k 0) (bit_and (window / 2 ^ (32 - 8 * (k - first))) 0xff) (7 - m % 8)
    ∙ ap (λ b. has_bit (get_or old k 0) (7 - m % 8) || b) (window_byte window k first m (omega arith) (omega arith) refl)

-- the window that `put` makes from a value of n bits, after a string of len bits
abbrev pub window_for : ℕ → ℕ → ℕ → ℕ
window_for len value n = value * 2 ^ (40 - len % 8 - n)

-- before the string's end the bits of the window are 0, then come the value's bits, and then zeros
window_before : (len value n m : ℕ) → value < 2 ^ n → n ≤ 32 → 8 * (len / 8) ≤ m → m < len
    → has_bit (window_for len value n) (39 - (m - 8 * (len / 8))) ≡ false
window_before len value n m fits h l u =
    has_bit-shl_high value (40 - len % 8 - n) (39 - (m - 8 * (len / 8))) (omega arith)
    ∙ ap (λ k. eqb k 1) (bit_at_above value n (39 - (m - 8 * (len / 8)) - (40 - len % 8 - n)) fits (omega arith))

window_within : (len value n m : ℕ) → n ≤ 32 → len ≤ m → m < len + n
    → has_bit (window_for len value n) (39 - (m - 8 * (len / 8))) ≡ has_bit value (len + n - 1 - m)
window_within len value n m h l u =
    let place : 39 - (m - 8 * (len / 8)) - (40 - len % 8 - n) ≡ len + n - 1 - m = omega arith in
    has_bit-shl_high value (40 - len % 8 - n) (39 - (m - 8 * (len / 8))) (omega arith) ∙ ap (has_bit value) place

window_after : (len value n m : ℕ) → n ≤ 32 → len + n ≤ m → m < 8 * (len / 8) + 40
    → has_bit (window_for len value n) (39 - (m - 8 * (len / 8))) ≡ false
window_after len value n m h l u = has_bit-shl_low value (40 - len % 8 - n) (39 - (m - 8 * (len / 8))) (omega arith)

pub or_false : (b c : Bool) → c ≡ false → (b || c) ≡ b
or_false true c e = refl
or_false false c e = e

false_or : (b c : Bool) → b ≡ false → (b || c) ≡ c
false_or true c e = absurd (true≢false e)
false_or false c e = refl

bit_past : (bytes : List ℕ) (m : ℕ) → 8 * length bytes ≤ m → bit_in bytes m ≡ false
unfolding bit_in
bit_past bytes m h =
    ap (λ b. has_bit b (7 - m % 8)) (get_or_past bytes (m / 8) 0 (omega arith)) ∙ ap (λ k. eqb k 1) (bit_at-zero (7 - m % 8))

same_byte : (old new : List ℕ) (m : ℕ) → get_or new (m / 8) 0 ≡ get_or old (m / 8) 0 → bit_in new m ≡ bit_in old m
unfolding bit_in
same_byte old new m e = ap (λ b. has_bit b (7 - m % 8)) e

-- the bits of the string stay
put_before : (old new : List ℕ) (len value n m : ℕ) → HoldBits old len → LaysOver old new (len / 8) (window_for len value n)
    → value < 2 ^ n → n ≤ 32 → m < len → bit_in new m ≡ bit_in old m
put_before old new len value n m holds laid fits h l = elim (cases_lt m (8 * (len / 8))) [
  | inl less ↦ same_byte old new m (laid.before (m / 8) (omega arith))
  | inr more ↦
      laid_bit old new (len / 8) (window_for len value n) m laid more (omega arith) (omega (arith, holds.forty, holds.within))
      ∙ or_false (bit_in old m) (has_bit (window_for len value n) (39 - (m - 8 * (len / 8)))) (window_before len value n m fits h more l)
]

-- after them come the value's bits
put_within : (old new : List ℕ) (len value n m : ℕ) → HoldBits old len → LaysOver old new (len / 8) (window_for len value n)
    → n ≤ 32 → len + n ≤ 320 → len ≤ m → m < len + n → bit_in new m ≡ has_bit value (len + n - 1 - m)
put_within old new len value n m holds laid h room l u =
    laid_bit old new (len / 8) (window_for len value n) m laid (omega arith) (omega arith) (omega (arith, holds.forty))
    ∙ false_or (bit_in old m) (has_bit (window_for len value n) (39 - (m - 8 * (len / 8)))) (holds.clear m l)
    ∙ window_within len value n m h l u

-- after these come zeros
put_after_near : (old new : List ℕ) (len value n m : ℕ) → HoldBits old len → LaysOver old new (len / 8) (window_for len value n)
    → n ≤ 32 → len + n ≤ m → m < 320 → bit_in new m ≡ false
put_after_near old new len value n m holds laid h l near = elim (cases_lt m (8 * (len / 8) + 40)) [
  | inl covered ↦
      laid_bit old new (len / 8) (window_for len value n) m laid (omega arith) covered (omega (arith, holds.forty))
      ∙ false_or (bit_in old m) (has_bit (window_for len value n) (39 - (m - 8 * (len / 8)))) (holds.clear m (omega arith))
      ∙ window_after len value n m h l covered
  | inr past ↦ same_byte old new m (laid.after (m / 8) (omega arith)) ∙ holds.clear m (omega arith)
]

put_after : (old new : List ℕ) (len value n m : ℕ) → HoldBits old len → LaysOver old new (len / 8) (window_for len value n)
    → n ≤ 32 → len + n ≤ m → bit_in new m ≡ false
put_after old new len value n m holds laid h l = elim (cases_lt m 320) [
  | inl near ↦ put_after_near old new len value n m holds laid h l near
  | inr past ↦ bit_past new m (omega (arith, laid.long, holds.forty))
]

-- the new bytes hold the longer string
pub HoldBits-put : (old new : List ℕ) (len value n : ℕ) → HoldBits old len → LaysOver old new (len / 8) (window_for len value n)
    → n ≤ 32 → len + n ≤ 320 → HoldBits new (len + n)
HoldBits-put old new len value n holds laid h room = record {
  forty = laid.long ∙ holds.forty;
  fit = laid.fit;
  within = room;
  clear = λ m l. put_after old new len value n m holds laid h l;
}

-- the longer string is the old one followed by the value's bits
pub bits-put : (old new : List ℕ) (len value n : ℕ) → HoldBits old len → LaysOver old new (len / 8) (window_for len value n)
    → value < 2 ^ n → n ≤ 32 → len + n ≤ 320
    → take (len + n) (bits_of_bytes new) ≡ take len (bits_of_bytes old) ++ bits_of n value
bits-put old new len value n holds laid fits h room =
    let start : 0 + len ≡ len = omega arith in
    take-bits_of_bytes new (len + n) (omega (arith, laid.long, holds.forty)) ∙ answers-split (bit_in new) 0 len n
    ∙ ap (λ xs. xs ++ answers (bit_in new) (0 + len) n) (answers-same (bit_in new) (bit_in old) 0 len (λ m l u.
    put_before old new len value n m holds laid fits h (omega arith))
    ∙ sym (take-bits_of_bytes old len (omega (arith, holds.forty))))
    ∙ ap (λ a. take len (bits_of_bytes old) ++ answers (bit_in new) a n) start
    ∙ ap (λ xs. take len (bits_of_bytes old) ++ xs) (answers-same (bit_in new) (λ m. has_bit value (len + n - 1 - m)) len n (λ m l u.
    put_within old new len value n m holds laid h room l u)
    ∙ sym (answers-bits_of n len value))

-- ---- what `take` reads

-- the bits of the number that is cut out of the window
cut_bits : (rest : List ℕ) (window used n : ℕ) → IsWindow window rest → used < 8 → n ≤ 32
    → bits_of n (window / 2 ^ (40 - used - n) % 2 ^ n) ≡ answers (bit_in rest) used n
cut_bits rest window used n window_is h l =
    answers-bits_of n used (window / 2 ^ (40 - used - n) % 2 ^ n)
    ∙ answers-same (λ m. has_bit (window / 2 ^ (40 - used - n) % 2 ^ n) (used + n - 1 - m)) (bit_in rest) used n (λ m a b.
    let place : 40 - used - n + (used + n - 1 - m) ≡ 39 - m = omega arith in
    has_bit-mod (window / 2 ^ (40 - used - n)) n (used + n - 1 - m) (omega arith)
    ∙ has_bit-shr window (40 - used - n) (used + n - 1 - m) ∙ ap (has_bit window) place ∙ window_is.bits m (omega arith))

-- the number that is cut out is the number of the next n bits
pub number-cut : (rest : List ℕ) (window used n : ℕ) → IsWindow window rest → used < 8 → n ≤ 32 → used + n ≤ 8 * length rest
    → window / 2 ^ (40 - used - n) % 2 ^ n ≡ number_of (take n (drop used (bits_of_bytes rest)))
number-cut rest window used n window_is h l room =
    let parts : 8 * length rest - used ≡ n + (8 * length rest - used - n) = omega arith in
    let small : window / 2 ^ (40 - used - n) % 2 ^ n < 2 ^ n = mod-lt (window / 2 ^ (40 - used - n)) (pow_pos n) in
    sym (number_of-bits_of n (window / 2 ^ (40 - used - n) % 2 ^ n) small)
    ∙ ap number_of (cut_bits rest window used n window_is h l
    ∙ sym (ap (take n) (drop-bits_of_bytes rest used (omega arith) ∙ ap (answers (bit_in rest) used) parts)
    ∙ take-answers (bit_in rest) used n (8 * length rest - used - n)))

-- the bits that are left after them
pub bits-cut : (rest : List ℕ) (used n : ℕ)
    → drop ((used + n) % 8) (bits_of_bytes (drop ((used + n) / 8) rest)) ≡ drop n (drop used (bits_of_bytes rest))
bits-cut rest used n =
    let parts : 8 * ((used + n) / 8) + (used + n) % 8 ≡ used + n = omega arith in
    ap (drop ((used + n) % 8)) (bits_of_bytes-drop ((used + n) / 8) rest)
    ∙ drop-drop ((used + n) % 8) (8 * ((used + n) / 8)) (bits_of_bytes rest)
    ∙ ap (λ k. drop k (bits_of_bytes rest)) parts ∙ sym (drop-drop n used (bits_of_bytes rest))

pub length-left : (rest : List ℕ) (used : ℕ) → length (drop used (bits_of_bytes rest)) ≡ 8 * length rest - used
length-left rest used =
    length-drop used (bits_of_bytes rest) ∙ ap (λ k. k - used) (length-bits_of_bytes rest)

-- ---- the loop that makes a window

-- the first bits of the window so far
pub record IsWindowTo (window : ℕ) (bytes : List ℕ) (i : ℕ) : Type 0 where
  pub small : window < 2 ^ (8 * i)
  pub bits : (m : ℕ) → m < 8 * i → has_bit window (8 * i - 1 - m) ≡ bit_in bytes m

pub IsWindowTo-more : (window : ℕ) (bytes : List ℕ) (i : ℕ) → IsWindowTo window bytes i → get_or bytes i 0 < 256
    → IsWindowTo (window * 256 + get_or bytes i 0) bytes (i + 1)
unfolding bit_in
IsWindowTo-more window bytes i so_far fits =
    let byte = get_or bytes i 0 in
    record {
      small =
          let power : 2 ^ (8 * (i + 1)) ≡ 2 ^ (8 * i) * 256 = (let split : 8 * (i + 1) ≡ 8 * i + 8 = omega arith in ap (λ k. 2 ^ k) split ∙ pow-add 2 (8 * i) 8) in
          shifted_below window byte (2 ^ (8 * i)) (2 ^ (8 * (i + 1))) so_far.small fits power;
      bits = λ m l. elim (cases_lt m (8 * i)) [
        | inl early ↦
            let place : 8 * (i + 1) - 1 - m - 8 ≡ 8 * i - 1 - m = omega arith in
            ap (λ k. eqb k 1) (bit_at_cat_high window 8 byte (8 * (i + 1) - 1 - m) fits (omega arith)) ∙ ap (has_bit window) place
            ∙ so_far.bits m early
        | inr late ↦
            let place : 8 * (i + 1) - 1 - m ≡ 7 - m % 8 = omega arith in
            let here : i ≡ m / 8 = omega arith in
            ap (λ k. eqb k 1) (bit_at_cat_low window 8 byte (8 * (i + 1) - 1 - m) (omega arith)) ∙ ap (has_bit byte) place
            ∙ ap (λ k. has_bit (get_or bytes k 0) (7 - m % 8)) here
      ];
    }

pub IsWindowTo-none : (bytes : List ℕ) → IsWindowTo 0 bytes 0
IsWindowTo-none bytes = record { small = omega arith; bits = λ m l. absurd (omega arith) }

pub IsWindow-whole : (window : ℕ) (bytes : List ℕ) (i : ℕ) → i ≤ 5 → 5 ≤ i → IsWindowTo window bytes i → IsWindow window bytes
IsWindow-whole window bytes i h l so_far =
    let all : i ≡ 5 = omega arith in
    let at_five : IsWindowTo window bytes 5 = subst (λ (k : ℕ). IsWindowTo window bytes k) all so_far in
    record { small = at_five.small; bits = λ m u. at_five.bits m u }

-- ---- forty zeros

zeros_at : (m k : ℕ) → get_or (replicate {A = ℕ} m 0) k 0 ≡ 0
zeros_at zero k = refl
zeros_at (suc m) zero = refl
zeros_at (suc m) (suc k) = zeros_at m k

zeros_in : (n place : ℕ) → bit_in (replicate {A = ℕ} n 0) place ≡ false
unfolding bit_in
zeros_in n place =
    ap (λ b. has_bit b (7 - place % 8)) (zeros_at n (place / 8)) ∙ ap (λ k. eqb k 1) (bit_at-zero (7 - place % 8))

HoldBits-zeros : (n : ℕ) → n ≡ 40 → HoldBits (replicate {A = ℕ} n 0) 0
HoldBits-zeros n e = record {
  forty = length-replicate n 0 ∙ e;
  fit = λ k. let none = zeros_at n k in omega (arith, none);
  within = omega arith;
  clear = λ m l. zeros_in n m;
}

pub HoldBits-none : HoldBits (replicate {A = ℕ} 40 0) 0
HoldBits-none = HoldBits-zeros 40 refl

-- ---- the last steps of `lay_over`, `put` and `take`

-- the bytes from `first` up to i are combined with the window, and the others are unchanged
pub record LaysUpTo (old new : List ℕ) (first window i : ℕ) : Type 0 where
  pub long : length new ≡ 40
  pub fit : (k : ℕ) → get_or new k 0 < 256
  pub written : (k : ℕ) → first ≤ k → k < i
      → get_or new k 0 ≡ bit_or (get_or old k 0) (bit_and (window / 2 ^ (32 - 8 * (k - first))) 0xff)
  pub before : (k : ℕ) → k < first → get_or new k 0 ≡ get_or old k 0
  pub after : (k : ℕ) → i ≤ k → get_or new k 0 ≡ get_or old k 0

pub LaysUpTo-none : (old : List ℕ) (first window : ℕ) → length old ≡ 40 → ((k : ℕ) → get_or old k 0 < 256)
    → LaysUpTo old old first window first
LaysUpTo-none old first window long fit = record {
  long = long;
  fit = fit;
  written = λ k l u. absurd (omega arith);
  before = λ k l. refl;
  after = λ k l. refl;
}

pub LaysUpTo-more : (old new : List ℕ) (first window i : ℕ) → LaysUpTo old new first window i → first ≤ i → i < 40
    → LaysUpTo old (set new i (bit_or (get_or new i 0) (bit_and (window / 2 ^ (32 - 8 * (i - first))) 0xff))) first window (i + 1)
LaysUpTo-more old new first window i so_far h l =
    let laid = bit_and (window / 2 ^ (32 - 8 * (i - first))) 0xff in
    let byte = bit_or (get_or new i 0) laid in
    let laid_fits : laid < 256 =
    let mask = and_mask (window / 2 ^ (32 - 8 * (i - first))) 8 in
    omega (arith, mask) in
    let byte_fits : byte < 256 = or_lt 8 (get_or new i 0) laid (so_far.fit i) laid_fits in
    record {
      long = length-set new i byte ∙ so_far.long;
      fit = λ k. elim (cases_eq k i) [
        | inl here ↦ subst (λ (x : ℕ). x < 256) (sym (get_or-set_at new i k byte 0 here (omega (arith, so_far.long)))) byte_fits
        | inr elsewhere ↦ subst (λ (x : ℕ). x < 256) (sym (get_or-set_other new i k byte 0 elsewhere)) (so_far.fit k)
      ];
      written = λ k a u. elim (cases_eq k i) [
        | inl here ↦
            get_or-set_at new i k byte 0 here (omega (arith, so_far.long)) ∙ ap (λ b. bit_or b laid) (so_far.after i (omega arith))
            ∙ ap (λ x. bit_or (get_or old x 0) (bit_and (window / 2 ^ (32 - 8 * (x - first))) 0xff)) (sym here)
        | inr elsewhere ↦ get_or-set_other new i k byte 0 elsewhere ∙ so_far.written k a (grind arith)
      ];
      before = λ k a. get_or-set_other new i k byte 0 (λ e. omega arith) ∙ so_far.before k a;
      after = λ k a. get_or-set_other new i k byte 0 (λ e. omega arith) ∙ so_far.after k (omega arith);
    }

pub LaysUpTo-done : (old new : List ℕ) (first window i : ℕ) → length old ≡ 40 → min (first + 5) 40 ≤ i → i ≤ first + 5
    → LaysUpTo old new first window i → LaysOver old new first window
LaysUpTo-done old new first window i long_old over under laid = record {
  long = laid.long ∙ sym long_old;
  fit = laid.fit;
  written = λ k l u r. laid.written k l (omega arith);
  before = laid.before;
  after = λ k l. laid.after k (omega arith);
}

pub length-held : (bytes : List ℕ) (len : ℕ) → HoldBits bytes len → length (take len (bits_of_bytes bytes)) ≡ len
length-held bytes len h =
    ap length (take-bits_of_bytes bytes len (omega (arith, h.forty, h.within))) ∙ length-answers (bit_in bytes) 0 len

pub LaysOver-window : (old new : List ℕ) (len value wide n : ℕ) → value < 2 ^ n → n ≤ 32 → wide ≡ value
    → LaysOver old new (len / 8) (wide * 2 ^ (40 - len % 8 - n) % 2 ^ 64) → LaysOver old new (len / 8) (window_for len value n)
LaysOver-window old new len value wide n fits h same laid =
    let window : wide * 2 ^ (40 - len % 8 - n) % 2 ^ 64 ≡ window_for len value n =
    ap (λ v. v * 2 ^ (40 - len % 8 - n) % 2 ^ 64) same ∙ shl_whole value n (40 - len % 8 - n) 64 fits (omega arith) in
    subst (λ (w : ℕ). LaysOver old new (len / 8) w) window laid

pub take-all_left : (xs : List ℕ) (q : ℕ) → take (length xs - q) (drop q xs) ≡ drop q xs
take-all_left xs q = take_all (length xs - q) (drop q xs) (omega (arith, length-drop q xs))

pub IsWindowTo-next : (window byte : ℕ) (bytes : List ℕ) (i : ℕ) → IsWindowTo window bytes i → byte ≡ get_or bytes i 0 → byte < 256
    → IsWindowTo (window * 256 + byte) bytes (i + 1)
IsWindowTo-next window byte bytes i so_far e fits =
    subst (λ (b : ℕ). IsWindowTo (window * 256 + b) bytes (i + 1)) (sym e)
    (IsWindowTo-more window bytes i so_far (subst (λ (b : ℕ). b < 256) e fits))

pub number-taken : (rest : List ℕ) (window used n : ℕ) → IsWindow window rest → used < 8 → n ≤ 32 → used + n ≤ 8 * length rest
    → bit_and (window / 2 ^ (40 - (used + n))) (1 * 2 ^ n % 2 ^ 64 - 1) ≡ number_of (take n (drop used (bits_of_bytes rest)))
number-taken rest window used n window_is h l room =
    let mask : 1 * 2 ^ n % 2 ^ 64 ≡ 2 ^ n = one_shl n 64 (omega arith) in
    let shift : 40 - (used + n) ≡ 40 - used - n = omega arith in
    ap (λ k. bit_and (window / 2 ^ (40 - (used + n))) (k - 1)) mask ∙ and_mask (window / 2 ^ (40 - (used + n))) n
    ∙ ap (λ k. window / 2 ^ k % 2 ^ n) shift ∙ number-cut rest window used n window_is h l room

pub div_ceil-eighths : (n : ℕ) → div_ceil n 8 ≡ (n + 7) / 8
div_ceil-eighths n = omega arith
