-- Lemmas on bit strings, as lists of the values of a test at successive indices.
use Rattle.std.proofs.Common.{◌≡◌, ℕ, zero, suc, ◌+◌, ◌-◌, ◌*◌, ◌/◌, ◌%◌, ◌^◌, ◌<◌, ◌≤◌, Bool, true, false, eqb, List, [], ◌∷◌, ◌++◌, length, get_or, take, drop, replicate, refl, ap, arith, subst, sym, ◌∙◌, length-append, inl, inr, pow-suc, mod-eq_of_lt, length-drop, length-take-le}
use Rattle.std.specs.Int.{bit_at}
use Rattle.std.proofs.lemmas.Nat.{mod-pow-add}
use Rattle.std.proofs.lemmas.Bool.{cases_lt}
use Rattle.std.proofs.lemmas.Nat.Bits.{bit_at-lt, bit_at_lowest, bit_at_cat_high}
use Rattle.acl_bits.specs.FilledBits.{has_bit, bits_of, digit, number_after, number_of, bits_of_bytes, filled_bits, first_bytes, bytes_of, bit_in, HoldBits}
use Rattle.std.proofs.lemmas.List.{take_at, drop_at, take-append-drop, length-replicate, get_or-take, get_or_past, length-take}
use Rattle.std.proofs.Math.Seq.{drop-nil, drop-append-add}

-- ---- numbers and their bits

digit_of_bit : (b : ℕ) → b < 2 → digit (eqb b 1) ≡ b
digit_of_bit zero h = refl
digit_of_bit (suc zero) h = refl
digit_of_bit (suc (suc b)) h = absurd (omega arith)

pow_more : (n : ℕ) → 2 ^ suc n ≡ 2 * 2 ^ n
pow_more n = omega (arith, pow-suc 2 n)

number_after-bits_of : (n high v : ℕ) → number_after high (bits_of n v) ≡ high * 2 ^ n + v % 2 ^ n
unfolding number_after bits_of
number_after-bits_of zero high v = omega arith
number_after-bits_of (suc n) high v =
    let rest = number_after-bits_of n (2 * high + digit (has_bit v n)) v in
    let bit : digit (has_bit v n) ≡ bit_at v n = digit_of_bit (bit_at v n) (bit_at-lt v n) in
    let order : 1 + n ≡ suc n = omega arith in
    let low : v % 2 ^ suc n ≡ bit_at v n * 2 ^ n + v % 2 ^ n = ap (λ k. v % 2 ^ k) (sym order) ∙ mod-pow-add v 1 n in
    rest ∙ ap (λ d. (2 * high + d) * 2 ^ n + v % 2 ^ n) bit
    ∙ regroup high (bit_at v n) (2 ^ n) (v % 2 ^ n)
    ∙ ap (λ p. high * p + (bit_at v n * 2 ^ n + v % 2 ^ n)) (sym (pow_more n))
    ∙ ap (λ k. high * 2 ^ suc n + k) (sym low)
  where
    regroup : (a b p r : ℕ) → (2 * a + b) * p + r ≡ a * (2 * p) + (b * p + r)
    regroup a b p r = omega arith

pub number_of-bits_of : (n v : ℕ) → v < 2 ^ n → number_of (bits_of n v) ≡ v
number_of-bits_of n v h = number_after-bits_of n 0 v ∙ omega (arith, mod-eq_of_lt h)

digit_lt : (b : Bool) → digit b < 2
digit_lt true = omega arith
digit_lt false = omega arith

number_after-split : (bits : List Bool) (high : ℕ) → number_after high bits ≡ high * 2 ^ length bits + number_of bits
unfolding number_after
number_after-split [] high = omega arith
number_after-split (b ∷ bits) high =
    let p = 2 ^ length bits in
    let left = number_after-split bits (2 * high + digit b) in
    let right = number_after-split bits (2 * 0 + digit b) in
    let power : 2 ^ suc (length bits) ≡ 2 * p = pow_more (length bits) in
    left ∙ regroup high (digit b) p (number_of bits)
    ∙ ap (λ k. high * k + ((2 * 0 + digit b) * p + number_of bits)) (sym power)
    ∙ ap (λ k. high * 2 ^ suc (length bits) + k) (sym right)
  where
    regroup : (a d p r : ℕ) → (2 * a + d) * p + r ≡ a * (2 * p) + ((2 * 0 + d) * p + r)
    regroup a d p r = omega arith

pub number_of-lt : (bits : List Bool) → number_of bits < 2 ^ length bits
unfolding number_after
number_of-lt [] = omega arith
number_of-lt (b ∷ bits) =
    let split = number_after-split bits (2 * 0 + digit b) in
    let rest = number_of-lt bits in
    let power : 2 ^ suc (length bits) ≡ 2 * 2 ^ length bits = pow_more (length bits) in
    below (digit b) (2 ^ length bits) (number_of bits) _ _ (digit_lt b) rest split power
  where
    below : (d p r x y : ℕ) → d < 2 → r < p → x ≡ (2 * 0 + d) * p + r → y ≡ 2 * p → x < y
    below zero p r x y h l e f = omega arith
    below (suc zero) p r x y h l e f = omega arith
    below (suc (suc d)) p r x y h l e f = absurd (omega arith)

bit_of_digit : (high : ℕ) (b : Bool) → eqb ((2 * high + digit b) % 2) 1 ≡ b
bit_of_digit high true = let e : (2 * high + 1) % 2 ≡ 1 = omega arith in ap (λ k. eqb k 1) e
bit_of_digit high false = let e : (2 * high + 0) % 2 ≡ 0 = omega arith in ap (λ k. eqb k 1) e

-- the bits of the number that the bits make are these bits
bits_of-number_after : (bits : List Bool) (high : ℕ) → bits_of (length bits) (number_after high bits) ≡ bits
unfolding number_after bits_of
bits_of-number_after [] high = refl
bits_of-number_after (b ∷ bits) high =
    let n = length bits in
    let next = 2 * high + digit b in
    let split = number_after-split bits next in
    let start : n - n ≡ 0 = omega arith in
    let top : has_bit (number_after next bits) n ≡ b =
    ap (λ x. has_bit x n) split
    ∙ ap (λ k. eqb k 1) (bit_at_cat_high next n (number_of bits) n (number_of-lt bits) (omega arith) ∙ ap (bit_at next) start ∙ bit_at_lowest next)
    ∙ bit_of_digit high b in
    ap (λ x. x ∷ bits_of n (number_after next bits)) top ∙ ap (λ xs. b ∷ xs) (bits_of-number_after bits next)

pub bits_of-number_of : (bits : List Bool) → bits_of (length bits) (number_of bits) ≡ bits
bits_of-number_of bits = bits_of-number_after bits 0

-- ---- the values of a test at n indices, from `place` on

unfoldable pub answers : (ℕ → Bool) → ℕ → ℕ → List Bool
answers f place zero = []
answers f place (suc n) = f place ∷ answers f (suc place) n

pub length-answers : (f : ℕ → Bool) (a n : ℕ) → length (answers f a n) ≡ n
unfolding answers
length-answers f a zero = refl
length-answers f a (suc n) = ap suc (length-answers f (suc a) n)

pub answers-same : (f g : ℕ → Bool) (a n : ℕ) → ((m : ℕ) → a ≤ m → m < a + n → f m ≡ g m) → answers f a n ≡ answers g a n
unfolding answers
answers-same f g a zero h = refl
answers-same f g a (suc n) h =
    ap (λ b. b ∷ answers f (suc a) n) (h a (omega arith) (omega arith))
    ∙ ap (λ xs. g a ∷ xs) (answers-same f g (suc a) n (λ m l u. h m (omega arith) (omega arith)))

pub answers-split : (f : ℕ → Bool) (a i j : ℕ) → answers f a (i + j) ≡ answers f a i ++ answers f (a + i) j
unfolding answers
answers-split f a zero j =
    let none : zero + j ≡ j = omega arith in
    let here : a ≡ a + zero = omega arith in
    ap (answers f a) none ∙ ap (λ x. answers f x j) here
answers-split f a (suc i) j =
    let order : suc i + j ≡ suc (i + j) = omega arith in
    let there : suc a + i ≡ a + suc i = omega arith in
    ap (answers f a) order ∙ ap (λ xs. f a ∷ xs) (answers-split f (suc a) i j)
    ∙ ap (λ x. f a ∷ (answers f (suc a) i ++ answers f x j)) there

pub answers-shift : (f : ℕ → Bool) (k a n : ℕ) → answers f (k + a) n ≡ answers (λ m. f (k + m)) a n
unfolding answers
answers-shift f k a zero = refl
answers-shift f k a (suc n) =
    let next : suc (k + a) ≡ k + suc a = omega arith in
    ap (λ x. f (k + a) ∷ answers f x n) next ∙ ap (λ xs. f (k + a) ∷ xs) (answers-shift f k (suc a) n)

pub answers-false : (f : ℕ → Bool) (a n : ℕ) → ((m : ℕ) → a ≤ m → f m ≡ false) → answers f a n ≡ replicate n false
unfolding answers
answers-false f a zero h = refl
answers-false f a (suc n) h =
    ap (λ b. b ∷ answers f (suc a) n) (h a (omega arith)) ∙ ap (λ xs. false ∷ xs) (answers-false f (suc a) n (λ m l. h m (omega arith)))

-- the bits of a value, with indices from a on
pub answers-bits_of : (n a v : ℕ) → bits_of n v ≡ answers (λ m. has_bit v (a + n - 1 - m)) a n
unfolding answers bits_of
answers-bits_of zero a v = refl
answers-bits_of (suc n) a v =
    let first : n ≡ a + suc n - 1 - a = omega arith in
    ap (λ k. has_bit v k ∷ bits_of n v) first
    ∙ ap (λ xs. has_bit v (a + suc n - 1 - a) ∷ xs) (answers-bits_of n (suc a) v
    ∙ answers-same (λ m. has_bit v (suc a + n - 1 - m)) (λ m. has_bit v (a + suc n - 1 - m)) (suc a) n (λ m l u.
    let same : suc a + n - 1 - m ≡ a + suc n - 1 - m = omega arith in
    ap (has_bit v) same))

-- the bits of bytes are the bits with the indices from 0 on
pub bits_of_bytes-answers : (bytes : List ℕ) → bits_of_bytes bytes ≡ answers (bit_in bytes) 0 (8 * length bytes)
unfolding bits_of_bytes bit_in answers
bits_of_bytes-answers [] = refl
bits_of_bytes-answers (b ∷ bytes) =
    let all : 8 + 8 * length bytes ≡ 8 * suc (length bytes) = omega arith in
    ap (λ xs. xs ++ bits_of_bytes bytes) (answers-bits_of 8 0 b ∙ answers-same (λ m. has_bit b (0 + 8 - 1 - m)) (bit_in (b ∷ bytes)) 0 8 (λ m l u.
    let byte : 0 ≡ m / 8 = omega arith in
    let place : 0 + 8 - 1 - m ≡ 7 - m % 8 = omega arith in
    ap (has_bit b) place ∙ ap (λ k. has_bit (get_or (b ∷ bytes) k 0) (7 - m % 8)) byte))
    ∙ ap (λ xs. answers (bit_in (b ∷ bytes)) 0 8 ++ xs) (bits_of_bytes-answers bytes
    ∙ answers-same (bit_in bytes) (λ m. bit_in (b ∷ bytes) (8 + m)) 0 (8 * length bytes) (λ m l u.
    let byte : suc (m / 8) ≡ (8 + m) / 8 = omega arith in
    let place : m % 8 ≡ (8 + m) % 8 = omega arith in
    ap (λ k. has_bit (get_or (b ∷ bytes) (suc (m / 8)) 0) (7 - k)) place
    ∙ ap (λ k. has_bit (get_or (b ∷ bytes) k 0) (7 - (8 + m) % 8)) byte)
    ∙ sym (answers-shift (bit_in (b ∷ bytes)) 8 0 (8 * length bytes)))
    ∙ sym (answers-split (bit_in (b ∷ bytes)) 0 8 (8 * length bytes)) ∙ ap (answers (bit_in (b ∷ bytes)) 0) all

-- ---- parts of a string

pub take-answers : (f : ℕ → Bool) (a n r : ℕ) → take n (answers f a (n + r)) ≡ answers f a n
take-answers f a n r =
    ap (take n) (answers-split f a n r) ∙ take_at (answers f a n) (answers f (a + n) r) n (length-answers f a n)

pub drop-answers : (f : ℕ → Bool) (a n r : ℕ) → drop n (answers f a (n + r)) ≡ answers f (a + n) r
drop-answers f a n r =
    ap (drop n) (answers-split f a n r) ∙ drop_at (answers f a n) (answers f (a + n) r) n (length-answers f a n)

pub take-bits_of_bytes : (bytes : List ℕ) (n : ℕ) → n ≤ 8 * length bytes → take n (bits_of_bytes bytes) ≡ answers (bit_in bytes) 0 n
take-bits_of_bytes bytes n h =
    let parts : 8 * length bytes ≡ n + (8 * length bytes - n) = omega arith in
    ap (take n) (bits_of_bytes-answers bytes ∙ ap (answers (bit_in bytes) 0) parts)
    ∙ take-answers (bit_in bytes) 0 n (8 * length bytes - n)

pub drop-bits_of_bytes : (bytes : List ℕ) (n : ℕ) → n ≤ 8 * length bytes
    → drop n (bits_of_bytes bytes) ≡ answers (bit_in bytes) n (8 * length bytes - n)
drop-bits_of_bytes bytes n h =
    let parts : 8 * length bytes ≡ n + (8 * length bytes - n) = omega arith in
    let here : 0 + n ≡ n = omega arith in
    ap (drop n) (bits_of_bytes-answers bytes ∙ ap (answers (bit_in bytes) 0) parts)
    ∙ drop-answers (bit_in bytes) 0 n (8 * length bytes - n) ∙ ap (λ a. answers (bit_in bytes) a (8 * length bytes - n)) here

pub length-bits_of_bytes : (bytes : List ℕ) → length (bits_of_bytes bytes) ≡ 8 * length bytes
length-bits_of_bytes bytes = ap length (bits_of_bytes-answers bytes) ∙ length-answers (bit_in bytes) 0 (8 * length bytes)

pub length-bits_of : (n v : ℕ) → length (bits_of n v) ≡ n
unfolding bits_of
length-bits_of zero v = refl
length-bits_of (suc n) v = ap suc (length-bits_of n v)

pub bits_of_bytes-drop : (q : ℕ) (bytes : List ℕ) → bits_of_bytes (drop q bytes) ≡ drop (8 * q) (bits_of_bytes bytes)
unfolding bits_of_bytes
bits_of_bytes-drop zero bytes = refl
bits_of_bytes-drop (suc q) [] = sym (drop-nil (8 * suc q))
bits_of_bytes-drop (suc q) (b ∷ bytes) =
    let parts : length (bits_of 8 b) + 8 * q ≡ 8 * suc q = omega (arith, length-bits_of 8 b) in
    bits_of_bytes-drop q bytes ∙ sym (drop-append-add (bits_of 8 b) (bits_of_bytes bytes) (8 * q))
    ∙ ap (λ n. drop n (bits_of 8 b ++ bits_of_bytes bytes)) parts

-- ---- bytes and their bits

first_bytes-bits : (n : ℕ) (bits : List Bool) → length bits ≡ 8 * n → bits_of_bytes (first_bytes n bits) ≡ bits
unfolding bits_of_bytes first_bytes
first_bytes-bits zero [] e = refl
first_bytes-bits zero (b ∷ bits) e = absurd (omega arith)
first_bytes-bits (suc n) bits e =
    let long : length (take 8 bits) ≡ 8 = length-take-le 8 bits (omega arith) in
    let rest : length (drop 8 bits) ≡ 8 * n = omega (arith, length-drop 8 bits) in
    ap (λ k. bits_of k (number_of (take 8 bits)) ++ bits_of_bytes (first_bytes n (drop 8 bits))) (sym long)
    ∙ ap (λ xs. xs ++ bits_of_bytes (first_bytes n (drop 8 bits))) (bits_of-number_of (take 8 bits))
    ∙ ap (λ xs. take 8 bits ++ xs) (first_bytes-bits n (drop 8 bits) rest) ∙ take-append-drop 8 bits

length-filled_bits : (bits : List Bool) → length (filled_bits bits) ≡ length bits + (8 - length bits % 8) % 8
length-filled_bits bits =
    length-append bits (replicate ((8 - length bits % 8) % 8) false)
    ∙ ap (λ k. length bits + k) (length-replicate ((8 - length bits % 8) % 8) false)

pub bits_of_bytes-bytes_of : (bits : List Bool) → bits_of_bytes (bytes_of bits) ≡ filled_bits bits
unfolding bytes_of
bits_of_bytes-bytes_of bits =
    let long = length-filled_bits bits in
    let whole : length (filled_bits bits) ≡ 8 * (length (filled_bits bits) / 8) = omega (arith, long) in
    first_bytes-bits (length (filled_bits bits) / 8) (filled_bits bits) whole

first_bytes-bytes : (bytes : List ℕ) → ((k : ℕ) → get_or bytes k 0 < 256) → first_bytes (length bytes) (bits_of_bytes bytes) ≡ bytes
unfolding bits_of_bytes first_bytes
first_bytes-bytes [] fit = refl
first_bytes-bytes (b ∷ bytes) fit =
    let prefix = take_at (bits_of 8 b) (bits_of_bytes bytes) 8 (length-bits_of 8 b) in
    let back = drop_at (bits_of 8 b) (bits_of_bytes bytes) 8 (length-bits_of 8 b) in
    ap (λ xs. number_of xs ∷ first_bytes (length bytes) (drop 8 (bits_of 8 b ++ bits_of_bytes bytes))) prefix
    ∙ ap (λ xs. number_of (bits_of 8 b) ∷ first_bytes (length bytes) xs) back
    ∙ ap (λ k. k ∷ first_bytes (length bytes) (bits_of_bytes bytes)) (number_of-bits_of 8 b (fit 0))
    ∙ ap (λ xs. b ∷ xs) (first_bytes-bytes bytes (λ k. fit (suc k)))

fits_taken : (bytes : List ℕ) (c k : ℕ) → ((i : ℕ) → get_or bytes i 0 < 256) → get_or (take c bytes) k 0 < 256
fits_taken bytes c k fit = elim (cases_lt k c) [
  | inl within ↦ subst (λ (x : ℕ). x < 256) (sym (get_or-take c bytes k 0 within)) (fit k)
  | inr past ↦
      let none : get_or (take c bytes) k 0 ≡ 0 = get_or_past (take c bytes) k 0 (omega (arith, length-take c bytes)) in
      omega (arith, none)
]

-- the bytes of a string that is held in forty bytes are the first of these
pub bytes_of-held : (bytes : List ℕ) (len : ℕ) → HoldBits bytes len
    → bytes_of (take len (bits_of_bytes bytes)) ≡ take ((len + 7) / 8) bytes
unfolding bytes_of bit_in
bytes_of-held bytes len h =
    let c = (len + 7) / 8 in
    let head = take c bytes in
    let string = take len (bits_of_bytes bytes) in
    let long : length head ≡ c = length-take-le c bytes (omega (arith, h.forty, h.within)) in
    let view : string ≡ answers (bit_in bytes) 0 len = take-bits_of_bytes bytes len (omega (arith, h.forty, h.within)) in
    let string_long : length string ≡ len = ap length view ∙ length-answers (bit_in bytes) 0 len in
    let gap : (8 - length string % 8) % 8 ≡ 8 * c - len = omega (arith, string_long) in
    let parts : 8 * c ≡ len + (8 * c - len) = omega arith in
    let start : 0 + len ≡ len = omega arith in
    let whole : bits_of_bytes head ≡ filled_bits string =
    bits_of_bytes-answers head ∙ ap (λ k. answers (bit_in head) 0 (8 * k)) long
    ∙ answers-same (bit_in head) (bit_in bytes) 0 (8 * c) (λ m l u. ap (λ b. has_bit b (7 - m % 8)) (get_or-take c bytes (m / 8) 0 (omega arith)))
    ∙ ap (answers (bit_in bytes) 0) parts ∙ answers-split (bit_in bytes) 0 len (8 * c - len)
    ∙ ap (λ xs. xs ++ answers (bit_in bytes) (0 + len) (8 * c - len)) (sym view)
    ∙ ap (λ xs. string ++ xs) (ap (λ a. answers (bit_in bytes) a (8 * c - len)) start ∙ answers-false (bit_in bytes) len (8 * c - len) h.clear)
    ∙ ap (λ k. string ++ replicate k false) (sym gap) in
    let count : length (filled_bits string) / 8 ≡ length head =
    let all : length (filled_bits string) ≡ 8 * length head = ap length (sym whole) ∙ length-bits_of_bytes head in omega (arith, all) in
    ap (λ xs. first_bytes (length (filled_bits string) / 8) xs) (sym whole) ∙ ap (λ k. first_bytes k (bits_of_bytes head)) count
    ∙ first_bytes-bytes head (λ k. fits_taken bytes c k h.fit)
