-- Lemmas on the words that hold a set.
use Rattle.std.proofs.Common.{◌≡◌, ℕ, zero, suc, ◌+◌, ◌-◌, ◌*◌, ◌/◌, ◌%◌, ◌^◌, ◌<◌, ◌≤◌, Bool, true, false, cond, eqb, ltb, ◌||◌, List, [], ◌∷◌, ◌++◌, length, get_or, set, refl, ap, arith, subst, sym, ◌∙◌, bit_and, bit_or, count_ones, count_by, Some, inl, inr, min, max, length-set, get_or-set_other, add-zero, append-nil, mod-lt, slice_get}
use Rattle.std.specs.Int.{bit_at, w64, trailing_zeros}
use Rattle.std.specs.List.{list_any, range_with_len}
use Rattle.std.proofs.lemmas.Grind.{get_or-set_at}
use Rattle.std.proofs.lemmas.Bool.Decides.{nat_tests}
use Rattle.std.proofs.lemmas.Bool.{cases_lt, cases_eq, lt-ltb, le-ltb, ne_eqb, or_left, or_right, or_from}
use Rattle.std.proofs.lemmas.List.Folds.{list_any-append}
use Rattle.std.proofs.lemmas.Nat.{or_lt, and_le_l, and_mask, mod-pow-add, pow_pos}
use Rattle.std.proofs.lemmas.Nat.Bits.{shr_and_one, bit_at_set_same, bit_at_set_other, bit_at-zero, bit_at-lt, bit_at_or, bit_at_and, bit_at-trailing_zeros, bit_at_ones, bit_at_ones_above}
use Rattle.acl_bits.specs.Row.{row_of, is_member, is_set, members_of, AreWords, words_of}
use Rattle.acl_bits.specs.inside.RowLaws.{numbers_below, range_with_len-more, row_of-numbers_below, row_of-same, is_member-row_of, is_member-row_of_past}
use Rattle.acl_bits.specs.inside.RowWords.{is_set_at, words_of-members}
use Rattle.acl_bits.proofs.Members.{length-numbers_below, count_by-numbers_below, count_by-numbers_below_all, slice_get-numbers_below}
use lib.Count.{ones_cat, ones-ones}
use Rattle.std.specs.Cmp.Lexicographic.{pointwise, bytes_decides}
use Rattle.std.specs.Bool.{one_answer}

-- ---- `has`

pub has_within : (words : List ℕ) (n : ℕ) → n < 256
    → eqb (bit_and (get_or words (n / 64) 0 / 2 ^ (n % 64)) 1) 1 ≡ is_member (members_of words) n
unfolding is_set
has_within words n h =
    ap (λ x. eqb x 1) (shr_and_one (get_or words (n / 64) 0) (n % 64)) ∙ sym (is_member-row_of (is_set words) n h)

pub has_past : (words : List ℕ) (n : ℕ) → 256 ≤ n → ltb n 256 ≡ is_member (members_of words) n
has_past words n h =
    let past : ltb n 256 ≡ false = grind (arith, nat_tests) in
    past ∙ sym (is_member-row_of_past (is_set words) n h)

-- ---- `none`

abbrev zeros : List ℕ
zeros = 0 ∷ 0 ∷ 0 ∷ 0 ∷ []

zeros_at : (k : ℕ) → get_or zeros k 0 ≡ 0
zeros_at zero = refl
zeros_at (suc zero) = refl
zeros_at (suc (suc zero)) = refl
zeros_at (suc (suc (suc zero))) = refl
zeros_at (suc (suc (suc (suc k)))) = refl

numbers_below_none : (n : ℕ) → numbers_below (λ _. false) n ≡ []
unfolding numbers_below
numbers_below_none zero = refl
numbers_below_none (suc n) = ap (λ xs. xs ++ []) (numbers_below_none n)

pub members_of-zeros : members_of (0 ∷ 0 ∷ 0 ∷ 0 ∷ []) ≡ []
unfolding is_set
members_of-zeros =
    row_of-same (is_set (0 ∷ 0 ∷ 0 ∷ 0 ∷ [])) (λ _. false) (λ n h.
    ap (λ w. eqb (bit_at w (n % 64)) 1) (zeros_at (n / 64)) ∙ ap (λ b. eqb b 1) (bit_at-zero (n % 64)))
    ∙ row_of-numbers_below (λ _. false) ∙ numbers_below_none 256

-- ---- `put`

-- the word after `|= 1 << (n % 64)`
abbrev pub word_after : List ℕ → ℕ → ℕ
word_after words n = bit_or (get_or words (n / 64) 0) (1 * 2 ^ (n % 64) % 2 ^ 64)

-- another number of the same word, and the number itself
put_beside : (old n m : ℕ) → m / 64 ≡ n / 64
    → eqb (bit_at (bit_or old (1 * 2 ^ (n % 64) % 2 ^ 64)) (m % 64)) 1 ≡ (eqb m n || eqb (bit_at old (m % 64)) 1)
put_beside old n m same = elim (cases_eq (m % 64) (n % 64)) [
  | inl here ↦
      let equal : m ≡ n = omega arith in
      let yes : eqb m n ≡ true = grind (arith, nat_tests) in
      ap (λ i. eqb (bit_at (bit_or old (1 * 2 ^ (n % 64) % 2 ^ 64)) i) 1) here
      ∙ ap (λ b. eqb b 1) (bit_at_set_same w64 old (n % 64) (omega arith))
      ∙ sym (ap (λ b. b || eqb (bit_at old (m % 64)) 1) yes)
  | inr elsewhere ↦
      let apart : m ≡ n → ⊥ = λ e. elsewhere (ap (λ x. x % 64) e) in
      let no : eqb m n ≡ false = ne_eqb m n apart in
      ap (λ b. eqb b 1) (bit_at_set_other w64 old (n % 64) (omega arith) (m % 64) elsewhere)
      ∙ sym (ap (λ b. b || eqb (bit_at old (m % 64)) 1) no)
]

-- the number itself, and another number of any word
pub put_at : (words : List ℕ) (n m : ℕ) → n / 64 < length words
    → is_set (set words (n / 64) (word_after words n)) m ≡ (eqb m n || is_set words m)
unfolding is_set
put_at words n m within = elim (cases_eq (m / 64) (n / 64)) [
  | inl same ↦
      ap (λ w. eqb (bit_at w (m % 64)) 1) (get_or-set_at words (n / 64) (m / 64) (word_after words n) 0 same within)
      ∙ put_beside (get_or words (n / 64) 0) n m same
      ∙ ap (λ k. eqb m n || eqb (bit_at (get_or words k 0) (m % 64)) 1) (sym same)
  | inr other ↦
      let no : eqb m n ≡ false = ne_eqb m n (λ e. other (ap (λ x. x / 64) e)) in
      ap (λ w. eqb (bit_at w (m % 64)) 1) (get_or-set_other words (n / 64) (m / 64) (word_after words n) 0 other)
      ∙ sym (ap (λ b. b || eqb (bit_at (get_or words (m / 64) 0) (m % 64)) 1) no)
]

pub members_of-put : (words : List ℕ) (n : ℕ) → length words ≡ 4 → n < 256
    → members_of (set words (n / 64) (word_after words n)) ≡ row_of (λ m. eqb m n || is_member (members_of words) m)
members_of-put words n four h =
    row_of-same (is_set (set words (n / 64) (word_after words n))) (λ m. eqb m n || is_member (members_of words) m)
    (λ m l. put_at words n m (omega arith) ∙ ap (λ b. eqb m n || b) (sym (is_member-row_of (is_set words) m l)))

-- one word of the four written
pub AreWords-set : (words : List ℕ) (k w : ℕ) → AreWords words → k < 4 → w < 2 ^ 64 → AreWords (set words k w)
AreWords-set words k w h within fits = record {
  four = length-set words k w ∙ h.four;
  fit = λ i. elim (cases_eq i k) [
    | inl same ↦ subst (λ (x : ℕ). x < 2 ^ 64) (sym (get_or-set_at words k i w 0 same (omega (arith, h.four)))) fits
    | inr other ↦ subst (λ (x : ℕ). x < 2 ^ 64) (sym (get_or-set_other words k i w 0 other)) (h.fit i)
  ];
}

pub AreWords-or : (words : List ℕ) (k w : ℕ) → AreWords words → k < 4 → w < 2 ^ 64 → AreWords (set words k (bit_or (get_or words k 0) w))
AreWords-or words k w h within fits = AreWords-set words k (bit_or (get_or words k 0) w) h within (or_lt 64 (get_or words k 0) w (h.fit k) fits)

-- ---- `join`

or_digits : (x y : ℕ) → x < 2 → y < 2 → eqb (max x y) 1 ≡ (eqb x 1 || eqb y 1)
or_digits x y h l = grind (arith, nat_tests)

pub members_of-or : (new a b : List ℕ) → ((k : ℕ) → k < 4 → get_or new k 0 ≡ bit_or (get_or a k 0) (get_or b k 0))
    → members_of new ≡ row_of (λ m. is_member (members_of a) m || is_member (members_of b) m)
unfolding is_set
members_of-or new a b h =
    row_of-same (is_set new) (λ m. is_member (members_of a) m || is_member (members_of b) m) (λ m l.
    ap (λ w. eqb (bit_at w (m % 64)) 1) (h (m / 64) (omega arith))
    ∙ ap (λ x. eqb x 1) (bit_at_or (get_or a (m / 64) 0) (get_or b (m / 64) 0) (m % 64))
    ∙ or_digits (bit_at (get_or a (m / 64) 0) (m % 64)) (bit_at (get_or b (m / 64) 0) (m % 64)) (bit_at-lt (get_or a (m / 64) 0) (m % 64)) (bit_at-lt (get_or b (m / 64) 0) (m % 64))
    ∙ ap (λ x. x || is_set b m) (sym (is_member-row_of (is_set a) m l))
    ∙ ap (λ x. is_member (members_of a) m || x) (sym (is_member-row_of (is_set b) m l)))

-- ---- `meets`

list_any-numbers_below_at : (p q : ℕ → Bool) (n k : ℕ) → k < n → p k ≡ true → q k ≡ true → list_any q (numbers_below p n) ≡ true
unfolding numbers_below
list_any-numbers_below_at p q zero k h a b = absurd (omega arith)
list_any-numbers_below_at p q (suc n) k h a b =
    list_any-append q (numbers_below p n) (cond (p n) (n ∷ []) []) ∙ elim (cases_lt k n) [
      | inl before ↦ or_left (list_any q (numbers_below p n)) (list_any q (cond (p n) (n ∷ []) [])) (list_any-numbers_below_at p q n k before a b)
      | inr past ↦
          let here : k ≡ n = omega arith in
          or_right (list_any q (numbers_below p n)) (list_any q (cond (p n) (n ∷ []) []))
          (subst (λ (x : ℕ). list_any q (cond (p x) (x ∷ []) []) ≡ true) here
          (ap (λ c. list_any q (cond c (k ∷ []) [])) a ∙ or_left (q k) false b))
    ]

list_any-numbers_below_none : (p q : ℕ → Bool) (n : ℕ) → ((k : ℕ) → k < n → p k ≡ true → q k ≡ false) → list_any q (numbers_below p n) ≡ false
unfolding numbers_below
list_any-numbers_below_none p q zero h = refl
list_any-numbers_below_none p q (suc n) h =
    list_any-append q (numbers_below p n) (cond (p n) (n ∷ []) [])
    ∙ or_from (list_any q (numbers_below p n)) (list_any q (cond (p n) (n ∷ []) []))
    (list_any-numbers_below_none p q n (λ k l. h k (omega arith))) (one (p n) refl)
  where
    one : (b : Bool) → p n ≡ b → list_any q (cond b (n ∷ []) []) ≡ false
    one true e = or_from (q n) false (h n (omega arith) e) refl
    one false e = refl

both_digits : (x y : ℕ) → x < 2 → y < 2 → min x y ≡ 1 → (x ≡ 1) × (y ≡ 1)
both_digits x y h l e = (omega arith, omega arith)

-- a word in which both have a bit gives a common member
pub meets_some : (a b : List ℕ) (i : ℕ) → AreWords a → i < 4 → (bit_and (get_or a i 0) (get_or b i 0) ≡ 0 → ⊥)
    → list_any (is_member (members_of b)) (members_of a) ≡ true
meets_some a b i words h common =
    let x = get_or a i 0 in
    let y = get_or b i 0 in
    let both = bit_and x y in
    let positive : 0 < both = omega (arith, common) in
    let fits : both < 2 ^ 64 = omega (arith, and_le_l x y, words.fit i) in
    let lowest = bit_at-trailing_zeros w64 both positive fits in
    let place = trailing_zeros w64 both in
    let within : place < 64 = lowest.0 in
    let digits = both_digits (bit_at x place) (bit_at y place) (bit_at-lt x place) (bit_at-lt y place) (sym (bit_at_and x y place) ∙ lowest.1) in
    let numbers_below_all : 64 * i + place < 256 = omega arith in
    let first : is_set a (64 * i + place) ≡ true = is_set_at a i place within ∙ ap (λ d. eqb d 1) digits.0 in
    let second : is_set b (64 * i + place) ≡ true = is_set_at b i place within ∙ ap (λ d. eqb d 1) digits.1 in
    ap (list_any (is_member (members_of b))) (row_of-numbers_below (is_set a))
    ∙ list_any-numbers_below_at (is_set a) (is_member (members_of b)) 256 (64 * i + place) numbers_below_all first
    (is_member-row_of (is_set b) (64 * i + place) numbers_below_all ∙ second)

apart_digits : (x y : ℕ) → x < 2 → y < 2 → min x y ≡ 0 → eqb x 1 ≡ true → eqb y 1 ≡ false
apart_digits x y h l e t = grind (arith, nat_tests)

pub meets_none : (a b : List ℕ) → ((i : ℕ) → i < 4 → bit_and (get_or a i 0) (get_or b i 0) ≡ 0)
    → list_any (is_member (members_of b)) (members_of a) ≡ false
unfolding is_set
meets_none a b none =
    ap (list_any (is_member (members_of b))) (row_of-numbers_below (is_set a))
    ∙ list_any-numbers_below_none (is_set a) (is_member (members_of b)) 256 (λ n l t.
    is_member-row_of (is_set b) n l
    ∙ apart_digits (bit_at (get_or a (n / 64) 0) (n % 64)) (bit_at (get_or b (n / 64) 0) (n % 64))
    (bit_at-lt (get_or a (n / 64) 0) (n % 64)) (bit_at-lt (get_or b (n / 64) 0) (n % 64))
    (sym (bit_at_and (get_or a (n / 64) 0) (get_or b (n / 64) 0) (n % 64))
    ∙ ap (λ w. bit_at w (n % 64)) (none (n / 64) (omega arith)) ∙ bit_at-zero (n % 64)) t)

-- ---- `ones_before`

ones_of_digit : (b : ℕ) → b < 2 → count_ones b ≡ b
ones_of_digit zero h = ones-ones 0
ones_of_digit (suc zero) h = ones-ones 1
ones_of_digit (suc (suc b)) h = absurd (omega arith)

-- one more bit of a word
count_ones-step : (w j : ℕ) → count_ones (w % 2 ^ suc j) ≡ bit_at w j + count_ones (w % 2 ^ j)
count_ones-step w j =
    let order : suc j ≡ 1 + j = omega arith in
    let small : w % 2 ^ j < 2 ^ j = mod-lt w (pow_pos j) in
    ap (λ k. count_ones (w % 2 ^ k)) order ∙ ap count_ones (mod-pow-add w 1 j)
    ∙ ones_cat j (bit_at w j) (w % 2 ^ j) small
    ∙ ap (λ k. k + count_ones (w % 2 ^ j)) (ones_of_digit (bit_at w j) (bit_at-lt w j))

digit_as_number : (b : ℕ) → b < 2 → cond (eqb b 1) 1 0 ≡ b
digit_as_number b h = grind (arith, nat_tests)

-- the members among the first bits of word i
pub length-word : (words : List ℕ) (i j : ℕ) → j ≤ 64
    → length (numbers_below (is_set words) (64 * i + j)) ≡ length (numbers_below (is_set words) (64 * i)) + count_ones (get_or words i 0 % 2 ^ j)
length-word words i zero h =
    let w = get_or words i 0 in
    let same : 64 * i + 0 ≡ 64 * i = omega arith in
    let nothing : w % 2 ^ 0 ≡ 0 = omega arith in
    ap (λ n. length (numbers_below (is_set words) n)) same
    ∙ sym (ap (λ k. length (numbers_below (is_set words) (64 * i)) + k) (ap count_ones nothing ∙ ones-ones 0) ∙ add-zero (length (numbers_below (is_set words) (64 * i))))
length-word words i (suc j) h =
    let w = get_or words i 0 in
    let next : 64 * i + suc j ≡ suc (64 * i + j) = omega arith in
    let before = length (numbers_below (is_set words) (64 * i)) in
    let step = count_ones-step w j in
    let rest = length-word words i j (omega arith) in
    let digit : cond (is_set words (64 * i + j)) 1 0 ≡ bit_at w j =
    ap (λ b. cond b 1 0) (is_set_at words i j (omega arith)) ∙ digit_as_number (bit_at w j) (bit_at-lt w j) in
    let more = length-numbers_below (is_set words) (64 * i + j) in
    ap (λ n. length (numbers_below (is_set words) n)) next ∙ omega (arith, step, rest, digit, more)

pub length-numbers_below_le : (p : ℕ → Bool) (n : ℕ) → length (numbers_below p n) ≤ n
unfolding numbers_below
length-numbers_below_le p zero = omega arith
length-numbers_below_le p (suc n) =
    let more = length-numbers_below p n in
    let rest = length-numbers_below_le p n in
    let one : cond (p n) 1 0 ≤ 1 = at_most_one (p n) in
    omega (arith, more, rest, one)
  where
    at_most_one : (b : Bool) → cond b 1 0 ≤ 1
    at_most_one true = omega arith
    at_most_one false = omega arith

-- a whole word
pub length-whole_word : (words : List ℕ) (i ones : ℕ) → get_or words i 0 < 2 ^ 64 → ones ≡ length (numbers_below (is_set words) (64 * i))
    → ones + count_ones (get_or words i 0) ≡ length (numbers_below (is_set words) (64 * (i + 1)))
length-whole_word words i ones fits e =
    let whole : get_or words i 0 % 2 ^ 64 ≡ get_or words i 0 = omega (arith, fits) in
    let next : 64 * (i + 1) ≡ 64 * i + 64 = omega arith in
    let all = length-word words i 64 (omega arith) in
    let last : count_ones (get_or words i 0 % 2 ^ 64) ≡ count_ones (get_or words i 0) = ap count_ones whole in
    let goal : length (numbers_below (is_set words) (64 * (i + 1))) ≡ length (numbers_below (is_set words) (64 * i + 64)) = ap (λ n. length (numbers_below (is_set words) n)) next in
    omega (arith, e, all, last, goal)

-- a part of the next word
pub length-part_word : (words : List ℕ) (n ones low i : ℕ) → i ≤ n / 64 → n / 64 ≤ i
    → ones ≡ length (numbers_below (is_set words) (64 * i)) → low ≡ 2 ^ min (n % 64) 64 - 1
    → ones + count_ones (bit_and (get_or words (n / 64) 0) low) ≡ length (numbers_below (is_set words) n)
length-part_word words n ones low i under over counted l =
    let here : i ≡ n / 64 = omega arith in
    let e : ones ≡ length (numbers_below (is_set words) (64 * (n / 64))) = counted ∙ ap (λ k. length (numbers_below (is_set words) (64 * k))) here in
    let w = get_or words (n / 64) 0 in
    let least : min (n % 64) 64 ≡ n % 64 = omega arith in
    let mask : bit_and w low ≡ w % 2 ^ (n % 64) = ap (bit_and w) (l ∙ ap (λ k. 2 ^ k - 1) least) ∙ and_mask w (n % 64) in
    let part = length-word words (n / 64) (n % 64) (omega arith) in
    let whole : 64 * (n / 64) + n % 64 ≡ n = omega arith in
    let last : count_ones (bit_and w low) ≡ count_ones (w % 2 ^ (n % 64)) = ap count_ones mask in
    let goal : length (numbers_below (is_set words) (64 * (n / 64) + n % 64)) ≡ length (numbers_below (is_set words) n) = ap (λ k. length (numbers_below (is_set words) k)) whole in
    omega (arith, e, part, last, goal)

-- ---- `count`, `rank` and `nth`

pub count_by-members : (words : List ℕ) (n : ℕ) → count_by (λ m. ltb m n) (members_of words) ≡ length (numbers_below (is_set words) (min n 256))
count_by-members words n =
    ap (count_by (λ m. ltb m n)) (row_of-numbers_below (is_set words)) ∙ elim (cases_lt n 256) [
      | inl less ↦
          let least : n ≡ min n 256 = omega arith in
          count_by-numbers_below (is_set words) 256 n (omega arith) ∙ ap (λ k. length (numbers_below (is_set words) k)) least
      | inr more ↦
          let least : 256 ≡ min n 256 = omega arith in
          count_by-numbers_below_all (is_set words) 256 n more ∙ ap (λ k. length (numbers_below (is_set words) k)) least
    ]

pub length-members : (words : List ℕ) → length (numbers_below (is_set words) 256) ≡ length (members_of words)
length-members words = ap length (sym (row_of-numbers_below (is_set words)))

-- how many members are below 0, and below 256
pub count_by-none : (xs : List ℕ) → row_of (is_member xs) ≡ xs → count_by (λ m. ltb m 0) xs ≡ 0
unfolding numbers_below
count_by-none xs whole =
    let e = sym (row_of-numbers_below (is_member xs)) ∙ whole in
    ap (count_by (λ m. ltb m 0)) (sym e) ∙ count_by-numbers_below (is_member xs) 256 0 (omega arith)

pub count_by-all : (xs : List ℕ) → row_of (is_member xs) ≡ xs → count_by (λ m. ltb m 256) xs ≡ length xs
count_by-all xs whole =
    let e = sym (row_of-numbers_below (is_member xs)) ∙ whole in
    ap (count_by (λ m. ltb m 256)) (sym e) ∙ count_by-numbers_below_all (is_member xs) 256 256 (omega arith) ∙ ap length e

found_here : (b : Bool) (i k : ℕ) → i ≤ k → k < i + cond b 1 0 → (b ≡ true) × (k ≡ i)
found_here true i k h l = (refl, omega arith)
found_here false i k h l = absurd (omega arith)

-- member k is the number with at most k members below it, and with more than k members below the next number
pub slice_get-found : (xs : List ℕ) (k low high : ℕ) → row_of (is_member xs) ≡ xs → low < high → high ≤ low + 1 → high ≤ 256
    → count_by (λ m. ltb m low) xs ≤ k → k < count_by (λ m. ltb m high) xs → slice_get xs k ≡ Some low
slice_get-found xs k low high whole below_high next top before after =
    let p = is_member xs in
    let e : numbers_below p 256 ≡ xs = sym (row_of-numbers_below p) ∙ whole in
    let follows : high ≡ suc low = omega arith in
    let at_low : count_by (λ m. ltb m low) xs ≡ length (numbers_below p low) =
    ap (count_by (λ m. ltb m low)) (sym e) ∙ count_by-numbers_below p 256 low (omega arith) in
    let at_high : count_by (λ m. ltb m high) xs ≡ length (numbers_below p low) + cond (p low) 1 0 =
    ap (count_by (λ m. ltb m high)) (sym e) ∙ count_by-numbers_below p 256 high top
    ∙ ap (λ n. length (numbers_below p n)) follows ∙ length-numbers_below p low in
    let found = found_here (p low) (length (numbers_below p low)) k (omega (arith, before, at_low)) (omega (arith, after, at_high)) in
    ap (λ xs. slice_get xs k) (sym e) ∙ ap (slice_get (numbers_below p 256)) found.1
    ∙ slice_get-numbers_below p 256 low (omega arith) found.0

-- ---- `full`

abbrev pub low_word : ℕ → ℕ
low_word n = 2 ^ min n 64 - 1

low_word_at : (n i : ℕ) → i < 64 → eqb (bit_at (low_word n) i) 1 ≡ ltb i n
low_word_at n i h = elim (cases_lt i n) [
  | inl less ↦
      let yes : ltb i n ≡ true = lt-ltb i n less in
      ap (λ b. eqb b 1) (bit_at_ones (min n 64) i (omega arith)) ∙ sym yes
  | inr more ↦
      let no : ltb i n ≡ false = le-ltb i n more in
      ap (λ b. eqb b 1) (bit_at_ones_above (min n 64) i (omega arith)) ∙ sym no
]

abbrev pub full_words : ℕ → List ℕ
full_words n = low_word n ∷ low_word (n - 64) ∷ low_word (n - 128) ∷ low_word (n - 192) ∷ []

full_word_at : (n k : ℕ) → k < 4 → get_or (full_words n) k 0 ≡ low_word (n - 64 * k)
full_word_at n zero h =
    let same : n ≡ n - 64 * 0 = omega arith in
    ap low_word same
full_word_at n (suc zero) h = refl
full_word_at n (suc (suc zero)) h = refl
full_word_at n (suc (suc (suc zero))) h = refl
full_word_at n (suc (suc (suc (suc k)))) h = absurd (omega arith)

full_at : (n m : ℕ) → m < 256 → is_set (full_words n) m ≡ ltb m n
unfolding is_set
full_at n m h =
    let moved : ltb (m % 64) (n - 64 * (m / 64)) ≡ ltb m n = grind (arith, nat_tests) in
    ap (λ w. eqb (bit_at w (m % 64)) 1) (full_word_at n (m / 64) (omega arith))
    ∙ low_word_at (n - 64 * (m / 64)) (m % 64) (omega arith) ∙ moved

below_whole : (c n : ℕ) → n ≤ c → numbers_below (λ m. ltb m c) n ≡ range_with_len 0 n
unfolding numbers_below
below_whole c zero h = refl
below_whole c (suc n) h =
    let last : 0 + n ≡ n = omega arith in
    ap (λ b. numbers_below (λ m. ltb m c) n ++ cond b (n ∷ []) []) (lt-ltb n c (omega arith))
    ∙ ap (λ xs. xs ++ n ∷ []) (below_whole c n (omega arith))
    ∙ sym (range_with_len-more 0 n ∙ ap (λ x. range_with_len 0 n ++ x ∷ []) last)

below_rest : (c n : ℕ) → c ≤ n → numbers_below (λ m. ltb m c) n ≡ range_with_len 0 c
unfolding numbers_below
below_rest c zero h =
    let same : zero ≡ c = omega arith in
    ap (range_with_len 0) same
below_rest c (suc n) h = elim (cases_lt n c) [
  | inl past ↦
      let same : suc n ≡ c = omega arith in
      below_whole c (suc n) (omega arith) ∙ ap (range_with_len 0) same
  | inr within ↦
      ap (λ b. numbers_below (λ m. ltb m c) n ++ cond b (n ∷ []) []) (le-ltb n c within)
      ∙ append-nil (numbers_below (λ m. ltb m c) n) ∙ below_rest c n within
]

pub members_of-full : (words : List ℕ) (n : ℕ) → n ≤ 256 → words ≡ full_words n → members_of words ≡ range_with_len 0 n
members_of-full words n h e =
    ap members_of e ∙ row_of-same (is_set (full_words n)) (λ m. ltb m n) (λ m l. full_at n m l)
    ∙ row_of-numbers_below (λ m. ltb m n) ∙ below_rest n 256 h

-- the bit that `put` adds fits a word
pub bit_fits : (n : ℕ) → 1 * 2 ^ (n % 64) % 2 ^ 64 < 2 ^ 64
bit_fits n = omega arith

pub full_words-from : (n a b c d : ℕ) → a ≡ low_word n → b ≡ low_word (n - 64) → c ≡ low_word (n - 128) → d ≡ low_word (n - 192)
    → a ∷ b ∷ c ∷ d ∷ [] ≡ full_words n
full_words-from n a b c d e f g h =
    ap (λ x. x ∷ b ∷ c ∷ d ∷ []) e ∙ ap (λ x. low_word n ∷ x ∷ c ∷ d ∷ []) f
    ∙ ap (λ x. low_word n ∷ low_word (n - 64) ∷ x ∷ d ∷ []) g
    ∙ ap (λ x. low_word n ∷ low_word (n - 64) ∷ low_word (n - 128) ∷ x ∷ []) h

-- ---- the loop of `join`

pub join_written : (words old other : List ℕ) (i : ℕ) → AreWords words → i < 4
    → ((k : ℕ) → k < i → get_or words k 0 ≡ bit_or (get_or old k 0) (get_or other k 0))
    → ((k : ℕ) → i ≤ k → get_or words k 0 ≡ get_or old k 0)
    → (k : ℕ) → k < i + 1 → get_or (set words i (bit_or (get_or words i 0) (get_or other i 0))) k 0 ≡ bit_or (get_or old k 0) (get_or other k 0)
join_written words old other i are h written kept k l = elim (cases_eq k i) [
  | inl here ↦
      get_or-set_at words i k (bit_or (get_or words i 0) (get_or other i 0)) 0 here (omega (arith, are.four))
      ∙ ap (λ w. bit_or w (get_or other i 0)) (kept i (omega arith)) ∙ ap (λ x. bit_or (get_or old x 0) (get_or other x 0)) (sym here)
  | inr elsewhere ↦
      get_or-set_other words i k (bit_or (get_or words i 0) (get_or other i 0)) 0 elsewhere
      ∙ written k (grind arith)
]

pub join_kept : (words old : List ℕ) (i w : ℕ) → ((k : ℕ) → i ≤ k → get_or words k 0 ≡ get_or old k 0)
    → (k : ℕ) → i + 1 ≤ k → get_or (set words i w) k 0 ≡ get_or old k 0
join_kept words old i w kept k l =
    let apart : k ≡ i → ⊥ = λ e. omega arith in
    get_or-set_other words i k w 0 apart ∙ kept k (omega arith)

-- ---- the last step of `ones_before`

pub length-no_part : (words : List ℕ) (n ones i : ℕ) → n ≤ 256 → 4 ≤ n / 64 → i ≤ n / 64 → n / 64 ≤ i
    → ones ≡ length (numbers_below (is_set words) (64 * i)) → ones ≡ length (numbers_below (is_set words) n)
length-no_part words n ones i h l under over e =
    let all : 64 * i ≡ n = omega arith in
    e ∙ ap (λ k. length (numbers_below (is_set words) k)) all

-- ---- `==`

pub same_members : (r : Bool) (a b xs ys : List ℕ) → AreWords a → AreWords b → members_of a ≡ xs → members_of b ≡ ys
    → r ≡ pointwise eqb a b → r ≡ pointwise eqb xs ys
same_members r a b xs ys first second at_a at_b e =
    e ∙ one_answer {P = a ≡ b} (pointwise eqb a b) (pointwise eqb xs ys) (bytes_decides a b) (
      λ t. let same : xs ≡ ys = (bytes_decides xs ys).0 t in
          sym (words_of-members a first) ∙ ap words_of (at_a ∙ same ∙ sym at_b) ∙ words_of-members b second,
      λ s. (bytes_decides xs ys).1 (sym at_a ∙ ap members_of s ∙ at_b),
    )
