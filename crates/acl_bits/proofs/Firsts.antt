-- Lemmas on the least number of a set, and on the set without it.
use Rattle.std.proofs.Common.{◌≡◌, ℕ, zero, suc, ◌+◌, ◌*◌, ◌/◌, ◌%◌, ◌^◌, ◌<◌, Bool, true, false, cond, eqb, List, [], ◌∷◌, ◌++◌, get_or, set, refl, ap, arith, subst, sym, ◌∙◌, bit_and, inl, inr, get_or-set_other}
use Rattle.std.specs.Int.{bit_at, bit_not, w64, trailing_zeros}
use Rattle.std.proofs.lemmas.Grind.{get_or-set_at}
use Rattle.std.proofs.lemmas.Bool.{cases_lt, cases_eq}
use Rattle.std.proofs.lemmas.Nat.{and_le_l}
use Rattle.std.proofs.lemmas.Nat.Bits.{bit_at-zero, bit_at-trailing_zeros, bit_at_clear_same, bit_at_clear_other}
use Rattle.acl_bits.specs.Row.{is_set, members_of, AreWords, IsFirst}
use Rattle.acl_bits.specs.inside.RowLaws.{numbers_below, row_of-numbers_below}
use Rattle.acl_bits.specs.inside.RowWords.{is_set_at}
use Rattle.acl_bits.proofs.Words.{AreWords-set}

-- ---- the first of the numbers that pass a test

-- where no number passes, the list is empty
numbers_below-none : (p : ℕ → Bool) (n : ℕ) → ((k : ℕ) → k < n → p k ≡ false) → numbers_below p n ≡ []
unfolding numbers_below
numbers_below-none p zero h = refl
numbers_below-none p (suc n) h =
    ap (λ xs. xs ++ cond (p n) (n ∷ []) []) (numbers_below-none p n (λ k l. h k (omega arith)))
    ∙ ap (λ b. cond b (n ∷ []) []) (h n (omega arith))

-- the list is the first number that passes, followed by the list of a test that leaves out this number alone
numbers_below-first : (p q : ℕ → Bool) (m n : ℕ) → m < n → p m ≡ true → ((k : ℕ) → k < m → p k ≡ false) → q m ≡ false
    → ((k : ℕ) → k < n → (k ≡ m → ⊥) → q k ≡ p k) → numbers_below p n ≡ m ∷ numbers_below q n
unfolding numbers_below
numbers_below-first p q m zero h passes none out same = absurd (omega arith)
numbers_below-first p q m (suc n) h passes none out same = elim (cases_lt m n) [
  | inl before ↦
      ap (λ xs. xs ++ cond (p n) (n ∷ []) []) (numbers_below-first p q m n before passes none out (λ k l apart. same k (omega arith) apart))
      ∙ ap (λ b. m ∷ (numbers_below q n ++ cond b (n ∷ []) [])) (sym (same n (omega arith) (λ e. absurd (omega arith))))
  | inr past ↦
      let here : m ≡ n = omega arith in
      let first : p n ≡ true = subst (λ (x : ℕ). p x ≡ true) here passes in
      let gone : q n ≡ false = subst (λ (x : ℕ). q x ≡ false) here out in
      ap (λ xs. xs ++ cond (p n) (n ∷ []) []) (numbers_below-none p n (λ k l. none k (omega arith)))
      ∙ ap (λ b. cond b (n ∷ []) []) first
      ∙ ap (λ x. x ∷ []) (sym here)
      ∙ sym (ap (λ b. m ∷ cond b (n ∷ []) []) gone)
      ∙ sym (ap (λ xs. m ∷ (xs ++ cond (q n) (n ∷ []) [])) (numbers_below-none q n (λ k l. same k (omega arith) (λ e. absurd (omega arith)) ∙ none k (omega arith))))
]

-- ---- the words

-- words that contain no number have no member
pub members_of-none : (words : List ℕ) → ((n : ℕ) → n < 256 → is_set words n ≡ false) → members_of words ≡ []
members_of-none words h = row_of-numbers_below (is_set words) ∙ numbers_below-none (is_set words) 256 h

-- words that are zero contain no number
pub is_set-zeros : (words : List ℕ) → ((k : ℕ) → k < 4 → get_or words k 0 ≡ 0) → (n : ℕ) → n < 256 → is_set words n ≡ false
unfolding is_set
is_set-zeros words h n l = ap (λ w. eqb (bit_at w (n % 64)) 1) (h (n / 64) (omega arith)) ∙ ap (λ b. eqb b 1) (bit_at-zero (n % 64))

-- the lowest bit of the first word that isn't zero is the least number
pub first_in_word : (words : List ℕ) (i : ℕ) → i < 4 → 0 < get_or words i 0 → get_or words i 0 < 2 ^ 64
    → ((k : ℕ) → k < i → get_or words k 0 ≡ 0) → IsFirst words (64 * i + trailing_zeros w64 (get_or words i 0))
unfolding is_set
first_in_word words i h some fits zeros =
    let lowest = bit_at-trailing_zeros w64 (get_or words i 0) some fits in
    let place : trailing_zeros w64 (get_or words i 0) < 64 = lowest.0 in record {
      within = omega (arith, place);
      has = is_set_at words i _ place ∙ ap (λ d. eqb d 1) lowest.1;
      none = λ k l. elim (cases_lt (k / 64) i) [
        | inl before ↦ ap (λ w. eqb (bit_at w (k % 64)) 1) (zeros (k / 64) before) ∙ ap (λ b. eqb b 1) (bit_at-zero (k % 64))
        | inr past ↦
            let same : k / 64 ≡ i = omega (arith, place, l, past) in
            ap (λ x. eqb (bit_at (get_or words x 0) (k % 64)) 1) same ∙ ap (λ b. eqb b 1) (lowest.2 (k % 64) (omega (arith, place, l, same)))
      ];
    }

-- the word after `&= !(1 << n % 64)`
abbrev pub word_without : List ℕ → ℕ → ℕ
word_without words n = bit_and (get_or words (n / 64) 0) (bit_not w64 (1 * 2 ^ (n % 64) % 2 ^ 64))

pub AreWords-without : (words : List ℕ) (n : ℕ) → AreWords words → n < 256 → AreWords (set words (n / 64) (word_without words n))
AreWords-without words n h l =
    AreWords-set words (n / 64) (word_without words n) h (omega arith)
    (omega (arith, and_le_l (get_or words (n / 64) 0) (bit_not w64 (1 * 2 ^ (n % 64) % 2 ^ 64)), h.fit (n / 64)))

-- the number is removed
without_same : (words : List ℕ) (n : ℕ) → AreWords words → n < 256 → is_set (set words (n / 64) (word_without words n)) n ≡ false
unfolding is_set
without_same words n h l =
    ap (λ w. eqb (bit_at w (n % 64)) 1) (get_or-set_at words (n / 64) (n / 64) (word_without words n) 0 refl (omega (arith, h.four)))
    ∙ ap (λ b. eqb b 1) (bit_at_clear_same w64 (get_or words (n / 64) 0) (n % 64) (omega arith))

-- and no other number is removed
without_other : (words : List ℕ) (n m : ℕ) → AreWords words → n < 256 → m < 256 → (m ≡ n → ⊥)
    → is_set (set words (n / 64) (word_without words n)) m ≡ is_set words m
unfolding is_set
without_other words n m h l k apart = elim (cases_eq (m / 64) (n / 64)) [
  | inl same ↦
      let elsewhere : m % 64 ≡ n % 64 → ⊥ = λ e. apart (omega arith) in
      ap (λ w. eqb (bit_at w (m % 64)) 1) (get_or-set_at words (n / 64) (m / 64) (word_without words n) 0 same (omega (arith, h.four)))
      ∙ ap (λ b. eqb b 1) (bit_at_clear_other w64 (get_or words (n / 64) 0) (n % 64) (omega arith) (m % 64) (omega arith) elsewhere)
      ∙ ap (λ x. eqb (bit_at (get_or words x 0) (m % 64)) 1) (sym same)
  | inr other ↦ ap (λ w. eqb (bit_at w (m % 64)) 1) (get_or-set_other words (n / 64) (m / 64) (word_without words n) 0 other)
]

-- the members are the least one, followed by the members of the words without it
pub members_of-first : (words : List ℕ) (n : ℕ) → AreWords words → IsFirst words n
    → members_of words ≡ n ∷ members_of (set words (n / 64) (word_without words n))
members_of-first words n h first =
    row_of-numbers_below (is_set words)
    ∙ numbers_below-first (is_set words) (is_set (set words (n / 64) (word_without words n))) n 256 first.within first.has first.none
    (without_same words n h first.within) (λ k l apart. without_other words n k h first.within l apart)
    ∙ ap (λ xs. n ∷ xs) (sym (row_of-numbers_below (is_set (set words (n / 64) (word_without words n)))))
