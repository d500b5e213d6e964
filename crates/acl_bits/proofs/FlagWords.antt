-- Lemmas on `rise`, word by word.
use Rattle.std.proofs.Common.{◌≡◌, ℕ, zero, suc, ◌+◌, ◌*◌, ◌/◌, ◌%◌, ◌^◌, ◌<◌, ◌≤◌, Bool, false, eqb, ◌&&◌, ◌||◌, List, length, get_or, set, refl, ap, arith, sym, ◌∙◌, bit_and, bit_or, min, inl, inr, length-set, get_or-set_other}
use Rattle.std.specs.Int.{bit_at}
use Rattle.std.proofs.lemmas.Grind.{get_or-set_at}
use Rattle.std.proofs.lemmas.Bool.Decides.{nat_tests}
use Rattle.std.proofs.lemmas.Bool.{cases_lt}
use Rattle.std.proofs.lemmas.Nat.Bits.{bit_at_lowest, bit_at-suc, bit_at-lt, bit_at_and, bit_at_above}
use Rattle.acl_bits.specs.FilledBits.{has_bit}
use Rattle.acl_bits.specs.Row.{is_set}
use Rattle.acl_bits.specs.inside.RowWords.{is_set_at}
use Rattle.acl_bits.specs.Flags.{rises, flag_before, AreRisen}
use Rattle.acl_bits.proofs.Windows.{has_bit-mod, or_bit, or_false}

-- ---- one word

-- a bit of the `and` of two words is 1 exactly where it is 1 in both
and_bit : (x y i : ℕ) → has_bit (bit_and x y) i ≡ (has_bit x i && has_bit y i)
and_bit x y i = ap (λ k. eqb k 1) (bit_at_and x y i) ∙ digits (bit_at x i) (bit_at y i) (bit_at-lt x i) (bit_at-lt y i)
  where
    digits : (a b : ℕ) → a < 2 → b < 2 → eqb (min a b) 1 ≡ (eqb a 1 && eqb b 1)
    digits a b h l = grind (arith, nat_tests)

-- the word shifted left by one with the carry as its lowest bit: each bit is the one before it
abbrev pub moved : ℕ → ℕ → ℕ
moved below carry = bit_or (below * 2 % 18446744073709551616) carry

lowest_even : (x : ℕ) → x * 2 % 18446744073709551616 % 2 ≡ 0
lowest_even x = omega arith

moved_bit : (below carry i : ℕ) → carry < 2 → i < 64 → has_bit (moved below carry) i ≡ flag_before (has_bit below) (eqb carry 1) i
moved_bit below carry zero small h =
    let low : carry % 2 ≡ carry = omega arith in
    or_bit (below * 2 % 18446744073709551616) carry 0
    ∙ ap (λ b. eqb b 1 || has_bit carry 0) (bit_at_lowest (below * 2 % 18446744073709551616) ∙ lowest_even below)
    ∙ ap (λ b. eqb b 1) (bit_at_lowest carry ∙ low)
moved_bit below carry (suc j) small h =
    let half : below * 2 / 2 ≡ below = omega arith in
    or_bit (below * 2 % 18446744073709551616) carry (suc j)
    ∙ ap (λ b. b || has_bit carry (suc j))
    (has_bit-mod (below * 2) 64 (suc j) h ∙ ap (λ b. eqb b 1) (bit_at-suc (below * 2) j ∙ ap (λ w. bit_at w j) half))
    ∙ or_false (has_bit below j) (has_bit carry (suc j)) (ap (λ b. eqb b 1) (bit_at_above carry 1 (suc j) small (omega arith)))

-- each bit of the updated word
pub risen_word_bit : (own tests deep below carry i : ℕ) → carry < 2 → i < 64
    → has_bit (bit_or own (bit_or (bit_and tests (moved below carry)) (bit_and deep below))) i
    ≡ rises (has_bit own i) (has_bit tests i) (flag_before (has_bit below) (eqb carry 1) i) (has_bit deep i) (has_bit below i)
risen_word_bit own tests deep below carry i small h =
    or_bit own (bit_or (bit_and tests (moved below carry)) (bit_and deep below)) i
    ∙ ap (λ b. has_bit own i || b)
    (or_bit (bit_and tests (moved below carry)) (bit_and deep below) i
    ∙ ap (λ b. b || has_bit (bit_and deep below) i)
    (and_bit tests (moved below carry) i ∙ ap (λ b. has_bit tests i && b) (moved_bit below carry i small h))
    ∙ ap (λ b. (has_bit tests i && flag_before (has_bit below) (eqb carry 1) i) || b) (and_bit deep below i))

-- ---- all words

-- the words before i are updated, the others are unchanged, and the carry is the child's flag before word i
pub record RisenUpTo (old new tests deep below : List ℕ) (i carry : ℕ) : Type 0 where
  pub long : length new ≡ length old
  pub done : (n : ℕ) → n < 64 * i
      → is_set new n
      ≡ rises (is_set old n) (is_set tests n) (flag_before (is_set below) false n) (is_set deep n) (is_set below n)
  pub rest : (k : ℕ) → i ≤ k → get_or new k 0 ≡ get_or old k 0
  pub small : carry < 2
  pub before : eqb carry 1 ≡ flag_before (is_set below) false (64 * i)

pub RisenUpTo-none : (old tests deep below : List ℕ) → RisenUpTo old old tests deep below 0 0
RisenUpTo-none old tests deep below = record {
  long = refl;
  done = λ n h. absurd (omega arith);
  rest = λ k h. refl;
  small = omega arith;
  before = refl;
}

-- a bit of word i is a flag of the list
word_bit : (words : List ℕ) (n i : ℕ) → n / 64 ≡ i → has_bit (get_or words i 0) (n % 64) ≡ is_set words n
unfolding is_set
word_bit words n i e = ap (λ k. has_bit (get_or words k 0) (n % 64)) (sym e)

-- the bit before a bit of word i, or the carry before its lowest bit, is the flag before that bit
word_before : (below : List ℕ) (i carry j : ℕ) → j < 64 → eqb carry 1 ≡ flag_before (is_set below) false (64 * i)
    → flag_before (has_bit (get_or below i 0)) (eqb carry 1) j ≡ flag_before (is_set below) false (64 * i + j)
word_before below i carry zero h e =
    let place : 64 * i ≡ 64 * i + 0 = omega arith in
    e ∙ ap (flag_before (is_set below) false) place
word_before below i carry (suc j) h e =
    let place : suc (64 * i + j) ≡ 64 * i + suc j = omega arith in
    sym (is_set_at below i j (omega arith)) ∙ ap (flag_before (is_set below) false) place

rises_same : (a b c d e p q r s t : Bool) → a ≡ p → b ≡ q → c ≡ r → d ≡ s → e ≡ t → rises a b c d e ≡ rises p q r s t
rises_same a b c d e p q r s t f g h i j = cc

-- the flags of word i, once it is written
here_written : (old new tests deep below : List ℕ) (i carry w n : ℕ) → RisenUpTo old new tests deep below i carry → i < length old
    → ((j : ℕ) → j < 64
    → has_bit w j
    ≡ rises (has_bit (get_or new i 0) j) (has_bit (get_or tests i 0) j) (flag_before (has_bit (get_or below i 0)) (eqb carry 1) j)
    (has_bit (get_or deep i 0) j) (has_bit (get_or below i 0) j))
    → n / 64 ≡ i
    → is_set (set new i w) n
    ≡ rises (is_set old n) (is_set tests n) (flag_before (is_set below) false n) (is_set deep n) (is_set below n)
unfolding is_set
here_written old new tests deep below i carry w n up within word here =
    let place : 64 * i + n % 64 ≡ n = omega arith in
    let inside : n % 64 < 64 = omega arith in
    let kept : i ≤ i = omega arith in
    ap (λ x. eqb (bit_at x (n % 64)) 1) (get_or-set_at new i (n / 64) w 0 here (omega (arith, up.long)))
    ∙ word (n % 64) inside
    ∙ rises_same _ _ _ _ _ _ _ _ _ _
    (ap (λ x. has_bit x (n % 64)) (up.rest i kept) ∙ word_bit old n i here)
    (word_bit tests n i here)
    (word_before below i carry (n % 64) inside up.before ∙ ap (flag_before (is_set below) false) place)
    (word_bit deep n i here)
    (word_bit below n i here)

-- the carry out of a word is its last flag
carry_out : (below : List ℕ) (i : ℕ) → get_or below i 0 < 2 ^ 64
    → eqb (get_or below i 0 / 2 ^ 63) 1 ≡ flag_before (is_set below) false (64 * (i + 1))
carry_out below i fits =
    let last : suc (64 * i + 63) ≡ 64 * (i + 1) = omega arith in
    let one_bit : get_or below i 0 / 2 ^ 63 ≡ bit_at (get_or below i 0) 63 = omega (arith, fits) in
    ap (λ b. eqb b 1) one_bit ∙ sym (is_set_at below i 63 (omega arith)) ∙ ap (flag_before (is_set below) false) last

-- one word more
pub RisenUpTo-more : (old new tests deep below : List ℕ) (i carry w : ℕ) → RisenUpTo old new tests deep below i carry → i < length old
    → get_or below i 0 < 2 ^ 64
    → ((j : ℕ) → j < 64
    → has_bit w j
    ≡ rises (has_bit (get_or new i 0) j) (has_bit (get_or tests i 0) j) (flag_before (has_bit (get_or below i 0)) (eqb carry 1) j)
    (has_bit (get_or deep i 0) j) (has_bit (get_or below i 0) j))
    → RisenUpTo old (set new i w) tests deep below (i + 1) (get_or below i 0 / 2 ^ 63)
unfolding is_set
RisenUpTo-more old new tests deep below i carry w up within fits word = record {
  long = length-set new i w ∙ up.long;
  done = λ n h. elim (cases_lt n (64 * i)) [
    | inl early ↦
        let apart : n / 64 ≡ i → ⊥ = λ e. omega arith in
        ap (λ x. eqb (bit_at x (n % 64)) 1) (get_or-set_other new i (n / 64) w 0 apart) ∙ up.done n early
    | inr now ↦ here_written old new tests deep below i carry w n up within word (omega arith)
  ];
  rest = λ k h.
      let apart : k ≡ i → ⊥ = λ e. omega arith in
      get_or-set_other new i k w 0 apart ∙ up.rest k (omega arith);
  small = omega (arith, fits);
  before = carry_out below i fits;
}

pub AreRisen-whole : (old new tests deep below : List ℕ) (i carry : ℕ) → length old ≤ i → RisenUpTo old new tests deep below i carry
    → AreRisen old new tests deep below
AreRisen-whole old new tests deep below i carry whole up = record { long = up.long; flags = λ n h. up.done n (omega arith) }
