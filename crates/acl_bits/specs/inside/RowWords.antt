-- The words of a set determine its members, and the members determine the words. Defined by this project.
use Rattle.std.proofs.Common.{◌≡◌, ℕ, zero, suc, ◌+◌, ◌*◌, ◌/◌, ◌%◌, ◌^◌, ◌<◌, Bool, cond, eqb, List, [], ◌∷◌, length, get_or, refl, ap, arith, sym, ◌∙◌}
use Rattle.std.specs.Int.{bit_at}
use Rattle.std.proofs.lemmas.Bool.Decides.{nat_tests}
use Rattle.std.proofs.lemmas.Nat.{mod-pow-add}
use Rattle.std.proofs.lemmas.Nat.Bits.{bit_at-lt}
use Rattle.acl_bits.specs.Row.{is_member, is_set, members_of, AreWords, number_with, word_of, words_of}
use Rattle.acl_bits.specs.inside.RowLaws.{is_member-row_of}

-- the words contain 64 * k + i exactly where bit i of word k is 1
pub is_set_at : (words : List ℕ) (k i : ℕ) → i < 64 → is_set words (64 * k + i) ≡ eqb (bit_at (get_or words k 0) i) 1
unfolding is_set
is_set_at words k i h =
    let word : (64 * k + i) / 64 ≡ k = omega arith in
    let place : (64 * k + i) % 64 ≡ i = omega arith in
    ap (λ x. eqb (bit_at (get_or words x 0) ((64 * k + i) % 64)) 1) word ∙ ap (λ x. eqb (bit_at (get_or words k 0) x) 1) place

-- x where the bit is 1, and 0 where it is 0, is the bit times x
digit_step : (b x : ℕ) → b < 2 → cond (eqb b 1) x 0 ≡ b * x
digit_step b x h = grind (arith, nat_tests)

-- the number made of the n lowest bits of w is w modulo 2 ^ n
number_with-bits : (w : ℕ) (p : ℕ → Bool) (n : ℕ) → ((i : ℕ) → i < n → p i ≡ eqb (bit_at w i) 1) → number_with p n ≡ w % 2 ^ n
unfolding number_with
number_with-bits w p zero h = omega arith
number_with-bits w p (suc n) h =
    let one_more : 1 + n ≡ suc n = omega arith in
    let split : w % 2 ^ n + bit_at w n * 2 ^ n ≡ bit_at w n * 2 ^ n + w % 2 ^ n = omega arith in
    ap (λ k. k + cond (p n) (2 ^ n) 0) (number_with-bits w p n (λ i l. h i (omega arith)))
    ∙ ap (λ b. w % 2 ^ n + cond b (2 ^ n) 0) (h n (omega arith))
    ∙ ap (λ k. w % 2 ^ n + k) (digit_step (bit_at w n) (2 ^ n) (bit_at-lt w n))
    ∙ split ∙ sym (mod-pow-add w 1 n) ∙ ap (λ k. w % 2 ^ k) one_more

-- word k, made from the members of the words, is word k of the words
word_of-members : (words : List ℕ) (k : ℕ) → k < 4 → get_or words k 0 < 2 ^ 64 → word_of (members_of words) k ≡ get_or words k 0
word_of-members words k h fits =
    number_with-bits (get_or words k 0) (λ i. is_member (members_of words) (64 * k + i)) 64
    (λ i l. is_member-row_of (is_set words) (64 * k + i) (omega arith) ∙ is_set_at words k i l)
    ∙ omega (arith, fits)

-- a list of four elements is the list of its elements at 0, 1, 2 and 3
four_cells : (xs : List ℕ) → length xs ≡ 4 → get_or xs 0 0 ∷ get_or xs 1 0 ∷ get_or xs 2 0 ∷ get_or xs 3 0 ∷ [] ≡ xs
four_cells [] e = absurd (omega arith)
four_cells (a ∷ []) e = absurd (omega arith)
four_cells (a ∷ b ∷ []) e = absurd (omega arith)
four_cells (a ∷ b ∷ c ∷ []) e = absurd (omega arith)
four_cells (a ∷ b ∷ c ∷ d ∷ []) e = refl
four_cells (a ∷ b ∷ c ∷ d ∷ x ∷ xs) e = absurd (omega arith)

-- the words made from the members of the words are the same words
pub words_of-members : (words : List ℕ) → AreWords words → words_of (members_of words) ≡ words
unfolding words_of
words_of-members words h =
    ap (λ x. x ∷ word_of (members_of words) 1 ∷ word_of (members_of words) 2 ∷ word_of (members_of words) 3 ∷ []) (word_of-members words 0 (omega arith) (h.fit 0))
    ∙ ap (λ x. get_or words 0 0 ∷ x ∷ word_of (members_of words) 2 ∷ word_of (members_of words) 3 ∷ []) (word_of-members words 1 (omega arith) (h.fit 1))
    ∙ ap (λ x. get_or words 0 0 ∷ get_or words 1 0 ∷ x ∷ word_of (members_of words) 3 ∷ []) (word_of-members words 2 (omega arith) (h.fit 2))
    ∙ ap (λ x. get_or words 0 0 ∷ get_or words 1 0 ∷ get_or words 2 0 ∷ x ∷ []) (word_of-members words 3 (omega arith) (h.fit 3))
    ∙ four_cells words h.four
