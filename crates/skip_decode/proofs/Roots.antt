-- The members of the virtual parent.
use Rattle.std.proofs.Common.{◌≡◌, ℕ, zero, suc, ◌+◌, ◌-◌, ◌≤◌, true, false, cond, nat_lt, [], ◌∷◌, ◌++◌, refl, ap, sym, ◌∙◌, arith, append-nil}
use Rattle.std.specs.List.{range_with_len}
use Rattle.std.proofs.lemmas.Bool.Decides.{nat_tests}
use Rattle.acl_bits.specs.Row.{row_of}
use Rattle.acl_bits.specs.inside.RowLaws.{numbers_below, range_with_len-more, row_of-numbers_below}

-- All numbers below n are below c.
below_up : (c n : ℕ) → n ≤ c → numbers_below (λ m. nat_lt m c) n ≡ range_with_len 0 n
unfolding numbers_below
below_up c zero within = refl
below_up c (suc n) within =
    let test : nat_lt n c ≡ true = grind (arith, nat_tests) in
    let last : n ≡ 0 + n = omega arith in
    ap (λ b. numbers_below (λ m. nat_lt m c) n ++ cond b (n ∷ []) []) test
    ∙ ap (λ l. l ++ (n ∷ [])) (below_up c n (omega arith))
    ∙ ap (λ k. range_with_len 0 n ++ (k ∷ [])) last ∙ sym (range_with_len-more 0 n)

-- No number from c on is below c.
below_past : (c more : ℕ) → numbers_below (λ m. nat_lt m c) (c + more) ≡ range_with_len 0 c
unfolding numbers_below
below_past c zero = let same : c + zero ≡ c = omega arith in ap (numbers_below (λ m. nat_lt m c)) same ∙ below_up c c (omega arith)
below_past c (suc more) =
    let next : c + suc more ≡ suc (c + more) = omega arith in
    let test : nat_lt (c + more) c ≡ false = grind (arith, nat_tests) in
    ap (numbers_below (λ m. nat_lt m c)) next
    ∙ ap (λ b. numbers_below (λ m. nat_lt m c) (c + more) ++ cond b ((c + more) ∷ []) []) test
    ∙ append-nil (numbers_below (λ m. nat_lt m c) (c + more)) ∙ below_past c more

-- The numbers below a count are the set of a test's numbers.
pub range-row : (c : ℕ) → c ≤ 256 → range_with_len 0 c ≡ row_of (λ k. nat_lt k c)
range-row c few =
    let all : c + (256 - c) ≡ 256 = omega arith in
    sym (below_past c (256 - c)) ∙ ap (numbers_below (λ m. nat_lt m c)) all ∙ sym (row_of-numbers_below (λ k. nat_lt k c))
