-- Laws of `row_of` and `is_member`: the set of a test contains exactly the numbers below 256 that pass it, and two
-- tests that agree on those numbers have the same set. Defined by this project.
use Rattle.std.proofs.Common.{◌≡◌, ℕ, zero, suc, ◌+◌, ◌<◌, ◌≤◌, Bool, true, false, cond, eqb, ltb, ◌&&◌, ◌||◌, List, [], ◌∷◌, ◌++◌, refl, ap, arith, sym, ◌∙◌, add-zero, filter}
use Rattle.std.specs.List.{range_with_len}
use Rattle.std.proofs.lemmas.Bool.Decides.{nat_tests}
use Rattle.std.proofs.lemmas.List.Elements.{filter-append}
use Rattle.std.proofs.lemmas.List.Folds.{list_any-append}
use Rattle.acl_bits.specs.Row.{row_of, is_member}

-- the numbers below n that pass the test, in order, by recursion on n
unfoldable pub numbers_below : (ℕ → Bool) → ℕ → List ℕ
numbers_below p zero = []
numbers_below p (suc n) = numbers_below p n ++ cond (p n) (n ∷ []) []

-- a range that is longer by one is the range with the next number appended
pub range_with_len-more : (a n : ℕ) → range_with_len a (suc n) ≡ range_with_len a n ++ (a + n) ∷ []
range_with_len-more a zero = ap (λ x. x ∷ []) (sym (add-zero a))
range_with_len-more a (suc n) =
    let same : a + 1 + n ≡ a + suc n = omega arith in
    ap (λ xs. a ∷ xs) (range_with_len-more (a + 1) n ∙ ap (λ x. range_with_len (a + 1) n ++ x ∷ []) same)

-- `numbers_below` is the range from 0, filtered by the test
pub numbers_below-range : (p : ℕ → Bool) (n : ℕ) → filter p (range_with_len 0 n) ≡ numbers_below p n
unfolding numbers_below
numbers_below-range p zero = refl
numbers_below-range p (suc n) =
    ap (filter p) (range_with_len-more 0 n) ∙ filter-append p (range_with_len 0 n) ((0 + n) ∷ [])
    ∙ ap (λ xs. xs ++ filter p ((0 + n) ∷ [])) (numbers_below-range p n)
    ∙ ap (λ x. numbers_below p n ++ cond (p x) (x ∷ []) []) (omega arith)

-- the set of a test is the list of the numbers below 256 that pass it
pub row_of-numbers_below : (p : ℕ → Bool) → row_of p ≡ numbers_below p 256
unfolding row_of
row_of-numbers_below p = numbers_below-range p 256

-- two tests that agree below n pass the same numbers below n
pub numbers_below-same : (p q : ℕ → Bool) (n : ℕ) → ((k : ℕ) → k < n → p k ≡ q k) → numbers_below p n ≡ numbers_below q n
unfolding numbers_below
numbers_below-same p q zero h = refl
numbers_below-same p q (suc n) h =
    ap (λ xs. xs ++ cond (p n) (n ∷ []) []) (numbers_below-same p q n (λ k l. h k (omega arith)))
    ∙ ap (λ b. numbers_below q n ++ cond b (n ∷ []) []) (h n (omega arith))

-- two tests that agree below 256 have the same set
pub row_of-same : (p q : ℕ → Bool) → ((k : ℕ) → k < 256 → p k ≡ q k) → row_of p ≡ row_of q
row_of-same p q h = row_of-numbers_below p ∙ numbers_below-same p q 256 h ∙ sym (row_of-numbers_below q)

-- a list that contains n alone where b is true, and nothing where b is false, contains m where b is true and m is n
is_member-one : (b : Bool) (n m : ℕ) → is_member (cond b (n ∷ []) []) m ≡ (eqb n m && b)
unfolding is_member
is_member-one true n m = grind (arith, nat_tests)
is_member-one false n m = grind (arith, nat_tests)

-- a number is below n + 1 exactly where it is below n or equal to n
step_of_member : (p : ℕ → Bool) (n m : ℕ) → ((ltb m n && p m) || (eqb n m && p n)) ≡ (ltb m (suc n) && p m)
step_of_member p n m = grind (arith, nat_tests)

-- a number is in `numbers_below` exactly where it is below n and passes the test
pub is_member-numbers_below : (p : ℕ → Bool) (n m : ℕ) → is_member (numbers_below p n) m ≡ (ltb m n && p m)
unfolding numbers_below is_member
is_member-numbers_below p zero m = grind (arith, nat_tests)
is_member-numbers_below p (suc n) m =
    list_any-append (λ k. eqb k m) (numbers_below p n) (cond (p n) (n ∷ []) [])
    ∙ ap (λ b. b || is_member (cond (p n) (n ∷ []) []) m) (is_member-numbers_below p n m)
    ∙ ap (λ b. (ltb m n && p m) || b) (is_member-one (p n) n m)
    ∙ step_of_member p n m

-- a number below 256 is a member of the set of a test exactly where it passes the test
pub is_member-row_of : (p : ℕ → Bool) (m : ℕ) → m < 256 → is_member (row_of p) m ≡ p m
is_member-row_of p m h = ap (λ xs. is_member xs m) (row_of-numbers_below p) ∙ is_member-numbers_below p 256 m ∙ grind (arith, nat_tests)

-- no number from 256 on is a member of the set of a test
pub is_member-row_of_past : (p : ℕ → Bool) (m : ℕ) → 256 ≤ m → is_member (row_of p) m ≡ false
is_member-row_of_past p m h = ap (λ xs. is_member xs m) (row_of-numbers_below p) ∙ is_member-numbers_below p 256 m ∙ grind (arith, nat_tests)

-- the set of the members of a set is that set
pub row_of-is_member : (p : ℕ → Bool) → row_of (is_member (row_of p)) ≡ row_of p
row_of-is_member p = row_of-same (is_member (row_of p)) p (λ k h. is_member-row_of p k h)
