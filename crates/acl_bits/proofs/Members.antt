-- Lemmas on how many numbers below a bound pass a test, and on their order.
use Rattle.std.proofs.Common.{◌≡◌, ℕ, zero, suc, ◌+◌, ◌<◌, ◌≤◌, Bool, true, false, cond, ltb, ◌&&◌, List, [], ◌∷◌, ◌++◌, length, refl, ap, arith, subst, sym, ◌∙◌, length-append, filter, count_by, Some, inl, inr, All}
use Rattle.std.specs.List.{range_with_len, slice_get}
use Rattle.std.proofs.lemmas.Bool.Decides.{nat_tests}
use Rattle.std.proofs.lemmas.Bool.{cases_lt}
use Rattle.std.proofs.lemmas.List.Elements.{filter-append, All-filter}
use Rattle.std.proofs.lemmas.List.Sums.{length-filter}
use Rattle.std.proofs.lemmas.List.{get_or_append_left}
use Rattle.std.proofs.lemmas.List.FromFn.{length-range_with_len, get_or-range_with_len}
use Rattle.std.proofs.lemmas.List.Kept.{IsStrictlyIncreasing-filter}
use Rattle.std.proofs.lemmas.Option.{slice_get_within, slice_get-get_or, get_or_from_slice_get}
use Rattle.std.specs.List.Sorted.{IsStrictlyIncreasing}
use Rattle.acl_bits.specs.Row.{row_of, IsRow}
use Rattle.acl_bits.specs.inside.RowLaws.{numbers_below}

-- ---- how many members there are, and which member has a given index

pub length-numbers_below : (p : ℕ → Bool) (n : ℕ) → length (numbers_below p (suc n)) ≡ length (numbers_below p n) + cond (p n) 1 0
unfolding numbers_below
length-numbers_below p n = length-append (numbers_below p n) (cond (p n) (n ∷ []) []) ∙ ap (λ k. length (numbers_below p n) + k) (one (p n))
  where
    one : (b : Bool) → length (cond b (n ∷ []) []) ≡ cond b 1 0
    one true = refl
    one false = refl

count_by-append : (q : ℕ → Bool) (xs ys : List ℕ) → count_by q (xs ++ ys) ≡ count_by q xs + count_by q ys
count_by-append q xs ys =
    sym (length-filter q (xs ++ ys)) ∙ ap length (filter-append q xs ys) ∙ length-append (filter q xs) (filter q ys)
    ∙ ap (λ k. k + length (filter q ys)) (length-filter q xs) ∙ ap (λ k. count_by q xs + k) (length-filter q ys)

count_by_one : (b : Bool) (k n : ℕ) → count_by (λ m. ltb m k) (cond b (n ∷ []) []) ≡ cond (ltb n k && b) 1 0
count_by_one true k n = grind (arith, nat_tests)
count_by_one false k n = grind (arith, nat_tests)

-- all members are below any bound that is at least n
pub count_by-numbers_below_all : (p : ℕ → Bool) (n k : ℕ) → n ≤ k → count_by (λ m. ltb m k) (numbers_below p n) ≡ length (numbers_below p n)
unfolding numbers_below
count_by-numbers_below_all p zero k h = refl
count_by-numbers_below_all p (suc n) k h =
    let e = count_by-append (λ m. ltb m k) (numbers_below p n) (cond (p n) (n ∷ []) []) in
    let one = count_by_one (p n) k n in
    let more = length-numbers_below p n in
    let rest = count_by-numbers_below_all p n k (omega arith) in
    e ∙ grind (arith, nat_tests, one, more, rest)

-- the members below k are the numbers below k that pass
pub count_by-numbers_below : (p : ℕ → Bool) (n k : ℕ) → k ≤ n → count_by (λ m. ltb m k) (numbers_below p n) ≡ length (numbers_below p k)
unfolding numbers_below
count_by-numbers_below p zero k h =
    let same : zero ≡ k = omega arith in
    ap (λ x. length (numbers_below p x)) same
count_by-numbers_below p (suc n) k h = elim (cases_lt n k) [
  | inl past ↦
      let same : suc n ≡ k = omega arith in
      subst (λ (x : ℕ). count_by (λ m. ltb m x) (numbers_below p (suc n)) ≡ length (numbers_below p x)) same (count_by-numbers_below_all p (suc n) (suc n) (omega arith))
  | inr within ↦
      let e = count_by-append (λ m. ltb m k) (numbers_below p n) (cond (p n) (n ∷ []) []) in
      let one = count_by_one (p n) k n in
      let rest = count_by-numbers_below p n k within in
      e ∙ grind (arith, nat_tests, one, rest)
]

-- the index of a member k is the number of members below it
get_at_end : (xs : List ℕ) (k : ℕ) → slice_get (xs ++ k ∷ []) (length xs) ≡ Some k
get_at_end [] k = refl
get_at_end (x ∷ xs) k = get_at_end xs k

get_before : (xs ys : List ℕ) (i k : ℕ) → slice_get xs i ≡ Some k → slice_get (xs ++ ys) i ≡ Some k
get_before xs ys i k e =
    let within = slice_get_within xs i k e in
    slice_get-get_or (xs ++ ys) i 0 (simp length-append (omega arith))
    ∙ ap Some (get_or_append_left xs ys 0 i within ∙ get_or_from_slice_get xs i k 0 e)

pub slice_get-numbers_below : (p : ℕ → Bool) (n k : ℕ) → k < n → p k ≡ true → slice_get (numbers_below p n) (length (numbers_below p k)) ≡ Some k
unfolding numbers_below
slice_get-numbers_below p zero k h e = absurd (omega arith)
slice_get-numbers_below p (suc n) k h e = elim (cases_lt k n) [
  | inl within ↦ get_before (numbers_below p n) (cond (p n) (n ∷ []) []) (length (numbers_below p k)) k (slice_get-numbers_below p n k within e)
  | inr past ↦ let same : k ≡ n = omega arith in
      subst (λ (x : ℕ). slice_get (numbers_below p (suc x)) (length (numbers_below p k)) ≡ Some k) same
      (ap (λ b. slice_get (numbers_below p k ++ cond b (k ∷ []) []) (length (numbers_below p k))) e ∙ get_at_end (numbers_below p k) k)
]

-- ---- the list of a set rises, and its members are below 256

range_rises : (a n : ℕ) → IsStrictlyIncreasing (range_with_len a n)
range_rises a n k h =
    let long = length-range_with_len a n in
    let here = get_or-range_with_len a n k 0 (omega arith) in
    let next = get_or-range_with_len a n (k + 1) 0 (omega arith) in
    omega (arith, here, next)

All-range : (n : ℕ) → All (λ k. k < n) (range_with_len 0 n)
All-range n k d h =
    let long = length-range_with_len 0 n in
    let here = get_or-range_with_len 0 n k d (omega arith) in
    omega (arith, here)

pub IsRow-row_of : (p : ℕ → Bool) → IsRow (row_of p)
unfolding row_of
IsRow-row_of p = record {
  rising = IsStrictlyIncreasing-filter p (range_with_len 0 256) (range_rises 0 256);
  small = All-filter p (λ k. k < 256) (range_with_len 0 256) (All-range 256);
}
