-- The least width: that it is found, that there is only one, and that it can be computed from a length.
use Rattle.std.proofs.Common.{◌≡◌, ℕ, zero, suc, ◌+◌, ◌^◌, ◌<◌, ◌≤◌, Bool, true, false, cond, nat_lt, refl, ap, sym, ◌∙◌, subst, ⊎_elim, ◌≢◌, nat_eq, arith}
use Rattle.std.proofs.lemmas.Bool.{cases_Bool, true≢false}
use Rattle.std.proofs.lemmas.Bool.Decides.{nat_tests}
use Rattle.acl_model.specs.Width.{first_from, least_width, binary_length, IsLeastWidth}

-- where the first candidate passes, it is found
first_from-here : (test : ℕ → Bool) (more from : ℕ) → test from ≡ true → first_from test (suc more) from ≡ from
unfolding first_from
first_from-here test more from passes = ap (λ b. cond b from (first_from test more (from + 1))) passes

-- where it doesn't, the search goes on after it
first_from-on : (test : ℕ → Bool) (more from : ℕ) → test from ≡ false → first_from test (suc more) from ≡ first_from test more (from + 1)
unfolding first_from
first_from-on test more from fails = ap (λ b. cond b from (first_from test more (from + 1))) fails

first_from-end : (test : ℕ → Bool) (from : ℕ) → first_from test zero from ≡ from
unfolding first_from
first_from-end test from = refl

-- the number found is at least `from`, and no number before it passes
first_from-least : (test : ℕ → Bool) (more from v : ℕ) → from ≤ v → v < first_from test more from → test v ≡ false
first_from-least test zero from v above below = let end = first_from-end test from in absurd (omega arith)
first_from-least test (suc more) from v above below = ⊎_elim
    (λ passes. let here = first_from-here test more from passes in absurd (omega arith))
    (λ fails.
    let on = first_from-on test more from fails in
    let later : v < first_from test more (from + 1) = omega arith in
    ⊎_elim
    (λ same. let equal : from ≡ v = grind (arith, nat_tests) in subst (λ n. test n ≡ false) equal fails)
    (λ other. first_from-least test more (from + 1) v (grind (arith, nat_tests)) later)
    (cases_Bool (nat_eq from v)))
    (cases_Bool (test from))

-- where one of the candidates passes, or the number after them, so does the number found
first_from-passes : (test : ℕ → Bool) (more from v : ℕ) → from ≤ v → v ≤ from + more → test v ≡ true → test (first_from test more from) ≡ true
first_from-passes test zero from v above within passes =
    let same : v ≡ from = omega arith in
    ap test (first_from-end test from) ∙ ap test (sym same) ∙ passes
first_from-passes test (suc more) from v above within passes = ⊎_elim
    (λ now. ap test (first_from-here test more from now) ∙ now)
    (λ fails.
    let apart : v ≢ from = λ same. true≢false (sym passes ∙ ap test same ∙ fails) in
    ap test (first_from-on test more from fails)
    ∙ first_from-passes test more (from + 1) v (omega arith) (omega arith) passes)
    (cases_Bool (test from))

-- where a width up to 32 fits, the least one is found
pub least_width-least : (size : ℕ → ℕ) (w : ℕ) → w ≤ 32 → size w < 2 ^ w → IsLeastWidth size (least_width size)
unfolding least_width
least_width-least size w within fits =
    let passes : nat_lt (size w) (2 ^ w) ≡ true = grind (arith, nat_tests) in
    let found : nat_lt (size (least_width size)) (2 ^ least_width size) ≡ true = first_from-passes (λ v. nat_lt (size v) (2 ^ v)) 32 0 w (omega arith) (omega arith) passes in
    record {
      fits = grind (arith, nat_tests);
      least = λ v below.
          let fails : nat_lt (size v) (2 ^ v) ≡ false = first_from-least (λ u. nat_lt (size u) (2 ^ u)) 32 0 v (omega arith) below in
          grind (arith, nat_tests);
    }

-- there is at most one least width
pub least_width-one : (size : ℕ → ℕ) (v w : ℕ) → IsLeastWidth size v → IsLeastWidth size w → v ≡ w
least_width-one size v w one other = ⊎_elim
    (λ below. let more = other.least v (grind (arith, nat_tests)) in let fits = one.fits in absurd (omega arith))
    (λ above. ⊎_elim
    (λ below. let more = one.least w (grind (arith, nat_tests)) in let fits = other.fits in absurd (omega arith))
    (λ after. grind (arith, nat_tests))
    (cases_Bool (nat_lt w v)))
    (cases_Bool (nat_lt v w))

-- where a size doesn't fall as the width grows, its least width is the number of binary digits of the size
pub binary_length-least : (size : ℕ → ℕ) (w : ℕ) → ((v : ℕ) → v ≤ w → size v ≤ size w) → w ≤ 32 → IsLeastWidth size w → binary_length (size w) ≡ w
binary_length-least size w grows within least =
    least_width-one (λ v. size w) (binary_length (size w)) w
    (least_width-least (λ v. size w) w within least.fits)
    (record {
      fits = least.fits;
      least = λ v below. let lower = least.least v below in let more = grows v (omega arith) in omega arith;
    })
