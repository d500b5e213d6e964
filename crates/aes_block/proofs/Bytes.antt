-- A statement about all bytes, proved by computing a test for each byte.
use Rattle.std.proofs.Common.{◌≡◌, ℕ, zero, suc, ◌-◌, ◌<◌, Bool, true, ◌&&◌, arith, subst, inl, inr, eq-zero-or-pos, eqb, eqb-true, ltb, ltb-true}
use Rattle.std.proofs.lemmas.Bool.{and_parts}

-- the test is true of each number below n
abbrev pub passes_below : ℕ → (ℕ → Bool) → Bool
passes_below zero p = true
passes_below (suc n) p = p n && passes_below n p

pub passed : (n : ℕ) (p : ℕ → Bool) → passes_below n p ≡ true → (x : ℕ) → x < n → p x ≡ true
passed zero p all x lt = absurd (omega arith)
passed (suc n) p all x lt =
    let parts = and_parts (p n) (passes_below n p) all in
    elim (eq-zero-or-pos (n - x)) [
      | inl z ↦ let e : n ≡ x = omega arith in subst (λ (y : ℕ). p y ≡ true) e parts.0
      | inr g ↦ passed n p parts.1 x (omega arith)
    ]

-- two functions are equal below n where this is computed for each number
pub same_below : (n : ℕ) (f g : ℕ → ℕ) → passes_below n (λ x. eqb (f x) (g x)) ≡ true → (x : ℕ) → x < n → f x ≡ g x
same_below n f g all x lt = eqb-true (f x) (g x) (passed n (λ y. eqb (f y) (g y)) all x lt)

-- the values of a function for the numbers below n are below a bound where this is computed for each number
pub bounded_below : (n bound : ℕ) (f : ℕ → ℕ) → passes_below n (λ x. ltb (f x) bound) ≡ true → (x : ℕ) → x < n → f x < bound
bounded_below n bound f all x lt = ltb-true (f x) bound (passed n (λ y. ltb (f y) bound) all x lt)
