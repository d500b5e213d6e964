-- Lists that are made of the numbers from 1 on, with one more number in each step.
use Rattle.std.proofs.Common.{◌≡◌, ℕ, ◌+◌, ◌-◌, ◌≤◌, [], ◌∷◌, ◌++◌, map, arith, ap, ◌∙◌}
use Rattle.std.proofs.lemmas.List.FromFn.{map-range_with_len_more}
use Rattle.sample_maker.specs.Hospital.{one_to}

-- the list for the numbers up to j, from the one for the numbers before j
pub map-one_to : {X : Type 0} (f : ℕ → X) (j : ℕ) → 1 ≤ j → map f (one_to ((j + 1) - 1)) ≡ map f (one_to (j - 1)) ++ f j ∷ []
map-one_to f j some =
    let same : (j + 1) - 1 ≡ (j - 1) + 1 = omega arith in
    ap (λ k. map f (one_to k)) same ∙ map-range_with_len_more f 1 (j - 1) j (omega arith)

pub ruleset list_steps = (map-one_to)
