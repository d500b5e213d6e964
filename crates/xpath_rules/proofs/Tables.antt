-- What is true of each row of a table is true of what the table chooses.
use Rattle.std.proofs.Common.{◌≡◌, ℕ, Bool, true, false, cond, Option, Some, None, List, [], ◌∷◌, ◌++◌, refl, sym, ap, subst, ◌∙◌}
use Rattle.xpath_rules.specs.PathMachine.{Row, choose}

-- A fact is true of each byte that a row takes, with the row's result for it.
abbrev pub AllRows : {X : Type 0} → (ℕ → X → Type 0) → List (Row X) → Type 0
AllRows P [] = Unit {0}
AllRows P (r ∷ rows) = ((b : ℕ) → r.takes b ≡ true → P b (r.next b)) × AllRows P rows

pub chosen : {X : Type 0} (P : ℕ → X → Type 0) (rows : List (Row X)) → AllRows P rows → (b : ℕ) (x : X) → choose rows b ≡ Some x → P b x
chosen P [] all b x e = cc
chosen P (r ∷ rows) all b x e =
    elim (r.takes b) as (λ v. r.takes b ≡ v → cond v (Some (r.next b)) (choose rows b) ≡ Some x → P b x) [
      | true ↦ λ is e. let same : r.next b ≡ x = cc in subst (λ y. P b y) same (all.0 b is)
      | false ↦ λ is e. chosen P rows all.1 b x e
    ] refl e
