-- Runs of the machine, whatever its tables are.
use Rattle.std.proofs.Common.{◌≡◌, ℕ, zero, suc, ◌+◌, ◌≤◌, Option, Some, None, List, [], ◌∷◌, ◌++◌, length, take, drop, refl, sym, ap, subst, ◌∙◌, arith, length-append, length-take}
use Rattle.std.specs.Option.{option_and_then}
use Rattle.std.proofs.lemmas.Grind.{common_steps}
use Rattle.xpath_rules.specs.declared.state.State.{State}
use Rattle.xpath_rules.specs.PathMachine.{step, run, live, count_after}

-- A run over two texts is a run over the second after the first.
pub run-append : (user xs ys : List ℕ) (s : State) → run user (xs ++ ys) s ≡ option_and_then (run user ys) (run user xs s)
unfolding run
run-append user [] ys s = refl
run-append user (x ∷ xs) ys s = elim (step user s x) as (λ o. option_and_then (run user (xs ++ ys)) o ≡ option_and_then (run user ys) (option_and_then (run user xs) o)) [
  | None ↦ refl
  | Some t ↦ run-append user xs ys t
]

-- The run over two texts, where the first of them runs.
pub run-after : (user xs ys : List ℕ) (s t : State) → run user xs s ≡ Some t → run user (xs ++ ys) s ≡ run user ys t
run-after user xs ys s t e = run-append user xs ys s ∙ ap (λ o. option_and_then (run user ys) o) e

-- A prefix of a text that runs, runs.
pub prefix_runs : (user xs ys : List ℕ) (s t : State) → run user (xs ++ ys) s ≡ Some t → (u : State) × (run user xs s ≡ Some u)
prefix_runs user xs ys s t e =
    elim (run user xs s) as (λ o. option_and_then (run user ys) o ≡ Some t → (u : State) × (o ≡ Some u)) [
      | None ↦ λ e. cc
      | Some u ↦ λ e. (u, refl)
    ] (sym (run-append user xs ys s) ∙ e)

-- No more bytes are live than there are.
pub live-le : (user bytes : List ℕ) (s : State) → live user bytes s ≤ length bytes
unfolding live
live-le user [] s = omega arith
live-le user (b ∷ bs) s = elim (step user s b) as (λ o. count_after (live user bs) o ≤ suc (length bs)) [
  | None ↦ omega arith
  | Some t ↦ let h = live-le user bs t in omega (arith, h)
]

-- The live bytes run.
pub live_runs : (user bytes : List ℕ) (s : State) → (t : State) × (run user (take (live user bytes s) bytes) s ≡ Some t)
unfolding run live
live_runs user [] s = (s, refl)
live_runs user (b ∷ bs) s = elim (step user s b) as (λ o. step user s b ≡ o → (t : State) × (run user (take (count_after (live user bs) o) (b ∷ bs)) s ≡ Some t)) [
  | None ↦ λ e. (s, refl)
  | Some u ↦ λ e. let h = live_runs user bs u in (h.0, ap (λ o. option_and_then (run user (take (live user bs u) bs)) o) e ∙ h.1)
] refl

-- Each byte of a prefix that runs is live.
pub runs_live : (user xs ys : List ℕ) (s t : State) → run user xs s ≡ Some t → length xs ≤ live user (xs ++ ys) s
unfolding run live
runs_live user [] ys s t e = omega arith
runs_live user (x ∷ xs) ys s t e =
    elim (step user s x) as (λ o. option_and_then (run user xs) o ≡ Some t → suc (length xs) ≤ count_after (live user (xs ++ ys)) o) [
      | None ↦ λ e. cc
      | Some u ↦ λ e. let h = runs_live user xs ys u t e in omega (arith, h)
    ] e

take_drop : (m : ℕ) (bytes : List ℕ) → take m bytes ++ drop m bytes ≡ bytes
take_drop m bytes = grind (arith, common_steps)

pub length_taken : (m : ℕ) (bytes : List ℕ) → m ≤ length bytes → length (take m bytes) ≡ m
length_taken m bytes h = grind (arith, common_steps)

-- Where the first m bytes run, they are live.
pub taken_live : (user bytes : List ℕ) (s t : State) (m : ℕ) → m ≤ length bytes → run user (take m bytes) s ≡ Some t → m ≤ live user bytes s
taken_live user bytes s t m within e =
    let h = runs_live user (take m bytes) (drop m bytes) s t e in
    let g = subst (λ (bs : List ℕ). length (take m bytes) ≤ live user bs s) (take_drop m bytes) h in
    let n = length_taken m bytes within in
    omega (arith, g, n)
