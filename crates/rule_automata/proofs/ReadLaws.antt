-- The tables of rules read back: the state of each step, and the bearing and the suffixes of each predicate.
use Rattle.std.proofs.Common.{◌≡◌, ℕ, zero, suc, ◌+◌, ◌-◌, ◌<◌, ◌≤◌, true, false, ltb, Some, List, [], ◌∷◌, ◌++◌, length, take, drop, refl, ap, sym, subst, ◌∙◌, arith}
use Rattle.std.specs.List.{slice_get}
use Rattle.std.specs.Option.{option_map}
use Rattle.std.proofs.lemmas.Bool.Decides.{nat_tests}
use Rattle.std.proofs.lemmas.List.Sums.{sum_by-cons}
use Rattle.std.proofs.lemmas.Option.{slice_get-map, slice_get_within, same_Some}
use Rattle.acl_model.specs.declared.path.Pred.{Pred}
use Rattle.acl_model.specs.declared.path.PredStep.{PredStep}
use Rattle.acl_model.specs.declared.path.Step.{Step}
use Rattle.acl_model.specs.declared.rule.Rule.{Rule}
use Rattle.rule_automata.specs.declared.bearing.Bearing.{Bearing}
use Rattle.rule_automata.specs.declared.state.State.{State}
use Rattle.rule_automata.specs.declared.suffix.Suffix.{Suffix}
use Rattle.rule_automata.specs.Compile.{automata_of, tag_test, ends_after, rule_states, states_from, StepPred, way_suffixes, suffixes_of, bearing_of, bearings_from, preds_at, preds_of_steps, preds_from, preds_in_steps, preds_in}
use Rattle.rule_automata.specs.ReadBack.{HavePred, IsOfPred, state_number, bearing_number}
use Rattle.rule_automata.proofs.StateLists.{length-rule_states}
use Rattle.rule_automata.proofs.TableLaws.{get-left, get-right, inside_some, no_element, LieAt, lie_between, next_before, next_first, length-preds_at, length-preds_of_steps}

-- ---- the state of a step

-- the state of a step of a rule
state_of : List (List ℕ) → ℕ → List Step → ℕ → Step → State
state_of names rule steps s step = record
    { axis = step.axis; test = tag_test names step.test; ends = ends_after rule (drop (s + 1) steps) }

rule_state_at : (names : List (List ℕ)) (rule : ℕ) (steps : List Step) (s : ℕ) (step : Step)
    → slice_get steps s ≡ Some step
    → slice_get (rule_states names rule steps) s ≡ Some (state_of names rule steps s step)
unfolding state_of
rule_state_at names rule [] s step at = absurd (no_element step at)
rule_state_at names rule (t ∷ steps) zero step at =
    ap (λ (x : Step). Some (record { axis = x.axis; test = tag_test names x.test; ends = ends_after rule steps }))
    (same_Some t step at)
rule_state_at names rule (t ∷ steps) (suc s) step at =
    let more : suc (s + 1) ≡ suc s + 1 = omega arith in
    rule_state_at names rule steps s step at
    ∙ ap (λ n. Some (record {
      axis = step.axis;
      test = tag_test names step.test;
      ends = ends_after rule
          (drop n (t ∷ steps));
    })) more

state_from_at : (names : List (List ℕ)) (n : ℕ) (rules : List Rule) (r : ℕ) (rule : Rule) (s : ℕ) (step : Step)
    → slice_get rules r ≡ Some rule → slice_get rule.path.steps s ≡ Some step
    → slice_get (states_from names n rules) (state_number rules r s)
    ≡ Some (state_of names (n + r) rule.path.steps s step)
state_from_at names n [] r rule s step here at = absurd (no_element rule here)
state_from_at names n (t ∷ rules) zero rule s step here at =
    let own : slice_get t.path.steps s
    ≡ Some step = ap (λ (x : Rule). slice_get x.path.steps s) (same_Some t rule here) ∙ at in
    let long = length-rule_states names n t.path.steps in
    let inside = slice_get_within t.path.steps s step own in
    let number : state_number (t ∷ rules) 0 s ≡ s = omega arith in
    let none : n ≡ n + 0 = omega arith in
    ap (slice_get (states_from names n (t ∷ rules))) number
    ∙ get-left (rule_states names n t.path.steps) (states_from names (n + 1) rules) s (omega (arith, long, inside))
    ∙ rule_state_at names n t.path.steps s step own
    ∙ ap (λ (x : Rule). Some (state_of names n x.path.steps s step)) (same_Some t rule here)
    ∙ ap (λ m. Some (state_of names m rule.path.steps s step)) none
state_from_at names n (t ∷ rules) (suc r) rule s step here at =
    let long = length-rule_states names n t.path.steps in
    let counted = sum_by-cons (λ (x : Rule). length x.path.steps) t (take r rules) in
    let next : n + 1 + r ≡ n + suc r = omega arith in
    get-right (rule_states names n t.path.steps) (states_from names (n + 1) rules)
    (state_number (t ∷ rules) (suc r) s) (state_number rules r s) (omega (arith, long, counted))
    ∙ state_from_at names (n + 1) rules r rule s step here at
    ∙ ap (λ m. Some (state_of names m rule.path.steps s step)) next

-- The state of a step is found by how many steps come before it.
pub state_found : (names : List (List ℕ)) (rules : List Rule) (r : ℕ) (rule : Rule) (s : ℕ) (step : Step)
    → slice_get rules r ≡ Some rule → slice_get rule.path.steps s ≡ Some step
    → slice_get (states_from names 0 rules) (state_number rules r s)
    ≡ Some (record {
      axis = step.axis;
      test = tag_test names step.test;
      ends = ends_after r
          (drop (s + 1) rule.path.steps);
    })
unfolding state_of
state_found names rules r rule s step here at =
    let same : 0 + r ≡ r = omega arith in
    state_from_at names 0 rules r rule s step here at
    ∙ ap (λ m. Some (record {
      axis = step.axis;
      test = tag_test names step.test;
      ends = ends_after m
          (drop (s + 1) rule.path.steps);
    })) same

-- ---- the predicates by their numbers

pred_at : (step : ℕ) (preds : List Pred) (p : ℕ) (pred : Pred) → slice_get preds p ≡ Some pred
    → slice_get (preds_at step preds) p ≡ Some (record { step = step; pred = pred })
pred_at step preds p pred at =
    slice_get-map (λ (x : Pred). record { step = step; pred = x }) preds p
    ∙ ap (option_map (λ (x : Pred). record { step = step; pred = x })) at

pred_of_step_at : (n : ℕ) (steps : List Step) (s : ℕ) (step : Step) (p : ℕ) (pred : Pred)
    → slice_get steps s ≡ Some step → slice_get step.preds p ≡ Some pred
    → slice_get (preds_of_steps n steps) (preds_in_steps (take s steps) + p)
    ≡ Some (record { step = n + s; pred = pred })
pred_of_step_at n [] s step p pred here at = absurd (no_element step here)
pred_of_step_at n (t ∷ steps) zero step p pred here at =
    let own : slice_get t.preds p ≡ Some pred = ap (λ (x : Step). slice_get x.preds p) (same_Some t step here) ∙ at in
    let long = length-preds_at n t.preds in
    let inside = slice_get_within t.preds p pred own in
    let number : preds_in_steps (take 0 (t ∷ steps)) + p ≡ p = omega arith in
    let none : n ≡ n + 0 = omega arith in
    ap (slice_get (preds_of_steps n (t ∷ steps))) number
    ∙ get-left (preds_at n t.preds) (preds_of_steps (n + 1) steps) p (omega (arith, long, inside))
    ∙ pred_at n t.preds p pred own
    ∙ ap (λ m. Some (record { step = m; pred = pred })) none
pred_of_step_at n (t ∷ steps) (suc s) step p pred here at =
    let long = length-preds_at n t.preds in
    let counted = sum_by-cons (λ (x : Step). length x.preds) t (take s steps) in
    let next : n + 1 + s ≡ n + suc s = omega arith in
    get-right (preds_at n t.preds) (preds_of_steps (n + 1) steps) (preds_in_steps (take (suc s) (t ∷ steps)) + p)
    (preds_in_steps (take s steps) + p) (omega (arith, long, counted))
    ∙ pred_of_step_at (n + 1) steps s step p pred here at
    ∙ ap (λ m. Some (record { step = m; pred = pred })) next

pred_of_rule_at : (n : ℕ) (rules : List Rule) (r : ℕ) (rule : Rule) (s : ℕ) (step : Step) (p : ℕ) (pred : Pred)
    → slice_get rules r ≡ Some rule → slice_get rule.path.steps s ≡ Some step → slice_get step.preds p ≡ Some pred
    → slice_get (preds_from n rules) (bearing_number rules r rule.path.steps s p)
    ≡ Some (record { step = n + state_number rules r s; pred = pred })
pred_of_rule_at n [] r rule s step p pred there here at = absurd (no_element rule there)
pred_of_rule_at n (t ∷ rules) zero rule s step p pred there here at =
    subst (λ (x : Rule). slice_get x.path.steps s ≡ Some step
    → slice_get (preds_from n (t ∷ rules)) (bearing_number (t ∷ rules) 0 x.path.steps s p)
    ≡ Some (record { step = n + state_number (t ∷ rules) 0 s; pred = pred }))
    (same_Some t rule there) first here
  where
    first : slice_get t.path.steps s ≡ Some step
        → slice_get (preds_from n (t ∷ rules)) (bearing_number (t ∷ rules) 0 t.path.steps s p)
        ≡ Some (record { step = n + state_number (t ∷ rules) 0 s; pred = pred })
    first own =
        let found = pred_of_step_at n t.path.steps s step p pred own at in
        let inside = slice_get_within (preds_of_steps n t.path.steps) (preds_in_steps (take s t.path.steps) + p)
        (record { step = n + s; pred = pred }) found in
        let number : bearing_number (t ∷ rules) 0 t.path.steps s p
        ≡ preds_in_steps (take s t.path.steps) + p = omega arith in
        let none : n + s ≡ n + state_number (t ∷ rules) 0 s = omega arith in
        ap (slice_get (preds_from n (t ∷ rules))) number
        ∙ get-left (preds_of_steps n t.path.steps) (preds_from (n + length t.path.steps) rules)
        (preds_in_steps (take s t.path.steps) + p) inside
        ∙ found ∙ ap (λ m. Some (record { step = m; pred = pred })) none
pred_of_rule_at n (t ∷ rules) (suc r) rule s step p pred there here at =
    let long = length-preds_of_steps n t.path.steps in
    let counted = sum_by-cons (λ (x : Rule). preds_in_steps x.path.steps) t (take r rules) in
    let steps = sum_by-cons (λ (x : Rule). length x.path.steps) t (take r rules) in
    let next : n + length t.path.steps + state_number rules r s
    ≡ n + state_number (t ∷ rules) (suc r) s = omega (arith, steps) in
    get-right (preds_of_steps n t.path.steps) (preds_from (n + length t.path.steps) rules)
    (bearing_number (t ∷ rules) (suc r) rule.path.steps s p) (bearing_number rules r rule.path.steps s p)
    (omega (arith, long, counted))
    ∙ pred_of_rule_at (n + length t.path.steps) rules r rule s step p pred there here at
    ∙ ap (λ m. Some (record { step = m; pred = pred })) next

-- ---- the bearings by their numbers

-- The bearing with this number is the predicate's, and its suffixes are those of the predicate's path.
record BorneAt (names : List (List ℕ)) (all : List Suffix) (bearings : List Bearing) (n : ℕ)
    (p : StepPred) : Type 0 where
  first : ℕ
  there : slice_get bearings n ≡ Some (bearing_of first p)
  lies : LieAt names all first p.pred.way

borne_at : (names : List (List ℕ)) (before all : List Suffix) (ps : List StepPred) (n : ℕ) (p : StepPred)
    → before ++ suffixes_of names ps ≡ all → slice_get ps n ≡ Some p
    → BorneAt names all (bearings_from (length before) ps) n p
borne_at names before all [] n p is at = absurd (no_element p at)
borne_at names before all (q ∷ ps) zero p is at =
    subst (λ (x : StepPred). BorneAt names all (bearings_from (length before) (q ∷ ps)) 0 x) (same_Some q p at)
    (record {
      first = length before;
      there = refl;
      lies = lie_between names before
          (suffixes_of names ps) all q.pred.way is;
    })
borne_at names before all (q ∷ ps) (suc n) p is at =
    let next = borne_at names (before ++ way_suffixes names q.pred.way) all ps n p
    (next_before names before all q ps is) at in
    record {
      first = next.first;
      there = ap (λ m. slice_get (bearings_from m ps) n) (sym (next_first names before q)) ∙ next.there;
      lies = next.lies;
    }

-- The bearing and the suffixes of a predicate are found by how many predicates come before it.
pub pred_found : (names : List (List ℕ)) (rules : List Rule) (r : ℕ) (rule : Rule) (s : ℕ) (step : Step) (p : ℕ)
    (pred : Pred)
    → slice_get rules r ≡ Some rule → slice_get rule.path.steps s ≡ Some step → slice_get step.preds p ≡ Some pred
    → HavePred names (automata_of names rules) (bearing_number rules r rule.path.steps s p)
    (state_number rules r s) pred
pred_found names rules r rule s step p pred there here at =
    let number : ℕ = bearing_number rules r rule.path.steps s p in
    let one : StepPred = record { step = 0 + state_number rules r s; pred = pred } in
    let found : BorneAt names (suffixes_of names (preds_from 0 rules))
    (bearings_from 0 (preds_from 0 rules)) number one =
    borne_at names [] (suffixes_of names (preds_from 0 rules)) (preds_from 0 rules) number one refl
    (pred_of_rule_at 0 rules r rule s step p pred there here at) in
    record {
      bearing = bearing_of found.first one;
      there = found.there;
      step_is = omega arith;
      attribute = refl;
      cmp = refl;
      whole = refl;
      empty = found.lies.empty;
      longer = λ k w first. found.lies.longer k (found.first + length pred.way - k) w first
          (whole_is k w found.first first);
    }
  where
    whole_is : (k : ℕ) (w : PredStep) (first : ℕ) → slice_get pred.way k ≡ Some w
        → first + length pred.way - k + k ≡ first + length pred.way
    whole_is k w first inside = let few = slice_get_within pred.way k w inside in omega (arith, few)

-- ---- each number is that of a predicate

-- The number is that of a predicate of the steps.
record IsOfStep (steps : List Step) (n : ℕ) : Type 0 where
  step_number : ℕ
  step : Step
  pred_number : ℕ
  pred : Pred
  step_is : slice_get steps step_number ≡ Some step
  pred_is : slice_get step.preds pred_number ≡ Some pred
  number : n ≡ preds_in_steps (take step_number steps) + pred_number

of_step : (steps : List Step) (n : ℕ) → n < preds_in_steps steps → IsOfStep steps n
of_step [] n inside = absurd (omega (arith, inside))
of_step (t ∷ steps) n inside =
    let counted = sum_by-cons (λ (x : Step). length x.preds) t steps in
    elim (ltb n (length t.preds)) as (λ b. ltb n (length t.preds) ≡ b → IsOfStep (t ∷ steps) n) [
      | true ↦ λ is. here (grind (arith, nat_tests))
      | false ↦ λ is.
          let past : length t.preds ≤ n = grind (arith, nat_tests) in
          later past (of_step steps (n - length t.preds) (omega (arith, inside, past, counted)))
    ] refl
  where
    here : n < length t.preds → IsOfStep (t ∷ steps) n
    here below =
        let found = inside_some t.preds n below in
        record {
          step_number = 0;
          step = t;
          pred_number = n;
          pred = found.0;
          step_is = refl;
          pred_is = found.1;
          number = omega arith;
        }

    later : length t.preds ≤ n → IsOfStep steps (n - length t.preds) → IsOfStep (t ∷ steps) n
    later past rest =
        let before = sum_by-cons (λ (x : Step). length x.preds) t (take rest.step_number steps) in
        record {
          step_number = suc rest.step_number;
          step = rest.step;
          pred_number = rest.pred_number;
          pred = rest.pred;
          step_is = rest.step_is;
          pred_is = rest.pred_is;
          number = omega (arith, rest.number, before, past);
        }

-- Each number below that of all predicates is that of a predicate of the rules.
pub of_pred : (rules : List Rule) (n : ℕ) → n < preds_in rules → IsOfPred rules n
of_pred [] n inside = absurd (omega (arith, inside))
of_pred (t ∷ rules) n inside =
    let counted = sum_by-cons (λ (x : Rule). preds_in_steps x.path.steps) t rules in
    elim (ltb n (preds_in_steps t.path.steps)) as
    (λ b. ltb n (preds_in_steps t.path.steps) ≡ b → IsOfPred (t ∷ rules) n) [
      | true ↦ λ is. here (grind (arith, nat_tests))
      | false ↦ λ is.
          let past : preds_in_steps t.path.steps ≤ n = grind (arith, nat_tests) in
          later past (of_pred rules (n - preds_in_steps t.path.steps) (omega (arith, inside, past, counted)))
    ] refl
  where
    here : n < preds_in_steps t.path.steps → IsOfPred (t ∷ rules) n
    here below =
        let found = of_step t.path.steps n below in
        record {
          rule_number = 0;
          rule = t;
          step_number = found.step_number;
          step = found.step;
          pred_number = found.pred_number;
          pred = found.pred;
          rule_is = refl;
          step_is = found.step_is;
          pred_is = found.pred_is;
          number = omega (arith, found.number);
        }

    later : preds_in_steps t.path.steps ≤ n → IsOfPred rules (n - preds_in_steps t.path.steps) → IsOfPred (t ∷ rules) n
    later past rest =
        let before = sum_by-cons (λ (x : Rule). preds_in_steps x.path.steps) t (take rest.rule_number rules) in
        record {
          rule_number = suc rest.rule_number;
          rule = rest.rule;
          step_number = rest.step_number;
          step = rest.step;
          pred_number = rest.pred_number;
          pred = rest.pred;
          rule_is = rest.rule_is;
          step_is = rest.step_is;
          pred_is = rest.pred_is;
          number = omega (arith, rest.number, before, past);
        }
