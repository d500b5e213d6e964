-- The tables of rules keep the invariant of tables, and read back.
use Rattle.std.proofs.Common.{◌≡◌, ℕ, zero, suc, ◌+◌, ◌-◌, ◌<◌, ◌≤◌, true, false, ◌&&◌, Option, Some, None, List, [], ◌∷◌, ◌++◌, length, length-append, All, refl, ap, sym, subst, ◌∙◌, arith}
use Rattle.std.specs.Prelude.{nat_eq, is_some}
use Rattle.std.specs.List.{slice_get}
use Rattle.std.specs.Option.{option_map_or, MatchOption}
use Rattle.std.proofs.lemmas.Bool.Decides.{nat_tests}
use Rattle.std.proofs.lemmas.List.{append_assoc}
use Rattle.std.proofs.lemmas.List.Elements.{All-nil, All-cons, All-head, All-tail, All-append, All-weaker}
use Rattle.std.proofs.lemmas.List.Sums.{sum_by-cons}
use Rattle.std.proofs.lemmas.Option.{slice_get_within, same_Some}
use Rattle.acl_model.specs.declared.path.Pred.{Pred}
use Rattle.acl_model.specs.declared.path.PredStep.{PredStep}
use Rattle.acl_model.specs.declared.path.Step.{Step}
use Rattle.acl_model.specs.declared.rule.Rule.{Rule}
use Rattle.rule_automata.specs.declared.bearing.Bearing.{Bearing}
use Rattle.rule_automata.specs.declared.suffix.Suffix.{Suffix}
use Rattle.rule_automata.specs.Compile.{AreTables, AreWithinLimits, automata_of, states_from, StepPred, suffix_step, way_suffixes, suffixes_of, bearing_of, bearings_from, preds_at, preds_of_steps, preds_from, steps_in, preds_in_steps, preds_in, has_step_at, are_in_turn}
use Rattle.rule_automata.proofs.PredLists.{length-way_suffixes, length-suffixes_of-cons, length-suffixes_of}
use Rattle.rule_automata.proofs.StateLists.{length-states_from, closed-states_from}

-- ---- reading lists

-- an element of the first list
pub get-left : {A : Type 0} (xs ys : List A) (n : ℕ) → n < length xs → slice_get (xs ++ ys) n ≡ slice_get xs n
get-left [] ys n inside = absurd (omega arith)
get-left (x ∷ xs) ys zero inside = refl
get-left (x ∷ xs) ys (suc n) inside = get-left xs ys n (omega arith)

-- an element of the second list
pub get-right : {A : Type 0} (xs ys : List A) (m n : ℕ) → m ≡ length xs + n → slice_get (xs ++ ys) m ≡ slice_get ys n
get-right [] ys m n is = let same : m ≡ n = omega (arith, is) in ap (slice_get ys) same
get-right (x ∷ xs) ys zero n is = absurd (omega (arith, is))
get-right (x ∷ xs) ys (suc m) n is = get-right xs ys m n (omega (arith, is))

-- there is an element at each index below the length
pub inside_some : {A : Type 0} (xs : List A) (n : ℕ) → n < length xs → (x : A) × (slice_get xs n ≡ Some x)
inside_some [] n inside = absurd (omega arith)
inside_some (x ∷ xs) zero inside = (x, refl)
inside_some (x ∷ xs) (suc n) inside = inside_some xs n (omega arith)

pub no_element : {A : Type 0} (x : A) → None ≡ Some x → ⊥
no_element x h = subst (λ o. MatchOption o (Unit {0}) (λ _. ⊥)) h tt

-- ---- the suffixes of one path

way_first : (names : List (List ℕ)) (way : List PredStep)
    → slice_get (way_suffixes names way) 0 ≡ Some (record { step = None })
way_first names [] = refl
way_first names (s ∷ way) =
    let long = length-way_suffixes names way in
    get-left (way_suffixes names way) (record { step = Some (suffix_step names s) } ∷ []) 0 (omega (arith, long))
    ∙ way_first names way

-- the suffix that begins with step k is k before the whole path
way_at : (names : List (List ℕ)) (way : List PredStep) (k m : ℕ) (s : PredStep) → slice_get way k ≡ Some s
    → m + k ≡ length way
    → slice_get (way_suffixes names way) m ≡ Some (record { step = Some (suffix_step names s) })
way_at names [] k m s at is = absurd (no_element s at)
way_at names (t ∷ way) zero m s at is =
    let long = length-way_suffixes names way in
    get-right (way_suffixes names way) (record { step = Some (suffix_step names t) } ∷ []) m 0 (omega (arith, long, is))
    ∙ ap (λ (x : PredStep). Some (record { step = Some (suffix_step names x) })) (same_Some t s at)
way_at names (t ∷ way) (suc k) m s at is =
    let long = length-way_suffixes names way in
    get-left (way_suffixes names way) (record { step = Some (suffix_step names t) } ∷ []) m (omega (arith, long, is))
    ∙ way_at names way k m s at (omega (arith, is))

-- Among all suffixes, those of a path lie from `first` on.
pub record LieAt (names : List (List ℕ)) (all : List Suffix) (first : ℕ) (way : List PredStep) : Type 0 where
  pub within : first + length way < length all
  pub empty : slice_get all first ≡ Some (record { step = None })
  pub longer : (k m : ℕ) (s : PredStep) → slice_get way k ≡ Some s → m + k ≡ first + length way
      → slice_get all m ≡ Some (record { step = Some (suffix_step names s) })

pub lie_between : (names : List (List ℕ)) (before after all : List Suffix) (way : List PredStep)
    → before ++ (way_suffixes names way ++ after) ≡ all → LieAt names all (length before) way
lie_between names before after all way is =
    let long = length-way_suffixes names way in
    let a = length-append before (way_suffixes names way ++ after) in
    let b = length-append (way_suffixes names way) after in
    let same = ap length is in
    record {
      within = omega (arith, long, a, b, same);
      empty =
          ap (λ t. slice_get t (length before)) (sym is)
          ∙ get-right before (way_suffixes names way ++ after) (length before) 0 (omega arith)
          ∙ get-left (way_suffixes names way) after 0 (omega (arith, long))
          ∙ way_first names way;
      longer = λ k m s at sum. longer_at k m s at sum;
    }
  where
    longer_at : (k m : ℕ) (s : PredStep) → slice_get way k ≡ Some s → m + k ≡ length before + length way
        → slice_get all m ≡ Some (record { step = Some (suffix_step names s) })
    longer_at k m s at sum =
        let long = length-way_suffixes names way in
        let inside = slice_get_within way k s at in
        let own : m ≡ length before + (m - length before) = omega (arith, inside, sum) in
        ap (λ t. slice_get t m) (sym is)
        ∙ get-right before (way_suffixes names way ++ after) m (m - length before) own
        ∙ get-left (way_suffixes names way) after (m - length before) (omega (arith, long, inside, sum))
        ∙ way_at names way k (m - length before) s at (omega (arith, inside, sum))

-- each suffix after the empty one has a step
lie_long : (names : List (List ℕ)) (all : List Suffix) (first : ℕ) (way : List PredStep) → LieAt names all first way
    → (n : ℕ) → first < n → n ≤ first + length way → has_step_at all n ≡ true
lie_long names all first way lie n low high =
    let k : ℕ = first + length way - n in
    let found : (s : PredStep) × (slice_get way k ≡ Some s) = inside_some way k (omega (arith, low, high)) in
    ap (λ (o : Option Suffix). option_map_or (λ suffix. is_some suffix.step) o false)
    (lie.longer k n found.0 found.1 (omega (arith, low, high)))

-- ---- all predicates

-- what the invariant says of a bearing's suffixes
record LiesRight (all : List Suffix) (b : Bearing) : Type 0 where
  order : b.first ≤ b.whole
  within : b.whole < length all
  empty : slice_get all b.first ≡ Some (record { step = None })
  longer : (n : ℕ) → b.first < n → n ≤ b.whole → has_step_at all n ≡ true

lies_right : (names : List (List ℕ)) (all : List Suffix) (first : ℕ) (p : StepPred) → LieAt names all first p.pred.way
    → LiesRight all (bearing_of first p)
lies_right names all first p lie = record
    { order = omega arith; within = lie.within; empty = lie.empty; longer = lie_long names all first p.pred.way lie }

-- the next predicate's suffixes come after those of this one
pub next_before : (names : List (List ℕ)) (before all : List Suffix) (p : StepPred) (ps : List StepPred)
    → before ++ suffixes_of names (p ∷ ps) ≡ all
    → (before ++ way_suffixes names p.pred.way) ++ suffixes_of names ps ≡ all
next_before names before all p ps is = append_assoc before (way_suffixes names p.pred.way) (suffixes_of names ps) ∙ is

pub next_first : (names : List (List ℕ)) (before : List Suffix) (p : StepPred)
    → length (before ++ way_suffixes names p.pred.way) ≡ length before + length p.pred.way + 1
next_first names before p =
    let a = length-append before (way_suffixes names p.pred.way) in
    let b = length-way_suffixes names p.pred.way in
    omega (arith, a, b)

all_lie_right : (names : List (List ℕ)) (before all : List Suffix) (ps : List StepPred)
    → before ++ suffixes_of names ps ≡ all → All (LiesRight all) (bearings_from (length before) ps)
all_lie_right names before all [] is = All-nil (LiesRight all)
all_lie_right names before all (p ∷ ps) is =
    All-cons (LiesRight all) (bearing_of (length before) p) (bearings_from (length before + length p.pred.way + 1) ps)
    (lies_right names all (length before) p (lie_between names before (suffixes_of names ps) all p.pred.way is))
    (subst (λ n. All (LiesRight all) (bearings_from n ps)) (next_first names before p)
    (all_lie_right names (before ++ way_suffixes names p.pred.way) all ps (next_before names before all p ps is)))

all_in_turn : (names : List (List ℕ)) (count first : ℕ) (ps : List StepPred)
    → first + length (suffixes_of names ps) ≡ count → are_in_turn count first (bearings_from first ps) ≡ true
all_in_turn names count first [] is = grind (arith, nat_tests)
all_in_turn names count first (p ∷ ps) is =
    let here : nat_eq first first ≡ true = grind (arith, nat_tests) in
    let counted = length-suffixes_of-cons names p ps in
    ap (λ b. b && are_in_turn count (first + length p.pred.way + 1)
    (bearings_from (first + length p.pred.way + 1) ps)) here
    ∙ all_in_turn names count (first + length p.pred.way + 1) ps (omega (arith, counted, is))

-- ---- the steps of predicates

-- each predicate is of a step below this number
StepsBelow : ℕ → List StepPred → Type 0
StepsBelow n ps = All (λ p. p.step < n) ps

at_below : (n step : ℕ) (preds : List Pred) → step < n → StepsBelow n (preds_at step preds)
unfolding StepsBelow
at_below n step [] below = All-nil (λ p. p.step < n)
at_below n step (p ∷ preds) below = All-cons (λ q. q.step < n) (record { step = step; pred = p })
    (preds_at step preds) below (at_below n step preds below)

of_steps_below : (n step : ℕ) (steps : List Step) → step + length steps ≤ n → StepsBelow n (preds_of_steps step steps)
unfolding StepsBelow
of_steps_below n step [] below = All-nil (λ p. p.step < n)
of_steps_below n step (s ∷ steps) below =
    All-append (λ p. p.step < n) (preds_at step s.preds) (preds_of_steps (step + 1) steps)
    (at_below n step s.preds (omega (arith, below))) (of_steps_below n (step + 1) steps (omega (arith, below)))

from_below : (n step : ℕ) (rules : List Rule) → step + steps_in rules ≤ n → StepsBelow n (preds_from step rules)
unfolding StepsBelow
from_below n step [] below = All-nil (λ p. p.step < n)
from_below n step (r ∷ rules) below =
    let counted = sum_by-cons (λ (x : Rule). length x.path.steps) r rules in
    All-append (λ p. p.step < n) (preds_of_steps step r.path.steps) (preds_from (step + length r.path.steps) rules)
    (of_steps_below n step r.path.steps (omega (arith, below, counted)))
    (from_below n (step + length r.path.steps) rules (omega (arith, below, counted)))

bearings_below : (n first : ℕ) (ps : List StepPred) → StepsBelow n ps
    → All (λ (b : Bearing). b.step < n) (bearings_from first ps)
unfolding StepsBelow
bearings_below n first [] below = All-nil (λ b. b.step < n)
bearings_below n first (p ∷ ps) below =
    All-cons (λ b. b.step < n) (bearing_of first p) (bearings_from (first + length p.pred.way + 1) ps)
    (All-head (λ q. q.step < n) p ps below)
    (bearings_below n (first + length p.pred.way + 1) ps (All-tail (λ q. q.step < n) p ps below))

-- ---- counts

-- there is one bearing for each predicate
length-bearings_from : (first : ℕ) (ps : List StepPred) → length (bearings_from first ps) ≡ length ps
length-bearings_from first [] = refl
length-bearings_from first (p ∷ ps) = ap suc (length-bearings_from (first + length p.pred.way + 1) ps)

pub length-preds_at : (step : ℕ) (preds : List Pred) → length (preds_at step preds) ≡ length preds
length-preds_at step [] = refl
length-preds_at step (p ∷ preds) = ap suc (length-preds_at step preds)

pub length-preds_of_steps : (step : ℕ) (steps : List Step) → length (preds_of_steps step steps) ≡ preds_in_steps steps
length-preds_of_steps step [] = refl
length-preds_of_steps step (s ∷ steps) =
    let joined = length-append (preds_at step s.preds) (preds_of_steps (step + 1) steps) in
    let here = length-preds_at step s.preds in
    let rest = length-preds_of_steps (step + 1) steps in
    let counted = sum_by-cons (λ (x : Step). length x.preds) s steps in
    omega (arith, joined, here, rest, counted)

length-preds_from : (step : ℕ) (rules : List Rule) → length (preds_from step rules) ≡ preds_in rules
length-preds_from step [] = refl
length-preds_from step (r ∷ rules) =
    let joined = length-append (preds_of_steps step r.path.steps) (preds_from (step + length r.path.steps) rules) in
    let here = length-preds_of_steps step r.path.steps in
    let rest = length-preds_from (step + length r.path.steps) rules in
    let counted = sum_by-cons (λ (x : Rule). preds_in_steps x.path.steps) r rules in
    omega (arith, joined, here, rest, counted)

pub length-bearings : (first step : ℕ) (rules : List Rule)
    → length (bearings_from first (preds_from step rules)) ≡ preds_in rules
length-bearings first step rules = length-bearings_from first (preds_from step rules) ∙ length-preds_from step rules

-- ---- the invariant

-- The tables of rules within the limits keep it.
pub are_tables : (names : List (List ℕ)) (rules : List Rule) → AreWithinLimits names rules
    → AreTables (automata_of names rules)
are_tables names rules limits =
    let preds : List StepPred = preds_from 0 rules in
    let all : List Suffix = suffixes_of names preds in
    let states = length-states_from names rules 0 in
    let suffixes = length-suffixes_of names 0 rules in
    let bearings = length-bearings 0 0 rules in
    let right : All (LiesRight all) (bearings_from 0 preds) = all_lie_right names [] all preds refl in
    record {
      few_states = omega (arith, states, limits.few_steps);
      closed = closed-states_from names rules 0;
      few_suffixes = omega (arith, suffixes, limits.few_pred_steps, limits.few_preds);
      few_bearings = omega (arith, bearings, limits.few_preds);
      steps = bearings_below (length (states_from names 0 rules)) 0 preds
          (from_below (length (states_from names 0 rules)) 0 rules (omega (arith, states)));
      order = All-weaker (LiesRight all) (λ b. b.first ≤ b.whole) (λ b lies. lies.order) (bearings_from 0 preds) right;
      within = All-weaker (LiesRight all) (λ b. b.whole < length all) (λ b lies. lies.within)
          (bearings_from 0 preds) right;
      in_turn = all_in_turn names (length all) 0 preds (omega arith);
      empty = All-weaker (LiesRight all) (λ b. slice_get all b.first ≡ Some (record { step = None }))
          (λ b lies. lies.empty) (bearings_from 0 preds) right;
      longer = All-weaker (LiesRight all) (λ b. (n : ℕ) → b.first < n → n ≤ b.whole → has_step_at all n ≡ true)
          (λ b lies. lies.longer) (bearings_from 0 preds) right;
    }
