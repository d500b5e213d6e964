-- Where predicates are open at an element, and which rules they leave undecided.
use Rattle.std.proofs.Common.{◌≡◌, ◌≤◌, ◌<◌, ℕ, suc, Bool, true, false, not, ◌&&◌, ◌||◌, Option, Some, None, List, []}
use Rattle.std.proofs.Common.{◌∷◌, length, refl, ap, sym, ◌∙◌}
use Rattle.std.proofs.lemmas.Bool.{true≢false}
use Rattle.std.specs.Cmp.{first_so}
use Rattle.std.specs.List.{list_any, list_all, slice_get}
use Rattle.std.specs.Option.{option_map_or}
use Rattle.acl_bits.specs.Row.{is_member}
use Rattle.acl_model.specs.NameTests.{passes}
use Rattle.acl_model.specs.Places.{at, prefixes}
use Rattle.acl_model.specs.declared.document.Doc.{Doc}
use Rattle.acl_model.specs.declared.document.Element.{Element}
use Rattle.acl_model.specs.declared.path.Pred.{Pred}
use Rattle.acl_model.specs.declared.path.Step.{Step}
use Rattle.acl_model.specs.declared.rule.Rule.{Rule}
use Rattle.acl_walk.specs.Begun.{finishes_at}
use Rattle.acl_walk.specs.Closes.{counted, is_met_at}
use Rattle.acl_walk.specs.Open.{open_at, places_of}
use Rattle.acl_walk.specs.Spelling.{Spells}
use Rattle.acl_walk.specs.declared.event.Event.{Event}
use Rattle.acl_walk.proofs.MeetLaws.{both_so, any_so, has_counted}
use Rattle.token_stack.specs.Bounds.{Knowledge, is_settled, is_step_settled, place_of_level, StandsBy}
use Rattle.token_stack.specs.OpenPredicates.{is_open, has_open, have_open}
use Rattle.token_stack.specs.PredicateLevels.{PredicateLevel, TellsLevel, TellLevels, settled_level, joined_level}
use Rattle.token_stack.specs.PredicateLevels.{names_at, AreNumbersOf, StepTests, AreTestsOf, outermost}
use Rattle.token_stack.proofs.BoundRows.{settled_row}
use Rattle.token_stack.proofs.LearnLaws.{outermost_levels, outermost_names}
use Rattle.token_stack.proofs.PredicateLevelLaws.{level_settles}

-- ---- tests

open_as : (lets met done : Bool) → (lets && (not met && not done)) ≡ (lets && not (met || done))
open_as true true done = refl
open_as true false done = refl
open_as false met done = refl

closed_met : (lets met done : Bool) → met ≡ true → (lets && (not met && not done)) ≡ false
closed_met true true done is = refl
closed_met true false done is = absurd (true≢false (sym is))
closed_met false met done is = refl

closed_done : (lets met done : Bool) → done ≡ true → (lets && (not met && not done)) ≡ false
closed_done true true done is = refl
closed_done true false true is = refl
closed_done true false false is = absurd (true≢false (sym is))
closed_done false met done is = refl

closed_is : (lets met done : Bool) → lets ≡ true → (lets && (not met && not done)) ≡ false → (met || done) ≡ true
closed_is true true done passed is = refl
closed_is true false true passed is = refl
closed_is true false false passed is = absurd (true≢false is)
closed_is false met done passed is = absurd (true≢false (sym passed))

open_both : (lets a b c e : Bool)
    → (lets && (not (a || b) && not (c || e))) ≡ ((lets && (not a && not c)) && (lets && (not b && not e)))
open_both false a b c e = refl
open_both true true b c e = refl
open_both true false true true e = refl
open_both true false true false e = refl
open_both true false false true e = refl
open_both true false false false e = refl

neither_left : (a b : Bool) → (a || b) ≡ false → a ≡ false
neither_left true b is = is
neither_left false b is = refl

neither_right : (a b : Bool) → (a || b) ≡ false → b ≡ false
neither_right true b is = absurd (true≢false is)
neither_right false b is = is

-- ---- one element

-- A predicate is open only at an element whose name passes the test of the step that bears it.
pub open_passes : (tests : StepTests) (step : ℕ) (s : Step) (name : List ℕ) (level : PredicateLevel) (n : ℕ)
    → ((other : List ℕ) → tests.lets step other ≡ passes s.test other) → is_open tests step name level n ≡ true
    → passes s.test name ≡ true
open_passes tests step s name level n same so = sym (same name)
    ∙ first_so (tests.lets step name) (not (level.met n) && not level.done) so

-- It isn't open at a level at which the others have failed.
pub open_settled : (tests : StepTests) (step : ℕ) (name : List ℕ) (level : PredicateLevel) (n : ℕ)
    → is_open tests step name (settled_level level) n ≡ false
open_settled tests step name level n = closed_done (tests.lets step name) (level.met n) true refl

-- It isn't open once the element's Finish is known.
pub open_finished : (preds : List Pred) (d : Doc) (list : List Event) (tests : StepTests) (step : ℕ) (name : List ℕ)
    (level : PredicateLevel) (n k finish : ℕ) (place : List ℕ)
    → TellsLevel preds d list k place level → finishes_at list place finish ≡ true → finish < k
    → is_open tests step name level n ≡ false
open_finished preds d list tests step name level n k finish place tells finishes before =
    closed_done (tests.lets step name) (level.met n) level.done
    (tells.done ∙ any_so (finishes_at list place) (counted k) finish (has_counted k finish before) finishes)

-- It isn't open once an event is known that meets it.
pub open_met : (preds : List Pred) (d : Doc) (list : List Event) (tests : StepTests) (step : ℕ) (name : List ℕ)
    (level : PredicateLevel) (n k i : ℕ) (pred : Pred) (place : List ℕ)
    → TellsLevel preds d list k place level → slice_get preds n ≡ Some pred → is_met_at d list place pred i ≡ true
    → i < k → is_open tests step name level n ≡ false
open_met preds d list tests step name level n k i pred place tells is met before =
    closed_met (tests.lets step name) (level.met n) level.done
    (tells.met n pred is ∙ any_so (is_met_at d list place pred) (counted k) i (has_counted k i before) met)

-- By two levels together it is open where it is open by both.
pub open_joined : (tests : StepTests) (step : ℕ) (name : List ℕ) (one other : PredicateLevel) (n : ℕ)
    → is_open tests step name (joined_level one other) n ≡
    (is_open tests step name one n && is_open tests step name other n)
open_joined tests step name one other n =
    open_both (tests.lets step name) (one.met n) (other.met n) one.done other.done

-- ---- the rules that aren't decided

module _ (names : List (List ℕ)) (d : Doc) (list : List Event) (few : length names ≤ 256)
    (spells : Spells names (Some d) list) (preds : List Pred) (known : Knowledge) (tests : StepTests) where
  -- It is open exactly where the name passes and it isn't settled.
  pub open_is : (place : List ℕ) (e : Element) (level : PredicateLevel) (step : ℕ) (s : Step) (n : ℕ) (pred : Pred)
      → at d place ≡ Some e → TellsLevel preds d list (known place) place level
      → ((name : List ℕ) → tests.lets step name ≡ passes s.test name) → slice_get preds n ≡ Some pred
      → is_open tests step e.name level n ≡ (passes s.test e.name && not (is_settled d list (known place) place pred))
  open_is place e level step s n pred there tells same is =
      open_as (tests.lets step e.name) (level.met n) level.done
      ∙ ap (λ b. b && not (level.met n || level.done)) (same e.name)
      ∙ ap (λ b. passes s.test e.name && not b)
      (level_settles names d list few spells preds known place e level n pred there tells is)

  numbers_settled : (place : List ℕ) (e : Element) (level : PredicateLevel) (step : ℕ) (numbers : List ℕ)
      (these : List Pred) → at d place ≡ Some e
      → TellsLevel preds d list (known place) place level → tests.lets step e.name ≡ true
      → AreNumbersOf preds numbers these
      → list_any (is_open tests step e.name level) numbers ≡ false
      → list_all (is_settled d list (known place) place) these ≡ true
  numbers_settled place e level step [] [] there tells passed are none = refl
  numbers_settled place e level step [] (pred ∷ more) there tells passed are none = absurd are
  numbers_settled place e level step (n ∷ numbers) [] there tells passed are none = absurd are
  numbers_settled place e level step (n ∷ numbers) (pred ∷ more) there tells passed are none =
      let closed = neither_left (is_open tests step e.name level n)
      (list_any (is_open tests step e.name level) numbers) none in
      let rest = neither_right (is_open tests step e.name level n)
      (list_any (is_open tests step e.name level) numbers) none in
      both_so (is_settled d list (known place) place pred) (list_all (is_settled d list (known place) place) more)
      (sym (level_settles names d list few spells preds known place e level n pred there tells are.0)
      ∙ closed_is (tests.lets step e.name) (level.met n) level.done passed closed)
      (numbers_settled place e level step numbers more there tells passed are.1 rest)

  step_settled : (place : List ℕ) (e : Element) (level : PredicateLevel) (step : ℕ) (s : Step) → at d place ≡ Some e
      → TellsLevel preds d list (known place) place level
      → ((name : List ℕ) → tests.lets step name ≡ passes s.test name)
      → AreNumbersOf preds (tests.numbers step) s.preds
      → list_any (is_open tests step e.name level) (tests.numbers step) ≡ false
      → is_step_settled d list known place s (Some e) ≡ true
  step_settled place e level step s there tells same are none = by (passes s.test e.name) refl
    where
      by : (b : Bool) → passes s.test e.name ≡ b
          → (not b || list_all (is_settled d list (known place) place) s.preds) ≡ true
      by true is = numbers_settled place e level step (tests.numbers step) s.preds there tells
          (same e.name ∙ is) are none
      by false is = refl

  steps_settled : (place : List ℕ) (e : Element) (level : PredicateLevel) (n : ℕ) (steps : List Step)
      → at d place ≡ Some e → TellsLevel preds d list (known place) place level
      → AreTestsOf preds tests n steps → has_open tests n steps e.name level ≡ false
      → list_all (λ s. is_step_settled d list known place s (Some e)) steps ≡ true
  steps_settled place e level n [] there tells are none = refl
  steps_settled place e level n (s ∷ more) there tells are none =
      let here = neither_left (list_any (is_open tests n e.name level) (tests.numbers n))
      (has_open tests (suc n) more e.name level) none in
      let rest = neither_right (list_any (is_open tests n e.name level) (tests.numbers n))
      (has_open tests (suc n) more e.name level) none in
      both_so (is_step_settled d list known place s (Some e))
      (list_all (λ t. is_step_settled d list known place t (Some e)) more)
      (step_settled place e level n s there tells are.0 are.1 here)
      (steps_settled place e level (suc n) more there tells are.2 rest)

  none_settled : (place : List ℕ) (steps : List Step)
      → list_all (λ s. is_step_settled d list known place s None) steps ≡ true
  none_settled place [] = refl
  none_settled place (s ∷ more) = none_settled place more

  place_settled : (place : List ℕ) (o : Option Element) (level : PredicateLevel) (n : ℕ) (steps : List Step)
      → at d place ≡ o → TellsLevel preds d list (known place) place level
      → AreTestsOf preds tests n steps
      → has_open tests n steps (option_map_or (λ (e : Element). e.name) o []) level ≡ false
      → list_all (λ s. is_step_settled d list known place s o) steps ≡ true
  place_settled place None level n steps there tells are none = none_settled place steps
  place_settled place (Some e) level n steps there tells are none =
      steps_settled place e level n steps there tells are none

  places_settled : (places : List (List ℕ)) (levels : List PredicateLevel) (n : ℕ) (steps : List Step)
      → TellLevels preds d list known places levels
      → AreTestsOf preds tests n steps → have_open tests n steps (names_at d places) levels ≡ false
      → list_all (λ bearer. list_all (λ s. is_step_settled d list known bearer s (at d bearer)) steps) places ≡ true
  places_settled [] levels n steps tell are none = refl
  places_settled (place ∷ places) [] n steps tell are none = absurd tell
  places_settled (place ∷ places) (level ∷ levels) n steps tell are none =
      let name : List ℕ = option_map_or (λ (e : Element). e.name) (at d place) [] in
      let here = neither_left (has_open tests n steps name level)
      (have_open tests n steps (names_at d places) levels) none in
      let rest = neither_right (has_open tests n steps name level)
      (have_open tests n steps (names_at d places) levels) none in
      both_so (list_all (λ s. is_step_settled d list known place s (at d place)) steps)
      (list_all (λ bearer. list_all (λ s. is_step_settled d list known bearer s (at d bearer)) steps) places)
      (place_settled place (at d place) level n steps refl tell.0 are here)
      (places_settled places levels n steps tell.1 are rest)

  -- A rule that may select an element and doesn't surely select it has an open predicate there or further out.
  pub undecided_open : (rules : List Rule) (i : ℕ) (begins : ℕ → ℕ) (surely possibly : ℕ → List ℕ)
      (levels : List PredicateLevel) (k : ℕ) (place : List ℕ) (n : ℕ) (rule : Rule)
      → slice_get rules n ≡ Some rule → AreTestsOf preds tests (begins n) rule.path.steps
      → StandsBy rules d list i known surely possibly
      → TellLevels preds d list known (places_of (open_at list i)) levels
      → place_of_level (open_at list i) k ≡ Some place
      → is_member (possibly k) n ≡ true → is_member (surely k) n ≡ false
      → have_open tests (begins n) rule.path.steps (outermost k (names_at d (places_of (open_at list i))))
      (outermost k levels) ≡ true
  undecided_open rules i begins surely possibly levels k place n rule there are stand tell is may unsure =
      ap (λ ns. have_open tests (begins n) rule.path.steps ns (outermost k levels))
      (outermost_names d list i k place is)
      ∙ by (have_open tests (begins n) rule.path.steps (names_at d (prefixes place)) (outermost k levels)) refl
    where
      by : (b : Bool) → have_open tests (begins n) rule.path.steps (names_at d (prefixes place))
          (outermost k levels) ≡ b → b ≡ true
      by true same = refl
      by false same =
          let settled = places_settled (prefixes place) (outermost k levels) (begins n) rule.path.steps
          (outermost_levels preds d list i known levels k place tell is) are same in
          absurd (true≢false (sym
          (settled_row names rules d list spells i known surely possibly k place n rule stand is there settled may)
          ∙ unsure))
