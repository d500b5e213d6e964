-- The tables of rules: a state for each step of their paths, one rule after another, and a state for each suffix of
-- the paths of their predicates. Each rule is a nondeterministic automaton (VLDB 2004). The tables are defined by this
-- project.
use Rattle.std.specs.Prelude.{◌≡◌, ◌≤◌, ◌<◌, ℕ, ◌+◌, Bool, true, false, is_none, is_some, not, nat_eq, ◌&&◌, Option, Some, None, List, [], ◌∷◌, ◌++◌, length, map, sum_by, All, if◌then◌else◌}
use Rattle.std.specs.List.{list_all, slice_get}
use Rattle.std.specs.Option.{option_map_or}
use Rattle.acl_model.specs.Limits.{most_names, most_rules, most_steps, most_pred_steps, most_preds}
use Rattle.acl_model.specs.Dictionary.{name_number}
use Rattle.acl_model.specs.Document.{is_dummy_name}
use Rattle.acl_model.specs.RuleNumbers.{numbers_of_sign}
use Rattle.acl_model.specs.declared.path.Pred.{Pred}
use Rattle.acl_model.specs.declared.path.PredStep.{PredStep}
use Rattle.acl_model.specs.declared.path.Step.{Step}
use Rattle.acl_model.specs.declared.path.Test.{Test}
use Rattle.acl_model.specs.declared.path.Test.TheVariants.{Any, Named}
use Rattle.acl_model.specs.declared.rule.Rule.{Rule}
use Rattle.acl_model.specs.declared.rule.Sign.TheVariants.{Grant, Deny}
use Rattle.rule_automata.specs.declared.bearing.Bearing.{Bearing}
use Rattle.rule_automata.specs.declared.state.State.{State}
use Rattle.rule_automata.specs.declared.state.TagTest.{TagTest}
use Rattle.rule_automata.specs.declared.state.TagTest.TheVariants.{Each, Only, Never}
use Rattle.rule_automata.specs.declared.suffix.Suffix.{Suffix}
use Rattle.rule_automata.specs.declared.suffix.SuffixStep.{SuffixStep}

-- The model of tables: a state for each step of the rules, the suffixes of the paths of their predicates, which step
-- has each predicate, the numbers of the rules that grant, and those of the rules that deny.
pub record Automata : Type 0 where
  pub states : List State
  pub suffixes : List Suffix
  pub bearings : List Bearing
  pub grants : List ℕ
  pub denies : List ℕ

-- ---- the steps of paths

-- The test of tags that a step makes. `*` accepts each tag. A name accepts only its number among the
-- names. A dummy's name, and a name that isn't among the names, accept no tag.
abbrev pub tag_test : List (List ℕ) → Test → TagTest
tag_test names Any = Each
tag_test names (Named name) =
    if is_dummy_name name then Never else option_map_or Only (name_number names name) Never

-- the rule that ends with a step, by the steps after it: the step's own rule where there are none
abbrev pub ends_after : ℕ → List Step → Option ℕ
ends_after rule [] = Some rule
ends_after rule (s ∷ more) = None

-- the states of a rule, by its number and its steps
abbrev pub rule_states : List (List ℕ) → ℕ → List Step → List State
rule_states names rule [] = []
rule_states names rule (s ∷ more) =
    record { axis = s.axis; test = tag_test names s.test; ends = ends_after rule more }
    ∷ rule_states names rule more

-- the states of rules, where the first rule has this number
abbrev pub states_from : List (List ℕ) → ℕ → List Rule → List State
states_from names rule [] = []
states_from names rule (r ∷ rules) =
    rule_states names rule r.path.steps ++ states_from names (rule + 1) rules

-- ---- predicates

-- a predicate of a rule's step, with the number of this step's state
pub record StepPred : Type 0 where
  pub step : ℕ
  pub pred : Pred

-- predicates of a step, whose state has this number
abbrev pub preds_at : ℕ → List Pred → List StepPred
preds_at step preds = map (λ pred. record { step = step; pred = pred }) preds

-- the predicates of the steps of a path, where the first step's state has this number
abbrev pub preds_of_steps : ℕ → List Step → List StepPred
preds_of_steps step [] = []
preds_of_steps step (s ∷ more) = preds_at step s.preds ++ preds_of_steps (step + 1) more

-- the predicates of rules, where the first state of the first rule has this number
abbrev pub preds_from : ℕ → List Rule → List StepPred
preds_from step [] = []
preds_from step (r ∷ rules) =
    preds_of_steps step r.path.steps ++ preds_from (step + length r.path.steps) rules

-- the first step of a suffix: the axis of a step of a predicate's path, and its test of tags
abbrev pub suffix_step : List (List ℕ) → PredStep → SuffixStep
suffix_step names s = record { axis = s.axis; test = tag_test names s.test }

-- the suffixes of a predicate's path. The empty one comes first, and each other has one step more than the one before
-- it, which comes before its other steps. The whole path is the last.
abbrev pub way_suffixes : List (List ℕ) → List PredStep → List Suffix
way_suffixes names [] = record { step = None } ∷ []
way_suffixes names (s ∷ way) = way_suffixes names way ++ record { step = Some (suffix_step names s) } ∷ []

-- the suffixes of the paths of predicates, one predicate after another
abbrev pub suffixes_of : List (List ℕ) → List StepPred → List Suffix
suffixes_of names [] = []
suffixes_of names (p ∷ preds) = way_suffixes names p.pred.way ++ suffixes_of names preds

-- the bearing of a predicate: the number of the state whose step has it, those of its empty suffix and of its whole
-- path, and what it asks for. The empty suffix has the number `first`.
abbrev pub bearing_of : ℕ → StepPred → Bearing
bearing_of first p = record {
  step = p.step;
  first = first;
  whole = first + length p.pred.way;
  attribute = p.pred.attribute;
  cmp = p.pred.cmp;
}

-- the bearings of predicates, where the first one's empty suffix has this number. The empty suffix of each other comes
-- after the whole path of the one before it.
abbrev pub bearings_from : ℕ → List StepPred → List Bearing
bearings_from first [] = []
bearings_from first (p ∷ preds) =
    bearing_of first p ∷ bearings_from (first + length p.pred.way + 1) preds

-- ---- the tables

-- the tables of rules, where tags are numbers of these names
abbrev pub automata_of : List (List ℕ) → List Rule → Automata
automata_of names rules = record {
  states = states_from names 0 rules;
  suffixes = suffixes_of names (preds_from 0 rules);
  bearings = bearings_from 0 (preds_from 0 rules);
  grants = numbers_of_sign Grant rules;
  denies = numbers_of_sign Deny rules;
}

-- how many steps the paths of the rules have together
abbrev pub steps_in : List Rule → ℕ
steps_in rules = sum_by (λ r. length r.path.steps) rules

-- how many predicates steps have together
abbrev pub preds_in_steps : List Step → ℕ
preds_in_steps steps = sum_by (λ s. length s.preds) steps

-- how many predicates the steps of the rules have together
abbrev pub preds_in : List Rule → ℕ
preds_in rules = sum_by (λ r. preds_in_steps r.path.steps) rules

-- how many steps the paths of these predicates have together
abbrev pub way_steps_in : List Pred → ℕ
way_steps_in preds = sum_by (λ p. length p.way) preds

-- how many steps the paths of all predicates of the rules have together
abbrev pub pred_steps_in : List Rule → ℕ
pred_steps_in rules = sum_by (λ r. sum_by (λ s. way_steps_in s.preds) r.path.steps) rules

-- The list of predicates is empty.
abbrev pub is_empty_of : List Pred → Bool
is_empty_of [] = true
is_empty_of (pred ∷ preds) = false

-- No step of the rules has a predicate.
abbrev pub have_no_predicates : List Rule → Bool
have_no_predicates rules = list_all (λ r. list_all (λ s. is_empty_of s.preds) r.path.steps) rules

-- Each rule ends with one of its states. `is_begun` says that states of an unfinished rule come before
-- these states.
abbrev pub is_closed : Bool → List State → Bool
is_closed is_begun [] = not is_begun
is_closed is_begun (s ∷ states) = is_closed (is_none s.ends) states

-- There is a suffix with this number, and it has a step.
abbrev pub has_step_at : List Suffix → ℕ → Bool
has_step_at suffixes n = option_map_or (λ suffix. is_some suffix.step) (slice_get suffixes n) false

-- The bearings take this many suffixes one after another: the first one's empty suffix has the number `first`, that of
-- each other comes right after the whole path of the one before it, and no suffix comes after the last whole path.
abbrev pub are_in_turn : ℕ → ℕ → List Bearing → Bool
are_in_turn count first [] = nat_eq first count
are_in_turn count first (b ∷ bearings) = nat_eq b.first first && are_in_turn count (b.whole + 1) bearings

-- The invariant of tables. There are at most 256 states, so that their numbers fit in a `Row`, and each rule ends with
-- one of its states. There are at most 64 bearings and 320 suffixes. The step of a bearing is one of the states. Its
-- suffixes are those from `first` to `whole`: the first of these has no step, and each other has one.
pub record AreTables (tables : Automata) : Type 0 where
  pub few_states : length tables.states ≤ 256
  pub closed : is_closed false tables.states ≡ true
  pub few_suffixes : length tables.suffixes ≤ 320
  pub few_bearings : length tables.bearings ≤ 64
  pub steps : All (λ b. b.step < length tables.states) tables.bearings
  pub order : All (λ b. b.first ≤ b.whole) tables.bearings
  pub within : All (λ b. b.whole < length tables.suffixes) tables.bearings
  pub in_turn : are_in_turn (length tables.suffixes) 0 tables.bearings ≡ true
  pub empty : All (λ b. slice_get tables.suffixes b.first ≡ Some (record { step = None })) tables.bearings
  pub longer : All (λ b. (n : ℕ) → b.first < n → n ≤ b.whole → has_step_at tables.suffixes n ≡ true) tables.bearings

-- The rules, their steps, their predicates and the steps of these are within the limits of a licence, and the names
-- are at most as many as a dictionary may have.
pub record AreWithinLimits (names : List (List ℕ)) (rules : List Rule) : Type 0 where
  pub few_rules : length rules ≤ most_rules
  pub few_steps : steps_in rules ≤ most_steps
  pub few_pred_steps : pred_steps_in rules ≤ most_pred_steps
  pub few_preds : preds_in rules ≤ most_preds
  pub few_names : length names ≤ most_names
