-- How tables read back: which state is that of a step, and which bearing and which suffixes are those of a predicate.
-- Defined by this project.
use Rattle.std.specs.Prelude.{◌≡◌, ℕ, ◌+◌, ◌-◌, Some, None, List, length, take}
use Rattle.std.specs.List.{slice_get}
use Rattle.acl_model.specs.declared.path.Pred.{Pred}
use Rattle.acl_model.specs.declared.path.PredStep.{PredStep}
use Rattle.acl_model.specs.declared.path.Step.{Step}
use Rattle.acl_model.specs.declared.rule.Rule.{Rule}
use Rattle.rule_automata.specs.declared.bearing.Bearing.{Bearing}
use Rattle.rule_automata.specs.Compile.{Automata, suffix_step, steps_in, preds_in, preds_in_steps}

-- the number of the state of a step: how many steps come before it. `rule` is the number of its rule, and `step` its
-- number in the path.
abbrev pub state_number : List Rule → ℕ → ℕ → ℕ
state_number rules rule step = steps_in (take rule rules) + step

-- the number of the bearing of a predicate: how many predicates come before it. `rule` is the number of its rule, whose
-- path has these steps, `step` the number of its step in the path, and `pred` its number at the step.
abbrev pub bearing_number : List Rule → ℕ → List Step → ℕ → ℕ → ℕ
bearing_number rules rule steps step pred =
    preds_in (take rule rules) + (preds_in_steps (take step steps) + pred)

-- Tables have a predicate at the step whose state has the number `step`. Its bearing has the number n and is a copy of
-- what it asks for. The suffixes from `first` to `whole` are those of its path. The one at `first` is empty. The one
-- that begins with the path's step number k, counted from 0, is k before the whole path.
pub record HavePred (names : List (List ℕ)) (tables : Automata) (n step : ℕ) (pred : Pred) : Type 0 where
  pub bearing : Bearing
  pub there : slice_get tables.bearings n ≡ Some bearing
  pub step_is : bearing.step ≡ step
  pub attribute : bearing.attribute ≡ pred.attribute
  pub cmp : bearing.cmp ≡ pred.cmp
  pub whole : bearing.whole ≡ bearing.first + length pred.way
  pub empty : slice_get tables.suffixes bearing.first ≡ Some (record { step = None })
  pub longer : (k : ℕ) (s : PredStep) → slice_get pred.way k ≡ Some s
      → slice_get tables.suffixes (bearing.whole - k) ≡ Some (record { step = Some (suffix_step names s) })

-- The bearing with the number n is that of a predicate of the rules.
pub record IsOfPred (rules : List Rule) (n : ℕ) : Type 0 where
  pub rule_number : ℕ
  pub rule : Rule
  pub step_number : ℕ
  pub step : Step
  pub pred_number : ℕ
  pub pred : Pred
  pub rule_is : slice_get rules rule_number ≡ Some rule
  pub step_is : slice_get rule.path.steps step_number ≡ Some step
  pub pred_is : slice_get step.preds pred_number ≡ Some pred
  pub number : n ≡ bearing_number rules rule_number rule.path.steps step_number pred_number
