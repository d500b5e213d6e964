-- How states change from an element to a child of it: a token moves on at each start of an element
-- (VLDB 2004). A state *waits* at an element, or is active there, where its step may be taken at a
-- child. Defined by this project.
use Rattle.std.specs.Prelude.{ℕ, Bool, true, false, is_some, nat_eq, ◌&&◌, ◌||◌, Option, Some, None, List, [], ◌∷◌, if◌then◌else◌}
use Rattle.std.specs.List.{list_any}
use Rattle.std.specs.Option.{option_map_or}
use Rattle.acl_model.specs.declared.path.Axis.{Axis}
use Rattle.acl_model.specs.declared.path.Axis.TheVariants.{Child, Descendant}
use Rattle.rule_automata.specs.declared.state.State.{State}
use Rattle.rule_automata.specs.declared.state.TagTest.{TagTest}
use Rattle.rule_automata.specs.declared.state.TagTest.TheVariants.{Each, Only, Never}

-- The tag passes the test.
abbrev pub passes_tag : TagTest → ℕ → Bool
passes_tag Each tag = true
passes_tag (Only wanted) tag = nat_eq wanted tag
passes_tag Never tag = false

-- A state at an element: whether it waits there, and the rule that selects the element with this state's
-- step, if one does.
pub record Standing : Type 0 where
  pub state : State
  pub waits : Bool
  pub selects : Option ℕ

-- A state waits at a child where the step before it is taken there. The state of a descendant step also
-- waits at a child where it waits at the parent.
abbrev pub waits_below : Axis → Bool → Bool → Bool
waits_below Child before waits = before
waits_below Descendant before waits = before || waits

-- The step of a state is taken at a child where the state waits at the parent and the child's tag passes
-- the state's test.
abbrev pub is_taken : State → Bool → ℕ → Bool
is_taken s waits tag = waits && passes_tag s.test tag

-- the rule that selects the element: the state's, where its step is taken and ends the rule
abbrev pub selected_rule : State → Bool → Option ℕ
selected_rule s taken = if taken then s.ends else None

-- The step is taken and doesn't end its rule, so the next state waits.
abbrev pub goes_on : Option ℕ → Bool → Bool
goes_on None taken = taken
goes_on (Some rule) taken = false

-- The states at the virtual root, where the first state of each rule waits. `is_first` says that the
-- next state is a first one.
abbrev pub begun : Bool → List State → List Standing
begun is_first [] = []
begun is_first (s ∷ states) =
    record { state = s; waits = is_first; selects = None } ∷ begun (is_some s.ends) states

-- All states at a child with this tag, from those at its parent. `before` says that the step before
-- the next state is taken at the child and doesn't end its rule.
abbrev pub moved : ℕ → Bool → List Standing → List Standing
moved tag before [] = []
moved tag before (m ∷ row) =
    record {
      state = m.state;
      waits = waits_below m.state.axis before m.waits;
      selects = selected_rule m.state (is_taken m.state m.waits tag);
    } ∷ moved tag (goes_on m.state.ends (is_taken m.state m.waits tag)) row

-- all states at an element, from its tag, its parent's tag, and so on to the root's
abbrev pub run : List State → List ℕ → List Standing
run states [] = begun true states
run states (tag ∷ up) = moved tag false (run states up)

-- There is a rule, and it is this one.
abbrev pub is_rule : ℕ → Option ℕ → Bool
is_rule rule o = option_map_or (λ r. nat_eq r rule) o false

-- Some state says that the rule selects the element.
abbrev pub is_selected_by : List State → List ℕ → ℕ → Bool
is_selected_by states tags rule = list_any (λ m. is_rule rule m.selects) (run states tags)
