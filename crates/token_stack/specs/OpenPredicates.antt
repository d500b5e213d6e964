-- Which predicates are open at which open elements: those that the events known there don't settle. Defined by this
-- project.
use Rattle.std.specs.Prelude.{ℕ, suc, Bool, false, not, ◌&&◌, ◌||◌, List, [], ◌∷◌}
use Rattle.std.specs.List.{list_any}
use Rattle.acl_model.specs.declared.path.Step.{Step}
use Rattle.token_stack.specs.PredicateLevels.{PredicateLevel, StepTests}

-- A predicate is open at an element, by the element's name and its level: the name passes the name test of the step
-- that has the predicate, and the predicate is neither met nor has failed. The first number is that of the step's
-- state, and the second one that of the predicate.
abbrev pub is_open : StepTests → ℕ → List ℕ → PredicateLevel → ℕ → Bool
is_open tests step name level n = tests.lets step name && (not (level.met n) && not level.done)

-- Some predicate of the steps, whose states are numbered from n on, is open at the element.
abbrev pub has_open : StepTests → ℕ → List Step → List ℕ → PredicateLevel → Bool
has_open tests n [] name level = false
has_open tests n (s ∷ more) name level =
    list_any (is_open tests n name level) (tests.numbers n) || has_open tests (suc n) more name level

-- Some predicate of the steps is open at one of the elements with these names and these levels.
abbrev pub have_open : StepTests → ℕ → List Step → List (List ℕ) → List PredicateLevel → Bool
have_open tests n steps [] levels = false
have_open tests n steps (name ∷ names) [] = false
have_open tests n steps (name ∷ names) (level ∷ levels) =
    has_open tests n steps name level || have_open tests n steps names levels
