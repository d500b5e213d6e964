-- What is known of predicates at each open element, and how it follows from event to event. A predicate is *met* at its
-- context node once an event has shown a value that makes it true. Defined by this project.
use Rattle.std.specs.Prelude.{◌≡◌, ℕ, suc, ◌-◌, Bool, true, false, nat_eq, nat_le, not, ◌&&◌, ◌||◌, if◌then◌else◌}
use Rattle.std.specs.Prelude.{Option, Some, None, List, [], ◌∷◌, length, drop, map}
use Rattle.std.specs.List.{list_any, list_all, slice_get}
use Rattle.std.specs.Option.{option_map_or}
use Rattle.acl_bits.specs.Row.{row_of}
use Rattle.acl_model.specs.NameTests.{passes}
use Rattle.acl_model.specs.Places.{at}
use Rattle.acl_model.specs.declared.document.Doc.{Doc}
use Rattle.acl_model.specs.declared.document.Element.{Element}
use Rattle.acl_model.specs.declared.path.Pred.{Pred}
use Rattle.acl_model.specs.declared.path.Step.{Step}
use Rattle.acl_model.specs.declared.rule.Rule.{Rule}
use Rattle.acl_walk.specs.Begun.{finishes_at}
use Rattle.acl_walk.specs.Closes.{counted, is_met_at}
use Rattle.acl_walk.specs.declared.event.Event.{Event}
use Rattle.acl_walk.specs.declared.event.Event.TheVariants.{Begin, Attr, HeadEnd, Text, Finish, End}
use Rattle.token_stack.specs.Bounds.{Knowledge, is_met}
use Rattle.token_stack.specs.Hits.{hits}
use Rattle.token_stack.specs.StateRows.{StateRow, SuffixStates, IsSuffix, empty_suffix, HasEmptyAlone}
use Rattle.token_stack.specs.StateRows.{StepStates, last_of_path, taken_row}

-- Of numbered predicates, the row has exactly those for which a test is true. In a row of states the number of a
-- predicate is that of its state (`AreSuffixes`). So the list has more members than the rules have predicates: before
-- each of these it has the shorter suffixes of its path, each with the same attribute and comparison.
abbrev pub IsRowOf : List Pred → StateRow → (Pred → Bool) → Type 0
IsRowOf preds row test = (n : ℕ) (pred : Pred) → slice_get preds n ≡ Some pred → row n ≡ test pred

-- ---- one element

-- what is known of numbered predicates at an element
pub record PredicateLevel : Type 0 where
  -- The predicate is met.
  pub met : StateRow
  -- All predicates that aren't met have failed.
  pub done : Bool

-- The element at the place finishes with one of the first k events.
abbrev pub is_finished : List Event → ℕ → List ℕ → Bool
is_finished list k place = list_any (finishes_at list place) (counted k)

-- A level tells what is known of the predicates at the element at a place, if the first k events are known there: which
-- of the predicates these events meet, and whether the element finishes with one of them.
pub record TellsLevel (preds : List Pred) (d : Doc) (list : List Event) (k : ℕ) (place : List ℕ)
    (level : PredicateLevel) : Type 0 where
  pub met : IsRowOf preds level.met (is_met d list k place)
  pub done : level.done ≡ is_finished list k place

-- a level at which these predicates are met, and no other has failed
abbrev pub new_level : StateRow → PredicateLevel
new_level now = record { met = now; done = false }

-- the level after these predicates are met, too
abbrev pub with_met : PredicateLevel → StateRow → PredicateLevel
with_met level now = record { met = λ n. level.met n || now n; done = level.done }

-- the level after all predicates that aren't met have failed
abbrev pub settled_level : PredicateLevel → PredicateLevel
settled_level level = record { met = level.met; done = true }

-- what two levels tell together
abbrev pub joined_level : PredicateLevel → PredicateLevel → PredicateLevel
joined_level one other = record { met = λ n. one.met n || other.met n; done = one.done || other.done }

-- ---- all open elements, the innermost first

-- Each level tells what is known at the place with the same index.
abbrev pub TellLevels : List Pred → Doc → List Event → Knowledge → List (List ℕ) → List PredicateLevel → Type 0
TellLevels preds d list known [] [] = Unit {0}
TellLevels preds d list known [] (level ∷ levels) = ⊥
TellLevels preds d list known (place ∷ places) [] = ⊥
TellLevels preds d list known (place ∷ places) (level ∷ levels) =
    TellsLevel preds d list (known place) place level × TellLevels preds d list known places levels

-- Each row has the predicates that the event at index i meets at the place with the same index.
abbrev pub TellNow : List Pred → Doc → List Event → ℕ → List (List ℕ) → List StateRow → Type 0
TellNow preds d list i [] [] = Unit {0}
TellNow preds d list i [] (now ∷ rows) = ⊥
TellNow preds d list i (place ∷ places) [] = ⊥
TellNow preds d list i (place ∷ places) (now ∷ rows) =
    IsRowOf preds now (λ pred. is_met_at d list place pred i) × TellNow preds d list i places rows

-- the levels after the predicates of the row with the same index are met at each, too
abbrev pub all_met : List StateRow → List PredicateLevel → List PredicateLevel
all_met rows [] = []
all_met [] (level ∷ levels) = level ∷ levels
all_met (now ∷ rows) (level ∷ levels) = with_met level now ∷ all_met rows levels

-- the levels after an element begins, whose row is the first one
abbrev pub begun_levels : List StateRow → List PredicateLevel → List PredicateLevel
begun_levels [] levels = levels
begun_levels (now ∷ rows) levels = new_level now ∷ all_met rows levels

-- the levels after an event. The rows have what the event meets at each element that is open with it.
abbrev pub levels_after_event : Event → List StateRow → List PredicateLevel → List PredicateLevel
levels_after_event (Begin tag below) rows levels = begun_levels rows levels
levels_after_event (Attr piece) rows levels = all_met rows levels
levels_after_event HeadEnd rows levels = levels
levels_after_event (Text piece) rows levels = levels
levels_after_event (Finish tag) rows levels = drop 1 (all_met rows levels)
levels_after_event End rows levels = levels

-- the levels at a Finish, before the innermost element is closed: there all predicates that aren't met have failed
abbrev pub settled_levels : List PredicateLevel → List PredicateLevel
settled_levels [] = []
settled_levels (level ∷ levels) = settled_level level ∷ levels

-- ---- after a look-ahead

-- the level of the element with this level number, if there is one: the last is the root's, with the number 1
abbrev pub level_of_number : List PredicateLevel → ℕ → Option PredicateLevel
level_of_number [] k = None
level_of_number (level ∷ up) k = if nat_eq k (length (level ∷ up)) then Some level else level_of_number up k

-- what a level tells together with another one, if there is one
abbrev pub joined_with : PredicateLevel → Option PredicateLevel → PredicateLevel
joined_with one None = one
joined_with one (Some other) = joined_level one other

-- the levels after a look-ahead. Each one up to this number, counted from the root, is joined with the one that has the
-- same number ahead, and the deeper ones stay.
abbrev pub learned_levels : ℕ → List PredicateLevel → List PredicateLevel → List PredicateLevel
learned_levels level [] ahead = []
learned_levels level (one ∷ up) ahead =
    (if nat_le (length (one ∷ up)) level then joined_with one (level_of_number ahead (length (one ∷ up))) else one)
    ∷ learned_levels level up ahead

-- ---- the row of the innermost element

-- the names of the elements at these places of a document
abbrev pub names_at : Doc → List (List ℕ) → List (List ℕ)
names_at d places = map (λ place. option_map_or (λ (e : Element). e.name) (at d place) []) places

-- Each of the numbered predicates is the suffix with its number. Each number is that of a state, so this holds only of
-- a list in which each shorter suffix of a predicate's path is a member, too. Such a member must have the same
-- attribute and comparison: all suffixes of a path share the empty one, whose state is in the row of what an event
-- shows (`IsHitRow`).
abbrev pub AreSuffixes : SuffixStates → List Pred → Type 0
AreSuffixes states preds = (n : ℕ) (pred : Pred) → slice_get preds n ≡ Some pred → IsSuffix states n pred.way

-- The row has the empty suffixes of those predicates for which the event shows at the innermost element x what they ask
-- for, where n attributes of x have ended before.
abbrev pub IsHitRow : List Pred → StateRow → Event → ℕ → Element → Type 0
IsHitRow preds row event n x = (m : ℕ) (pred : Pred) → slice_get preds m ≡ Some pred
    → HasEmptyAlone row m pred.way
    × (row (empty_suffix m pred.way) ≡ hits event n x pred.attribute pred.cmp)

-- ---- the steps that keep an element

-- The numbers are those of the predicates, in their order.
abbrev pub AreNumbersOf : List Pred → List ℕ → List Pred → Type 0
AreNumbersOf preds [] [] = Unit {0}
AreNumbersOf preds [] (pred ∷ more) = ⊥
AreNumbersOf preds (n ∷ numbers) [] = ⊥
AreNumbersOf preds (n ∷ numbers) (pred ∷ more) =
    (slice_get preds n ≡ Some pred) × AreNumbersOf preds numbers more

-- The predicates with these numbers are surely true: each is met.
abbrev pub are_all_met : PredicateLevel → List ℕ → Bool
are_all_met level numbers = list_all level.met numbers

-- They may be true: each is met, or has not failed.
abbrev pub may_all_be : PredicateLevel → List ℕ → Bool
may_all_be level numbers = list_all (λ n. level.met n || not level.done) numbers

-- tests of the steps of paths, by the numbers of their states
pub record StepTests : Type 0 where
  -- The name passes the name test of the step.
  pub lets : ℕ → List ℕ → Bool
  -- the numbers of the step's predicates
  pub numbers : ℕ → List ℕ

-- The tests are those of the steps, whose states are numbered from n on.
abbrev pub AreTestsOf : List Pred → StepTests → ℕ → List Step → Type 0
AreTestsOf preds tests n [] = Unit {0}
AreTestsOf preds tests n (s ∷ more) =
    ((name : List ℕ) → tests.lets n name ≡ passes s.test name)
    × AreNumbersOf preds (tests.numbers n) s.preds × AreTestsOf preds tests (suc n) more

-- the rows of the steps that keep each of some elements, by their names and their levels. A test of a level tells
-- whether the predicates with some numbers are taken as true there.
abbrev pub kept_rows : StepTests → (PredicateLevel → List ℕ → Bool) → List (List ℕ) → List PredicateLevel
    → List StateRow
kept_rows tests are_true [] levels = []
kept_rows tests are_true (name ∷ names) [] = []
kept_rows tests are_true (name ∷ names) (level ∷ levels) =
    (λ n. tests.lets n name && are_true level (tests.numbers n)) ∷ kept_rows tests are_true names levels

-- ---- the rules of each open element

-- the last k members of a list: of the open elements, those of the levels up to k
abbrev pub outermost : {X : Type 0} → ℕ → List X → List X
outermost k xs = drop (length xs - k) xs

-- the rules of the open element of a level: those whose last steps are taken there. The names and the levels are those
-- of all open elements, and `begins` has the number of the first step of each rule.
abbrev pub rules_of_level : List Rule → StepStates → StepTests → (ℕ → ℕ) → (PredicateLevel → List ℕ → Bool)
    → List (List ℕ) → List PredicateLevel → ℕ → List ℕ
rules_of_level rules states tests begins are_true names levels k =
    row_of (λ n. option_map_or (λ (rule : Rule). taken_row states
    (kept_rows tests are_true (outermost k names) (outermost k levels))
    (last_of_path (begins n) rule.path.steps)) (slice_get rules n) false)
