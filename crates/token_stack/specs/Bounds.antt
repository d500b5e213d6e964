-- What the first events of a list tell about predicates, and the bounds that follow for the elements that
-- a rule selects. The *bearer* of a predicate is its context node (XPath 1.0, 1). Defined by this project.
use Rattle.std.specs.Prelude.{◌≡◌, ◌≤◌, ◌<◌, ℕ, suc, Bool, true, false, nat_eq, nat_le, nat_lt, not, ◌&&◌, ◌||◌}
use Rattle.std.specs.Prelude.{Option, Some, None, List, [], ◌∷◌, length, if◌then◌else◌}
use Rattle.std.specs.List.{list_any, list_all}
use Rattle.std.specs.Option.{option_map_or}
use Rattle.acl_model.specs.NameTests.{passes}
use Rattle.acl_model.specs.Places.{at, prefixes}
use Rattle.acl_model.specs.Predicates.{holds}
use Rattle.acl_model.specs.RuleNumbers.{numbers_of}
use Rattle.acl_model.specs.Select.{NodeSet, virtual_root, leads}
use Rattle.acl_model.specs.declared.document.Doc.{Doc}
use Rattle.acl_model.specs.declared.document.Element.{Element}
use Rattle.acl_model.specs.declared.path.Path.{Path}
use Rattle.acl_model.specs.declared.path.Pred.{Pred}
use Rattle.acl_model.specs.declared.path.Step.{Step}
use Rattle.acl_model.specs.declared.rule.Rule.{Rule}
use Rattle.acl_walk.specs.Begun.{begins_at}
use Rattle.acl_walk.specs.Closes.{close, counted, is_met_at}
use Rattle.acl_walk.specs.Open.{OpenPlace, open_at}
use Rattle.acl_walk.specs.declared.event.Event.{Event}

-- ---- predicates after the first i events

-- One of the first i events meets the predicate at its bearer.
abbrev pub is_met : Doc → List Event → ℕ → List ℕ → Pred → Bool
is_met d list i bearer pred = list_any (is_met_at d list bearer pred) (counted i)

-- The predicate closes at its bearer with one of the first i events.
abbrev pub is_settled : Doc → List Event → ℕ → List ℕ → Pred → Bool
is_settled d list i bearer pred = option_map_or (λ index. nat_lt index i) (close d list bearer pred) false

-- whether a predicate is taken as true at the place of its bearer
abbrev pub PredicateTruth : Type 0
PredicateTruth = List ℕ → Pred → Bool

-- There is an element at the place, and the predicate is true for it.
abbrev pub model_truth : Doc → PredicateTruth
model_truth d bearer pred = option_map_or (holds pred) (at d bearer) false

-- how many of the first events are known at each bearer, by its place. These are the first i events at each
-- bearer where i events have been read, and more where events ahead were read.
abbrev pub Knowledge : Type 0
Knowledge = List ℕ → ℕ

-- The first i events are known at each bearer.
abbrev pub first_events : ℕ → Knowledge
first_events i bearer = i

-- At each bearer, no fewer events are known by the second than by the first.
abbrev pub KnowsNoLess : Knowledge → Knowledge → Type 0
KnowsNoLess known more = (bearer : List ℕ) → known bearer ≤ more bearer

-- At each of these places, no fewer events are known by the second than by the first.
abbrev pub KnowsNoLessAt : List (List ℕ) → Knowledge → Knowledge → Type 0
KnowsNoLessAt [] known more = Unit {0}
KnowsNoLessAt (place ∷ places) known more = (known place ≤ more place) × KnowsNoLessAt places known more

-- The predicate is surely true: one of the events that are known at its bearer meets it.
abbrev pub sure_truth : Doc → List Event → Knowledge → PredicateTruth
sure_truth d list known bearer pred = is_met d list (known bearer) bearer pred

-- The predicate may be true: one of the events that are known at its bearer meets it, or none of them settles
-- it.
abbrev pub may_truth : Doc → List Event → Knowledge → PredicateTruth
may_truth d list known bearer pred =
    is_met d list (known bearer) bearer pred || not (is_settled d list (known bearer) bearer pred)

-- At each element of the document, a predicate that is true by the first truth is true by the second.
abbrev pub IsAtMost : Doc → PredicateTruth → PredicateTruth → Type 0
IsAtMost d low high = (bearer : List ℕ) (e : Element) (pred : Pred) → at d bearer ≡ Some e
    → low bearer pred ≡ true → high bearer pred ≡ true

-- ---- selection by a truth of predicates

-- A step keeps the element at a place, by a truth of predicates, if its name passes the step's name test
-- and each predicate of the step is taken as true at the place (XPath 1.0, 2.1).
abbrev pub keeps_by : PredicateTruth → Step → List ℕ → Element → Bool
keeps_by truth s place e = passes s.test e.name && list_all (truth place) s.preds

-- There is an element at the place, and the step keeps it.
abbrev pub is_kept_by : PredicateTruth → Step → List ℕ → Option Element → Bool
is_kept_by truth s place None = false
is_kept_by truth s place (Some e) = keeps_by truth s place e

-- The result of a step is the set of the elements that its axis leads to and that it keeps.
abbrev pub step_by : Doc → PredicateTruth → Step → NodeSet → NodeSet
step_by d truth s set None = false
step_by d truth s set (Some place) = leads s.axis set place && is_kept_by truth s place (at d place)

-- The steps are applied in order, each to the result of the step before it.
abbrev pub steps_by : Doc → PredicateTruth → List Step → NodeSet → NodeSet
steps_by d truth [] set = set
steps_by d truth (s ∷ more) set = steps_by d truth more (step_by d truth s set)

-- whether a path selects the place by a truth of predicates; by the model's truth this is `select`
unfoldable pub selects_by : Doc → PredicateTruth → Path → List ℕ → Bool
selects_by d truth path place = steps_by d truth path.steps virtual_root (Some place)

-- the numbers of the rules whose paths select the place by a truth of predicates
abbrev pub rules_by : List Rule → Doc → PredicateTruth → List ℕ → List ℕ
rules_by rules d truth place = numbers_of (λ r. selects_by d truth r.path place) rules

-- the rules that surely select the place, by what is known
abbrev pub sure_rules : List Rule → Doc → List Event → Knowledge → List ℕ → List ℕ
sure_rules rules d list known place = rules_by rules d (sure_truth d list known) place

-- the rules that may select the place, by what is known
abbrev pub may_rules : List Rule → Doc → List Event → Knowledge → List ℕ → List ℕ
may_rules rules d list known place = rules_by rules d (may_truth d list known) place

-- ---- where the bounds are exact

-- Each predicate of a step is settled by what is known, at the element at the place, if there is one and its
-- name passes the step's name test.
abbrev pub is_step_settled : Doc → List Event → Knowledge → List ℕ → Step → Option Element → Bool
is_step_settled d list known place s None = true
is_step_settled d list known place s (Some e) =
    not (passes s.test e.name) || list_all (is_settled d list (known place) place) s.preds

-- So is each step of a path, at the element at the place and at its ancestors.
abbrev pub are_settled : Doc → List Event → Knowledge → Path → List ℕ → Bool
are_settled d list known path place =
    list_all (λ bearer. list_all (λ s. is_step_settled d list known bearer s (at d bearer)) path.steps)
    (prefixes place)

-- ---- what a look-ahead tells

-- what is known after a look-ahead: what is known ahead at the elements of the levels up to this one where
-- that is more, and at other elements what was known. The level of the root is 1.
abbrev pub learned : ℕ → Knowledge → Knowledge → Knowledge
learned level own ahead bearer =
    if nat_lt (length bearer) level && nat_lt (own bearer) (ahead bearer) then ahead bearer else own bearer

-- ---- one event more

-- what is known at each bearer after the event at index i: the first i + 1 events, or more where more were known
-- before. At the element that begins with this event these i + 1 are known.
abbrev pub knows_next : List Event → ℕ → Knowledge → Knowledge
knows_next list i known bearer =
    if not (begins_at list bearer i) && nat_lt i (known bearer) then known bearer else suc i

-- ---- levels

-- the place of the open element of a level, if there is one
abbrev pub place_of_level : List OpenPlace → ℕ → Option (List ℕ)
place_of_level [] level = None
place_of_level (element ∷ up) level =
    if nat_eq level (length (element ∷ up)) then Some element.place else place_of_level up level

-- Up to this level, the elements that are open after the first i events are those that are open after the
-- first `ahead` events.
abbrev pub AreStillOpen : List Event → ℕ → ℕ → ℕ → Type 0
AreStillOpen list i ahead level = (k : ℕ) → k ≤ level
    → place_of_level (open_at list i) k ≡ place_of_level (open_at list ahead) k

-- At each element of the levels up to this one that is open after the first i events, no fewer events are known by the
-- second than by the first.
abbrev pub KnowsNoLessUpTo : List Event → ℕ → ℕ → Knowledge → Knowledge → Type 0
KnowsNoLessUpTo list i level known more = (k : ℕ) (place : List ℕ) → k ≤ level
    → place_of_level (open_at list i) k ≡ Some place → known place ≤ more place

-- the sets of each level: those of `near` up to this level, and those of `far` at deeper ones
abbrev pub rows_up_to : ℕ → (ℕ → List ℕ) → (ℕ → List ℕ) → ℕ → List ℕ
rows_up_to level near far k = if nat_le k level then near k else far k

-- Sets for the levels deeper than this one are the rules that surely select the elements which are open there after the
-- first i events, and those that may, by what is known.
abbrev pub AreRulesBeyond : List Rule → Doc → List Event → ℕ → Knowledge → ℕ → (ℕ → List ℕ) → (ℕ → List ℕ)
    → Type 0
AreRulesBeyond rules d list i known level surely possibly = (k : ℕ) (place : List ℕ) → level < k
    → place_of_level (open_at list i) k ≡ Some place
    → (surely k ≡ sure_rules rules d list known place) × (possibly k ≡ may_rules rules d list known place)

-- Sets of sure and of possible rules for each level stand after the first i events, by what is known. No fewer
-- than these events are known at each open element. The sets of its level are the rules that surely select it
-- and those that may.
pub record StandsBy (rules : List Rule) (d : Doc) (list : List Event) (i : ℕ) (known : Knowledge)
    (surely possibly : ℕ → List ℕ) : Type 0 where
  pub read : (level : ℕ) (place : List ℕ) → place_of_level (open_at list i) level ≡ Some place
      → i ≤ known place
  pub sure : (level : ℕ) (place : List ℕ) → place_of_level (open_at list i) level ≡ Some place
      → surely level ≡ sure_rules rules d list known place
  pub may : (level : ℕ) (place : List ℕ) → place_of_level (open_at list i) level ≡ Some place
      → possibly level ≡ may_rules rules d list known place
