-- The states of predicates at an element, known once everything inside it was read. A predicate
-- whose path has n steps has n + 1 states. The first is that some value of the element itself is
-- enough for the predicate. State k, for k from 1 to n, is that the last k steps of the path lead
-- from it to an element with such a value. Defined by this project. `StateLaws` proves that a
-- predicate holds where its last state is set.
use Rattle.std.specs.Prelude.{ℕ, ◌+◌, Bool, true, false, ◌&&◌, nat_eq, List, [], ◌∷◌, ◌++◌, map, reverse, length, get_or, take, drop}
use Rattle.std.specs.List.{list_any, flat_map, fold}
use Rattle.std.specs.Option.{option_map_or}
use Rattle.std.specs.Cmp.Lexicographic.{pointwise}
use Rattle.acl_bits.specs.Flags.{risen}
use Rattle.acl_model.specs.NameTests.{passes}
use Rattle.acl_model.specs.Places.{element_of}
use Rattle.acl_model.specs.Predicates.{on_axis}
use Rattle.acl_model.specs.declared.document.Element.{Element}
use Rattle.acl_model.specs.declared.document.Item.{Item}
use Rattle.acl_model.specs.declared.path.Axis.{Axis}
use Rattle.acl_model.specs.declared.path.Axis.TheVariants.{Child, Descendant}
use Rattle.acl_model.specs.declared.path.Test.{Test}
use Rattle.acl_model.specs.declared.path.Test.TheVariants.{Any, Named}
use Rattle.acl_model.specs.declared.path.Pred.{Pred}
use Rattle.acl_model.specs.declared.path.PredStep.{PredStep}
use Rattle.predicate_walk.specs.inside.Met.{is_enough_at}
use Rattle.predicate_walk.specs.declared.question.Question.{Question}
use Rattle.predicate_walk.specs.declared.question.Question.TheVariants.{IsDeep, PassesName, PassesEachName}

-- ---- the states at an element

-- The state by a step is set where some element on the step's axis passes the step's test and has
-- the state before it.
abbrev pub is_set_by : PredStep → (Element → Bool) → Element → Bool
is_set_by s before e = list_any (λ c. passes s.test c.name && before c) (on_axis s.axis e)

-- the states by these steps, in order; `before` is the state before the first step
abbrev pub set_by_steps : (Element → Bool) → List PredStep → Element → List Bool
set_by_steps before [] e = []
set_by_steps before (s ∷ steps) e =
    is_set_by s before e ∷ set_by_steps (is_set_by s before) steps e

-- the states by the steps of a predicate's path, from its last step to its first
abbrev pub later_states : Pred → Element → List Bool
later_states pred e = set_by_steps (is_enough_at pred) (reverse pred.way) e

-- all states of a predicate at an element: whether some value of the element is enough, and then
-- those by steps
abbrev pub states_at : Element → Pred → List Bool
states_at e pred = is_enough_at pred e ∷ later_states pred e

-- the row of an element: the states of all predicates there, one predicate after another
unfoldable pub row_at : List Pred → Element → List Bool
row_at preds e = flat_map (states_at e) preds

-- the states of a predicate at an element, where the first is not set
abbrev pub inner_states_at : Element → Pred → List Bool
inner_states_at e pred = false ∷ later_states pred e

-- the same for all predicates: the row of an element as far as the elements inside it decide it
unfoldable pub inner_row_at : List Pred → Element → List Bool
inner_row_at preds e = flat_map (inner_states_at e) preds

-- how many states the predicates have in all
abbrev pub number_of_states : List Pred → ℕ
number_of_states [] = 0
number_of_states (pred ∷ preds) = length pred.way + 1 + number_of_states preds

-- the last state of each predicate, read from a row
abbrev pub last_states : List Pred → List Bool → List Bool
last_states [] row = []
last_states (pred ∷ preds) row =
    get_or row (length pred.way) false ∷ last_states preds (drop (length pred.way + 1) row)

-- the flags with `values` in the place of those from index `at` on
abbrev pub patched : ℕ → List Bool → List Bool → List Bool
patched at values flags = take at flags ++ (values ++ drop (at + length values) flags)

-- ---- from a child to its parent

-- The axis is that of the proper descendants.
abbrev pub is_descendant : Axis → Bool
is_descendant Child = false
is_descendant Descendant = true

-- The test passes every name.
abbrev pub passes_each : Test → Bool
passes_each Any = true
passes_each (Named name) = false

-- The answer to a question about a step: its axis is that of the descendants, it passes a name, or it
-- passes every name.
abbrev pub does_answer : Question → PredStep → Bool
does_answer IsDeep s = is_descendant s.axis
does_answer (PassesName name) s = passes s.test name.now
does_answer PassesEachName s = passes_each s.test

-- the answers for the states of a predicate; false for the first, which has no step
abbrev pub answers_of : (PredStep → Bool) → Pred → List Bool
answers_of ask pred = false ∷ map ask (reverse pred.way)

-- the answers for the states of all predicates
unfoldable pub answers : (PredStep → Bool) → List Pred → List Bool
answers ask preds = flat_map (answers_of ask) preds

-- a row in which no state is set
abbrev pub clear_row : List Pred → List Bool
clear_row preds = answers (λ s. false) preds

-- which states have a step that passes the name
abbrev pub tests_of : List ℕ → List Pred → List Bool
tests_of name preds = answers (λ s. passes s.test name) preds

-- which states have a step to the descendants
abbrev pub deep_of : List Pred → List Bool
deep_of preds = answers (λ s. is_descendant s.axis) preds

-- the row of an element after one more of its children
unfoldable pub with_child : List Pred → List Bool → Element → List Bool
with_child preds row c = risen false (tests_of c.name preds) (deep_of preds) (row_at preds c) row

-- the same after an item: a text changes nothing
unfoldable pub with_item : List Pred → List Bool → Item → List Bool
with_item preds row item = option_map_or (with_child preds row) (element_of item) row

-- the same after these items, in order
abbrev pub with_items : List Pred → List Bool → List Item → List Bool
with_items preds row items = fold (with_item preds) row items

-- ---- names

-- The test names this name.
abbrev pub is_name_of : Test → List ℕ → Bool
is_name_of Any name = false
is_name_of (Named wanted) name = pointwise nat_eq wanted name

-- The step names this name.
abbrev pub does_name : List ℕ → PredStep → Bool
does_name name s = is_name_of s.test name

-- Some step of some predicate names this name.
abbrev pub is_named_in : List Pred → List ℕ → Bool
is_named_in preds name = list_any (λ pred. list_any (does_name name) pred.way) preds
