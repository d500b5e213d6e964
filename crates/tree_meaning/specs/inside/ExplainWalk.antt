-- The explanations of a document by one walk down the tree, and which explanation a `Told` of the program is.
-- `StepMarks` says what a row is. Defined by this project. `ToldLaws` proves that the explanations are those of
-- acl_model.
use Rattle.std.specs.Prelude.{ℕ, ◌+◌, Option, Some, None, Bool, true, false, ◌&&◌, List, [], ◌∷◌, ◌++◌, map, length, if◌then◌else◌}
use Rattle.std.specs.List.{list_any, filter}
use Rattle.std.specs.Option.{option_map_or}
use Rattle.acl_model.specs.Places.{child, element_of, places_below}
use Rattle.acl_model.specs.Explain.{Explanation, is_same_sign}
use Rattle.acl_model.specs.declared.document.Element.{Element}
use Rattle.acl_model.specs.declared.document.Item.{Item}
use Rattle.acl_model.specs.declared.rule.Sign.{Sign}
use Rattle.acl_model.specs.declared.rule.Sign.TheVariants.{Deny}
use Rattle.tree_meaning.specs.declared.explain.Told.{Told}
use Rattle.tree_meaning.specs.inside.StepMarks.{MarkedStep, row_below, selects_here, sign_here}

-- the explanation that a `Told` of the program is
abbrev pub explanation_in : Told → Explanation
explanation_in told = record { place = told.place; sign = told.sign; rule = told.rule }

-- the same for each of them
abbrev pub explanations_in : List Told → List Explanation
explanations_in told = map explanation_in told

-- The step is the last of its rule.
abbrev pub is_last : MarkedStep → Bool
is_last m = option_map_or (λ sign. true) m.ends false

-- how many rules a row has: the number of its last steps
unfoldable pub rules_in : List MarkedStep → ℕ
rules_in row = length (filter is_last row)

-- This is the last step of a rule of this sign, and the rule selects the element.
abbrev pub selects_as : Sign → MarkedStep → Bool
selects_as own m = option_map_or (λ sign. is_same_sign sign own) m.ends false && m.mark.here

-- the number of the first rule of this sign that selects the element, where the first rule of the row has the number n
abbrev pub first_here : Sign → List MarkedStep → ℕ → Option ℕ
first_here own [] n = None
first_here own (m ∷ row) n = if selects_as own m then Some n else first_here own row (if is_last m then n + 1 else n)

-- Some rule selects the element.
abbrev pub is_selected_here : List MarkedStep → Bool
is_selected_here row = list_any selects_here row

-- The explanation of the element at this place, by the row at it: its sign, and the first rule of this sign that selects
-- it. Where no rule selects it, it is denied and has no rule.
unfoldable pub told_here : List MarkedStep → List ℕ → Explanation
told_here row place = record { place = place; sign = sign_here row Deny; rule = first_here (sign_here row Deny) row 0 }

-- the row at a place that is counted from an element on, by the row at the element's parent; empty where no element has
-- the place
abbrev pub row_at_place : List MarkedStep → Element → List ℕ → List MarkedStep
row_at_place row e [] = row_below e row
row_at_place row e (k ∷ place) = option_map_or (λ c. row_at_place (row_below e row) c place) (child e.items k) []

-- The explanations of each selected one among an element and those inside it, in document order, by the row at the
-- element's parent. `above` is the element's place.
unfoldable pub told_from : List MarkedStep → List ℕ → Element → List Explanation
told_from row above e =
    map (λ place. told_here (row_at_place row e place) (above ++ place)) (filter (λ place. is_selected_here (row_at_place row e place)) (places_below e))

-- the explanation of an element, if a rule selects it
abbrev pub told_if_selected : List MarkedStep → List ℕ → List Explanation
told_if_selected here place = if is_selected_here here then told_here here place ∷ [] else []

-- the explanation of the root, if no rule selects it
abbrev pub told_if_unselected : List MarkedStep → List Explanation
told_if_unselected here = if is_selected_here here then [] else told_here here [] ∷ []

-- A text has no explanation; a child element has the number k.
abbrev pub told_of_child : List MarkedStep → List ℕ → ℕ → Option Element → List Explanation
told_of_child here above k None = []
told_of_child here above k (Some c) = told_from here (above ++ k ∷ []) c

-- the number of the next element child after an item: one more after an element
abbrev pub number_after : Option Element → ℕ → ℕ
number_after None k = k
number_after (Some c) k = k + 1

-- the explanations of the elements in items, where the next element child has the number k
abbrev pub told_of_items : List MarkedStep → List ℕ → List Item → ℕ → List Explanation
told_of_items here above [] k = []
told_of_items here above (item ∷ items) k =
    told_of_child here above k (element_of item) ++ told_of_items here above items (number_after (element_of item) k)
