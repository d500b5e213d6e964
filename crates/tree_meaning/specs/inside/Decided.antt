-- Where the signs of a document's elements come from, as a list with an entry for each element in document order. One
-- walk finds the list, and a second walk writes by it. `StepMarks` says what a row is. Defined by this project.
-- `DecidedLaws` proves that the explanations by the list are those of acl_model.
use Rattle.std.specs.Prelude.{ℕ, Option, Some, None, List, [], ◌∷◌, ◌++◌, map, drop, length, if◌then◌else◌}
use Rattle.std.specs.List.{flat_map}
use Rattle.acl_model.specs.Places.{element_of, places_below}
use Rattle.acl_model.specs.Explain.{Explanation}
use Rattle.acl_model.specs.declared.document.Element.{Element}
use Rattle.acl_model.specs.declared.document.Item.{Item}
use Rattle.acl_model.specs.declared.rule.Sign.TheVariants.{Deny}
use Rattle.tree_meaning.specs.declared.decided.Decided.{Decided}
use Rattle.tree_meaning.specs.declared.explanation_writer.Position.{Position, Root, Child'}
use Rattle.tree_meaning.specs.inside.StepMarks.{MarkedStep, row_below, sign_here}
use Rattle.tree_meaning.specs.inside.ExplainWalk.{first_here, is_selected_here, row_at_place, number_after}

-- ---- the list

-- The decision of an element, by the row at it: its sign, and the number of the first rule of this sign that selects it.
-- Where no rule selects it, it is denied and has no rule.
unfoldable pub decided_here : List MarkedStep → Decided
decided_here here = record { sign = sign_here here Deny; rule = first_here (sign_here here Deny) here 0 }

-- the entry of an element, by the row at it: None where no rule selects the element
abbrev pub entry_here : List MarkedStep → Option Decided
entry_here here = if is_selected_here here then Some (decided_here here) else None

-- the entries of an element and of those inside it, in document order, by the row at its parent
unfoldable pub entries_from : List MarkedStep → Element → List (Option Decided)
entries_from row e = map (λ place. entry_here (row_at_place row e place)) (places_below e)

-- A text has no entry, and a child element has those of its own.
abbrev pub entries_of_child : List MarkedStep → Option Element → List (Option Decided)
entries_of_child here None = []
entries_of_child here (Some c) = entries_from here c

-- the entries of the elements in items, by the row at the element that has the items
abbrev pub entries_of_items : List MarkedStep → List Item → List (Option Decided)
entries_of_items here items = flat_map (λ item. entries_of_child here (element_of item)) items

-- the entries of a document, by the row at the virtual root; the root has a decision even where no rule selects it
abbrev pub entries_of_root : List MarkedStep → Element → List (Option Decided)
entries_of_root row root = Some (decided_here (row_below root row)) ∷ entries_of_items (row_below root row) root.items

-- ---- the explanations by the list

-- the place of a position: that of its parent, followed by its number
abbrev pub place_of : Position → List ℕ
place_of Root = []
place_of (Child' p parent number) = place_of parent ++ number ∷ []

-- the first entry; None also where the list has ended
abbrev pub first_entry : List (Option Decided) → Option Decided
first_entry [] = None
first_entry (entry ∷ entries) = entry

-- the explanation of the element at this place, with this decision
abbrev pub explanation_at : Decided → List ℕ → Explanation
explanation_at decided place = record { place = place; sign = decided.sign; rule = decided.rule }

-- the explanation of the element at this place, if its entry has a decision
abbrev pub told_by_entry : Option Decided → List ℕ → List Explanation
told_by_entry None place = []
told_by_entry (Some decided) place = explanation_at decided place ∷ []

-- the explanations of the elements at these places, each by the next entry
abbrev pub told_by_entries : List (Option Decided) → List (List ℕ) → List Explanation
told_by_entries entries [] = []
told_by_entries entries (place ∷ places) = told_by_entry (first_entry entries) place ++ told_by_entries (drop 1 entries) places

-- the explanations of an element and of those inside it, in document order, by the entries from its own on; `above` is
-- the element's place
unfoldable pub told_below : List (Option Decided) → List ℕ → Element → List Explanation
told_below entries above e = told_by_entries entries (map (λ place. above ++ place) (places_below e))

-- the entries that are left after those of an element and of the elements inside it
unfoldable pub entries_after : List (Option Decided) → Element → List (Option Decided)
entries_after entries e = drop (length (places_below e)) entries

-- A text uses no entry and has no explanation; a child element has the number k.
abbrev pub told_below_child : List (Option Decided) → List ℕ → ℕ → Option Element → List Explanation
told_below_child entries above k None = []
told_below_child entries above k (Some c) = told_below entries (above ++ k ∷ []) c

-- the entries that are left after those of an item
abbrev pub entries_after_child : List (Option Decided) → Option Element → List (Option Decided)
entries_after_child entries None = entries
entries_after_child entries (Some c) = entries_after entries c

-- the explanations of the elements in items, where the next element child has the number k
abbrev pub told_below_items : List (Option Decided) → List ℕ → List Item → ℕ → List Explanation
told_below_items entries above [] k = []
told_below_items entries above (item ∷ items) k =
    told_below_child entries above k (element_of item) ++ told_below_items (entries_after_child entries (element_of item)) above items (number_after (element_of item) k)

-- the entries that are left after those of items
abbrev pub entries_after_items : List (Option Decided) → List Item → List (Option Decided)
entries_after_items entries [] = entries
entries_after_items entries (item ∷ items) = entries_after_items (entries_after_child entries (element_of item)) items
