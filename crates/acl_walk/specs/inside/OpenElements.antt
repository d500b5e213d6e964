-- The open elements at a position in a tree, the innermost first, each with its items that are
-- still to come. Defined by this project.
use Rattle.std.specs.Prelude.{◌≡◌, ℕ, Option, Some, None, List, [], ◌∷◌, ◌++◌, map}
use Rattle.std.specs.List.{flat_map}
use Rattle.acl_model.specs.declared.document.Item.{Item}
use Rattle.acl_walk.specs.TreeEvents.{item_events}
use Rattle.acl_walk.specs.declared.event.Event.{Event}
use Rattle.acl_walk.specs.declared.event.Event.TheVariants.{Finish, End}

-- an open element: its tag, and its items that are still to come
pub record OpenElement : Type 0 where
  pub tag : ℕ
  pub items : List Item

-- the tags of open elements
abbrev pub tags_of : List OpenElement → List ℕ
tags_of levels = map (λ (level : OpenElement). level.tag) levels

-- the open elements with an item added before the innermost one's items
abbrev pub with_item : Item → List OpenElement → List OpenElement
with_item item [] = []
with_item item (level ∷ levels) = record { tag = level.tag; items = item ∷ level.items } ∷ levels

-- No item of the innermost open element is left, or no element is open.
abbrev pub NothingLeft : List OpenElement → Type 0
NothingLeft [] = Unit {0}
NothingLeft (level ∷ levels) = level.items ≡ []

-- The answer is the innermost open element's tag, and the new list is without it. Where no element
-- is open, there is no answer and the list stays empty.
abbrev pub Closes : Option ℕ → List OpenElement → List OpenElement → Type 0
Closes None old new = (old ≡ []) × (new ≡ [])
Closes (Some tag) [] new = ⊥
Closes (Some tag) (level ∷ levels) new = (tag ≡ level.tag) × (new ≡ levels)

-- the events of items, one after the other
abbrev pub items_events : List (List ℕ) → List Item → List Event
items_events names items = flat_map (item_events names) items

-- the events to come in the content of the innermost open element and after it: those of its items,
-- its Finish, the same of the elements around it, and one End
abbrev pub content_to_come : List (List ℕ) → List OpenElement → List Event
content_to_come names [] = End ∷ []
content_to_come names (level ∷ levels) =
    items_events names level.items ++ (Finish level.tag ∷ content_to_come names levels)

-- the events to come from the Finish of the innermost open element on
abbrev pub finish_to_come : List (List ℕ) → List OpenElement → List Event
finish_to_come names [] = End ∷ []
finish_to_come names (level ∷ levels) = Finish level.tag ∷ content_to_come names levels
