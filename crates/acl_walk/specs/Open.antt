-- Which elements are open after the first events of a list, and at which places of the document they are.
-- Defined by this project.
use Rattle.std.specs.Prelude.{ℕ, ◌+◌, List, [], ◌∷◌, ◌++◌, drop, map, take}
use Rattle.acl_walk.specs.declared.event.Event.{Event}
use Rattle.acl_walk.specs.declared.event.Event.TheVariants.{Begin, Attr, HeadEnd, Text, Finish, End}

-- an open element: its tag, its place in the document, and how many of its children have begun
pub record OpenPlace : Type 0 where
  pub tag : ℕ
  pub place : List ℕ
  pub children : ℕ

-- the place of the next element that begins: that of the root, or of the innermost open element's next
-- child
abbrev pub next_place : List OpenPlace → List ℕ
next_place [] = []
next_place (parent ∷ up) = parent.place ++ ((parent.children + 1) ∷ [])

-- the open elements after one more child of the innermost one has begun
abbrev pub with_child : List OpenPlace → List OpenPlace
with_child [] = []
with_child (parent ∷ up) =
    record { tag = parent.tag; place = parent.place; children = parent.children + 1 } ∷ up

-- the elements that are open after an event, the innermost first
abbrev pub open_after : List OpenPlace → Event → List OpenPlace
open_after elements (Begin tag below) =
    record { tag = tag; place = next_place elements; children = 0 } ∷ with_child elements
open_after elements (Attr piece) = elements
open_after elements HeadEnd = elements
open_after elements (Text piece) = elements
open_after elements (Finish tag) = drop 1 elements
open_after elements End = elements

-- the elements that are open after a list of events
abbrev pub open_after_events : List OpenPlace → List Event → List OpenPlace
open_after_events elements [] = elements
open_after_events elements (event ∷ events) = open_after_events (open_after elements event) events

-- the elements that are open after the first `place` events of a list
abbrev pub open_at : List Event → ℕ → List OpenPlace
open_at list place = open_after_events [] (take place list)

-- the tags of open elements
abbrev pub tags_of : List OpenPlace → List ℕ
tags_of elements = map (λ (element : OpenPlace). element.tag) elements

-- the places of open elements in the document
abbrev pub places_of : List OpenPlace → List (List ℕ)
places_of elements = map (λ (element : OpenPlace). element.place) elements

-- the tags of the elements that are open after the first `place` events of a list
abbrev pub tags_at : List Event → ℕ → List ℕ
tags_at list place = tags_of (open_at list place)
