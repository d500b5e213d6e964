-- The events of a document as `TreeWalk` reads them from the tree. Pieces are cut after each 256 bytes.
-- Defined by this project.
use Rattle.std.specs.Prelude.{ℕ, Bool, true, false, is_some, max, List, [], ◌∷◌, ◌++◌, length, map, if◌then◌else◌}
use Rattle.std.specs.List.{flat_map, range_with_len}
use Rattle.std.specs.Option.{unwrap_or}
use Rattle.acl_model.specs.Places.{element_of}
use Rattle.acl_model.specs.declared.document.Doc.{Doc}
use Rattle.acl_model.specs.declared.document.Item.{Item}
use Rattle.acl_model.specs.declared.document.Element.{Element}
use Rattle.acl_model.specs.declared.document.Item.TheOpen.{Item-F, Element-F}
use Rattle.acl_model.specs.declared.document.Item.TheFolds.{para-Item, para-Element}
use Rattle.acl_walk.specs.Pieces.{pieces}
use Rattle.acl_walk.specs.Spelling.{tag_of}
use Rattle.acl_walk.specs.declared.event.Event.{Event}
use Rattle.acl_walk.specs.declared.event.Event.TheVariants.{Begin, Attr, HeadEnd, Text, Finish, End}

-- An element may be among the items, judged by the first one: there are at least two items, or the only
-- one is an element.
abbrev pub may_hold_element : List Item → Bool
may_hold_element [] = false
may_hold_element (first ∷ []) = is_some (element_of first)
may_hold_element (first ∷ second ∷ items) = true

-- the set in the Begin of an element with these items, under so many names: the numbers of all names, and
-- at least one number, where an element may be among the items, and else the empty set
unfoldable pub told_below : ℕ → List Item → List ℕ
told_below names items = if may_hold_element items then range_with_len 0 (max names 1) else []

-- the tag of a name, and 256 for a name that has none
unfoldable pub tag_number : List (List ℕ) → List ℕ → ℕ
tag_number names name = unwrap_or (tag_of names name) 256

-- the events of a raw attribute
abbrev pub attribute_events : List ℕ → List Event
attribute_events raw = map Attr (pieces raw)

-- the events of a text
abbrev pub text_events : List ℕ → List Event
text_events bytes = map Text (pieces bytes)

-- the events of an item, where those of its parts are given
abbrev pub item_layer : Item-F (Item × List Event) (Element × List Event) → List Event
item_layer (Item-F.Text bytes) = text_events bytes
item_layer (Item-F.Child child) = child.1

-- the events of an element, where those of its items are given: Begin, its attributes, HeadEnd, its items
-- and Finish
abbrev pub element_layer : List (List ℕ) → Element-F (Item × List Event) (Element × List Event) → List Event
element_layer names e =
    let tag = tag_number names e.name in
    Begin tag (told_below (length names) (map (λ (item : Item × List Event). item.0) e.items))
    ∷ (flat_map attribute_events e.attributes
    ++ (HeadEnd ∷ (flat_map {X = Item × List Event} (λ item. item.1) e.items ++ (Finish tag ∷ []))))

-- the events of an element
unfoldable pub element_events : List (List ℕ) → Element → List Event
element_events names = para-Element (List Event) (List Event) item_layer (element_layer names)

-- the events of an item
unfoldable pub item_events : List (List ℕ) → Item → List Event
item_events names = para-Item (List Event) (List Event) item_layer (element_layer names)

-- the events of a document: those of its root, and one End
abbrev pub document_events : List (List ℕ) → Doc → List Event
document_events names d = element_events names d.root ++ (End ∷ [])
