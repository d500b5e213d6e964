-- Where elements are. A place is the list of child numbers on the path from the root down, each counted from 1 among
-- the element children. The place of the root is empty.
use Rattle.std.specs.Prelude.{ℕ, ◌+◌, nat_eq, length, Option, Some, None, List, [], ◌∷◌, ◌++◌, map, zero, suc}
use Rattle.std.specs.Cmp.Lexicographic.{pointwise}
use Rattle.std.specs.List.{filter, filter_map, flat_map, slice_get}
use Rattle.std.specs.Option.{option_and_then}
use Rattle.acl_model.specs.declared.document.Doc.{Doc}
use Rattle.acl_model.specs.declared.document.Item.{Item, out-Item}
use Rattle.acl_model.specs.declared.document.Element.{Element}
use Rattle.acl_model.specs.declared.document.Item.TheOpen.{Item-F, Element-F}
use Rattle.acl_model.specs.declared.document.Item.TheFolds.{fold-Item, fold-Element}

-- the element of an item that is a child, or None for a text
abbrev pub element_in : Item-F Item Element → Option Element
element_in (Item-F.Text bytes) = None
element_in (Item-F.Child e) = Some e

-- the element that an item is, if it is one
abbrev pub element_of : Item → Option Element
element_of item = element_in (out-Item item)

-- the element children of items, in order
abbrev pub children : List Item → List Element
children items = filter_map element_of items

-- the k-th element child, counted from 1
abbrev pub child : List Item → ℕ → Option Element
child items zero = None
child items (suc k) = slice_get (children items) k

-- the element at a place relative to e
abbrev pub below : Element → List ℕ → Option Element
below e [] = Some e
below e (k ∷ place) = option_and_then (λ c. below c place) (child e.items k)

-- the element at a place of a document, if there is one
abbrev pub at : Doc → List ℕ → Option Element
at d place = below d.root place

-- The prefixes of a place, the longest first: the places of an element and of its ancestors.
abbrev pub prefixes : List ℕ → List (List ℕ)
prefixes [] = [] ∷ []
prefixes (k ∷ place) = map (λ prefix. k ∷ prefix) (prefixes place) ++ ([] ∷ [])

-- ---- all places, in document order

-- A text has no place. A child element has its places, relative to itself.
abbrev pub places_in_item : Item-F (Option (List (List ℕ))) (List (List ℕ)) → Option (List (List ℕ))
places_in_item (Item-F.Text bytes) = None
places_in_item (Item-F.Child inside) = Some inside

-- the places in the items, where the next element child has the number k
abbrev pub numbered : List (Option (List (List ℕ))) → ℕ → List (List ℕ)
numbered [] k = []
numbered (None ∷ items) k = numbered items k
numbered (Some inside ∷ items) k = map (λ place. k ∷ place) inside ++ numbered items (k + 1)

-- The place of an element itself comes before those in its items.
abbrev pub places_in_element : Element-F (Option (List (List ℕ))) (List (List ℕ)) → List (List ℕ)
places_in_element e = [] ∷ numbered e.items 1

-- the places of an element and of all elements inside it, relative to the element, in document order
unfoldable pub places_below : Element → List (List ℕ)
places_below = fold-Element (Option (List (List ℕ))) (List (List ℕ)) places_in_item places_in_element

-- the same of an item, if it is an element
unfoldable pub places_of_item : Item → Option (List (List ℕ))
places_of_item = fold-Item (Option (List (List ℕ))) (List (List ℕ)) places_in_item places_in_element

-- the places of all elements of a document, in document order
abbrev pub places : Doc → List (List ℕ)
places d = places_below d.root

-- how often a list of places contains a place
abbrev pub times : List ℕ → List (List ℕ) → ℕ
times place ps = length (filter (λ p. pointwise nat_eq p place) ps)

-- ---- the tag set

-- A text has no names, and a child has those of its element.
abbrev names_in_item : Item-F (List (List ℕ)) (List (List ℕ)) → List (List ℕ)
names_in_item (Item-F.Text bytes) = []
names_in_item (Item-F.Child names) = names

-- An element has its own name, and the names of its items.
abbrev names_in_element : Element-F (List (List ℕ)) (List (List ℕ)) → List (List ℕ)
names_in_element e = e.name ∷ flat_map (λ names. names) e.items

-- the names of an element and of all elements inside it
unfoldable pub names_of : Element → List (List ℕ)
names_of = fold-Element (List (List ℕ)) (List (List ℕ)) names_in_item names_in_element

-- the names of an element's proper descendants; as a set, this is what the Skip index stores for the element
abbrev pub tag_set : Element → List (List ℕ)
tag_set e = flat_map names_of (children e.items)
