-- Which lists of events *spell* a document, that is, are its events under a list of names. A document is
-- spelled by several lists, since pieces and sets may differ. Defined by this project.
use Rattle.std.specs.Prelude.{◌≡◌, ℕ, ◌<◌, true, false, Option, Some, None, List, [], ◌∷◌, ◌++◌, length, map, Contains, IfSome, if◌then◌else◌}
use Rattle.acl_bits.specs.Row.{is_member}
use Rattle.acl_bits.specs.declared.piece.Piece.{Piece}
use Rattle.acl_model.specs.Document.{is_dummy_name}
use Rattle.acl_model.specs.Dictionary.{name_number}
use Rattle.acl_model.specs.Places.{children, tag_set}
use Rattle.acl_model.specs.declared.document.Doc.{Doc}
use Rattle.acl_model.specs.declared.document.Item.{Item}
use Rattle.acl_model.specs.declared.document.Item.TheVariants as item
use Rattle.acl_model.specs.declared.document.Element.{Element}
use Rattle.acl_walk.specs.Pieces.{Joins}
use Rattle.acl_walk.specs.declared.event.Event.{Event}
use Rattle.acl_walk.specs.declared.event.Event.TheVariants.{Begin, Attr, HeadEnd, Text, Finish, End}

-- the tag of a name: 256 for a dummy's, and else the name's number among the names, from 0, if it is one
-- of them
unfoldable pub tag_of : List (List ℕ) → List ℕ → Option ℕ
tag_of names name = if is_dummy_name name then Some 256 else name_number names name

-- The set of a Begin covers the element: it contains the number of each name inside, other than the
-- dummy's, that is one of the names. It isn't empty where the element has a child, even a dummy.
pub record Covers (names : List (List ℕ)) (below : List ℕ) (e : Element) : Type 0 where
  pub names_inside : (name : List ℕ) → Contains (tag_set e) name → is_dummy_name name ≡ false
      → IfSome (name_number names name) (λ n. is_member below n ≡ true)
  pub some_inside : 0 < length (children e.items) → 0 < length below

-- Raw attributes are spelled one after the other, each by pieces of its bytes.
pub data SpellsAttributes : List (List ℕ) → List Event → Type 0 where
  no_attribute : SpellsAttributes [] []
  an_attribute : (raw : List ℕ) (pieces : List Piece) (raws : List (List ℕ)) (events : List Event)
      → Joins raw pieces → SpellsAttributes raws events
      → SpellsAttributes (raw ∷ raws) (map Attr pieces ++ events)

mutual
  -- An element is spelled by a Begin with its tag and a set that covers it, its attributes, HeadEnd, its
  -- items, and a Finish with the tag.
  pub data SpellsElement : List (List ℕ) → Element → List Event → Type 0 where
    an_element : (names : List (List ℕ)) (e : Element) (tag : ℕ) (below : List ℕ)
        → (heads contents : List Event)
        → tag_of names e.name ≡ Some tag → Covers names below e
        → SpellsAttributes e.attributes heads → SpellsItems names e.items contents
        → SpellsElement names e
        (Begin tag below ∷ (heads ++ (HeadEnd ∷ (contents ++ (Finish tag ∷ [])))))

  -- Items are spelled one after the other, a text by pieces of its bytes and a child as an element.
  pub data SpellsItems : List (List ℕ) → List Item → List Event → Type 0 where
    no_item : (names : List (List ℕ)) → SpellsItems names [] []
    a_text : (names : List (List ℕ)) (bytes : List ℕ) (pieces : List Piece)
        → (items : List Item) (events : List Event)
        → Joins bytes pieces → SpellsItems names items events
        → SpellsItems names (item.Text bytes ∷ items) (map Text pieces ++ events)
    a_child : (names : List (List ℕ)) (e : Element) (own : List Event)
        → (items : List Item) (events : List Event)
        → SpellsElement names e own → SpellsItems names items events
        → SpellsItems names (item.Child e ∷ items) (own ++ events)

-- A document is spelled by its root and one End, and no document by End alone.
pub data Spells : List (List ℕ) → Option Doc → List Event → Type 0 where
  nothing : (names : List (List ℕ)) → Spells names None (End ∷ [])
  a_document : (names : List (List ℕ)) (d : Doc) (events : List Event)
      → SpellsElement names d.root events → Spells names (Some d) (events ++ (End ∷ []))
