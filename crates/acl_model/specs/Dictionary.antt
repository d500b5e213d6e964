-- The dictionary of a document, and its bytes. A dictionary lists each element name once, in the order in which the
-- names first occur, and numbers them from 0. Defined by this project (VLDB 2004: the Skip index encodes tags by a
-- dictionary).
use Rattle.std.specs.Prelude.{ℕ, Bool, true, nat_eq, nat_le, not, ◌&&◌, Option, List, [], ◌∷◌, ◌++◌, length, map, if◌then◌else◌}
use Rattle.std.specs.Cmp.Lexicographic.{pointwise}
use Rattle.std.specs.Int.{w16, to_be_bytes}
use Rattle.std.specs.List.{list_all, list_any, concat, flat_map, position}
use Rattle.acl_model.specs.Limits.{most_names}
use Rattle.acl_model.specs.Names.{is_name}
use Rattle.acl_model.specs.declared.document.Doc.{Doc}
use Rattle.acl_model.specs.declared.document.Item.{Item}
use Rattle.acl_model.specs.declared.document.Element.{Element}
use Rattle.acl_model.specs.declared.document.Item.TheOpen.{Item-F, Element-F}
use Rattle.acl_model.specs.declared.document.Item.TheFolds.{fold-Item, fold-Element}

-- ---- the names of a document

-- the names of an item: none for a text, and those of the element for a child
abbrev pub item_starts : Item-F (List (List ℕ)) (List (List ℕ)) → List (List ℕ)
item_starts (Item-F.Text bytes) = []
item_starts (Item-F.Child starts) = starts

-- the names of an element: its own, followed by those of its items
abbrev pub element_starts : Element-F (List (List ℕ)) (List (List ℕ)) → List (List ℕ)
element_starts e = e.name ∷ flat_map (λ starts. starts) e.items

-- the name of e and of each element inside it, in the order of their start tags
unfoldable pub start_names : Element → List (List ℕ)
start_names = fold-Element (List (List ℕ)) (List (List ℕ)) item_starts element_starts

-- the same of an item
unfoldable pub item_start_names : Item → List (List ℕ)
item_start_names = fold-Item (List (List ℕ)) (List (List ℕ)) item_starts element_starts

-- The name is one of the names.
abbrev pub has_name : List (List ℕ) → List ℕ → Bool
has_name names name = list_any (pointwise nat_eq name) names

-- the number of a name: how many names come before it
abbrev pub name_number : List (List ℕ) → List ℕ → Option ℕ
name_number names name = position (pointwise nat_eq name) names

-- A name is appended, unless it is one of the names already.
unfoldable pub with_name : List (List ℕ) → List ℕ → List (List ℕ)
with_name names name = if has_name names name then names else names ++ (name ∷ [])

-- More names are added, one after the other.
abbrev pub with_names : List (List ℕ) → List (List ℕ) → List (List ℕ)
with_names names [] = names
with_names names (name ∷ more) = with_names (with_name names name) more

-- the dictionary of a document: each name once, in the order of first start tags
abbrev pub dictionary : Doc → List (List ℕ)
dictionary d = with_names [] (start_names d.root)

-- None of the names is equal to a name in `before` or to an earlier name of the list.
abbrev pub are_new : List (List ℕ) → List (List ℕ) → Bool
are_new before [] = true
are_new before (name ∷ names) = not (has_name before name) && are_new (before ++ (name ∷ [])) names

-- No two of the names are the same.
abbrev pub are_distinct : List (List ℕ) → Bool
are_distinct names = are_new [] names

-- A dictionary is a list of 1 to 256 names, no two of them equal.
abbrev pub is_dictionary : List (List ℕ) → Bool
is_dictionary names =
    nat_le 1 (length names) && nat_le (length names) most_names && list_all is_name names && are_distinct names

-- ---- the bytes of a dictionary

-- A name is encoded as its length in one byte, followed by its bytes.
abbrev pub spelled_name : List ℕ → List ℕ
spelled_name name = length name ∷ name

-- the dictionary section: the number of names in two bytes, big-endian, followed by each name
abbrev pub dictionary_section : List (List ℕ) → List ℕ
dictionary_section names = to_be_bytes w16 (length names) ++ concat (map spelled_name names)
