-- The values that predicates compare: the string-values of elements (XPath 1.0, 5.2), and the values of attributes.
use Rattle.std.specs.Prelude.{ℕ, Bool, not, nat_eq, ◌&&◌, Option, Some, None, List, [], ◌∷◌, map}
use Rattle.std.specs.List.{filter, concat, flat_map, before_first, after_first}
use Rattle.std.specs.Cmp.Lexicographic.{pointwise}
use Rattle.acl_model.specs.Ascii.{space}
use Rattle.acl_model.specs.declared.document.Item.{Item}
use Rattle.acl_model.specs.declared.document.Element.{Element}
use Rattle.acl_model.specs.declared.document.Item.TheOpen.{Item-F, Element-F}
use Rattle.acl_model.specs.declared.document.Item.TheFolds.{fold-Item, fold-Element}

-- ---- the string-value of an element

-- A text contributes its bytes, and a child element its string-value.
abbrev item_value : Item-F (List ℕ) (List ℕ) → List ℕ
item_value (Item-F.Text bytes) = bytes
item_value (Item-F.Child value) = value

-- The string-value of an element is what its items contribute, concatenated.
abbrev element_value : Element-F (List ℕ) (List ℕ) → List ℕ
element_value e = concat e.items

-- the string-value of an element: all texts inside it, concatenated in document order (XPath 1.0, 5.2)
unfoldable pub string_value : Element → List ℕ
string_value = fold-Element (List ℕ) (List ℕ) item_value element_value

-- what an item contributes to it
unfoldable pub value_of_item : Item → List ℕ
value_of_item = fold-Item (List ℕ) (List ℕ) item_value element_value

-- ---- the values of attributes

-- The byte is a space.
abbrev pub is_space : ℕ → Bool
is_space b = nat_eq b space

-- the name of a raw attribute: what comes before its first space
abbrev pub attribute_name : List ℕ → List ℕ
attribute_name raw = before_first is_space raw

-- its type: what comes between the first space and the second
abbrev pub attribute_type : List ℕ → List ℕ
attribute_type raw = before_first is_space (after_first is_space raw)

-- its value: what follows the second space
abbrev pub attribute_value : List ℕ → List ℕ
attribute_value raw = after_first is_space (after_first is_space raw)

-- 'IMPLIED', the type of an attribute that has no value (the ESIS line format)
abbrev pub implied : List ℕ
implied = 73 ∷ 77 ∷ 80 ∷ 76 ∷ 73 ∷ 69 ∷ 68 ∷ []

-- A raw attribute has a value unless its type is IMPLIED, whatever follows the type.
abbrev pub has_value : List ℕ → Bool
has_value raw = not (pointwise nat_eq (attribute_type raw) implied)

-- The raw attribute has the given name, and a value.
abbrev pub gives_value : List ℕ → List ℕ → Bool
gives_value name raw = pointwise nat_eq (attribute_name raw) name && has_value raw

-- the values of an element's attributes of this name; an element may have several of one name
abbrev pub attribute_values : List ℕ → Element → List (List ℕ)
attribute_values name e = map attribute_value (filter (gives_value name) e.attributes)

-- ---- the values of elements

-- Without the name of an attribute, the values are the string-values of the elements. With a name, they are the values
-- of all their attributes of that name.
abbrev pub values_at : Option (List ℕ) → List Element → List (List ℕ)
values_at None elements = map string_value elements
values_at (Some name) elements = flat_map (attribute_values name) elements
