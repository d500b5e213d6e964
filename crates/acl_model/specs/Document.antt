-- What a document is: its names, raw attributes and texts have the right form, and it isn't too deep. This is a profile
-- of the ESIS line format (the output of `onsgmls`), defined by this project.
use Rattle.std.specs.Prelude.{ℕ, ◌+◌, Bool, false, nat_eq, nat_le, max, ◌&&◌, ◌||◌, List, [], ◌∷◌, length}
use Rattle.std.specs.Char.{is_ascii_uppercase}
use Rattle.std.specs.List.{list_all, before_first, after_first}
use Rattle.acl_model.specs.Limits.{most_attributes, most_open_elements}
use Rattle.acl_model.specs.Ascii.{space, hyphen}
use Rattle.acl_model.specs.Names.{is_name}
use Rattle.acl_model.specs.Lines.{is_within_line}
use Rattle.acl_model.specs.declared.document.Doc.{Doc}
use Rattle.acl_model.specs.declared.document.Item.TheOpen.{Item-F, Element-F}
use Rattle.acl_model.specs.declared.document.Item.TheFolds.{fold-Item, fold-Element}
use Rattle.acl_model.specs.declared.document.Item.{Item}
use Rattle.acl_model.specs.declared.document.Element.{Element}

-- The type of an attribute is one or more capital letters.
abbrev pub is_type : List ℕ → Bool
is_type [] = false
is_type (b ∷ bs) = list_all is_ascii_uppercase (b ∷ bs)

-- A raw attribute is a name, a space and a type, and perhaps another space and a value. The whole fits a line.
abbrev pub is_raw_attribute : List ℕ → Bool
is_raw_attribute raw =
    let is_space : ℕ → Bool = λ b. nat_eq b space in
    is_name (before_first is_space raw) && is_type (before_first is_space (after_first is_space raw)) && is_within_line raw

-- ---- the form of an element, from the forms of its items

-- A text has the right form where it fits a line, and a child element where the element has.
abbrev item_is_well_formed : Item-F Bool Bool → Bool
item_is_well_formed (Item-F.Text bytes) = is_within_line bytes
item_is_well_formed (Item-F.Child inner) = inner

-- The element's name passes the test, it has at most 65,535 attributes, and its attributes and items have the right
-- form.
abbrev element_is_well_formed : (List ℕ → Bool) → Element-F Bool Bool → Bool
element_is_well_formed name e =
    name e.name && nat_le (length e.attributes) most_attributes && list_all is_raw_attribute e.attributes && list_all (λ b. b) e.items

-- The same of the element and of all elements inside it: each name passes the test, no element has too many attributes,
-- and all attributes and texts have the right form.
unfoldable pub is_well_formed : (List ℕ → Bool) → Element → Bool
is_well_formed name = fold-Element Bool Bool item_is_well_formed (element_is_well_formed name)

-- the same of an item
unfoldable pub item_well_formed : (List ℕ → Bool) → Item → Bool
item_well_formed name = fold-Item Bool Bool item_is_well_formed (element_is_well_formed name)

-- ---- how deep elements are nested

-- the greatest of the numbers, and 0 of none
abbrev pub greatest : List ℕ → ℕ
greatest [] = 0
greatest (n ∷ ns) = max n (greatest ns)

-- A text has the height 0.
abbrev item_height : Item-F ℕ ℕ → ℕ
item_height (Item-F.Text bytes) = 0
item_height (Item-F.Child inner) = inner

-- An element's height is one more than that of its highest item.
abbrev element_height : Element-F ℕ ℕ → ℕ
element_height e = greatest e.items + 1

-- how deep elements are nested in an element, which counts as one level itself
unfoldable pub height : Element → ℕ
height = fold-Element ℕ ℕ item_height element_height

-- the same of an item
unfoldable pub height_of_item : Item → ℕ
height_of_item = fold-Item ℕ ℕ item_height element_height

-- In a document each name is a name, all attributes and texts have the right form, and elements are nested at most 255
-- deep.
abbrev pub is_document : Doc → Bool
is_document d = is_well_formed is_name d.root && nat_le (height d.root) most_open_elements

-- The name of a dummy is '-'. A dummy is an element of a view that is denied itself, and shown for what is inside it.
abbrev pub is_dummy_name : List ℕ → Bool
is_dummy_name [] = false
is_dummy_name (b ∷ []) = nat_eq b hyphen
is_dummy_name (b ∷ c ∷ bs) = false

-- An element of a view has a name, or the name of a dummy.
abbrev pub is_view_name : List ℕ → Bool
is_view_name name = is_name name || is_dummy_name name

-- A view document is a document, except that it may have dummies.
abbrev pub is_view_document : Doc → Bool
is_view_document d = is_well_formed is_view_name d.root && nat_le (height d.root) most_open_elements
