-- How many elements and lines a tree has, counted item by item. This is an equivalent form of the numbers of `Sample`,
-- which the code implements.
use Rattle.std.specs.Prelude.{ℕ, ◌+◌, List, [], ◌∷◌, length}
use Rattle.acl_model.specs.declared.document.Item.{Item}
use Rattle.acl_model.specs.declared.document.Element.{Element}
use Rattle.acl_model.specs.declared.document.Item.TheOpen.{Item-F, Element-F}
use Rattle.acl_model.specs.declared.document.Item.TheFolds.{fold-Item, fold-Element}

-- the sum of a list of numbers
abbrev pub total : List ℕ → ℕ
total [] = 0
total (n ∷ ns) = n + total ns

-- ---- elements

-- A text has no elements. A child has those of its element.
abbrev elements_in_item : Item-F ℕ ℕ → ℕ
elements_in_item (Item-F.Text bytes) = 0
elements_in_item (Item-F.Child inner) = inner

-- An element counts as one, and the elements of its items are added.
abbrev elements_in_element : Element-F ℕ ℕ → ℕ
elements_in_element e = 1 + total e.items

-- the number of elements in an element, itself included
unfoldable pub element_count : Element → ℕ
element_count = fold-Element ℕ ℕ elements_in_item elements_in_element

-- the number of elements in an item
unfoldable pub item_element_count : Item → ℕ
item_element_count = fold-Item ℕ ℕ elements_in_item elements_in_element

-- ---- lines

-- A text is one line. A child has the lines of its element.
abbrev lines_in_item : Item-F ℕ ℕ → ℕ
lines_in_item (Item-F.Text bytes) = 1
lines_in_item (Item-F.Child inner) = inner

-- An element has a line for each attribute, one for its start, the lines of its items, and one for its end.
abbrev lines_in_element : Element-F ℕ ℕ → ℕ
lines_in_element e = length e.attributes + 2 + total e.items

-- the number of lines of an element
unfoldable pub line_count : Element → ℕ
line_count = fold-Element ℕ ℕ lines_in_item lines_in_element

-- the number of lines of an item
unfoldable pub item_line_count : Item → ℕ
item_line_count = fold-Item ℕ ℕ lines_in_item lines_in_element
