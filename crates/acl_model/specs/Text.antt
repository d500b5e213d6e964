-- The lines of a document or a view, as they are written: a profile of the ESIS line format, defined by this project.
use Rattle.std.specs.Prelude.{ℕ, Option, Some, None, List, [], ◌∷◌, ◌++◌, map}
use Rattle.std.specs.List.{concat}
use Rattle.acl_model.specs.Ascii.{left_parenthesis, right_parenthesis, hyphen, capital_a}
use Rattle.acl_model.specs.Lines.{as_line}
use Rattle.acl_model.specs.declared.document.Doc.{Doc}
use Rattle.acl_model.specs.declared.document.Item.{Item}
use Rattle.acl_model.specs.declared.document.Element.{Element}
use Rattle.acl_model.specs.declared.document.Item.TheOpen.{Item-F, Element-F}
use Rattle.acl_model.specs.declared.document.Item.TheFolds.{fold-Item, fold-Element}

-- A line is a byte for its kind, its argument, and a line feed.
abbrev pub line : ℕ → List ℕ → List ℕ
line kind argument = as_line (kind ∷ argument)

-- A text is written as one line, and a child element as the lines of the element.
abbrev pub item_lines : Item-F (List ℕ) (List ℕ) → List ℕ
item_lines (Item-F.Text bytes) = line hyphen bytes
item_lines (Item-F.Child lines) = lines

-- An element is written as its attributes, its start, its items in order, and its end.
abbrev pub element_lines : Element-F (List ℕ) (List ℕ) → List ℕ
element_lines e = concat (map (line capital_a) e.attributes) ++ (line left_parenthesis e.name ++ (concat e.items ++ line right_parenthesis e.name))

-- the text of an element
unfoldable pub element_text : Element → List ℕ
element_text = fold-Element (List ℕ) (List ℕ) item_lines element_lines

-- the text of an item
unfoldable pub item_text : Item → List ℕ
item_text = fold-Item (List ℕ) (List ℕ) item_lines element_lines

-- the text of a document
abbrev pub text : Doc → List ℕ
text d = element_text d.root

-- the text of a view; empty where there is no view
abbrev pub text_of_view : Option Doc → List ℕ
text_of_view None = []
text_of_view (Some d) = text d
