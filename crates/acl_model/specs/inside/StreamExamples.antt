-- Three small documents, whose streams are worked out by hand. Defined by this project.
use Rattle.std.specs.Prelude.{ℕ, List, [], ◌∷◌, codes}
use Rattle.acl_model.specs.declared.document.Doc.{Doc}
use Rattle.acl_model.specs.declared.document.Element.{Element}
use Rattle.acl_model.specs.declared.document.Item.{Item}
use Rattle.acl_model.specs.declared.document.Item.TheVariants.{Text, Child}

-- an element without attributes
abbrev pub plain_element : List ℕ → List Item → Element
plain_element name items = record { name = name; attributes = []; items = items }

-- (a, -hi, )a
abbrev pub one_text : Doc
one_text = record { root = plain_element (codes "a") (Text (codes "hi") ∷ []) }

-- (a, (b, )b, )a
abbrev pub one_child : Doc
one_child = record { root = plain_element (codes "a") (Child (plain_element (codes "b") []) ∷ []) }

-- AId CDATA x, (a, (b, -1, )b, (c, )c, )a
abbrev pub two_children : Doc
two_children = record {
  root = record {
    name = codes "a";
    attributes = codes "Id CDATA x" ∷ [];
    items = Child (plain_element (codes "b") (Text (codes "1") ∷ [])) ∷ Child (plain_element (codes "c") []) ∷ [];
  };
}
