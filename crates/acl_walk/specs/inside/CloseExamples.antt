-- Small documents, the events that spell them, and predicates at their elements. Where they close
-- is worked out by hand. Defined by this project.
use Rattle.std.specs.Prelude.{ℕ, true, false, Some, None, List, [], ◌∷◌, ◌++◌, replicate, codes}
use Rattle.acl_model.specs.declared.document.Doc.{Doc}
use Rattle.acl_model.specs.declared.document.Element.{Element}
use Rattle.acl_model.specs.declared.document.Item.TheVariants as item
use Rattle.acl_model.specs.declared.path.Axis.TheVariants as axis
use Rattle.acl_model.specs.declared.path.Op.TheVariants.{Eq}
use Rattle.acl_model.specs.declared.path.Operand.TheVariants as operand
use Rattle.acl_model.specs.declared.path.Pred.{Pred}
use Rattle.acl_model.specs.declared.path.PredStep.{PredStep}
use Rattle.acl_model.specs.declared.path.Test.{Test}
use Rattle.acl_model.specs.declared.path.Test.TheVariants as test
use Rattle.acl_walk.specs.Pieces.{piece_of}
use Rattle.acl_walk.specs.declared.event.Event.{Event}
use Rattle.acl_walk.specs.declared.event.Event.TheVariants.{Begin, Attr, HeadEnd, Text, Finish, End}

-- ---- predicates at a root

-- the names r, p and x
abbrev pub small_names : List (List ℕ)
small_names = codes "r" ∷ codes "p" ∷ codes "x" ∷ []

-- (p, )p
abbrev pub small_p : Element
small_p = record { name = codes "p"; attributes = []; items = [] }

-- (x, -z, )x
abbrev pub small_x : Element
small_x = record { name = codes "x"; attributes = []; items = item.Text (codes "z") ∷ [] }

-- (r, (p, )p, (x, -z, )x, )r, with these raw attributes of the root
abbrev pub small_with : List (List ℕ) → Doc
small_with attributes = record {
  root = record { name = codes "r"; attributes = attributes; items = item.Child small_p ∷ item.Child small_x ∷ [] };
}

-- without an attribute
abbrev pub small : Doc
small = small_with []

-- with the attribute AId CDATA f1
abbrev pub small_with_id : Doc
small_with_id = small_with (codes "Id CDATA f1" ∷ [])

-- the events of the document, with these events of the root's attributes
abbrev pub small_events_with : List Event → List Event
small_events_with heads =
    Begin 0 (0 ∷ 1 ∷ 2 ∷ []) ∷ (heads ++ (HeadEnd
    ∷ Begin 1 [] ∷ HeadEnd ∷ Finish 1 ∷ Begin 2 [] ∷ HeadEnd ∷ Text (piece_of (codes "z") true) ∷ Finish 2
    ∷ Finish 0 ∷ End ∷ []))

-- the events without an attribute
abbrev pub small_events : List Event
small_events = small_events_with []

-- the events with the attribute
abbrev pub small_events_with_id : List Event
small_events_with_id = small_events_with (Attr (piece_of (codes "Id CDATA f1") true) ∷ [])

-- a step to the children that pass the test
abbrev pub to_child : Test → PredStep
to_child test = record { axis = axis.Child; test = test }

-- [p]
abbrev pub has_p : Pred
has_p = record { way = to_child (test.Named (codes "p")) ∷ []; attribute = None; cmp = None }

-- [*]
abbrev pub has_child : Pred
has_child = record { way = to_child test.Any ∷ []; attribute = None; cmp = None }

-- [x = ..], with this text as the operand
abbrev pub x_is : List ℕ → Pred
x_is text = record {
  way = to_child (test.Named (codes "x")) ∷ [];
  attribute = None;
  cmp = Some (record { op = Eq; operand = operand.Text text });
}

-- [@Id]
abbrev pub has_id : Pred
has_id = record { way = []; attribute = Some (codes "Id"); cmp = None }

-- ---- an attribute in two pieces

-- n letters a
abbrev pub letters : ℕ → List ℕ
letters n = replicate n 97

-- (r, )r, with the attribute Ax CDATA, whose value is 257 letters: 265 bytes
abbrev pub long : Doc
long = record {
  root = record {
    name = codes "r";
    attributes = (codes "x CDATA " ++ letters 257) ∷ [];
    items = [];
  };
}

-- its events: the first piece has the first 256 bytes, 248 letters among them, and the last one has 9
abbrev pub long_events : List Event
long_events =
    Begin 0 [] ∷ Attr (piece_of (codes "x CDATA " ++ letters 248) false)
    ∷ Attr (piece_of (letters 9) true) ∷ HeadEnd ∷ Finish 0 ∷ End ∷ []

-- [@x = ..], with this text as the operand
abbrev pub attribute_is : List ℕ → Pred
attribute_is text = record {
  way = [];
  attribute = Some (codes "x");
  cmp = Some (record { op = Eq; operand = operand.Text text });
}

-- ---- bearers below the root

-- the names r, a and b
abbrev pub nested_names : List (List ℕ)
nested_names = codes "r" ∷ codes "a" ∷ codes "b" ∷ []

-- (b, )b
abbrev pub nested_b : Element
nested_b = record { name = codes "b"; attributes = []; items = [] }

-- (a, (b, )b, )a
abbrev pub nested_a : Element
nested_a = record { name = codes "a"; attributes = []; items = item.Child nested_b ∷ [] }

-- (a, )a
abbrev pub empty_a : Element
empty_a = record { name = codes "a"; attributes = []; items = [] }

-- (r, (a, (b, )b, )a, (a, )a, )r
abbrev pub nested : Doc
nested = record {
  root = record {
    name = codes "r";
    attributes = [];
    items = item.Child nested_a ∷ item.Child empty_a ∷ [];
  };
}

-- its events
abbrev pub nested_events : List Event
nested_events =
    Begin 0 (0 ∷ 1 ∷ 2 ∷ []) ∷ HeadEnd
    ∷ Begin 1 (0 ∷ 1 ∷ 2 ∷ []) ∷ HeadEnd ∷ Begin 2 [] ∷ HeadEnd ∷ Finish 2 ∷ Finish 1
    ∷ Begin 1 [] ∷ HeadEnd ∷ Finish 1 ∷ Finish 0 ∷ End ∷ []

-- [b]
abbrev pub has_b : Pred
has_b = record { way = to_child (test.Named (codes "b")) ∷ []; attribute = None; cmp = None }
