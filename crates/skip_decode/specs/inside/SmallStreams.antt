-- The events that the streams of three small documents are read as, worked out by hand. Defined by this project.
use Rattle.std.specs.Prelude.{true, List, [], ◌∷◌, codes}
use Rattle.acl_walk.specs.Pieces.{piece_of}
use Rattle.acl_walk.specs.declared.event.Event.{Event}
use Rattle.acl_walk.specs.declared.event.Event.TheVariants.{Begin, Attr, HeadEnd, Text, Finish, End}

-- (a, -hi, )a
abbrev pub one_text_events : List Event
one_text_events = Begin 0 [] ∷ HeadEnd ∷ Text (piece_of (codes "hi") true) ∷ Finish 0 ∷ End ∷ []

-- (a, (b, )b, )a
abbrev pub one_child_events : List Event
one_child_events = Begin 0 (1 ∷ []) ∷ HeadEnd ∷ Begin 1 [] ∷ HeadEnd ∷ Finish 1 ∷ Finish 0 ∷ End ∷ []

-- AId CDATA x, (a, (b, -1, )b, (c, )c, )a
abbrev pub two_children_events : List Event
two_children_events =
    Begin 0 (1 ∷ 2 ∷ []) ∷ Attr (piece_of (codes "Id CDATA x") true) ∷ HeadEnd
    ∷ Begin 1 [] ∷ HeadEnd ∷ Text (piece_of (codes "1") true) ∷ Finish 1
    ∷ Begin 2 [] ∷ HeadEnd ∷ Finish 2 ∷ Finish 0 ∷ End ∷ []
