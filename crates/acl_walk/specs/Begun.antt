-- Where the elements of a document begin and finish in a list of events. Defined by this project.
use Rattle.std.specs.Prelude.{◌≡◌, ℕ, ◌+◌, ◌-◌, Bool, true, false, nat_eq, ◌&&◌, List, [], ◌∷◌, ◌++◌, length}
use Rattle.std.specs.Cmp.Lexicographic.{pointwise}
use Rattle.std.specs.List.{slice_get}
use Rattle.std.specs.Option.{option_map_or}
use Rattle.acl_model.specs.declared.document.Element.{Element}
use Rattle.acl_walk.specs.Open.{OpenPlace, open_at}
use Rattle.acl_walk.specs.Spelling.{SpellsElement}
use Rattle.acl_walk.specs.declared.event.Event.{Event}
use Rattle.acl_walk.specs.declared.event.Event.TheVariants.{Begin, Attr, HeadEnd, Text, Finish, End}

-- The event is a Begin.
abbrev pub is_begin : Event → Bool
is_begin (Begin tag below) = true
is_begin (Attr piece) = false
is_begin HeadEnd = false
is_begin (Text piece) = false
is_begin (Finish tag) = false
is_begin End = false

-- The event is a Finish.
abbrev pub is_finish : Event → Bool
is_finish (Begin tag below) = false
is_finish (Attr piece) = false
is_finish HeadEnd = false
is_finish (Text piece) = false
is_finish (Finish tag) = true
is_finish End = false

-- The innermost of these open elements is the one at this place of the document.
abbrev pub innermost_is_at : List ℕ → List OpenPlace → Bool
innermost_is_at place [] = false
innermost_is_at place (element ∷ up) = pointwise nat_eq element.place place

-- The element at this place of the document begins at index i of a list: the event there is a Begin, and
-- after it the element is the innermost open one.
abbrev pub begins_at : List Event → List ℕ → ℕ → Bool
begins_at list place i =
    option_map_or is_begin (slice_get list i) false && innermost_is_at place (open_at list (i + 1))

-- The element at this place of the document finishes at index i of a list: the event there is a Finish,
-- and before it the element is the innermost open one.
abbrev pub finishes_at : List Event → List ℕ → ℕ → Bool
finishes_at list place i =
    option_map_or is_finish (slice_get list i) false && innermost_is_at place (open_at list i)

-- The element at a place of the document is a part of the list: consecutive events (`own`) spell it, it
-- begins at the first of them, and it finishes at the last.
pub record StandsInList (names : List (List ℕ)) (list : List Event) (place : List ℕ) (e : Element)
    : Type 0 where
  pub prefix : List Event
  pub own : List Event
  pub back : List Event
  pub cut : list ≡ prefix ++ (own ++ back)
  pub spelled : SpellsElement names e own
  pub begins : begins_at list place (length prefix) ≡ true
  pub finishes : finishes_at list place (length prefix + length own - 1) ≡ true
