-- Positions in a tree: the events to come from one, and what a step does. Defined by this project.
use Rattle.std.specs.Prelude.{◌≡◌, ℕ, ◌<◌, Bool, true, false, List, [], ◌∷◌, ◌++◌, length, Option, Some, None}
use Rattle.std.specs.List.{flat_map}
use Rattle.acl_bits.specs.declared.piece.Piece.{Piece}
use Rattle.acl_walk.specs.Pieces.{pieces}
use Rattle.acl_walk.specs.Nesting.{Phase, at_start, in_head, in_attribute, in_text, at_finish, content_phase, tags_after, phase_after}
use Rattle.acl_walk.specs.inside.OpenElements.{OpenElement, tags_of, content_to_come, finish_to_come}
use Rattle.acl_walk.specs.TreeEvents.{attribute_events, text_events, element_events}
use Rattle.acl_walk.specs.declared.event.Event.{Event}
use Rattle.acl_walk.specs.declared.event.Event.TheVariants.{Begin, Attr, HeadEnd, Text, Finish, End}
use Rattle.acl_walk.specs.declared.tree_step.Now.{Now}
use Rattle.acl_walk.specs.declared.tree_step.Now.TheVariants as now

-- the events of the attributes that are left, and those after them
abbrev pub head_to_come : List (List ℕ) → List (List ℕ) → List OpenElement → List Event
head_to_come names raws levels =
    flat_map attribute_events raws ++ (HeadEnd ∷ content_to_come names levels)

-- the events to come from a position in a tree, with these open elements
abbrev pub to_come : List (List ℕ) → Now → List OpenElement → List Event
to_come names (now.Root element) levels =
    element_events names element.now ++ content_to_come names levels
to_come names (now.Head raws) levels = head_to_come names raws.now levels
to_come names (now.Attribute bytes raws) levels =
    attribute_events bytes.now ++ head_to_come names raws.now levels
to_come names now.Content levels = content_to_come names levels
to_come names (now.Text bytes) levels = text_events bytes.now ++ content_to_come names levels
to_come names now.Finish levels = finish_to_come names levels

-- the phase of a position in a tree, with open elements of these tags
abbrev pub phase_of : Now → List ℕ → Phase
phase_of (now.Root element) tags = at_start
phase_of (now.Head raws) tags = in_head
phase_of (now.Attribute bytes raws) tags = in_attribute
phase_of now.Content tags = content_phase tags
phase_of (now.Text bytes) tags = in_text
phase_of now.Finish tags = at_finish

-- Some element is open, if the position is in a head, in an attribute or in a text.
abbrev pub IsInside : Now → List OpenElement → Type 0
IsInside (now.Root element) levels = Unit {0}
IsInside (now.Head raws) levels = 0 < length levels
IsInside (now.Attribute bytes raws) levels = 0 < length levels
IsInside now.Content levels = Unit {0}
IsInside (now.Text bytes) levels = 0 < length levels
IsInside now.Finish levels = Unit {0}

-- The old list is the event followed by the new list; End alone stays as it is.
abbrev pub Comes : Event → List Event → List Event → Type 0
Comes (Begin tag below) old new = old ≡ Begin tag below ∷ new
Comes (Attr piece) old new = old ≡ Attr piece ∷ new
Comes HeadEnd old new = old ≡ HeadEnd ∷ new
Comes (Text piece) old new = old ≡ Text piece ∷ new
Comes (Finish tag) old new = old ≡ Finish tag ∷ new
Comes End old new = (old ≡ End ∷ []) × (new ≡ End ∷ [])

-- A step gives the event and leads to the position: the list is the event followed by the events to
-- come from the position. The open elements and the phase are those after the event.
pub record Steps (names : List (List ℕ)) (event : Event) (list : List Event) (tags : List ℕ)
    (place : Now) (levels : List OpenElement) : Type 0 where
  pub comes : Comes event list (to_come names place levels)
  pub open_tags : tags_of levels ≡ tags_after tags event
  pub phase : phase_of place (tags_of levels) ≡ phase_after tags event
  pub inside : IsInside place levels

-- the pieces after a piece: none where it is the last
abbrev pub pieces_after : Option (List ℕ) → List Piece
pieces_after None = []
pieces_after (Some bytes) = pieces bytes

-- The bytes end with a piece, if none are left after it.
abbrev pub ends_here : Option (List ℕ) → Bool
ends_here None = true
ends_here (Some bytes) = false
