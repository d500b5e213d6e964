-- Which events may come at a position, whatever document a walk stands for: events nest, an
-- attribute or a text is ended before anything else comes, tags are those of names, pieces contain
-- no line feed, and the number of open elements is bounded. Defined by this project.
use Rattle.std.specs.Prelude.{◌≡◌, ◌⊎◌, ℕ, ◌<◌, Bool, true, false, List, [], ◌∷◌, length, drop, take}
use Rattle.acl_bits.specs.declared.piece.Piece.{Piece}
use Rattle.acl_model.specs.Lines.{is_within_line}
use Rattle.acl_walk.specs.declared.event.Event.{Event}
use Rattle.acl_walk.specs.declared.event.Event.TheVariants.{Begin, Attr, HeadEnd, Text, Finish, End}

-- Where a position (spot) is: before the first event, in the head of the innermost open element,
-- inside an attribute of which pieces are left, in the element's content, inside a text of which
-- pieces are left, at the element's Finish after a pass, or after the root's Finish.
pub data Phase : Type 0 where
  at_start : Phase
  in_head : Phase
  in_attribute : Phase
  in_content : Phase
  in_text : Phase
  at_finish : Phase
  at_end : Phase

-- the stage of a position: the tags of the open elements, the innermost first, and the phase
pub record Stage : Type 0 where
  pub tags : List ℕ
  pub phase : Phase

-- The tag is 256, or the number of one of so many names.
abbrev pub IsTag : ℕ → ℕ → Type 0
IsTag names tag = (tag < names) ⊎ (tag ≡ 256)

-- An element may begin: its tag is one, and fewer than `deep` elements are open.
abbrev pub MayBegin : ℕ → ℕ → List ℕ → ℕ → Type 0
MayBegin names deep tags tag = IsTag names tag × (length tags < deep)

-- The bytes of the piece may be a part of a line.
abbrev pub FitsLine : Piece → Type 0
FitsLine piece = is_within_line piece.bytes.items ≡ true

-- The innermost open element has this tag.
abbrev pub IsInnermost : List ℕ → ℕ → Type 0
IsInnermost tags tag = take 1 tags ≡ tag ∷ []

-- The event may come in the phase, with so many names and at most `deep` open elements. Before the
-- first event the root begins or End comes. In a head come attributes, and then HeadEnd. In a
-- content come texts, elements, and then the Finish. Inside an attribute or a text only its next
-- piece comes. At a Finish only the Finish comes, and after the root only End.
abbrev pub MayCome : ℕ → ℕ → List ℕ → Phase → Event → Type 0
MayCome names deep tags at_start (Begin tag below) = MayBegin names deep tags tag
MayCome names deep tags at_start (Attr piece) = ⊥
MayCome names deep tags at_start HeadEnd = ⊥
MayCome names deep tags at_start (Text piece) = ⊥
MayCome names deep tags at_start (Finish tag) = ⊥
MayCome names deep tags at_start End = Unit {0}
MayCome names deep tags in_head (Begin tag below) = ⊥
MayCome names deep tags in_head (Attr piece) = FitsLine piece
MayCome names deep tags in_head HeadEnd = Unit {0}
MayCome names deep tags in_head (Text piece) = ⊥
MayCome names deep tags in_head (Finish tag) = ⊥
MayCome names deep tags in_head End = ⊥
MayCome names deep tags in_attribute (Begin tag below) = ⊥
MayCome names deep tags in_attribute (Attr piece) = FitsLine piece
MayCome names deep tags in_attribute HeadEnd = ⊥
MayCome names deep tags in_attribute (Text piece) = ⊥
MayCome names deep tags in_attribute (Finish tag) = ⊥
MayCome names deep tags in_attribute End = ⊥
MayCome names deep tags in_content (Begin tag below) = MayBegin names deep tags tag
MayCome names deep tags in_content (Attr piece) = ⊥
MayCome names deep tags in_content HeadEnd = ⊥
MayCome names deep tags in_content (Text piece) = FitsLine piece
MayCome names deep tags in_content (Finish tag) = IsInnermost tags tag
MayCome names deep tags in_content End = ⊥
MayCome names deep tags in_text (Begin tag below) = ⊥
MayCome names deep tags in_text (Attr piece) = ⊥
MayCome names deep tags in_text HeadEnd = ⊥
MayCome names deep tags in_text (Text piece) = FitsLine piece
MayCome names deep tags in_text (Finish tag) = ⊥
MayCome names deep tags in_text End = ⊥
MayCome names deep tags at_finish (Begin tag below) = ⊥
MayCome names deep tags at_finish (Attr piece) = ⊥
MayCome names deep tags at_finish HeadEnd = ⊥
MayCome names deep tags at_finish (Text piece) = ⊥
MayCome names deep tags at_finish (Finish tag) = IsInnermost tags tag
MayCome names deep tags at_finish End = ⊥
MayCome names deep tags at_end (Begin tag below) = ⊥
MayCome names deep tags at_end (Attr piece) = ⊥
MayCome names deep tags at_end HeadEnd = ⊥
MayCome names deep tags at_end (Text piece) = ⊥
MayCome names deep tags at_end (Finish tag) = ⊥
MayCome names deep tags at_end End = Unit {0}

-- The event may come at the stage.
abbrev pub MayFollow : ℕ → ℕ → Stage → Event → Type 0
MayFollow names deep stage event = MayCome names deep stage.tags stage.phase event

-- the tags of the elements that are open after an event
abbrev pub tags_after : List ℕ → Event → List ℕ
tags_after tags (Begin tag below) = tag ∷ tags
tags_after tags (Attr piece) = tags
tags_after tags HeadEnd = tags
tags_after tags (Text piece) = tags
tags_after tags (Finish tag) = drop 1 tags
tags_after tags End = tags

-- the phase outside a head: in a content where an element is open, and else at the end
abbrev pub content_phase : List ℕ → Phase
content_phase [] = at_end
content_phase (tag ∷ tags) = in_content

-- the phase after a piece of an attribute: in the head if it is the last piece, and else inside the
-- attribute
abbrev pub phase_after_attr : Bool → Phase
phase_after_attr true = in_head
phase_after_attr false = in_attribute

-- the phase after a piece of a text: in the content if it is the last piece, and else inside the
-- text
abbrev pub phase_after_text : Bool → Phase
phase_after_text true = in_content
phase_after_text false = in_text

-- the phase after an event, where these elements are open before it
abbrev pub phase_after : List ℕ → Event → Phase
phase_after tags (Begin tag below) = in_head
phase_after tags (Attr piece) = phase_after_attr piece.last
phase_after tags HeadEnd = in_content
phase_after tags (Text piece) = phase_after_text piece.last
phase_after tags (Finish tag) = content_phase (drop 1 tags)
phase_after tags End = at_end

-- the stage after an event
abbrev pub stage_after : Stage → Event → Stage
stage_after stage event =
    record { tags = tags_after stage.tags event; phase = phase_after stage.tags event }

-- the stage of a new spot
abbrev pub first_stage : Stage
first_stage = record { tags = []; phase = at_start }

-- the phase after a pass of the innermost of these elements: at its Finish, or unchanged where none is
-- open
abbrev pub passed_phase : List ℕ → Phase → Phase
passed_phase [] phase = phase
passed_phase (tag ∷ tags) phase = at_finish

-- the stage after a pass of the innermost open element
abbrev pub stage_passed : Stage → Stage
stage_passed stage = record { tags = stage.tags; phase = passed_phase stage.tags stage.phase }

-- Each of the events may come after those before it, from these open elements and this phase on.
abbrev pub Nest : ℕ → ℕ → List ℕ → Phase → List Event → Type 0
Nest names deep tags phase [] = Unit {0}
Nest names deep tags phase (event ∷ events) =
    MayCome names deep tags phase event
    × Nest names deep (tags_after tags event) (phase_after tags event) events
