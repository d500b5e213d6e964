-- How a stream is read event by event: the event at a position, and the position after it. Where there is none, no
-- document has the stream. The format is defined by this project.
use Rattle.std.specs.Prelude.{ℕ, zero, suc, ◌+◌, ◌-◌, ◌%◌, Bool, false, ◌&&◌, ◌||◌, nat_eq, nat_le, nat_lt, if◌then◌else◌, Option, None, Some, List, [], ◌∷◌, length, take, drop, min}
use Rattle.std.specs.Cmp.Lexicographic.{pointwise}
use Rattle.std.specs.Int.{w16, w32, from_be_bytes}
use Rattle.std.specs.Option.{option_and_then}
use Rattle.acl_bits.specs.Row.{row_of, is_member}
use Rattle.acl_bits.specs.declared.piece.Piece.{Piece}
use Rattle.acl_model.specs.Lines.{is_within_line}
use Rattle.acl_model.specs.Width.{binary_length}
use Rattle.acl_walk.specs.declared.event.Event.TheVariants as event
use Rattle.skip_decode.specs.declared.head.Head.{Head}
use Rattle.skip_decode.specs.declared.position.Level.{Level}
use Rattle.skip_decode.specs.declared.position.Next.{Next}
use Rattle.skip_decode.specs.declared.position.Next.TheVariants.{Root, Count, Attributes, Attribute, Item, Text, Finish, End}
use Rattle.skip_decode.specs.inside.HeadReading.{head_bytes}
pub use Rattle.skip_decode.specs.declared.step.Step.{Step}
pub use Rattle.skip_decode.specs.declared.step.Change.{Change}
pub use Rattle.skip_decode.specs.declared.step.Change.TheVariants.{Stay, Open, Close}
use Rattle.skip_decode.specs.Positions.{Numbers, Position, spare_of, above_root}
use Rattle.skip_decode.specs.StreamHeads.{take_within, number_width, head_at}

-- ---- steps

-- the open elements, with the innermost one replaced
abbrev pub with_innermost : Level → List Level → List Level
with_innermost level [] = []
with_innermost level (old ∷ up) = level ∷ up

-- the open elements after a change
abbrev pub levels_after : Change → List Level → List Level
levels_after Stay levels = levels
levels_after (Open parent child) levels = child ∷ with_innermost parent levels
levels_after Close levels = drop 1 levels

-- what comes next: after the root's end, the end of the document
abbrev pub next_in : List Level → Next → Next
next_in [] next = End
next_in (level ∷ up) next = next

-- the position after a step
abbrev pub position_after : Position → Step → Position
position_after position step = record {
  levels = levels_after step.change position.levels;
  next = next_in (levels_after step.change position.levels) step.next;
  place = step.place;
}

-- ---- texts and attributes

-- how many bytes of a fragment of 256 bytes are left from this byte offset on
abbrev pub fragment_left : ℕ → ℕ
fragment_left place = 256 - place % 256

-- The piece at a byte offset, of a text or attribute with so many bytes left: it ends where they end, or where the
-- fragment ends.
abbrev pub piece_at : List ℕ → ℕ → ℕ → Piece
piece_at stream place left = record {
  bytes = record { items = take (min left (fragment_left place)) (drop place stream) };
  last = nat_le left (fragment_left place);
}

-- the byte offset after that piece
abbrev pub after_piece : ℕ → ℕ → ℕ
after_piece place left = place + min left (fragment_left place)

-- A length in four bytes, big-endian. The content has so many bytes after it.
unfoldable pub length_at : List ℕ → ℕ → ℕ → Option ℕ
length_at stream place end =
    option_and_then (λ four.
    if nat_le (from_be_bytes w32 four) (end - place - 4) then Some (from_be_bytes w32 four) else None)
    (take_within (end - place) 4 (drop place stream))

-- what comes after the piece of a text with so many bytes left
abbrev pub next_in_text : ℕ → ℕ → Next
next_in_text place left = if nat_le left (fragment_left place) then Item else Text (left - fragment_left place)

-- a piece of a text with so many bytes left; it has no line feed
unfoldable pub text_step : List ℕ → ℕ → ℕ → Option Step
text_step stream place left =
    if is_within_line (piece_at stream place left).bytes.items
    then Some (record {
      event = event.Text (piece_at stream place left);
      next = next_in_text place left;
      place = after_piece place left;
      change = Stay;
    })
    else None

-- a text from its length on
unfoldable pub text_begun : List ℕ → ℕ → ℕ → Option Step
text_begun stream place end = option_and_then (text_step stream (place + 4)) (length_at stream place end)

-- what comes after the piece of an attribute with so many bytes left, before so many more attributes
abbrev pub next_in_attribute : ℕ → ℕ → ℕ → Next
next_in_attribute more place left =
    if nat_le left (fragment_left place) then Attributes more else Attribute (left - fragment_left place) more

-- a piece of an attribute with so many bytes left, before so many more attributes; it has no line feed
unfoldable pub attribute_step : List ℕ → ℕ → ℕ → ℕ → Option Step
attribute_step stream more place left =
    if is_within_line (piece_at stream place left).bytes.items
    then Some (record {
      event = event.Attr (piece_at stream place left);
      next = next_in_attribute more place left;
      place = after_piece place left;
      change = Stay;
    })
    else None

-- so many attributes: the first one from its length on, or the end of the attributes
unfoldable pub attributes_step : List ℕ → ℕ → ℕ → ℕ → Option Step
attributes_step stream place end zero = Some (record { event = event.HeadEnd; next = Item; place = place; change = Stay })
attributes_step stream place end (suc more) =
    option_and_then (attribute_step stream more (place + 4)) (length_at stream place end)

-- the number of attributes in two bytes, big-endian, and then the attributes
unfoldable pub count_step : List ℕ → ℕ → ℕ → Option Step
count_step stream place end =
    option_and_then (λ two. attributes_step stream (place + 2) end (from_be_bytes w16 two))
    (take_within (end - place) 2 (drop place stream))

-- ---- elements

-- 1 where an element has a tag set, else 0
abbrev pub inner_of : List ℕ → ℕ
inner_of [] = 0
inner_of (n ∷ below) = 1

-- By how many bytes a head is shorter with its length in one bit less: 0 or 1. If one bit less doesn't serve, fewer don't
-- either, since a child has at least 3 bytes.
abbrev pub saved_bytes : Level → Head → ℕ
saved_bytes parent head =
    head.bytes
    - head_bytes (length parent.below) (number_width (length parent.below)) (inner_of head.below) (parent.width - 1)

-- the numbers that were met, and those of an element with this head
abbrev pub met_with : List ℕ → Head → List ℕ
met_with met head = row_of (λ n. nat_eq n head.tag || (is_member met n || is_member head.below n))

-- the parent of an element that begins with this head
abbrev pub parent_with : Level → Head → Level
parent_with parent head = record {
  below = parent.below;
  met = met_with parent.met head;
  end = parent.end;
  spare = parent.spare - saved_bytes parent head;
  width = parent.width;
  tag = parent.tag;
}

-- an element whose head is at a byte offset
abbrev pub level_of : ℕ → Head → Level
level_of place head = record {
  below = head.below;
  met = [];
  end = place + head.bytes + head.long;
  spare = spare_of head.long;
  width = binary_length head.long;
  tag = head.tag;
}

-- An element with this head may begin at a byte offset in its parent: the depth allows it, it ends within the parent's
-- content, and the heads read so far don't show that a width one less would do for that content.
abbrev pub may_begin : ℕ → ℕ → Level → ℕ → Head → Bool
may_begin depth around parent place head =
    nat_lt around depth
    && (nat_le (head.bytes + head.long) (parent.end - place) && nat_le (saved_bytes parent head) parent.spare)

-- the start of an element with this head, inside so many open elements
unfoldable pub begun_with : ℕ → ℕ → Level → ℕ → Head → Option Step
begun_with depth around parent place head =
    if may_begin depth around parent place head
    then Some (record {
      event = event.Begin head.tag head.below;
      next = Count;
      place = place + head.bytes;
      change = Open (parent_with parent head) (level_of place head);
    })
    else None

-- the start of an element
unfoldable pub element_begun : ℕ → List ℕ → ℕ → Level → ℕ → Option Step
element_begun depth stream around parent place =
    option_and_then (begun_with depth around parent place)
    (head_at parent.below parent.width (parent.end - place) (drop place stream))

-- the end of an element at a byte offset
abbrev pub finish_step : Level → ℕ → Step
finish_step level place = record { event = event.Finish level.tag; next = Item; place = place; change = Close }

-- the end of an element whose content was read: its tag set has exactly the numbers that were met
unfoldable pub checked_finish : Level → ℕ → Option Step
checked_finish level place = if pointwise nat_eq level.met level.below then Some (finish_step level place) else None

-- an item by its first bit: an element where it is 1, else a text
abbrev pub item_by : ℕ → List ℕ → ℕ → Level → ℕ → List ℕ → Option Step
item_by depth stream around level place [] = None
item_by depth stream around level place (byte ∷ bytes) =
    if nat_le 128 byte then element_begun depth stream around level place else text_begun stream place level.end

-- a text or child of an element, or its end
unfoldable pub item_step : ℕ → List ℕ → ℕ → Level → ℕ → Option Step
item_step depth stream around level place =
    if nat_eq place level.end then checked_finish level place
    else option_and_then (item_by depth stream around level place) (take_within (level.end - place) 1 (drop place stream))

-- ---- the whole tree

-- The root is the only item of the tree section: it ends where the section ends, and the dictionary has exactly the
-- names of the document.
abbrev pub is_only : Change → Bool
is_only Stay = false
is_only (Open parent child) = nat_eq child.end parent.end && pointwise nat_eq parent.met parent.below
is_only Close = false

-- the start of the root
unfoldable pub root_step : Numbers → List ℕ → ℕ → Option Step
root_step k stream place =
    option_and_then (λ step. if is_only step.change then Some step else None)
    (element_begun k.depth stream 0 (above_root k) place)

-- the end of the document
abbrev pub end_step : ℕ → Step
end_step place = record { event = event.End; next = End; place = place; change = Stay }

-- the step where no element is open
abbrev pub step_outside : Numbers → List ℕ → Next → ℕ → Option Step
step_outside k stream Root place = root_step k stream place
step_outside k stream Count place = None
step_outside k stream (Attributes count) place = None
step_outside k stream (Attribute left more) place = None
step_outside k stream Item place = None
step_outside k stream (Text left) place = None
step_outside k stream Finish place = None
step_outside k stream End place = Some (end_step place)

-- the step inside an element
abbrev pub step_inside : Numbers → List ℕ → ℕ → Level → Next → ℕ → Option Step
step_inside k stream around level Root place = None
step_inside k stream around level Count place = count_step stream place level.end
step_inside k stream around level (Attributes count) place = attributes_step stream place level.end count
step_inside k stream around level (Attribute left more) place = attribute_step stream more place left
step_inside k stream around level Item place = item_step k.depth stream around level place
step_inside k stream around level (Text left) place = text_step stream place left
step_inside k stream around level Finish place = Some (finish_step level place)
step_inside k stream around level End place = None

-- the step among these open elements
abbrev pub step_among : Numbers → List ℕ → List Level → Next → ℕ → Option Step
step_among k stream [] next place = step_outside k stream next place
step_among k stream (level ∷ up) next place = step_inside k stream (length up + 1) level next place

-- the step at a position
unfoldable pub step_at : Numbers → List ℕ → Position → Option Step
step_at k stream position = step_among k stream position.levels position.next position.place
