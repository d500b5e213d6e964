-- The lines of a document's text, from a list of events. Defined by this project.
use Rattle.std.specs.Prelude.{ℕ, Bool, false, not, ◌==◌, List, [], ◌∷◌, ◌++◌, slice_index_or, if◌then◌else◌}
use Rattle.acl_bits.specs.declared.piece.Piece.{Piece}
use Rattle.acl_model.specs.Ascii.{hyphen, capital_a, left_parenthesis, right_parenthesis, line_feed}
use Rattle.acl_model.specs.Text.{line}
use Rattle.acl_walk.specs.declared.event.Event.{Event}
use Rattle.acl_walk.specs.declared.event.Event.TheVariants.{Begin, Attr, HeadEnd, Text, Finish, End}

-- the name of a tag: a dummy's for 256, and else the name with that number
unfoldable pub name_of_tag : List (List ℕ) → ℕ → List ℕ
name_of_tag names tag = if tag == 256 then hyphen ∷ [] else slice_index_or names tag []

-- the part of a line that a piece gives: the line's kind precedes the first piece, and a line feed
-- follows the last
abbrev pub part_of_line : ℕ → Bool → Piece → List ℕ
part_of_line kind inside piece =
    (if inside then [] else kind ∷ [])
    ++ (piece.bytes.items ++ (if piece.last then line_feed ∷ [] else []))

-- the lines that events give up to End: one for each attribute, for the start of an element at HeadEnd,
-- for each text and for the end of an element. The last element to begin has this tag, and `inside` says
-- that a line has begun already.
abbrev pub text_of_events : List (List ℕ) → ℕ → Bool → List Event → List ℕ
text_of_events names tag inside [] = []
text_of_events names tag inside (Begin began below ∷ events) = text_of_events names began false events
text_of_events names tag inside (Attr piece ∷ events) =
    part_of_line capital_a inside piece ++ text_of_events names tag (not piece.last) events
text_of_events names tag inside (HeadEnd ∷ events) =
    line left_parenthesis (name_of_tag names tag) ++ text_of_events names tag false events
text_of_events names tag inside (Text piece ∷ events) =
    part_of_line hyphen inside piece ++ text_of_events names tag (not piece.last) events
text_of_events names tag inside (Finish ended ∷ events) =
    line right_parenthesis (name_of_tag names ended) ++ text_of_events names tag false events
text_of_events names tag inside (End ∷ events) = []
