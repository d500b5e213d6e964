-- The events that a stream is read as, and where in this list a position stands. Defined by this project.
use Rattle.std.specs.Prelude.{◌≡◌, ℕ, zero, suc, ◌+◌, ◌*◌, ◌-◌, ◌<◌, Option, None, Some, List, [], ◌∷◌, ◌++◌, length}
use Rattle.acl_model.specs.Dictionary.{dictionary, dictionary_section}
use Rattle.acl_model.specs.Stream.{plain, tree_section, depth}
use Rattle.acl_model.specs.declared.document.Doc.{Doc}
use Rattle.acl_walk.specs.declared.event.Event.{Event}
use Rattle.acl_walk.specs.declared.event.Event.TheVariants as event
use Rattle.skip_decode.specs.declared.position.Level.{Level}
use Rattle.skip_decode.specs.declared.position.Next.{Next}
use Rattle.skip_decode.specs.declared.position.Next.TheVariants.{Root, Count, Attributes, Attribute, Item, Text, Finish, End}
use Rattle.skip_decode.specs.Positions.{Numbers, Position, first_position, tree_end}
use Rattle.skip_decode.specs.StreamSteps.{Step, step_at, position_after}

-- ---- the events from a position on

-- the event, and after it those that follow, but for End
abbrev pub and_then : Event → List Event → List Event
and_then (event.Begin tag below) rest = event.Begin tag below ∷ rest
and_then (event.Attr piece) rest = event.Attr piece ∷ rest
and_then event.HeadEnd rest = event.HeadEnd ∷ rest
and_then (event.Text piece) rest = event.Text piece ∷ rest
and_then (event.Finish tag) rest = event.Finish tag ∷ rest
and_then event.End rest = event.End ∷ []

-- the events from a position with this step on; `rest` are those from each position on
abbrev pub events_by : (Position → List Event) → Position → Option Step → List Event
events_by rest position None = []
events_by rest position (Some step) = and_then step.event (rest (position_after position step))

-- the events of at most n steps from a position on, up to End or to bytes that can't be read
unfoldable pub run : Numbers → List ℕ → ℕ → Position → List Event
run k stream zero position = []
run k stream (suc n) position = events_by (run k stream n) position (step_at k stream position)

-- ---- how many are to come

-- one more step where the end of the attributes may come without a byte
abbrev pub weight : Next → ℕ
weight Root = 0
weight Count = 1
weight (Attributes count) = 1
weight (Attribute left more) = 1
weight Item = 0
weight (Text left) = 0
weight Finish = 0
weight End = 0

-- a bound on the number of events before End: up to four for each byte that is left in the tree, and two for each open
-- element
abbrev pub events_left : Numbers → Position → ℕ
events_left k position = 4 * (tree_end k - position.place) + 2 * length position.levels + weight position.next

-- the events from a position on, End included
abbrev pub events_from : Numbers → List ℕ → Position → List Event
events_from k stream position = run k stream (events_left k position + 1) position

-- The events of a stream, from its first position on, are these and then End.
abbrev pub IsReadToEnd : Numbers → List ℕ → List Event → Type 0
IsReadToEnd k stream events = events_from k stream (first_position k) ≡ events ++ (event.End ∷ [])

-- ---- the events of a document

-- the numbers in the header of a document's file
abbrev pub numbers_of : Doc → Numbers
numbers_of d = record {
  dictionary = length (dictionary_section (dictionary d));
  tree = length (tree_section d);
  names = length (dictionary d);
  depth = depth d;
}

-- the events of a document, read from its stream
abbrev pub stream_events : Doc → List Event
stream_events d = events_from (numbers_of d) (plain d) (first_position (numbers_of d))

-- ---- positions and events

-- the position after a step, and the same one where there is no step
abbrev pub after_step : Position → Option Step → Position
after_step position None = position
after_step position (Some step) = position_after position step

-- the position before event i of a stream
unfoldable pub position_at : Numbers → List ℕ → ℕ → Position
position_at k stream zero = first_position k
position_at k stream (suc i) = after_step (position_at k stream i) (step_at k stream (position_at k stream i))

-- The two positions are the same, or a pass led to the first where the second is at the end of the same element. What
-- was met inside that element doesn't matter then.
pub data IsAt : Position → Position → Type 0 where
  same : (position : Position) → IsAt position position
  by_pass : (passed read : Level) (up : List Level) → passed.end ≡ read.end → passed.tag ≡ read.tag
      → IsAt (record { levels = passed ∷ up; next = Finish; place = read.end })
      (record { levels = read ∷ up; next = Item; place = read.end })

-- The position stands at event i of the document: it is the one before this event in the document's stream.
pub record StandsAtEvent (d : Doc) (position : Position) (i : ℕ) : Type 0 where
  pub within : i < length (stream_events d)
  pub there : IsAt position (position_at (numbers_of d) (plain d) i)
