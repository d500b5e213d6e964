-- What a step does at a position, whatever bytes are read. Defined by this project.
use Rattle.std.specs.Prelude.{◌≡◌, ℕ, ◌+◌, ◌*◌, ◌<◌, ◌≤◌, List, [], ◌∷◌, length, All}
use Rattle.acl_walk.specs.Nesting.{Phase, FitsLine, in_content, phase_after_attr, phase_after_text}
use Rattle.acl_walk.specs.declared.event.Event.{Event}
use Rattle.acl_walk.specs.declared.event.Event.TheVariants as event
use Rattle.skip_decode.specs.declared.head.Head.{Head}
use Rattle.skip_decode.specs.declared.position.Level.{Level}
use Rattle.skip_decode.specs.declared.position.Next.{Next}
use Rattle.skip_decode.specs.declared.position.Next.TheVariants.{Root, Count, Attributes, Attribute, Item, Text, Finish, End}
use Rattle.skip_decode.specs.Positions.{Numbers, Position, above_root}
use Rattle.skip_decode.specs.Spots.{IsLevel, FitsInside, phase_of}
use Rattle.skip_decode.specs.StreamEvents.{weight}
use Rattle.skip_decode.specs.StreamSteps.{Step, Change, Stay, Open, Close, finish_step, end_step}

-- ---- along a content

-- The step opens and closes no element, and what comes next fits a content that ends at `end`. The
-- bound on the events to come falls, where `was` is the weight of what came next before.
abbrev pub Along : ℕ → ℕ → ℕ → Step → Type 0
Along end from was step =
    (step.change ≡ Stay) × FitsInside step.next step.place end
    × (4 * from + weight step.next < 4 * step.place + was)

-- The event is a piece of an attribute, and this phase comes after it.
abbrev pub IsAttribute : Phase → Event → Type 0
IsAttribute phase (event.Begin tag below) = ⊥
IsAttribute phase (event.Attr piece) = FitsLine piece × (phase ≡ phase_after_attr piece.last)
IsAttribute phase event.HeadEnd = ⊥
IsAttribute phase (event.Text piece) = ⊥
IsAttribute phase (event.Finish tag) = ⊥
IsAttribute phase event.End = ⊥

-- The event is a piece of an attribute or the end of the attributes, and this phase comes after it.
abbrev pub IsInHead : Phase → Event → Type 0
IsInHead phase (event.Begin tag below) = ⊥
IsInHead phase (event.Attr piece) = FitsLine piece × (phase ≡ phase_after_attr piece.last)
IsInHead phase event.HeadEnd = phase ≡ in_content
IsInHead phase (event.Text piece) = ⊥
IsInHead phase (event.Finish tag) = ⊥
IsInHead phase event.End = ⊥

-- The event is a piece of a text, and this phase comes after it.
abbrev pub IsText : Phase → Event → Type 0
IsText phase (event.Begin tag below) = ⊥
IsText phase (event.Attr piece) = ⊥
IsText phase event.HeadEnd = ⊥
IsText phase (event.Text piece) = FitsLine piece × (phase ≡ phase_after_text piece.last)
IsText phase (event.Finish tag) = ⊥
IsText phase event.End = ⊥

-- a step from a byte offset inside an attribute, in a content that ends at `end`
abbrev pub AttributeMove : ℕ → ℕ → Step → Type 0
AttributeMove end from step = IsAttribute (phase_of step.next) step.event × Along end from 1 step

-- a step in a head
abbrev pub HeadMove : ℕ → ℕ → Step → Type 0
HeadMove end from step = IsInHead (phase_of step.next) step.event × Along end from 1 step

-- a step inside a text, or to its first piece
abbrev pub TextMove : ℕ → ℕ → Step → Type 0
TextMove end from step = IsText (phase_of step.next) step.event × Along end from 0 step

-- A step with a piece of an attribute with so many bytes left is a move from each byte offset up to
-- it, but from that where it has no byte.
abbrev pub AttributeMoves : ℕ → ℕ → Step → Type 0
AttributeMoves place left step =
    (end from : ℕ) → place + left ≤ end → from ≤ place → from < place + left → AttributeMove end from step

-- The same for a text.
abbrev pub TextMoves : ℕ → ℕ → Step → Type 0
TextMoves place left step =
    (end from : ℕ) → place + left ≤ end → from ≤ place → from < place + left → TextMove end from step

-- ---- elements

-- A head in a parent with these members: its numbers are less than each number of names that those
-- are less than, and it has at least a byte.
pub record IsHeadIn (members : List ℕ) (head : Head) : Type 0 where
  pub tag : (names : ℕ) → All (λ n. n < names) members → head.tag < names
  pub below : (names : ℕ) → All (λ n. n < names) members → All (λ n. n < names) head.below
  pub some : 1 ≤ head.bytes

-- The event is the begin of an element with this tag.
abbrev pub IsBegin : ℕ → Event → Type 0
IsBegin number (event.Begin tag below) = tag ≡ number
IsBegin number (event.Attr piece) = ⊥
IsBegin number event.HeadEnd = ⊥
IsBegin number (event.Text piece) = ⊥
IsBegin number (event.Finish tag) = ⊥
IsBegin number event.End = ⊥

-- The two are the same but for what was met inside.
pub record IsSameLevel (now was : Level) : Type 0 where
  pub below : now.below ≡ was.below
  pub end : now.end ≡ was.end
  pub width : now.width ≡ was.width
  pub tag : now.tag ≡ was.tag

-- A step from a byte offset in `level` opens an element in it, inside so many open elements.
pub record OpenMove (k : Numbers) (around : ℕ) (level : Level) (from : ℕ) (step : Step)
    (parent child : Level) : Type 0 where
  pub begins : IsBegin child.tag step.event
  pub next : step.next ≡ Count
  pub parent_is : IsSameLevel parent level
  pub inside : IsLevel k level.end child
  pub rises : from < step.place
  pub within : step.place ≤ child.end
  pub few : around < k.depth

-- a step to the begin of an element
abbrev pub BeginMove : Numbers → ℕ → Level → ℕ → Step → Change → Type 0
BeginMove k around level from step Stay = ⊥
BeginMove k around level from step (Open parent child) = OpenMove k around level from step parent child
BeginMove k around level from step Close = ⊥

-- a step to a text or child of an element, or to its end
abbrev pub ItemMove : Numbers → ℕ → Level → ℕ → Step → Change → Type 0
ItemMove k around level from step Stay = TextMove level.end from step
ItemMove k around level from step (Open parent child) = OpenMove k around level from step parent child
ItemMove k around level from step Close = step ≡ finish_step level from

-- A start of an element in a parent whose members are numbers of names, where this many elements
-- may be open.
abbrev pub BeginMoves : ℕ → ℕ → Level → ℕ → Step → Type 0
BeginMoves depth around level from step =
    (k : Numbers) → k.depth ≡ depth → All (λ n. n < k.names) level.below
    → BeginMove k around level from step step.change

-- The same for an item.
abbrev pub ItemMoves : ℕ → ℕ → Level → ℕ → Step → Type 0
ItemMoves depth around level from step =
    (k : Numbers) → k.depth ≡ depth → All (λ n. n < k.names) level.below
    → ItemMove k around level from step step.change

-- ---- at a position

-- where no element is open
abbrev pub MoveOutside : Numbers → ℕ → Step → Next → Type 0
MoveOutside k from step Root = BeginMove k 0 (above_root k) from step step.change
MoveOutside k from step Count = ⊥
MoveOutside k from step (Attributes count) = ⊥
MoveOutside k from step (Attribute left more) = ⊥
MoveOutside k from step Item = ⊥
MoveOutside k from step (Text left) = ⊥
MoveOutside k from step Finish = ⊥
MoveOutside k from step End = step ≡ end_step from

-- inside an element
abbrev pub MoveInside : Numbers → ℕ → Level → ℕ → Step → Next → Type 0
MoveInside k around level from step Root = ⊥
MoveInside k around level from step Count = HeadMove level.end from step
MoveInside k around level from step (Attributes count) = HeadMove level.end from step
MoveInside k around level from step (Attribute left more) = AttributeMove level.end from step
MoveInside k around level from step Item = ItemMove k around level from step step.change
MoveInside k around level from step (Text left) = TextMove level.end from step
MoveInside k around level from step Finish = step ≡ finish_step level from
MoveInside k around level from step End = ⊥

-- among these open elements
abbrev pub MoveAmong : Numbers → ℕ → Step → List Level → Next → Type 0
MoveAmong k from step [] next = MoveOutside k from step next
MoveAmong k from step (level ∷ up) next = MoveInside k (length up + 1) level from step next

-- The step is one that may be made at the position, whatever the bytes are.
abbrev pub IsMove : Numbers → Position → Step → Type 0
IsMove k position step = MoveAmong k position.place step position.levels position.next
