-- What is true of each position that a walk leads to, whatever bytes it reads, and the stage of a
-- position (`acl_walk`). Defined by this project.
use Rattle.std.specs.Prelude.{ℕ, ◌+◌, ◌<◌, ◌≤◌, List, [], ◌∷◌, length, map, All}
use Rattle.acl_walk.specs.Nesting.{Phase, Stage, at_start, in_head, in_attribute, in_content, in_text, at_finish, at_end}
use Rattle.skip_decode.specs.declared.position.Level.{Level}
use Rattle.skip_decode.specs.declared.position.Next.{Next}
use Rattle.skip_decode.specs.declared.position.Next.TheVariants.{Root, Count, Attributes, Attribute, Item, Text, Finish, End}
use Rattle.skip_decode.specs.Positions.{Numbers, Position, tree_end}

-- ---- spots

-- the byte offset at which the innermost of these elements ends, or the tree section where there is
-- none
abbrev pub content_end : Numbers → List Level → ℕ
content_end k [] = tree_end k
content_end k (level ∷ up) = level.end

-- An open element within something that ends at a byte offset.
pub record IsLevel (k : Numbers) (end : ℕ) (level : Level) : Type 0 where
  -- It ends there or before.
  pub within : level.end ≤ end
  -- The lengths in it have at most 32 bits.
  pub narrow : level.width ≤ 32
  -- Its tag is the number of a name.
  pub tag : level.tag < k.names
  -- The numbers in its tag set are those of names.
  pub below : All (λ n. n < k.names) level.below

-- Each open element is within the one around it.
abbrev pub AreNested : Numbers → List Level → Type 0
AreNested k [] = Unit {0}
AreNested k (level ∷ up) = IsLevel k (content_end k up) level × AreNested k up

-- What may come next at a byte offset inside an element that ends at `end`. Of a text or an
-- attribute at least one byte is left, and these bytes are inside the element.
abbrev pub FitsInside : Next → ℕ → ℕ → Type 0
FitsInside Root place end = ⊥
FitsInside Count place end = place ≤ end
FitsInside (Attributes count) place end = place ≤ end
FitsInside (Attribute left more) place end = (0 < left) × (place + left ≤ end)
FitsInside Item place end = place ≤ end
FitsInside (Text left) place end = (0 < left) × (place + left ≤ end)
FitsInside Finish place end = place ≤ end
FitsInside End place end = ⊥

-- What may come next at a byte offset where no element is open, in a tree section that ends at
-- `end`.
abbrev pub FitsOutside : Next → ℕ → ℕ → Type 0
FitsOutside Root place end = place ≤ end
FitsOutside Count place end = ⊥
FitsOutside (Attributes count) place end = ⊥
FitsOutside (Attribute left more) place end = ⊥
FitsOutside Item place end = ⊥
FitsOutside (Text left) place end = ⊥
FitsOutside Finish place end = ⊥
FitsOutside End place end = place ≤ end

-- What may come next among these open elements.
abbrev pub Fits : Numbers → List Level → Next → ℕ → Type 0
Fits k [] next place = FitsOutside next place (tree_end k)
Fits k (level ∷ up) next place = FitsInside next place level.end

-- The position is one that a walk leads to: the open elements are nested, there are no more of them
-- than the header allows, and what comes next fits them.
pub record IsSpot (k : Numbers) (position : Position) : Type 0 where
  pub nested : AreNested k position.levels
  pub few_open : length position.levels ≤ k.depth
  pub fits : Fits k position.levels position.next position.place

-- ---- stages

-- the phase in which each of these comes
abbrev pub phase_of : Next → Phase
phase_of Root = at_start
phase_of Count = in_head
phase_of (Attributes count) = in_head
phase_of (Attribute left more) = in_attribute
phase_of Item = in_content
phase_of (Text left) = in_text
phase_of Finish = at_finish
phase_of End = at_end

-- the tags of open elements
abbrev pub level_tags : List Level → List ℕ
level_tags levels = map (λ (level : Level). level.tag) levels

-- the stage of a position
abbrev pub stage_of : Position → Stage
stage_of position = record { tags = level_tags position.levels; phase = phase_of position.next }
