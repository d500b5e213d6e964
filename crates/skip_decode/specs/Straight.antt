-- Which fragments a walk over a file opens where it goes straight: by `next` at one spot and by passes of it. Defined by
-- this project.
use Rattle.std.specs.Prelude.{◌≡◌, ◌≢◌, ℕ, ◌+◌, ◌*◌, ◌<◌, ◌≤◌, Option, Some, None, List, [], ◌∷◌, ◌++◌, All, length}
use Rattle.acl_outside.specs.Outside.{StoreRead}
use Rattle.acl_outside.specs.declared.read_fault.ReadFault.{ReadFault}
use Rattle.skip_decode.specs.CheckedStream.{opened_since}
use Rattle.skip_decode.specs.Positions.{Position}

-- A moment of a walk and one of its spots: the indexes of the fragments opened since the opener's start, the newest
-- first, where the store tells its good reads; the walk's refusal; and the byte offset of the spot.
pub record StraightMoment : Type 0 where
  pub opened : Option (List ℕ)
  pub fault : Option ReadFault
  pub place : ℕ

-- the moment of a walk whose store tells this of its good reads, with a refusal, at a position
abbrev pub straight_moment : Option (List StoreRead) → Option ReadFault → Position → StraightMoment
straight_moment served fault position = record { opened = opened_since served; fault = fault; place = position.place }

-- These indexes, the last one first, strictly ascend.
abbrev pub IsAscending : List ℕ → Type 0
IsAscending [] = Unit {0}
IsAscending (index ∷ []) = Unit {0}
IsAscending (index ∷ last ∷ before) = (last < index) × IsAscending (last ∷ before)

-- The index isn't the newest of these.
abbrev pub IsNotNewest : ℕ → List ℕ → Type 0
IsNotNewest index [] = Unit {0}
IsNotNewest index (newest ∷ before) = index ≢ newest

-- The first of these fragments, which stands last in the list, isn't the one that was opened last before.
abbrev pub BeginsApart : List ℕ → List ℕ → Type 0
BeginsApart [] before = Unit {0}
BeginsApart (index ∷ []) before = IsNotNewest index before
BeginsApart (index ∷ last ∷ more) before = BeginsApart (last ∷ more) before

-- The fragments that were opened between two moments.
pub record OpenedStraight (w v : StraightMoment) (before after : List ℕ) : Type 0 where
  -- These were opened, the newest first.
  pub more : List ℕ
  pub are : after ≡ more ++ before
  -- Their indexes strictly ascend.
  pub ascend : IsAscending more
  -- The first isn't the one that was opened last before.
  pub apart : BeginsApart more before
  -- None of them ends at or before the first byte offset.
  pub ahead : All (λ index. w.place < 256 * (index + 1)) more
  -- Where there is no refusal, none begins at or after the second byte offset.
  pub behind : v.fault ≡ None → All (λ index. 256 * index < v.place) more
  -- Where there is no refusal and a fragment was opened, the second byte offset is greater than the first. So each of
  -- these fragments has a byte from the first offset on and before the second.
  pub moves : v.fault ≡ None → 0 < length more → w.place < v.place

-- The same, where they are told. They are told after exactly where they were told before.
abbrev pub OpensStraight : StraightMoment → StraightMoment → Option (List ℕ) → Option (List ℕ) → Type 0
OpensStraight w v None None = Unit {0}
OpensStraight w v None (Some after) = ⊥
OpensStraight w v (Some before) None = ⊥
OpensStraight w v (Some before) (Some after) = OpenedStraight w v before after

-- A walk and a spot went straight from one moment to another.
pub record WentStraight (w v : StraightMoment) : Type 0 where
  -- A refusal stays, and nothing is opened after it.
  pub stays : (fault : ReadFault) → w.fault ≡ Some fault → (v.fault ≡ Some fault) × (v.opened ≡ w.opened)
  -- Where there is no refusal, the byte offset didn't fall.
  pub rises : v.fault ≡ None → w.place ≤ v.place
  -- The fragments opened in between.
  pub opens : OpensStraight w v w.opened v.opened
