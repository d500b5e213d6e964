-- What a walk over a file in a store stands for, and when it is sound. Defined by this project.
use Rattle.std.specs.Prelude.{◌≡◌, ℕ, ◌-◌, Bool, true, false, Option, Some, None, List, length}
use Rattle.acl_model.specs.Dictionary.{dictionary}
use Rattle.acl_model.specs.Stream.{plain}
use Rattle.acl_model.specs.declared.document.Doc.{Doc}
use Rattle.acl_outside.specs.Outside.{StoreRead}
use Rattle.acl_outside.specs.declared.read_fault.ReadFault.{ReadFault}
use Rattle.acl_outside.specs.declared.read_fault.ReadFault.TheVariants.{BadIndex}
use Rattle.acl_walk.specs.Listed.{AreNames, IsListOf}
use Rattle.acl_walk.specs.Nesting.{first_stage}
use Rattle.acl_walk.specs.Open.{tags_at}
use Rattle.fragment_open.specs.Settled.{IsQuiet}
use Rattle.fragment_open.specs.Sound.{IsOrigin, sound_for, tells_file}
use Rattle.fragment_open.specs.declared.head.Head.{Head}
use Rattle.merkle_chunks.specs.HeaderBytes.{IsInRange}
use Rattle.merkle_chunks.specs.declared.header.Header.{Header}
use Rattle.skip_decode.specs.CheckedStream.{store_moment}
use Rattle.skip_decode.specs.Positions.{Numbers, Position}
use Rattle.skip_decode.specs.Spots.{IsSpot, stage_of}
use Rattle.skip_decode.specs.StoreWent.{StoreMoment, StoreWent}
use Rattle.skip_decode.specs.StreamEvents.{StandsAtEvent, events_from, numbers_of, stream_events}

-- ---- what never changes

-- What never changes of a walk over a file: the header, the top digest, the document key, and the
-- names of the dictionary.
pub record FileFixed : Type 0 where
  pub header : Header
  pub top : List ℕ
  pub key : List ℕ
  pub names : List (List ℕ)

-- the numbers of a header by which a stream is read
abbrev pub numbers_in : Header → Numbers
numbers_in h = record { dictionary = h.dictionary; tree = h.tree; names = h.tags; depth = h.depth }

-- The document is an origin: it is one of the opener, and its dictionary has the walk's names.
abbrev pub IsFileOrigin : FileFixed → Doc → Type 0
IsFileOrigin k d = IsOrigin k.header k.top k.key d × (dictionary d ≡ k.names)

-- ---- spots

-- the index of a position: how many of a document's events come before those from the position on
abbrev pub place_of : Doc → Position → ℕ
place_of d position =
    length (stream_events d) - length (events_from (numbers_of d) (plain d) position)

-- The position stands at the event of this index.
abbrev pub IsFilePlace : Doc → Position → Type 0
IsFilePlace d position = StandsAtEvent d position (place_of d position)

-- What is known of the list of each origin at a position. These facts are true of each position:
-- they stand here since the proofs of a crate can be cited by its functions alone.
pub record AreListsKnown (k : FileFixed) (position : Position) : Type 0 where
  -- The list spells the origin.
  pub spelled : (d : Doc) → IsFileOrigin k d → IsListOf k.names (Some d) (stream_events d)
  -- Before the first event the index is 0.
  pub fresh : (d : Doc) → IsFileOrigin k d → stage_of position ≡ first_stage → IsFilePlace d position
      → place_of d position ≡ 0
  -- The elements that are open at the position are those that are open at its index.
  pub open_tags : (d : Doc) → IsFileOrigin k d → IsFilePlace d position
      → (stage_of position).tags ≡ tags_at (stream_events d) (place_of d position)

-- A walk over the file made the spot.
pub record IsFileSpot (k : FileFixed) (position : Position) : Type 0 where
  -- The numbers of the header are in their ranges.
  pub range : IsInRange k.header
  -- The names are distinct, and as many as the header says.
  pub names : AreNames k.names
  pub count : length k.names ≡ k.header.tags
  -- A walk by these numbers leads to the position.
  pub spot : IsSpot (numbers_in k.header) position
  pub lists : AreListsKnown k position

-- ---- moments

-- A moment of a walk: what never changes, what its store tells of its good reads and of the bytes
-- that it holds, the store's count of faults, and the walk's refusal.
pub record FileMoment : Type 0 where
  pub fixed : FileFixed
  pub served : Option (List StoreRead)
  pub held : Option (List ℕ)
  pub faults : ℕ
  pub fault : Option ReadFault

-- the moment of a walk whose opener has this head
abbrev pub moment_of : Head → List (List ℕ) → Option (List StoreRead) → Option (List ℕ) → ℕ
    → Option ReadFault → FileMoment
moment_of head names served held faults fault = record {
  fixed = record { header = head.header; top = head.top; key = head.key; names = names };
  served = served;
  held = held;
  faults = faults;
  fault = fault;
}

-- what is seen of its store then
abbrev pub store_of : FileMoment → StoreMoment
store_of w = store_moment w.served w.held w.faults w.fault

-- whether the walk is sound for a document: whether its opener is
abbrev pub is_sound_at : FileMoment → Doc → Bool
is_sound_at w d = sound_for w.served w.held d w.fixed.key

-- A walk went from one moment to another.
pub record FileWent (w v : FileMoment) : Type 0 where
  -- What never changes is the same.
  pub same : v.fixed ≡ w.fixed
  -- It was sound for each document for which it is.
  pub was_sound : (d : Doc) → is_sound_at v d ≡ true → is_sound_at w d ≡ true
  -- What its store shows: of its good reads, of its faults, and of the cause of a refusal that came
  -- in between.
  pub reads : StoreWent (store_of w) (store_of v)
  -- Where it refused with `BadIndex` in between, it is sound for no origin.
  pub bad_index : w.fault ≡ None → v.fault ≡ Some BadIndex
      → (d : Doc) → IsFileOrigin v.fixed d → is_sound_at v d ≡ false
  -- Where the store tells that it holds the file of an origin, a refusal that came in between is the
  -- store's own failure.
  pub held : (d : Doc) → IsFileOrigin v.fixed d → tells_file v.held d v.fixed.key ≡ true
      → w.fault ≡ None → IsQuiet v.fault
