-- Which stream an opener may be reading, as far as it has read. Defined by this project.
use Rattle.std.specs.Prelude.{◌≡◌, ℕ, true, Option, None, Some, IfSome, List, []}
use Rattle.acl_model.specs.Stream.{plain}
use Rattle.acl_model.specs.declared.document.Doc.{Doc}
use Rattle.acl_outside.specs.Outside.{StoreRead}
use Rattle.acl_outside.specs.declared.read_fault.ReadFault.{ReadFault}
use Rattle.acl_outside.specs.declared.read_fault.ReadFault.TheVariants.{BadIndex}
use Rattle.merkle_chunks.specs.declared.header.Header.{Header}
use Rattle.fragment_open.specs.declared.head.Head.{Head}
use Rattle.fragment_open.specs.Openings.{indexes}
use Rattle.fragment_open.specs.Settled.{IsQuiet, since}
use Rattle.fragment_open.specs.Sound.{IsOrigin, sound_for, tells_file}
use Rattle.skip_decode.specs.Fragments.{FitsNone}
use Rattle.skip_decode.specs.StoreWent.{StoreMoment, StoreWent}
use Rattle.std.proofs.Props.{props}

-- The stream is that of an origin for which the opener is sound, given what its store tells of its
-- good reads and of the bytes that it holds.
pub record IsSoundStream (served : Option (List StoreRead)) (held : Option (List ℕ))
    (header : Header) (top key stream : List ℕ) : Type 0 where
  pub document : Doc
  pub origin : IsOrigin header top key document
  pub sound : sound_for served held document key ≡ true
  pub stream_is : stream ≡ plain document

-- the streams that an opener with a head may be reading, given the same
abbrev pub MayBe : Option (List StoreRead) → Option (List ℕ) → Head → List ℕ → Type 0
MayBe served held head = IsSoundStream served held head.header head.top head.key

-- the indexes of the fragments opened since the opener's start, the newest first, where the store
-- tells its good reads
abbrev pub opened_since : Option (List StoreRead) → Option (List ℕ)
opened_since None = None
opened_since (Some all) = Some (indexes (since all))

-- No fragment was opened since the opener's start, where the store tells its good reads.
abbrev pub OpenedNone : Option (List StoreRead) → Type 0
OpenedNone served = IfSome (opened_since served) (λ opened. opened ≡ [])

-- An opener's refusal is `BadIndex` only where it may be reading no stream.
abbrev pub AnswersBadIndex : Option ReadFault → (List ℕ → Type 0) → Type 0
AnswersBadIndex fault may_be = fault ≡ Some BadIndex → FitsNone may_be

-- what is seen at a moment of an opener's store
abbrev pub store_moment : Option (List StoreRead) → Option (List ℕ) → ℕ → Option ReadFault → StoreMoment
store_moment served held faults fault = record { served = served; held = held; faults = faults; fault = fault }

-- Between two moments of an opener there were only fetches.
pub record Fetched (old new : Head) (w v : StoreMoment) : Type 0 where
  -- Its head is the same.
  pub head : new ≡ old
  -- It was sound for each document for which it is.
  pub was_sound : (d : Doc) → sound_for v.served v.held d new.key ≡ true → sound_for w.served w.held d old.key ≡ true
  -- What its store shows.
  pub reads : StoreWent w v
  -- Where its store tells that it holds the file of an origin, a refusal that came is the store's own failure.
  pub held : (d : Doc) → IsOrigin new.header new.top new.key d → tells_file v.held d new.key ≡ true
      → w.fault ≡ None → IsQuiet v.fault

-- One that repeats no refusal has an opener that repeats none.
abbrev pub IsQuietWith : Option ReadFault → Option ReadFault → Type 0
IsQuietWith fault refused = fault ≡ None → refused ≡ None

-- "an opener that repeats none" has at most one proof
pub IsQuietWith-prop : (fault refused : Option ReadFault) → IsProp (IsQuietWith fault refused)
IsQuietWith-prop fault refused = hlevel props

-- "the refusal is BadIndex only there" has at most one proof
pub AnswersBadIndex-prop : (fault : Option ReadFault) (may_be : List ℕ → Type 0)
    → IsProp (AnswersBadIndex fault may_be)
AnswersBadIndex-prop fault may_be = hlevel props
