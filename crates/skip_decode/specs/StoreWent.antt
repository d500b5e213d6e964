-- What the good reads and the faults of a store show between two moments of the one that reads it. Defined by this
-- project.
use Rattle.std.specs.Prelude.{◌≡◌, ℕ, Bool, true, false, Option, Some, None, IfSome, List}
use Rattle.std.specs.List.{list_all, list_any}
use Rattle.acl_outside.specs.Outside.{NotFallen, Rose, StoreRead}
use Rattle.acl_outside.specs.declared.read_fault.ReadFault.{ReadFault}
use Rattle.acl_outside.specs.declared.read_fault.ReadFault.TheVariants.{BadFragment, BadHeader, BadIndex, StoreFault, StoreShort, WrongKey, WrongRoot}
use Rattle.fragment_open.specs.CallReads.{IsCut, Told, is_whole}
use Rattle.fragment_open.specs.Checked.{AllFoldUnlessRefused, refuses_fragment}
use Rattle.fragment_open.specs.Held.{IsQuietElse}
use Rattle.fragment_open.specs.Served.{IsRegular}
use Rattle.fragment_open.specs.Settled.{IsFetchCause, is_start, since}

-- A moment of one that reads a store: what the store tells of its good reads and of the bytes that it holds, its count
-- of faults, and the refusal that the reader repeats.
pub record StoreMoment : Type 0 where
  pub served : Option (List StoreRead)
  pub held : Option (List ℕ)
  pub faults : ℕ
  pub fault : Option ReadFault

-- ---- refusals

-- whether a fault is that of a read that came short
abbrev pub is_short : ReadFault → Bool
is_short BadHeader = false
is_short (WrongRoot want made) = false
is_short (WrongKey want made) = false
is_short (StoreShort to) = true
is_short (BadFragment index want made) = false
is_short StoreFault = false
is_short BadIndex = false

-- whether there is a refusal, because of a read that came short
abbrev pub refused_short : Option ReadFault → Bool
refused_short None = false
refused_short (Some fault) = is_short fault

-- whether there is a refusal, of a fragment by its digest
abbrev pub refused_fragment : Option ReadFault → Bool
refused_fragment None = false
refused_fragment (Some fault) = refuses_fragment fault

-- ---- what is true of the reads at a moment

-- this is true of the reads since the start, where the store tells them
abbrev pub OfReads : Option (List StoreRead) → (List StoreRead → Type 0) → Type 0
OfReads served holds = IfSome served (λ all. holds (since all))

-- The reads since the start are regular.
abbrev pub AreRegular : StoreMoment → Type 0
AreRegular w = OfReads w.served IsRegular

-- Each read since the start was whole, unless there is a refusal because of a short one.
abbrev pub AreWhole : StoreMoment → Type 0
AreWhole w = refused_short w.fault ≡ false → OfReads w.served (λ reads. list_all is_whole reads ≡ true)

-- Each opening since the start folds to the digest that is wanted, unless it is refused or didn't reach its goal.
abbrev pub AllFold : StoreMoment → Type 0
AllFold w = OfReads w.served (AllFoldUnlessRefused (refused_fragment w.fault))

-- All three are true of the reads.
pub record AreGood (w : StoreMoment) : Type 0 where
  pub regular : AreRegular w
  pub whole : AreWhole w
  pub folds : AllFold w

-- ---- between two moments

-- Where there is no refusal, or one other than the store's own failure, the count of faults is as it was.
abbrev pub IsQuietUnlessFailed : Option ReadFault → ℕ → ℕ → Type 0
IsQuietUnlessFailed None before after = after ≡ before
IsQuietUnlessFailed (Some fault) before after = IsQuietElse fault before after

-- Why there is a refusal now, where there was none, by the count of faults before and after, and the good reads after.
-- `StoreFault`: the count rose. `StoreShort`: the last read was short, and its bytes ended at this byte offset.
-- `BadFragment`: the newest opening is of this fragment and folds to `made`, and not to `want`, which is wanted. No
-- header, root or key is refused: these are checked before, when the opener is made. Of `BadIndex` nothing is said here.
abbrev pub IsCause : ReadFault → ℕ → ℕ → Option (List StoreRead) → Type 0
IsCause StoreFault before after served = Rose before after
IsCause (StoreShort to) before after served = OfReads served (IsCut to)
IsCause (BadFragment index want made) before after served =
    OfReads served (IsFetchCause index (BadFragment index want made))
IsCause BadHeader before after served = ⊥
IsCause (WrongRoot want made) before after served = ⊥
IsCause (WrongKey want made) before after served = ⊥
IsCause BadIndex before after served = Unit {0}

-- A refusal that came between two moments has its cause.
abbrev pub HasCause : StoreMoment → StoreMoment → Type 0
HasCause w v =
    w.fault ≡ None → IfSome v.fault (λ fault. IsCause fault w.faults v.faults v.served)

-- The reader went from one moment to another.
pub record StoreWent (w v : StoreMoment) : Type 0 where
  -- What the store tells that it holds is the same.
  pub held_is : v.held ≡ w.held
  -- The reads begin with the earlier ones, and none of the new ones is a start.
  pub grows : Told w.served v.served (λ more. list_any is_start more ≡ false)
  -- A refusal stays, and nothing is read after it.
  pub stays : (fault : ReadFault) → w.fault ≡ Some fault → v.fault ≡ Some fault
  pub silent : (fault : ReadFault) → w.fault ≡ Some fault → v.served ≡ w.served
  pub silent_faults : (fault : ReadFault) → w.fault ≡ Some fault → v.faults ≡ w.faults
  -- The store's count of faults has not fallen, and is as it was unless the store failed.
  pub never_falls : NotFallen w.faults v.faults
  pub quiet : IsQuietUnlessFailed v.fault w.faults v.faults
  -- What was true of the reads is true of them still.
  pub regular : AreRegular w → AreRegular v
  pub whole : AreWhole w → AreWhole v
  pub folds : AllFold w → AllFold v
  -- A refusal that came has its cause.
  pub cause : HasCause w v
