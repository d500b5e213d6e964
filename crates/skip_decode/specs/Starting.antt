-- How the names of a file are read before a walk over it. Defined by this project.
use Rattle.std.specs.Prelude.{◌≡◌, ◌⊎◌, ℕ, zero, suc, ◌+◌, ◌/◌, ◌≤◌, true, false, Option, Some, Result, Ok, Err, List, [], ◌∷◌, ◌++◌}
use Rattle.std.specs.Option.{option_map}
use Rattle.acl_model.specs.Dictionary.{dictionary}
use Rattle.acl_model.specs.declared.document.Doc.{Doc}
use Rattle.acl_outside.specs.Outside.{StoreRead}
use Rattle.acl_outside.specs.declared.read_fault.ReadFault.{ReadFault}
use Rattle.acl_outside.specs.declared.read_fault.ReadFault.TheVariants.{BadFragment, BadHeader, BadIndex, StoreFault, StoreShort, WrongKey, WrongRoot}
use Rattle.fragment_open.specs.Held.{IsStoreFault}
use Rattle.fragment_open.specs.Sound.{IsOrigin, sound_for}
use Rattle.fragment_open.specs.declared.head.Head.{Head}
use Rattle.skip_decode.specs.declared.start_fault.StartFault.{StartFault}
use Rattle.skip_decode.specs.declared.start_fault.StartFault.TheVariants.{NoMemory, Read}

-- After a refusal it is this one that is repeated. After Ok and without memory the refusal that is repeated, if there
-- is one, is as it was.
abbrev pub RefusesFront : {T : Type 0} → Result T StartFault → Option ReadFault → Option ReadFault → Type 0
RefusesFront (Ok done) before after = after ≡ before
RefusesFront (Err NoMemory) before after = after ≡ before
RefusesFront (Err (Read fault)) before after = after ≡ Some fault

-- The same, but a refusal may also be `BadIndex` where nothing is repeated that wasn't before.
abbrev pub RefusesStart : {T : Type 0} → Result T StartFault → Option ReadFault → Option ReadFault → Type 0
RefusesStart (Ok done) before after = after ≡ before
RefusesStart (Err NoMemory) before after = after ≡ before
RefusesStart (Err (Read fault)) before after =
    (after ≡ Some fault) ⊎ ((fault ≡ BadIndex) × (after ≡ before))

-- There was no memory, or the refusal is one of a fetch or of the dictionary's bytes. It is never that of a header, a
-- root or a key.
abbrev pub IsStartFault : StartFault → Type 0
IsStartFault NoMemory = Unit {0}
IsStartFault (Read StoreFault) = Unit {0}
IsStartFault (Read (StoreShort at)) = Unit {0}
IsStartFault (Read (BadFragment index want made)) = Unit {0}
IsStartFault (Read BadIndex) = Unit {0}
IsStartFault (Read BadHeader) = ⊥
IsStartFault (Read (WrongRoot want made)) = ⊥
IsStartFault (Read (WrongKey want made)) = ⊥

-- There was no memory, or the store failed. The bytes that it gave were not refused.
abbrev pub IsStartFailure : StartFault → Type 0
IsStartFailure NoMemory = Unit {0}
IsStartFailure (Read fault) = IsStoreFault fault

-- ---- the fragments of the section

-- the numbers below a number, the highest first
abbrev pub indexes_below : ℕ → List ℕ
indexes_below zero = []
indexes_below (suc n) = n ∷ indexes_below n

-- The first n fragments were opened in ascending order, each once, and no other. Of those that were opened the newest
-- is first in the list. They are told after exactly where they were told before.
abbrev pub OpenedFirst : ℕ → Option (List ℕ) → Option (List ℕ) → Type 0
OpenedFirst n before after = after ≡ option_map (λ opened. indexes_below n ++ opened) before

-- how many fragments have one of the first bytes of a stream
abbrev pub fragments_of : ℕ → ℕ
fragments_of count = (count + 255) / 256

-- The first n fragments were opened so, or after an error at most these.
abbrev pub OpensSection : {T : Type 0} → Result T StartFault → ℕ → Option (List ℕ) → Option (List ℕ) → Type 0
OpensSection (Ok done) n before after = OpenedFirst n before after
OpensSection (Err fault) n before after = (m : ℕ) × (m ≤ n) × OpenedFirst m before after

-- The fragment at an index was opened, or after an error none was.
abbrev pub OpensNext : {T : Type 0} → Result T StartFault → ℕ → Option (List ℕ) → Option (List ℕ) → Type 0
OpensNext (Ok done) index before after = after ≡ option_map (λ opened. index ∷ opened) before
OpensNext (Err fault) index before after =
    (after ≡ option_map (λ opened. index ∷ opened) before) ⊎ (after ≡ before)

-- ---- the names

-- The names are those of the dictionary of each origin for which an opener with this head is sound, given what its
-- store tells of its good reads and of the bytes that it holds.
abbrev pub AreNamesOfOrigins : Head → Option (List StoreRead) → Option (List ℕ) → List (List ℕ) → Type 0
AreNamesOfOrigins head served held names =
    (d : Doc) → IsOrigin head.header head.top head.key d → sound_for served held d head.key ≡ true
    → dictionary d ≡ names

-- The opener is sound for no origin.
abbrev pub IsOfNoOrigin : Head → Option (List StoreRead) → Option (List ℕ) → Type 0
IsOfNoOrigin head served held =
    (d : Doc) → IsOrigin head.header head.top head.key d → sound_for served held d head.key ≡ false
