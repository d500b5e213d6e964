-- What calls read of a store that tells what it served (whose good reads contracts can see), and how the calls ended.
-- Defined by this project.
use Rattle.std.specs.Prelude.{◌≡◌, ℕ, ◌+◌, ◌-◌, ◌<◌, ◌≤◌, Bool, true, nat_eq, Option, Some, None, Result, Ok, Err, List, [], ◌∷◌, ◌++◌, length, take, drop}
use Rattle.std.specs.List.{list_all}
use Rattle.acl_outside.specs.Outside.{StoreRead}
use Rattle.acl_outside.specs.declared.read_fault.ReadFault.{ReadFault}
use Rattle.acl_outside.specs.declared.read_fault.ReadFault.TheVariants.{BadFragment, BadHeader, BadIndex, StoreFault, StoreShort, WrongKey, WrongRoot}

-- Where the good reads are told, they grew by reads for which `holds` is true. Reads that were told stay told, and
-- reads that weren't stay untold.
abbrev pub Told : Option (List StoreRead) → Option (List StoreRead) → (List StoreRead → Type 0) → Type 0
Told None None holds = Unit {0}
Told None (Some after) holds = ⊥
Told (Some before) None holds = ⊥
Told (Some before) (Some after) holds = (grown : List StoreRead) × (after ≡ before ++ grown) × holds grown

-- whether a read is whole: it gave as many bytes as were asked for. A read that gave fewer is short.
abbrev pub is_whole : StoreRead → Bool
is_whole read = nat_eq (length read.bytes) read.asked

-- The last of the reads is short, and all reads before it are whole. `to` is the byte offset at which the bytes of the
-- last one ended.
pub record IsCut (to : ℕ) (reads : List StoreRead) : Type 0 where
  pub before : List StoreRead
  pub last : StoreRead
  pub all : reads ≡ before ++ (last ∷ [])
  pub whole : list_all is_whole before ≡ true
  pub short : length last.bytes < last.asked
  pub place : to ≡ last.at + length last.bytes

-- the reads of a call that reads bytes from an offset on: one whole read after Ok, one short read after `StoreShort`,
-- and none after `StoreFault`
abbrev pub ReadsWhole : {T : Type 0} → Result T ReadFault → ℕ → List ℕ → List StoreRead → Type 0
ReadsWhole (Ok done) at into reads = reads ≡ record { at = at; asked = length into; bytes = into } ∷ []
ReadsWhole (Err (StoreShort to)) at into reads =
    (to < at + length into) × (at ≤ to) × (reads ≡ record { at = at; asked = length into; bytes = take (to - at) into } ∷ [])
ReadsWhole (Err StoreFault) at into reads = reads ≡ []
ReadsWhole (Err BadHeader) at into reads = ⊥
ReadsWhole (Err (WrongRoot want made)) at into reads = ⊥
ReadsWhole (Err (WrongKey want made)) at into reads = ⊥
ReadsWhole (Err (BadFragment index want made)) at into reads = ⊥
ReadsWhole (Err BadIndex) at into reads = ⊥

-- what such a call gives where the store holds these bytes: after Ok those from the offset on; `StoreShort` comes only
-- where the bytes end before
abbrev pub GivesWhole : {T : Type 0} → Result T ReadFault → ℕ → List ℕ → List ℕ → Type 0
GivesWhole (Ok done) at into all = into ≡ take (length into) (drop at all)
GivesWhole (Err (StoreShort to)) at into all = length all < at + length into
GivesWhole (Err StoreFault) at into all = Unit {0}
GivesWhole (Err BadHeader) at into all = ⊥
GivesWhole (Err (WrongRoot want made)) at into all = ⊥
GivesWhole (Err (WrongKey want made)) at into all = ⊥
GivesWhole (Err (BadFragment index want made)) at into all = ⊥
GivesWhole (Err BadIndex) at into all = ⊥

-- ---- which faults there are

-- The fault is that of a read: the store failed, or its bytes ended too early.
abbrev pub IsReadFault : ReadFault → Type 0
IsReadFault StoreFault = Unit {0}
IsReadFault (StoreShort at) = Unit {0}
IsReadFault BadHeader = ⊥
IsReadFault (WrongRoot want made) = ⊥
IsReadFault (WrongKey want made) = ⊥
IsReadFault (BadFragment index want made) = ⊥
IsReadFault BadIndex = ⊥

-- The fault is that of a fetch: one of a read, or the refusal of a fragment by its digest.
abbrev pub IsFetchFault : ReadFault → Type 0
IsFetchFault StoreFault = Unit {0}
IsFetchFault (StoreShort at) = Unit {0}
IsFetchFault (BadFragment index want made) = Unit {0}
IsFetchFault BadHeader = ⊥
IsFetchFault (WrongRoot want made) = ⊥
IsFetchFault (WrongKey want made) = ⊥
IsFetchFault BadIndex = ⊥

-- There is no fault, or it is that of a fetch.
abbrev pub IsOfFetch : Option ReadFault → Type 0
IsOfFetch None = Unit {0}
IsOfFetch (Some fault) = IsFetchFault fault
