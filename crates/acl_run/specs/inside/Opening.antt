-- How the file in a store is read in a run. Defined by this project.
use Rattle.std.specs.Prelude.{◌≡◌, ℕ, Bool, false, Result, Ok, Err, List, [], ◌∷◌}
use Rattle.acl_model.specs.declared.document.Doc.{Doc}
use Rattle.acl_outside.specs.Outside.{StoreRead}
use Rattle.acl_outcome.specs.declared.outcome.Outcome.{Outcome}
use Rattle.acl_outcome.specs.Ends.{Object, store, End, done, no_memory, usage, fault, stopped, refused}
use Rattle.file_reading.specs.declared.fault.FileFault.{FileFault}
use Rattle.acl_outside.specs.declared.read_fault.ReadFault.{ReadFault}
use Rattle.file_reading.specs.FileEnds.{FileEnds, IsShown}
use Rattle.file_reading.specs.WholeFile.{ShowsNoDocument}
use Rattle.acl_run.specs.Outcomes.{IsOfNoDocument, is_bad_fragment_outcome, outcome_of_file_fault, outcome_of_read_fault}
use Rattle.acl_run.specs.Steps.{opens, may_end_in}

-- whether a run may end so at the opening of the store
abbrev pub ends_opening : End → Bool
ends_opening e = may_end_in (opens ∷ []) e

-- The reads of a store end as those of a whole file do: in this document, or in a fault whose outcome this is
-- (`FileEnds`).
abbrev pub StoreEnds : Result Doc Outcome → List ℕ → List ℕ → List StoreRead → Type 0
StoreEnds (Ok doc) root key reads = FileEnds (Ok doc) root key reads
StoreEnds (Err outcome) root key reads = (fault : FileFault) × (outcome ≡ outcome_of_file_fault fault) × FileEnds (Err fault) root key reads

-- If the reads of a store show a read fault under this root and this key (`IsShown`), the result is the outcome of
-- this fault.
abbrev pub IsStoreRefused : Result Doc Outcome → List ℕ → List ℕ → List StoreRead → Type 0
IsStoreRefused result root key reads = (fault : ReadFault) → IsShown root key fault reads → result ≡ Err (outcome_of_read_fault fault)

-- the ends that the reading of a store may have which contains the file: a fault of the store, or out of memory
abbrev pub IsHonestEnd : End → Type 0
IsHonestEnd done = ⊥
IsHonestEnd no_memory = Unit {0}
IsHonestEnd usage = ⊥
IsHonestEnd (fault Object.keys) = ⊥
IsHonestEnd (fault Object.input) = ⊥
IsHonestEnd (fault Object.store) = Unit {0}
IsHonestEnd (fault Object.out) = ⊥
IsHonestEnd (fault Object.note) = ⊥
IsHonestEnd stopped = ⊥
IsHonestEnd (refused subject) = ⊥

-- whether the result is the outcome BadFragment
abbrev pub is_fragment_refused : Result Doc Outcome → Bool
is_fragment_refused (Ok doc) = false
is_fragment_refused (Err outcome) = is_bad_fragment_outcome outcome

-- If the reads of a store show, under this root and this key, a whole file of no document, the result is BadIndex or
-- NoMemory.
abbrev pub IsStoreWithoutDocument : Result Doc Outcome → List ℕ → List ℕ → List StoreRead → Type 0
IsStoreWithoutDocument (Ok doc) root key reads = ¬ ShowsNoDocument root key reads
IsStoreWithoutDocument (Err outcome) root key reads = ShowsNoDocument root key reads → IsOfNoDocument outcome
