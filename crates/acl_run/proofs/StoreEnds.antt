-- How the reading of the file in a store ends a run.
use Rattle.std.proofs.Common.{◌≡◌, ℕ, Ok, Err, IsTrue, refl, sym, ap, ◌∙◌, subst}
use Rattle.std.specs.Prelude.{Bool, Option, Some, None, Result, List, is_some}
use Rattle.acl_outside.specs.Outside.{CountsWhere, Rose, StoreRead}
use Rattle.fragment_open.specs.Checked.{AllFoldUnlessRefused}
use Rattle.fragment_open.specs.Served.{IsRegular}
use Rattle.fragment_open.specs.CallReads.{Told}
use Rattle.acl_outcome.specs.declared.outcome.Outcome.{Outcome}
use Rattle.acl_outcome.specs.Ends.{Object, store, End, fault, end_of, is_fault_of}
use Rattle.acl_model.specs.declared.document.Doc.{Doc}
use Rattle.acl_outside.specs.declared.read_fault.ReadFault.{ReadFault}
use Rattle.acl_outside.specs.declared.read_fault.ReadFault.TheVariants.{BadFragment, BadHeader, BadIndex, StoreFault, StoreShort, WrongKey, WrongRoot}
use Rattle.file_reading.specs.declared.fault.FileFault.{FileFault}
use Rattle.file_reading.specs.declared.fault.FileFault.TheVariants.{NoMemory, Refused}
use Rattle.file_reading.specs.FileEnds.{FileEnds, IsBadIndexOrNoMemory, IsHonestFault, IsQuietFault, IsRefusedWhereShown, IsStoreFailure, is_bad_fragment}
use Rattle.acl_run.specs.Headline.{HasStoreCause, IsRefusedAsShown, is_store_end}
use Rattle.acl_run.specs.inside.Opening.{IsHonestEnd, IsStoreRefused, StoreEnds, ends_opening}
use Rattle.acl_run.specs.Outcomes.{IsOfNoDocument, is_bad_fragment_outcome, outcome_of_file_fault, outcome_of_read_fault}
use Rattle.acl_run.proofs.Facts.{on_true}

-- each fault ends a run where the store is opened
pub opening_ends : (f : FileFault) → IsTrue (ends_opening (end_of (outcome_of_file_fault f)))
opening_ends NoMemory = refl
opening_ends (Refused BadHeader) = refl
opening_ends (Refused (WrongRoot want made)) = refl
opening_ends (Refused (WrongKey want made)) = refl
opening_ends (Refused (StoreShort at)) = refl
opening_ends (Refused StoreFault) = refl
opening_ends (Refused (BadFragment index want made)) = refl
opening_ends (Refused BadIndex) = refl

-- a fault that is possible over a store with the right file ends the run as such a fault
pub honest_ends : (f : FileFault) → IsHonestFault f → IsHonestEnd (end_of (outcome_of_file_fault f))
honest_ends NoMemory h = tt
honest_ends (Refused StoreFault) h = tt
honest_ends (Refused BadHeader) h = absurd h
honest_ends (Refused (WrongRoot want made)) h = absurd h
honest_ends (Refused (WrongKey want made)) h = absurd h
honest_ends (Refused (StoreShort at)) h = absurd h
honest_ends (Refused (BadFragment index want made)) h = absurd h
honest_ends (Refused BadIndex) h = absurd h

-- a store tells what it served if and only if it did before
pub still_told : (a b : Option (List StoreRead)) (P : List StoreRead → Type 0) → Told a b P → is_some b ≡ is_some a
still_told None None P t = refl
still_told None (Some b) P t = absurd t
still_told (Some a) None P t = absurd t
still_told (Some a) (Some b) P t = refl

-- the store's count of faults rose where the outcome is StoreFault, and else is as it was
pub fault_counts : (T : Type 0) (f : FileFault) (before after : ℕ) → (IsStoreFailure {T = T} (Err f) → Rose before after) → IsQuietFault f before after
    → CountsWhere (is_fault_of store (end_of (outcome_of_file_fault f))) before after
fault_counts T NoMemory before after rose quiet = quiet
fault_counts T (Refused BadHeader) before after rose quiet = quiet
fault_counts T (Refused (WrongRoot want made)) before after rose quiet = quiet
fault_counts T (Refused (WrongKey want made)) before after rose quiet = quiet
fault_counts T (Refused (StoreShort at)) before after rose quiet = quiet
fault_counts T (Refused StoreFault) before after rose quiet = rose tt
fault_counts T (Refused (BadFragment index want made)) before after rose quiet = quiet
fault_counts T (Refused BadIndex) before after rose quiet = quiet

-- a refusal of the store has its cause in the reads
fault_cause : (f : FileFault) (o : Outcome) (root key : List ℕ) (reads : List StoreRead) → o ≡ outcome_of_file_fault f → FileEnds (Err f) root key reads → HasStoreCause o root key reads
fault_cause NoMemory o root key reads is read = subst (λ (o : Outcome). HasStoreCause o root key reads) (sym is) tt
fault_cause (Refused why) o root key reads is read = on_true (is_store_end (end_of o)) (why, is, read.1)

pub refusal_cause : (o : Outcome) (root key : List ℕ) (reads : List StoreRead) → StoreEnds (Err o) root key reads → HasStoreCause o root key reads
refusal_cause o root key reads ends = fault_cause ends.0 o root key reads ends.1 ends.2

-- whatever the fault, the reads are those that an opener makes
fault_regular : (f : FileFault) (root key : List ℕ) (reads : List StoreRead) → FileEnds (Err f) root key reads → IsRegular reads
fault_regular NoMemory root key reads read = read
fault_regular (Refused why) root key reads read = read.0

pub refusal_regular : (o : Outcome) (root key : List ℕ) (reads : List StoreRead) → StoreEnds (Err o) root key reads → IsRegular reads
refusal_regular o root key reads ends = fault_regular ends.0 root key reads ends.2

-- ---- what the reads show

same_fault : (a b : Result Doc FileFault) (f g : FileFault) → a ≡ Err f → b ≡ Err g → a ≡ b → f ≡ g
same_fault a b f g a_is b_is same = cc

-- the outcome is that of the read fault which the reads show
pub fault_refused : (f : FileFault) (outcome : Outcome) (root key : List ℕ) (reads : List StoreRead) → outcome ≡ outcome_of_file_fault f
    → IsRefusedWhereShown {T = Doc} (Err f) root key reads → IsStoreRefused (Err outcome) root key reads
fault_refused f outcome root key reads is exact told shown =
    ap Err (is ∙ ap outcome_of_file_fault (same_fault (Err f) (Err (Refused told)) f (Refused told) refl refl (exact told shown)))

-- a result is not both a document and a fault
no_fault : (a b : Result Doc FileFault) (d : Doc) (f : FileFault) → a ≡ Ok d → b ≡ Err f → a ≡ b → ⊥
no_fault a b d f a_is b_is same = cc

pub document_refused : (d : Doc) (root key : List ℕ) (reads : List StoreRead) → IsRefusedWhereShown (Ok d) root key reads → IsStoreRefused (Ok d) root key reads
document_refused d root key reads exact told shown = absurd (no_fault (Ok d) (Err (Refused told)) d (Refused told) refl refl (exact told shown))

same_outcome : (a b : Result Doc Outcome) (o p : Outcome) → a ≡ Err o → b ≡ Err p → a ≡ b → o ≡ p
same_outcome a b o p a_is b_is same = cc

-- a run over a refused store ends by that refusal
pub refused_so : (outcome : Outcome) (root key : List ℕ) (reads : List StoreRead) → IsStoreRefused (Err outcome) root key reads → IsRefusedAsShown outcome root key reads
refused_so outcome root key reads exact told shown =
    same_outcome (Err outcome) (Err (outcome_of_read_fault told)) outcome (outcome_of_read_fault told) refl refl (exact told shown)

no_outcome : (a b : Result Doc Outcome) (d : Doc) (o : Outcome) → a ≡ Ok d → b ≡ Err o → a ≡ b → ⊥
no_outcome a b d o a_is b_is same = cc

-- nothing is shown where the document was read
pub unrefused_so : (d : Doc) (outcome : Outcome) (root key : List ℕ) (reads : List StoreRead) → IsStoreRefused (Ok d) root key reads → IsRefusedAsShown outcome root key reads
unrefused_so d outcome root key reads exact told shown =
    absurd (no_outcome (Ok d) (Err (outcome_of_read_fault told)) d (outcome_of_read_fault told) refl refl (exact told shown))

-- ---- each opening was checked

same_refusal : (f : FileFault) → is_bad_fragment {T = Doc} (Err f) ≡ is_bad_fragment_outcome (outcome_of_file_fault f)
same_refusal NoMemory = refl
same_refusal (Refused BadHeader) = refl
same_refusal (Refused (WrongRoot want made)) = refl
same_refusal (Refused (WrongKey want made)) = refl
same_refusal (Refused (StoreShort at)) = refl
same_refusal (Refused StoreFault) = refl
same_refusal (Refused (BadFragment index want made)) = refl
same_refusal (Refused BadIndex) = refl

-- the outcome is BadFragment where the fault is BadFragment
pub fault_checked : (f : FileFault) (o : Outcome) (reads : List StoreRead) → o ≡ outcome_of_file_fault f
    → AllFoldUnlessRefused (is_bad_fragment {T = Doc} (Err f)) reads → AllFoldUnlessRefused (is_bad_fragment_outcome o) reads
fault_checked f o reads is checked =
    subst (λ (refused : Bool). AllFoldUnlessRefused refused reads) (same_refusal f ∙ ap is_bad_fragment_outcome (sym is)) checked

-- ---- a file of no document

without_document : (f : FileFault) → IsBadIndexOrNoMemory {T = Doc} (Err f) → IsOfNoDocument (outcome_of_file_fault f)
without_document NoMemory h = tt
without_document (Refused BadHeader) h = absurd h
without_document (Refused (WrongRoot want made)) h = absurd h
without_document (Refused (WrongKey want made)) h = absurd h
without_document (Refused (StoreShort at)) h = absurd h
without_document (Refused StoreFault) h = absurd h
without_document (Refused (BadFragment index want made)) h = absurd h
without_document (Refused BadIndex) h = tt

-- the refusal of a file of no document ends the run
pub fault_without : (f : FileFault) (o : Outcome) → o ≡ outcome_of_file_fault f → IsBadIndexOrNoMemory {T = Doc} (Err f) → IsOfNoDocument o
fault_without f o is h = subst IsOfNoDocument (sym is) (without_document f h)
