-- What the reads of a store show about the end of a run, without its root and key.
use Rattle.std.proofs.Common.{◌≡◌, ℕ, Bool, true, false, Option, Result, Ok, Err, List, [], ◌∷◌, IsTrue, refl, sym}
use Rattle.std.proofs.Common.{subst, true≢false}
use Rattle.std.specs.Bool.{OnTrue}
use Rattle.acl_model.specs.declared.document.Doc.{Doc}
use Rattle.acl_outside.specs.Outside.{StoreRead}
use Rattle.acl_outside.specs.declared.read_fault.ReadFault.{ReadFault}
use Rattle.acl_outside.specs.declared.read_fault.ReadFault.TheVariants.{BadFragment, BadHeader, BadIndex, StoreFault}
use Rattle.acl_outside.specs.declared.read_fault.ReadFault.TheVariants.{StoreShort, WrongKey, WrongRoot}
use Rattle.acl_outcome.specs.declared.outcome.Outcome.{Outcome}
use Rattle.acl_outcome.specs.Ends.{keys, input, store, out, note, a_length, a_document, a_seal, a_licence}
use Rattle.acl_outcome.specs.Ends.{some_states, a_query, some_keys, a_size}
use Rattle.acl_outcome.specs.Ends.{End, done, no_memory, usage, fault, stopped, refused, end_of}
use Rattle.fragment_open.specs.Checked.{AllFoldUnlessRefused}
use Rattle.fragment_open.specs.Openings.{openings}
use Rattle.fragment_open.specs.CallReads.{Told}
use Rattle.fragment_open.proofs.CheckedLemmas.{unopened-checked, unrefused-checked}
use Rattle.fragment_open.proofs.ClimbLemmas.{Told-none, Told-weaker}
use Rattle.file_reading.specs.FileEnds.{IsFileCause, IsShown}
use Rattle.acl_words.specs.Command.{Shown, preview, encode, seal, sample}
use Rattle.acl_run.specs.Headline.{HasServedCause, HasStoreCause, IsRefusedAsServed, IsRefusedAsShown, IsServedCause}
use Rattle.acl_run.specs.Headline.{IsServedFault, is_store_end}
use Rattle.acl_run.specs.inside.Opening.{IsStoreRefused, StoreEnds}
use Rattle.acl_run.specs.Outcomes.{outcome_of_read_fault}
use Rattle.acl_run.specs.Steps.{may_end_from}
use Rattle.acl_run.specs.Work.{may_end, untold_steps}
use Rattle.acl_run.proofs.HeadlineLemmas.{nothing_shown, store_cause_of_none}
use Rattle.acl_run.proofs.StoreEnds.{refusal_cause, refused_so, unrefused_so}

-- ---- the cause

served_cause : (f : ReadFault) (root key : List ℕ) (reads : List StoreRead) → IsFileCause root key f reads
    → IsServedCause f reads
served_cause BadHeader root key reads why = why
served_cause (WrongRoot want made) root key reads why = (why.0, why.2, why.3, why.4)
served_cause (WrongKey want made) root key reads why = (why.1, why.3, why.4, why.5)
served_cause (StoreShort to) root key reads why = why
served_cause StoreFault root key reads why = why
served_cause (BadFragment index want made) root key reads why = (why.1, why.2, why.3, why.4, why.5)
served_cause BadIndex root key reads why = (why.0, (root, key, why.2))

-- a fact under a test may be replaced by one that it implies
under : (b : Bool) (P Q : Type 0) → (P → Q) → OnTrue b P → OnTrue b Q
under true P Q f p = f p
under false P Q f p = tt

-- a cause under a root and a key has a part that the reads show without them
cause_served : (o : Outcome) (root key : List ℕ) (reads : List StoreRead) → HasStoreCause o root key reads
    → HasServedCause o reads
cause_served o root key reads =
    under (is_store_end (end_of o)) _ _ (λ cause. (cause.0, cause.1, served_cause cause.0 root key reads cause.2))

-- the store was refused
pub refusal_served : (o : Outcome) (root key : List ℕ) (reads : List StoreRead) → StoreEnds (Err o) root key reads
    → HasServedCause o reads
refusal_served o root key reads ends = cause_served o root key reads (refusal_cause o root key reads ends)

-- the outcome is neither a fault of the store nor a refusal of its bytes
pub served_anyway : (o : Outcome) (a b : Option (List StoreRead)) (Q : List StoreRead → Type 0)
    → is_store_end (end_of o) ≡ false → Told a b Q → Told a b (HasServedCause o)
served_anyway o a b Q other told =
    Told-weaker a b Q (HasServedCause o) told (λ reads q. store_cause_of_none (is_store_end (end_of o)) _ other)

-- the store was not read
pub served_unasked : (o : Outcome) (a : Option (List StoreRead)) → is_store_end (end_of o) ≡ false
    → Told a a (HasServedCause o)
served_unasked o a other = Told-none a (HasServedCause o) (store_cause_of_none (is_store_end (end_of o)) _ other)

-- ---- what is shown

-- what the reads show without root and key, they show under each root and key
shown_by : (f : ReadFault) (root key : List ℕ) (reads : List StoreRead) → IsServedFault f reads
    → IsShown root key f reads
shown_by BadHeader root key reads shown = shown
shown_by (WrongRoot want made) root key reads shown = absurd shown
shown_by (WrongKey want made) root key reads shown = absurd shown
shown_by (StoreShort to) root key reads shown = shown
shown_by StoreFault root key reads shown = absurd shown
shown_by (BadFragment index want made) root key reads shown = shown
shown_by BadIndex root key reads shown = absurd shown

alone : (o : Outcome) (root key : List ℕ) (reads : List StoreRead) → IsRefusedAsShown o root key reads
    → IsRefusedAsServed o reads
alone o root key reads exact f shown = exact f (shown_by f root key reads shown)

-- the store was refused
pub refused_alone : (o : Outcome) (root key : List ℕ) (reads : List StoreRead)
    → IsStoreRefused (Err o) root key reads → IsRefusedAsServed o reads
refused_alone o root key reads exact = alone o root key reads (refused_so o root key reads exact)

-- the store was not refused
pub unrefused_alone : (d : Doc) (o : Outcome) (root key : List ℕ) (reads : List StoreRead)
    → IsStoreRefused (Ok d) root key reads → IsRefusedAsServed o reads
unrefused_alone d o root key reads exact = alone o root key reads (unrefused_so d o root key reads exact)

-- an empty list of reads shows nothing
pub unrefused_unasked : (o : Outcome) (a : Option (List StoreRead)) → Told a a (IsRefusedAsServed o)
unrefused_unasked o a =
    Told-none a (IsRefusedAsServed o) (λ f shown. absurd (nothing_shown [] [] f (shown_by f [] [] [] shown)))

-- ---- each opening was checked

none_opened : openings [] ≡ []
unfolding openings
none_opened = refl

-- no fragment of a store that was not read was opened
pub unasked_checked : (bad : Bool) (a : Option (List StoreRead)) → Told a a (AllFoldUnlessRefused bad)
unasked_checked bad a = Told-none a (AllFoldUnlessRefused bad) (unopened-checked [] bad none_opened)

-- no fragment was refused
pub checked_anyway : (bad : Bool) (a b : Option (List StoreRead)) → Told a b (AllFoldUnlessRefused false) → Told a b (AllFoldUnlessRefused bad)
checked_anyway bad a b told =
    Told-weaker a b (AllFoldUnlessRefused false) (AllFoldUnlessRefused bad) told (λ reads checked. unrefused-checked reads bad checked)

-- ---- commands that open no store

preview-not_of_store_so : (what : Shown) (e : End) → IsTrue (may_end_from (untold_steps (preview what)) e)
    → is_store_end e ≡ false
preview-not_of_store_so what done h = refl
preview-not_of_store_so what no_memory h = refl
preview-not_of_store_so what (fault keys) h = refl
preview-not_of_store_so what (fault input) h = refl
preview-not_of_store_so what (fault out) h = refl
preview-not_of_store_so what (refused a_length) h = refl
preview-not_of_store_so what (refused a_document) h = refl
preview-not_of_store_so what (refused a_seal) h = refl
preview-not_of_store_so what (refused a_licence) h = refl
preview-not_of_store_so what (refused some_states) h = refl
preview-not_of_store_so what (refused a_query) h = refl
preview-not_of_store_so what (refused some_keys) h = refl
preview-not_of_store_so what (refused a_size) h = refl
preview-not_of_store_so what e h = absurd (true≢false (sym h))

pub preview-not_of_store : (what : Shown) (o : Outcome) → IsTrue (may_end (preview what) o)
    → is_store_end (end_of o) ≡ false
unfolding may_end
preview-not_of_store what o h = preview-not_of_store_so what (end_of o) h

encode-not_of_store_so : (e : End) → IsTrue (may_end_from (untold_steps encode) e) → is_store_end e ≡ false
encode-not_of_store_so done h = refl
encode-not_of_store_so no_memory h = refl
encode-not_of_store_so (fault keys) h = refl
encode-not_of_store_so (fault input) h = refl
encode-not_of_store_so (fault out) h = refl
encode-not_of_store_so (fault note) h = refl
encode-not_of_store_so (refused a_length) h = refl
encode-not_of_store_so (refused a_document) h = refl
encode-not_of_store_so (refused a_seal) h = refl
encode-not_of_store_so (refused a_licence) h = refl
encode-not_of_store_so (refused some_states) h = refl
encode-not_of_store_so (refused a_query) h = refl
encode-not_of_store_so (refused some_keys) h = refl
encode-not_of_store_so (refused a_size) h = refl
encode-not_of_store_so e h = absurd (true≢false (sym h))

pub encode-not_of_store : (o : Outcome) → IsTrue (may_end encode o) → is_store_end (end_of o) ≡ false
unfolding may_end
encode-not_of_store o h = encode-not_of_store_so (end_of o) h

seal-not_of_store_so : (e : End) → IsTrue (may_end_from (untold_steps seal) e) → is_store_end e ≡ false
seal-not_of_store_so done h = refl
seal-not_of_store_so no_memory h = refl
seal-not_of_store_so (fault keys) h = refl
seal-not_of_store_so (fault input) h = refl
seal-not_of_store_so (fault out) h = refl
seal-not_of_store_so (refused a_length) h = refl
seal-not_of_store_so (refused a_document) h = refl
seal-not_of_store_so (refused a_seal) h = refl
seal-not_of_store_so (refused a_licence) h = refl
seal-not_of_store_so (refused some_states) h = refl
seal-not_of_store_so (refused a_query) h = refl
seal-not_of_store_so (refused some_keys) h = refl
seal-not_of_store_so (refused a_size) h = refl
seal-not_of_store_so e h = absurd (true≢false (sym h))

pub seal-not_of_store : (o : Outcome) → IsTrue (may_end seal o) → is_store_end (end_of o) ≡ false
unfolding may_end
seal-not_of_store o h = seal-not_of_store_so (end_of o) h

sample-not_of_store_so : (n : ℕ) (e : End) → IsTrue (may_end_from (untold_steps (sample n)) e)
    → is_store_end e ≡ false
sample-not_of_store_so n done h = refl
sample-not_of_store_so n no_memory h = refl
sample-not_of_store_so n (fault out) h = refl
sample-not_of_store_so n (fault note) h = refl
sample-not_of_store_so n e h = absurd (true≢false (sym h))

pub sample-not_of_store : (n : ℕ) (o : Outcome) → IsTrue (may_end (sample n) o) → is_store_end (end_of o) ≡ false
unfolding may_end
sample-not_of_store n o h = sample-not_of_store_so n (end_of o) h
