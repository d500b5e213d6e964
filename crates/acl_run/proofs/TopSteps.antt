-- The top call keeps its contract, since each command keeps its own.
use Rattle.std.proofs.Common.{◌≡◌, ℕ, ◌↔◌, false, Option, Some, None, List, [], IsTrue, IfSome, refl, sym, subst, ◌∙◌, true≢false}
use Rattle.std.specs.Bool.{OnTrue}
use Rattle.acl_outcome.specs.declared.outcome.Outcome.{Outcome}
use Rattle.acl_outcome.specs.Ends.{keys, input, store, out, note}
use Rattle.acl_outcome.specs.Ends.{End, done, no_memory, usage, fault, stopped, refused, is_fault_of, end_of}
use Rattle.acl_outcome.specs.declared.outcome.Outcome.TheVariants.{Usage}
use Rattle.acl_words.specs.Command.{Command, Shown, preview, encode, seal, view, sample}
use Rattle.acl_run.specs.Steps.{may_end_from}
use Rattle.acl_run.specs.WrittenTexts.{WritesNote}
use Rattle.acl_outside.specs.Outside.{StoreRead}
use Rattle.fragment_open.specs.CallReads.{Told}
use Rattle.fragment_open.proofs.ClimbLemmas.{Told-none}
use Rattle.std.proofs.KnownBytes.{Appends-nil}
use Rattle.acl_run.specs.Work.{untold_steps, may_end, is_after_keys, is_after_input}
use Rattle.acl_run.proofs.Facts.{on_true, whatever_told}
use Rattle.acl_run.proofs.HeadlineLemmas.{part_of_none, unasked}
use Rattle.acl_run.proofs.Served.{served_unasked, unasked_checked, unrefused_unasked}
use Rattle.acl_run.proofs.Objects.{source-same, source-unused, sink-same, sink-no_fault, store-same, store-no_fault}

-- ---- arguments and commands

-- no command ends by Usage
taken : (c : Command) (o : Outcome) → IsTrue (may_end c o) → o ≡ Usage → ⊥
unfolding may_end
taken (preview what) o h is = true≢false (sym (subst (λ p. IsTrue (may_end (preview what) p)) is h))
taken encode o h is = true≢false (sym (subst (λ p. IsTrue (may_end encode p)) is h))
taken seal o h is = true≢false (sym (subst (λ p. IsTrue (may_end seal p)) is h))
taken (view what) o h is = true≢false (sym (subst (λ p. IsTrue (may_end (view what) p)) is h))
taken (sample n) o h is = true≢false (sym (subst (λ p. IsTrue (may_end (sample n) p)) is h))

-- the outcome is Usage exactly where the arguments are no command line
pub usage_of_taken : (c : Command) (o : Outcome) (w : Option Command) → IsTrue (may_end c o) → Some c ≡ w → (o ≡ Usage) ↔ (w ≡ None)
usage_of_taken c o w h is = (λ p. absurd (taken c o h p), λ n. absurd (let e : Some c ≡ None = is ∙ n in cc))

-- a fact about each command line is one about this command
pub where_taken : (c : Command) (w : Option Command) (P : Command → Type 0) → Some c ≡ w → P c → IfSome w P
where_taken c w P is p = subst (λ w. IfSome w P) is p

-- ---- what is not used

-- no run of the command ends by a fault of this object
preview-no_fault_store_so : (what : Shown) (e : End) → IsTrue (may_end_from (untold_steps (preview what)) e) → is_fault_of store e ≡ false
preview-no_fault_store_so what done h = refl
preview-no_fault_store_so what no_memory h = refl
preview-no_fault_store_so what (fault keys) h = refl
preview-no_fault_store_so what (fault input) h = refl
preview-no_fault_store_so what (fault out) h = refl
preview-no_fault_store_so what (refused subject) h = refl
preview-no_fault_store_so what e h = absurd (true≢false (sym h))

pub preview-no_fault_store : (what : Shown) (o : Outcome) → IsTrue (may_end (preview what) o) → is_fault_of store (end_of o) ≡ false
unfolding may_end
preview-no_fault_store what o h = preview-no_fault_store_so what (end_of o) h

-- no run of the command ends by a fault of this object
preview-no_fault_note_so : (what : Shown) (e : End) → IsTrue (may_end_from (untold_steps (preview what)) e) → is_fault_of note e ≡ false
preview-no_fault_note_so what done h = refl
preview-no_fault_note_so what no_memory h = refl
preview-no_fault_note_so what (fault keys) h = refl
preview-no_fault_note_so what (fault input) h = refl
preview-no_fault_note_so what (fault out) h = refl
preview-no_fault_note_so what (refused subject) h = refl
preview-no_fault_note_so what e h = absurd (true≢false (sym h))

pub preview-no_fault_note : (what : Shown) (o : Outcome) → IsTrue (may_end (preview what) o) → is_fault_of note (end_of o) ≡ false
unfolding may_end
preview-no_fault_note what o h = preview-no_fault_note_so what (end_of o) h

-- no run of the command ends by a fault of this object
encode-no_fault_store_so : (e : End) → IsTrue (may_end_from (untold_steps encode) e) → is_fault_of store e ≡ false
encode-no_fault_store_so done h = refl
encode-no_fault_store_so no_memory h = refl
encode-no_fault_store_so (fault keys) h = refl
encode-no_fault_store_so (fault input) h = refl
encode-no_fault_store_so (fault out) h = refl
encode-no_fault_store_so (fault note) h = refl
encode-no_fault_store_so (refused subject) h = refl
encode-no_fault_store_so e h = absurd (true≢false (sym h))

pub encode-no_fault_store : (o : Outcome) → IsTrue (may_end encode o) → is_fault_of store (end_of o) ≡ false
unfolding may_end
encode-no_fault_store o h = encode-no_fault_store_so (end_of o) h

-- no run of the command ends by a fault of this object
seal-no_fault_store_so : (e : End) → IsTrue (may_end_from (untold_steps seal) e) → is_fault_of store e ≡ false
seal-no_fault_store_so done h = refl
seal-no_fault_store_so no_memory h = refl
seal-no_fault_store_so (fault keys) h = refl
seal-no_fault_store_so (fault input) h = refl
seal-no_fault_store_so (fault out) h = refl
seal-no_fault_store_so (refused subject) h = refl
seal-no_fault_store_so e h = absurd (true≢false (sym h))

pub seal-no_fault_store : (o : Outcome) → IsTrue (may_end seal o) → is_fault_of store (end_of o) ≡ false
unfolding may_end
seal-no_fault_store o h = seal-no_fault_store_so (end_of o) h

-- no run of the command ends by a fault of this object
seal-no_fault_note_so : (e : End) → IsTrue (may_end_from (untold_steps seal) e) → is_fault_of note e ≡ false
seal-no_fault_note_so done h = refl
seal-no_fault_note_so no_memory h = refl
seal-no_fault_note_so (fault keys) h = refl
seal-no_fault_note_so (fault input) h = refl
seal-no_fault_note_so (fault out) h = refl
seal-no_fault_note_so (refused subject) h = refl
seal-no_fault_note_so e h = absurd (true≢false (sym h))

pub seal-no_fault_note : (o : Outcome) → IsTrue (may_end seal o) → is_fault_of note (end_of o) ≡ false
unfolding may_end
seal-no_fault_note o h = seal-no_fault_note_so (end_of o) h

-- no run of the command ends by a fault of this object
view-no_fault_note_so : (what : Shown) (e : End) → IsTrue (may_end_from (untold_steps (view what)) e) → is_fault_of note e ≡ false
view-no_fault_note_so what done h = refl
view-no_fault_note_so what no_memory h = refl
view-no_fault_note_so what (fault keys) h = refl
view-no_fault_note_so what (fault input) h = refl
view-no_fault_note_so what (fault store) h = refl
view-no_fault_note_so what (fault out) h = refl
view-no_fault_note_so what (refused subject) h = refl
view-no_fault_note_so what e h = absurd (true≢false (sym h))

pub view-no_fault_note : (what : Shown) (o : Outcome) → IsTrue (may_end (view what) o) → is_fault_of note (end_of o) ≡ false
unfolding may_end
view-no_fault_note what o h = view-no_fault_note_so what (end_of o) h

-- no run of the command ends by a fault of this object
sample-no_fault_keys_so : (n : ℕ) (e : End) → IsTrue (may_end_from (untold_steps (sample n)) e) → is_fault_of keys e ≡ false
sample-no_fault_keys_so n done h = refl
sample-no_fault_keys_so n no_memory h = refl
sample-no_fault_keys_so n (fault out) h = refl
sample-no_fault_keys_so n (fault note) h = refl
sample-no_fault_keys_so n (refused subject) h = refl
sample-no_fault_keys_so n e h = absurd (true≢false (sym h))

pub sample-no_fault_keys : (n : ℕ) (o : Outcome) → IsTrue (may_end (sample n) o) → is_fault_of keys (end_of o) ≡ false
unfolding may_end
sample-no_fault_keys n o h = sample-no_fault_keys_so n (end_of o) h

-- no run of the command ends by a fault of this object
sample-no_fault_input_so : (n : ℕ) (e : End) → IsTrue (may_end_from (untold_steps (sample n)) e) → is_fault_of input e ≡ false
sample-no_fault_input_so n done h = refl
sample-no_fault_input_so n no_memory h = refl
sample-no_fault_input_so n (fault out) h = refl
sample-no_fault_input_so n (fault note) h = refl
sample-no_fault_input_so n (refused subject) h = refl
sample-no_fault_input_so n e h = absurd (true≢false (sym h))

pub sample-no_fault_input : (n : ℕ) (o : Outcome) → IsTrue (may_end (sample n) o) → is_fault_of input (end_of o) ≡ false
unfolding may_end
sample-no_fault_input n o h = sample-no_fault_input_so n (end_of o) h

-- no run of the command ends by a fault of this object
sample-no_fault_store_so : (n : ℕ) (e : End) → IsTrue (may_end_from (untold_steps (sample n)) e) → is_fault_of store e ≡ false
sample-no_fault_store_so n done h = refl
sample-no_fault_store_so n no_memory h = refl
sample-no_fault_store_so n (fault out) h = refl
sample-no_fault_store_so n (fault note) h = refl
sample-no_fault_store_so n (refused subject) h = refl
sample-no_fault_store_so n e h = absurd (true≢false (sym h))

pub sample-no_fault_store : (n : ℕ) (o : Outcome) → IsTrue (may_end (sample n) o) → is_fault_of store (end_of o) ≡ false
unfolding may_end
sample-no_fault_store n o h = sample-no_fault_store_so n (end_of o) h

-- an end of a command that does not read an object is never after the reading of that object
pub sample-keys_unread : (n : ℕ) (e : End) (P : Type 0) → OnTrue (is_after_keys (sample n) e) P
unfolding is_after_keys
sample-keys_unread n done P = tt
sample-keys_unread n no_memory P = tt
sample-keys_unread n usage P = tt
sample-keys_unread n (fault keys) P = tt
sample-keys_unread n (fault input) P = tt
sample-keys_unread n (fault store) P = tt
sample-keys_unread n (fault out) P = tt
sample-keys_unread n (fault note) P = tt
sample-keys_unread n stopped P = tt
sample-keys_unread n (refused subject) P = tt

pub sample-input_unread : (n : ℕ) (e : End) (P : Type 0) → OnTrue (is_after_input (sample n) e) P
unfolding is_after_input
sample-input_unread n done P = tt
sample-input_unread n no_memory P = tt
sample-input_unread n usage P = tt
sample-input_unread n (fault keys) P = tt
sample-input_unread n (fault input) P = tt
sample-input_unread n (fault store) P = tt
sample-input_unread n (fault out) P = tt
sample-input_unread n (fault note) P = tt
sample-input_unread n stopped P = tt
sample-input_unread n (refused subject) P = tt

-- ---- the note

-- where no note is due, the sink of notes is unchanged
pub no_note : (e : End) (a : Option (List ℕ)) → WritesNote e a a []
no_note done a = Appends-nil a
no_note no_memory a = tt
no_note usage a = tt
no_note (fault keys) a = tt
no_note (fault input) a = tt
no_note (fault store) a = tt
no_note (fault out) a = tt
no_note (fault note) a = part_of_none a []
no_note stopped a = tt
no_note (refused subject) a = tt

-- ---- the store

-- a fact about the reads of a store that is not read is one about no reads
pub where_unread : (c : Command) (w : Option Command) (kl ql : Option (List ℕ)) (served : Option (List StoreRead)) (P : Command → List ℕ → List ℕ → List StoreRead → Type 0)
    → Some c ≡ w → ((a b : List ℕ) → P c a b []) → IfSome w (λ c. IfSome kl (λ a. IfSome ql (λ b. Told served served (λ reads. P c a b reads))))
where_unread c w kl ql served P is p =
    where_taken c w (λ c. IfSome kl (λ a. IfSome ql (λ b. Told served served (λ reads. P c a b reads)))) is
    (whatever_told kl ql (λ a b. Told served served (λ reads. P c a b reads)) (λ a b. Told-none served (λ reads. P c a b reads) (p a b)))

-- a fact about all bytes of the sources is one about those that they tell
pub where_any : (c : Command) (w : Option Command) (kl ql : Option (List ℕ)) (P : Command → List ℕ → List ℕ → Type 0)
    → Some c ≡ w → ((a b : List ℕ) → P c a b) → IfSome w (λ c. IfSome kl (λ a. IfSome ql (λ b. P c a b)))
where_any c w kl ql P is p = where_taken c w (λ c. IfSome kl (λ a. IfSome ql (λ b. P c a b))) is (whatever_told kl ql (P c) p)

-- nothing is claimed where the second source does not tell its bytes
pub where_untold : (kl : Option (List ℕ)) → IfSome kl (λ a. Unit {0})
where_untold None = tt
where_untold (Some a) = tt

-- for the top call
pub ruleset tops = (on_true, usage_of_taken, where_taken, preview-no_fault_store, preview-no_fault_note, encode-no_fault_store, seal-no_fault_store, seal-no_fault_note, view-no_fault_note, sample-no_fault_keys, sample-no_fault_input, sample-no_fault_store, sample-keys_unread, sample-input_unread, source-same, source-unused, sink-same, sink-no_fault, store-same, store-no_fault, unasked, served_unasked, unasked_checked, unrefused_unasked)
