-- How `seal` keeps its contract, for each way in which it ends.
use Rattle.std.proofs.Common.{◌≡◌, ℕ, Bool, true, false, Option, Some, None, Result, Ok, Err, List, ◌∷◌, IsTrue, IfSome, refl, sym, true≢false}
use Rattle.std.specs.Bool.{OnTrue}
use Rattle.acl_outcome.specs.declared.outcome.Outcome.{Outcome}
use Rattle.acl_outcome.specs.Ends.{keys, input, out, a_length, a_licence, some_states, some_keys}
use Rattle.acl_outcome.specs.Ends.{End, done, no_memory, fault, refused, is_fault_of, end_of}
use Rattle.acl_outcome.specs.declared.outcome.Outcome.TheVariants.{Done, SinkFault}
use Rattle.std.specs.Prelude.{nat_le, length, if◌then◌else◌}
use Rattle.std.specs.Result.{result_map_both}
use Rattle.licence.specs.Body.{read_body_of}
use Rattle.licence.specs.Forms.{◌>>=◌}
use Rattle.licence.specs.Sealed.{sealed_text_of}
use Rattle.licence.specs.declared.fault.LicenceFault.{LicenceFault}
use Rattle.licence.specs.declared.keys.Keys.{Keys}
use Rattle.licence.specs.declared.terms.Licence.{Licence}
use Rattle.acl_words.specs.Command.{seal}
use Rattle.acl_run.specs.Outcomes.{outcome_of_licence_fault}
use Rattle.acl_run.specs.Readers.{licence_of, keys_of, sealed_of, most_key_bytes}
use Rattle.acl_run.specs.inside.SourceSteps.{is_refusal, ends_reading}
use Rattle.acl_run.specs.Seal.{seal_text}
use Rattle.acl_run.specs.Steps.{are_keys, is_body, good, Step, reads, asks, finding_in, finding_of, may_end_from, OrNoMemory, OrFaultOf, Follows}
use Rattle.acl_run.specs.WrittenTexts.{WritesText, WhereWhole}
use Rattle.acl_run.specs.Work.{steps_of, untold_steps, may_end, is_after_keys, is_after_input, precedes_input, precedes_output}
use Rattle.acl_run.specs.inside.WritingSteps.{writing_steps}
use Rattle.acl_run.proofs.Facts.{on_true, where_whole, or_no_memory_so, or_fault_of_so}
use Rattle.acl_run.proofs.Following.{reading_ends, reading_passes, good_passes, writing_ends}
use Rattle.acl_run.proofs.Objects.{source-same, source-no_fault, sink-same, sink-no_fault}

-- ---- at the reading of the keys

-- at the reading of the keys: such an end is an end of the command
pub keys-may_end_so : (e : End) → IsTrue (ends_reading keys are_keys e) → IsTrue (may_end_from (untold_steps seal) e)
keys-may_end_so no_memory h = refl
keys-may_end_so (fault keys) h = refl
keys-may_end_so (refused a_length) h = refl
keys-may_end_so (refused some_keys) h = refl
keys-may_end_so e h = absurd (true≢false (sym h))

-- nothing is claimed of a text there
pub keys-text : (before : Option (List ℕ)) (after : Option (List ℕ)) (text : List ℕ) (e : End) → IsTrue (ends_reading keys are_keys e) → WritesText e before after text
keys-text before after text no_memory h = tt
keys-text before after text (fault keys) h = tt
keys-text before after text (refused a_length) h = tt
keys-text before after text (refused some_keys) h = tt
keys-text before after text e h = absurd (true≢false (sym h))

-- nor of a whole text
pub keys-whole : (P : Type 0) (e : End) → IsTrue (ends_reading keys are_keys e) → WhereWhole e P
keys-whole P no_memory h = tt
keys-whole P (fault keys) h = tt
keys-whole P (refused a_length) h = tt
keys-whole P (refused some_keys) h = tt
keys-whole P e h = absurd (true≢false (sym h))

-- no run ends there by a fault of this object
pub keys-no_fault_input : (e : End) → IsTrue (ends_reading keys are_keys e) → is_fault_of input e ≡ false
keys-no_fault_input no_memory h = refl
keys-no_fault_input (fault keys) h = refl
keys-no_fault_input (refused a_length) h = refl
keys-no_fault_input (refused some_keys) h = refl
keys-no_fault_input e h = absurd (true≢false (sym h))

-- no run ends there by a fault of this object
pub keys-no_fault_out : (e : End) → IsTrue (ends_reading keys are_keys e) → is_fault_of out e ≡ false
keys-no_fault_out no_memory h = refl
keys-no_fault_out (fault keys) h = refl
keys-no_fault_out (refused a_length) h = refl
keys-no_fault_out (refused some_keys) h = refl
keys-no_fault_out e h = absurd (true≢false (sym h))

pub keys-keys_read : (P : Type 0) (e : End) → IsTrue (ends_reading keys are_keys e) → OnTrue (is_refusal e) P → OnTrue (is_after_keys seal e) P
unfolding is_after_keys
keys-keys_read P no_memory h p = tt
keys-keys_read P (fault keys) h p = tt
keys-keys_read P (refused a_length) h p = p
keys-keys_read P (refused some_keys) h p = p
keys-keys_read P e h p = absurd (true≢false (sym h))

pub keys-input_read : (P : Type 0) (e : End) → IsTrue (ends_reading keys are_keys e) → OnTrue (is_after_input seal e) P
unfolding is_after_input
keys-input_read P no_memory h = tt
keys-input_read P (fault keys) h = tt
keys-input_read P (refused a_length) h = tt
keys-input_read P (refused some_keys) h = tt
keys-input_read P e h = absurd (true≢false (sym h))

-- ---- at the reading of the body

-- at the reading of the body: such an end is an end of the command
pub body-may_end_so : (e : End) → IsTrue (ends_reading input is_body e) → IsTrue (may_end_from (untold_steps seal) e)
body-may_end_so no_memory h = refl
body-may_end_so (fault input) h = refl
body-may_end_so (refused a_length) h = refl
body-may_end_so (refused a_licence) h = refl
body-may_end_so (refused some_states) h = refl
body-may_end_so e h = absurd (true≢false (sym h))

-- nothing is claimed of a text there
pub body-text : (before : Option (List ℕ)) (after : Option (List ℕ)) (text : List ℕ) (e : End) → IsTrue (ends_reading input is_body e) → WritesText e before after text
body-text before after text no_memory h = tt
body-text before after text (fault input) h = tt
body-text before after text (refused a_length) h = tt
body-text before after text (refused a_licence) h = tt
body-text before after text (refused some_states) h = tt
body-text before after text e h = absurd (true≢false (sym h))

-- nor of a whole text
pub body-whole : (P : Type 0) (e : End) → IsTrue (ends_reading input is_body e) → WhereWhole e P
body-whole P no_memory h = tt
body-whole P (fault input) h = tt
body-whole P (refused a_length) h = tt
body-whole P (refused a_licence) h = tt
body-whole P (refused some_states) h = tt
body-whole P e h = absurd (true≢false (sym h))

-- no run ends there by a fault of this object
pub body-no_fault_keys : (e : End) → IsTrue (ends_reading input is_body e) → is_fault_of keys e ≡ false
body-no_fault_keys no_memory h = refl
body-no_fault_keys (fault input) h = refl
body-no_fault_keys (refused a_length) h = refl
body-no_fault_keys (refused a_licence) h = refl
body-no_fault_keys (refused some_states) h = refl
body-no_fault_keys e h = absurd (true≢false (sym h))

-- no run ends there by a fault of this object
pub body-no_fault_out : (e : End) → IsTrue (ends_reading input is_body e) → is_fault_of out e ≡ false
body-no_fault_out no_memory h = refl
body-no_fault_out (fault input) h = refl
body-no_fault_out (refused a_length) h = refl
body-no_fault_out (refused a_licence) h = refl
body-no_fault_out (refused some_states) h = refl
body-no_fault_out e h = absurd (true≢false (sym h))

pub body-input_read : (P : Type 0) (e : End) → IsTrue (ends_reading input is_body e) → OnTrue (is_refusal e) P → OnTrue (is_after_input seal e) P
unfolding is_after_input
body-input_read P no_memory h p = tt
body-input_read P (fault input) h p = tt
body-input_read P (refused a_length) h p = tt
body-input_read P (refused a_licence) h p = p
body-input_read P (refused some_states) h p = p
body-input_read P e h p = absurd (true≢false (sym h))

pub body-unread : (P : Type 0) (e : End) → IsTrue (ends_reading input is_body e) → OnTrue (precedes_input seal e) P
unfolding precedes_input
body-unread P no_memory h = tt
body-unread P (fault input) h = tt
body-unread P (refused a_length) h = tt
body-unread P (refused a_licence) h = tt
body-unread P (refused some_states) h = tt
body-unread P e h = absurd (true≢false (sym h))

-- ---- the outcomes

pub keys-may_end : (o : Outcome) → IsTrue (ends_reading keys are_keys (end_of o)) → IsTrue (may_end seal o)
unfolding may_end
keys-may_end o h = keys-may_end_so (end_of o) h

pub body-may_end : (o : Outcome) → IsTrue (ends_reading input is_body (end_of o)) → IsTrue (may_end seal o)
unfolding may_end
body-may_end o h = body-may_end_so (end_of o) h

pub seal-done : IsTrue (may_end seal Done)
unfolding may_end
seal-done = refl

pub seal-sink_fault : IsTrue (may_end seal SinkFault)
unfolding may_end
seal-sink_fault = refl

-- ---- after and before the writing

pub done-unread : (P : Type 0) → OnTrue (precedes_input seal done) P
unfolding precedes_input
done-unread P = tt

pub fault-unread : (P : Type 0) → OnTrue (precedes_input seal (fault out)) P
unfolding precedes_input
fault-unread P = tt

pub done-unwritten : (P : Type 0) → OnTrue (precedes_output seal done) P
unfolding precedes_output
done-unwritten P = tt

pub fault-unwritten : (P : Type 0) → OnTrue (precedes_output seal (fault out)) P
unfolding precedes_output
fault-unwritten P = tt

-- ---- the body

-- a body that can be sealed can be read as a licence
read_where_sealed : (b : Bool) (r : Result Licence LicenceFault) (made text : List ℕ) (refusal : Outcome)
    → (if b then result_map_both (λ (t : List ℕ). t) outcome_of_licence_fault (r >>= λ licence. Ok made) else Err refusal) ≡ Ok text
    → finding_in (if b then result_map_both (λ (licence : Licence). licence) outcome_of_licence_fault r else Err refusal) ≡ good
read_where_sealed true (Ok licence) made text refusal is = refl
read_where_sealed true (Err failure) made text refusal is = absurd (cc)
read_where_sealed false (Ok licence) made text refusal is = absurd (cc)
read_where_sealed false (Err failure) made text refusal is = absurd (cc)

-- a body that can't be sealed is refused as a licence, by the same outcome
refused_where_sealed : (b : Bool) (r : Result Licence LicenceFault) (made : List ℕ) (refusal o : Outcome)
    → (if b then result_map_both (λ (t : List ℕ). t) outcome_of_licence_fault (r >>= λ licence. Ok made) else Err refusal) ≡ Err o
    → (if b then result_map_both (λ (licence : Licence). licence) outcome_of_licence_fault r else Err refusal) ≡ Err o
refused_where_sealed true (Ok licence) made refusal o is = absurd (cc)
refused_where_sealed true (Err failure) made refusal o is = cc
refused_where_sealed false (Ok licence) made refusal o is = cc
refused_where_sealed false (Err failure) made refusal o is = cc

body_read : (key body text : List ℕ) → sealed_of key body ≡ Ok text → finding_in (licence_of body) ≡ good
unfolding sealed_of sealed_text_of licence_of
body_read key body text is = read_where_sealed (nat_le (length body) most_key_bytes) (read_body_of body) _ text _ is

body_refused : (key body : List ℕ) (o : Outcome) → sealed_of key body ≡ Err o → licence_of body ≡ Err o
unfolding sealed_of sealed_text_of licence_of
body_refused key body o is = refused_where_sealed (nat_le (length body) most_key_bytes) (read_body_of body) _ _ o is

told_body : (ql : Option (List ℕ)) (key text : List ℕ) → IfSome ql (λ bytes. sealed_of key bytes ≡ Ok text) → IfSome ql (λ bytes. finding_in (licence_of bytes) ≡ good)
told_body None key text is = tt
told_body (Some bytes) key text is = body_read key bytes text is

told_refusal : (ql : Option (List ℕ)) (key : List ℕ) (o : Outcome)
    → IfSome ql (λ bytes. OrNoMemory (end_of o) (OrFaultOf input (end_of o) (sealed_of key bytes ≡ Err o)))
    → IfSome ql (λ bytes. OrNoMemory (end_of o) (OrFaultOf input (end_of o) (licence_of bytes ≡ Err o)))
told_refusal None key o w = tt
told_refusal (Some bytes) key o w =
    or_no_memory_so (end_of o) _ _ (or_fault_of_so input (end_of o) _ _ (body_refused key bytes o)) w

-- ---- the order of work

-- the steps after the reading of the keys
abbrev after_keys : Option (List ℕ) → List Step
after_keys ql = reads input ∷ asks is_body (finding_of licence_of ql) ∷ writing_steps

-- the run ends at the reading of the keys
pub ends_at_keys : (kl ql : Option (List ℕ)) (o : Outcome) → IsTrue (ends_reading keys are_keys (end_of o))
    → IfSome kl (λ bytes. OrNoMemory (end_of o) (OrFaultOf keys (end_of o) (keys_of bytes ≡ Err o)))
    → Follows (steps_of seal kl ql) o
ends_at_keys kl ql o h w = reading_ends keys are_keys keys_of kl o (after_keys ql) h w

-- the run ends at the reading of the body
pub ends_at_body : (kl ql : Option (List ℕ)) (secret : Keys) (o : Outcome) → IfSome kl (λ bytes. keys_of bytes ≡ Ok secret)
    → IsTrue (ends_reading input is_body (end_of o))
    → IfSome ql (λ bytes. OrNoMemory (end_of o) (OrFaultOf input (end_of o) (sealed_of secret.seal bytes ≡ Err o)))
    → Follows (steps_of seal kl ql) o
ends_at_body kl ql secret o keys_is h w =
    reading_passes keys are_keys keys_of kl secret o (after_keys ql) keys_is
    (reading_ends input is_body licence_of ql o writing_steps h (told_refusal ql secret.seal o w))

-- the run ends after both were read
pub ends_after : (kl ql : Option (List ℕ)) (secret : Keys) (text : List ℕ) (o : Outcome) → IfSome kl (λ bytes. keys_of bytes ≡ Ok secret)
    → IfSome ql (λ bytes. sealed_of secret.seal bytes ≡ Ok text) → IsTrue (may_end_from writing_steps (end_of o))
    → Follows (steps_of seal kl ql) o
ends_after kl ql secret text o keys_is text_is h =
    reading_passes keys are_keys keys_of kl secret o (after_keys ql) keys_is
    (good_passes input is_body licence_of ql o writing_steps (told_body ql secret.seal text text_is) (writing_ends o (end_of o) h))

-- ---- the text

-- a fact about the text that was made is one about the text that is due
pub due_is_made : (kl ql : Option (List ℕ)) (secret : Keys) (text : List ℕ) (P : List ℕ → Type 0) → IfSome kl (λ bytes. keys_of bytes ≡ Ok secret)
    → IfSome ql (λ bytes. sealed_of secret.seal bytes ≡ Ok text) → P text
    → IfSome kl (λ keys. IfSome ql (λ body. P (seal_text keys body)))
due_is_made None ql secret text P keys_is text_is p = tt
due_is_made (Some bytes) None secret text P keys_is text_is p = tt
due_is_made (Some bytes) (Some body) secret text P keys_is text_is p = rw (keys_is, text_is) p

-- for the command
pub ruleset steps = (on_true, where_whole, source-same, source-no_fault, sink-same, sink-no_fault, keys-text, keys-whole, keys-no_fault_input, keys-no_fault_out, keys-keys_read, keys-input_read, body-text, body-whole, body-no_fault_keys, body-no_fault_out, body-input_read, body-unread, keys-may_end, body-may_end, seal-done, seal-sink_fault, done-unread, fault-unread, done-unwritten, fault-unwritten)
