-- How `view` and `explain` keep their contract, for each way in which they end.
use Rattle.std.proofs.Common.{◌≡◌, ℕ, false, Option, Some, None, Result, Ok, Err, List, [], ◌∷◌, IsTrue, IfSome, refl, sym, ap, ◌∙◌, true≢false}
use Rattle.std.specs.Bool.{OnTrue}
use Rattle.std.specs.Result.{result_map_both}
use Rattle.acl_model.specs.declared.path.Path.{Path}
use Rattle.licence.specs.declared.keys.Keys.{Keys}
use Rattle.licence.specs.declared.terms.Licence.{Licence}
use Rattle.licence.specs.Forms.{◌>>=◌}
use Rattle.acl_outcome.specs.declared.outcome.Outcome.{Outcome}
use Rattle.acl_outcome.specs.Ends.{keys, input, store, out, a_length, a_seal, a_licence, some_states, a_query, some_keys, a_file}
use Rattle.acl_outcome.specs.Ends.{End, done, no_memory, fault, refused, is_fault_of, end_of}
use Rattle.acl_words.specs.Command.{Shown, the_view, an_answer, an_explanation, view}
use Rattle.acl_run.specs.Headline.{is_store_end}
use Rattle.acl_run.specs.inside.Opening.{ends_opening}
use Rattle.acl_run.specs.inside.SourceSteps.{is_refusal, ends_reading}
use Rattle.acl_run.specs.Steps.{are_keys, is_licence, may_end_from, is_before, is_writing_to}
use Rattle.acl_run.specs.WrittenTexts.{WhereWhole}
use Rattle.acl_run.specs.Work.{untold_steps, ends_at_query, may_end, is_after_keys, is_after_input, precedes_input, precedes_output, precedes_store}
use Rattle.acl_run.specs.inside.WritingSteps.{writing_steps}
use Rattle.acl_run.proofs.Facts.{on_true, where_whole}
use Rattle.acl_run.proofs.Objects.{source-same, source-no_fault, sink-same, sink-no_fault, store-same, store-no_fault}

-- ---- at the reading of the keys

-- at the reading of the keys: such an end is an end of the command
pub keys-may_end_so : (what : Shown) (e : End) → IsTrue (ends_reading keys are_keys e) → IsTrue (may_end_from (untold_steps (view what)) e)
keys-may_end_so what no_memory h = refl
keys-may_end_so what (fault keys) h = refl
keys-may_end_so what (refused a_length) h = refl
keys-may_end_so what (refused some_keys) h = refl
keys-may_end_so what e h = absurd (true≢false (sym h))

-- nothing is claimed of a whole text
pub keys-whole : (what : Shown) (P : Type 0) (e : End) → IsTrue (ends_reading keys are_keys e) → WhereWhole e P
keys-whole what P no_memory h = tt
keys-whole what P (fault keys) h = tt
keys-whole what P (refused a_length) h = tt
keys-whole what P (refused some_keys) h = tt
keys-whole what P e h = absurd (true≢false (sym h))

-- no run ends there by a fault of this object
pub keys-no_fault_input : (what : Shown) (e : End) → IsTrue (ends_reading keys are_keys e) → is_fault_of input e ≡ false
keys-no_fault_input what no_memory h = refl
keys-no_fault_input what (fault keys) h = refl
keys-no_fault_input what (refused a_length) h = refl
keys-no_fault_input what (refused some_keys) h = refl
keys-no_fault_input what e h = absurd (true≢false (sym h))

-- no run ends there by a fault of this object
pub keys-no_fault_store : (what : Shown) (e : End) → IsTrue (ends_reading keys are_keys e) → is_fault_of store e ≡ false
keys-no_fault_store what no_memory h = refl
keys-no_fault_store what (fault keys) h = refl
keys-no_fault_store what (refused a_length) h = refl
keys-no_fault_store what (refused some_keys) h = refl
keys-no_fault_store what e h = absurd (true≢false (sym h))

-- no run ends there by a fault of this object
pub keys-no_fault_out : (what : Shown) (e : End) → IsTrue (ends_reading keys are_keys e) → is_fault_of out e ≡ false
keys-no_fault_out what no_memory h = refl
keys-no_fault_out what (fault keys) h = refl
keys-no_fault_out what (refused a_length) h = refl
keys-no_fault_out what (refused some_keys) h = refl
keys-no_fault_out what e h = absurd (true≢false (sym h))

pub keys-keys_read : (what : Shown) (P : Type 0) (e : End) → IsTrue (ends_reading keys are_keys e) → OnTrue (is_refusal e) P → OnTrue (is_after_keys (view what) e) P
unfolding is_after_keys
keys-keys_read what P no_memory h p = tt
keys-keys_read what P (fault keys) h p = tt
keys-keys_read what P (refused a_length) h p = p
keys-keys_read what P (refused some_keys) h p = p
keys-keys_read what P e h p = absurd (true≢false (sym h))

pub keys-input_read : (what : Shown) (P : Type 0) (e : End) → IsTrue (ends_reading keys are_keys e) → OnTrue (is_after_input (view what) e) P
unfolding is_after_input
keys-input_read what P no_memory h = tt
keys-input_read what P (fault keys) h = tt
keys-input_read what P (refused a_length) h = tt
keys-input_read what P (refused some_keys) h = tt
keys-input_read what P e h = absurd (true≢false (sym h))

-- such an end is neither a fault of the store nor a refusal of its bytes
pub keys-not_of_store : (what : Shown) (e : End) → IsTrue (ends_reading keys are_keys e) → is_store_end e ≡ false
keys-not_of_store what no_memory h = refl
keys-not_of_store what (fault keys) h = refl
keys-not_of_store what (refused a_length) h = refl
keys-not_of_store what (refused some_keys) h = refl
keys-not_of_store what e h = absurd (true≢false (sym h))

-- ---- at the reading of the licence

-- at the reading of the licence: such an end is an end of the command
pub licence-may_end_so : (what : Shown) (e : End) → IsTrue (ends_reading input is_licence e) → IsTrue (may_end_from (untold_steps (view what)) e)
licence-may_end_so what no_memory h = refl
licence-may_end_so what (fault input) h = refl
licence-may_end_so what (refused a_length) h = refl
licence-may_end_so what (refused a_seal) h = refl
licence-may_end_so what (refused a_licence) h = refl
licence-may_end_so what (refused some_states) h = refl
licence-may_end_so what e h = absurd (true≢false (sym h))

-- nothing is claimed of a whole text
pub licence-whole : (what : Shown) (P : Type 0) (e : End) → IsTrue (ends_reading input is_licence e) → WhereWhole e P
licence-whole what P no_memory h = tt
licence-whole what P (fault input) h = tt
licence-whole what P (refused a_length) h = tt
licence-whole what P (refused a_seal) h = tt
licence-whole what P (refused a_licence) h = tt
licence-whole what P (refused some_states) h = tt
licence-whole what P e h = absurd (true≢false (sym h))

-- no run ends there by a fault of this object
pub licence-no_fault_keys : (what : Shown) (e : End) → IsTrue (ends_reading input is_licence e) → is_fault_of keys e ≡ false
licence-no_fault_keys what no_memory h = refl
licence-no_fault_keys what (fault input) h = refl
licence-no_fault_keys what (refused a_length) h = refl
licence-no_fault_keys what (refused a_seal) h = refl
licence-no_fault_keys what (refused a_licence) h = refl
licence-no_fault_keys what (refused some_states) h = refl
licence-no_fault_keys what e h = absurd (true≢false (sym h))

-- no run ends there by a fault of this object
pub licence-no_fault_store : (what : Shown) (e : End) → IsTrue (ends_reading input is_licence e) → is_fault_of store e ≡ false
licence-no_fault_store what no_memory h = refl
licence-no_fault_store what (fault input) h = refl
licence-no_fault_store what (refused a_length) h = refl
licence-no_fault_store what (refused a_seal) h = refl
licence-no_fault_store what (refused a_licence) h = refl
licence-no_fault_store what (refused some_states) h = refl
licence-no_fault_store what e h = absurd (true≢false (sym h))

-- no run ends there by a fault of this object
pub licence-no_fault_out : (what : Shown) (e : End) → IsTrue (ends_reading input is_licence e) → is_fault_of out e ≡ false
licence-no_fault_out what no_memory h = refl
licence-no_fault_out what (fault input) h = refl
licence-no_fault_out what (refused a_length) h = refl
licence-no_fault_out what (refused a_seal) h = refl
licence-no_fault_out what (refused a_licence) h = refl
licence-no_fault_out what (refused some_states) h = refl
licence-no_fault_out what e h = absurd (true≢false (sym h))

pub licence-input_read : (what : Shown) (P : Type 0) (e : End) → IsTrue (ends_reading input is_licence e) → OnTrue (is_refusal e) P → OnTrue (is_after_input (view what) e) P
unfolding is_after_input
licence-input_read what P no_memory h p = tt
licence-input_read what P (fault input) h p = tt
licence-input_read what P (refused a_length) h p = tt
licence-input_read what P (refused a_seal) h p = p
licence-input_read what P (refused a_licence) h p = p
licence-input_read what P (refused some_states) h p = p
licence-input_read what P e h p = absurd (true≢false (sym h))

pub licence-unread : (what : Shown) (P : Type 0) (e : End) → IsTrue (ends_reading input is_licence e) → OnTrue (precedes_input (view what) e) P
unfolding precedes_input
licence-unread what P no_memory h = tt
licence-unread what P (fault input) h = tt
licence-unread what P (refused a_length) h = tt
licence-unread what P (refused a_seal) h = tt
licence-unread what P (refused a_licence) h = tt
licence-unread what P (refused some_states) h = tt
licence-unread what P e h = absurd (true≢false (sym h))

-- such an end is neither a fault of the store nor a refusal of its bytes
pub licence-not_of_store : (what : Shown) (e : End) → IsTrue (ends_reading input is_licence e) → is_store_end e ≡ false
licence-not_of_store what no_memory h = refl
licence-not_of_store what (fault input) h = refl
licence-not_of_store what (refused a_length) h = refl
licence-not_of_store what (refused a_seal) h = refl
licence-not_of_store what (refused a_licence) h = refl
licence-not_of_store what (refused some_states) h = refl
licence-not_of_store what e h = absurd (true≢false (sym h))

-- ---- at the reading of the query

-- at the reading of the query: such an end is an end of the command
pub query-may_end_so : (what : Shown) (e : End) → IsTrue (ends_at_query what e) → IsTrue (may_end_from (untold_steps (view what)) e)
query-may_end_so what no_memory h = refl
query-may_end_so the_view (refused a_query) h = absurd (true≢false (sym h))
query-may_end_so (an_answer query) (refused a_query) h = refl
query-may_end_so an_explanation (refused a_query) h = absurd (true≢false (sym h))
query-may_end_so the_view (refused some_states) h = absurd (true≢false (sym h))
query-may_end_so (an_answer query) (refused some_states) h = refl
query-may_end_so an_explanation (refused some_states) h = absurd (true≢false (sym h))
query-may_end_so what e h = absurd (true≢false (sym h))

-- nothing is claimed of a whole text
pub query-whole : (what : Shown) (P : Type 0) (e : End) → IsTrue (ends_at_query what e) → WhereWhole e P
query-whole what P no_memory h = tt
query-whole the_view P (refused a_query) h = absurd (true≢false (sym h))
query-whole (an_answer query) P (refused a_query) h = tt
query-whole an_explanation P (refused a_query) h = absurd (true≢false (sym h))
query-whole the_view P (refused some_states) h = absurd (true≢false (sym h))
query-whole (an_answer query) P (refused some_states) h = tt
query-whole an_explanation P (refused some_states) h = absurd (true≢false (sym h))
query-whole what P e h = absurd (true≢false (sym h))

-- no run ends there by a fault of this object
pub query-no_fault_keys : (what : Shown) (e : End) → IsTrue (ends_at_query what e) → is_fault_of keys e ≡ false
query-no_fault_keys what no_memory h = refl
query-no_fault_keys the_view (refused a_query) h = absurd (true≢false (sym h))
query-no_fault_keys (an_answer query) (refused a_query) h = refl
query-no_fault_keys an_explanation (refused a_query) h = absurd (true≢false (sym h))
query-no_fault_keys the_view (refused some_states) h = absurd (true≢false (sym h))
query-no_fault_keys (an_answer query) (refused some_states) h = refl
query-no_fault_keys an_explanation (refused some_states) h = absurd (true≢false (sym h))
query-no_fault_keys what e h = absurd (true≢false (sym h))

-- no run ends there by a fault of this object
pub query-no_fault_input : (what : Shown) (e : End) → IsTrue (ends_at_query what e) → is_fault_of input e ≡ false
query-no_fault_input what no_memory h = refl
query-no_fault_input the_view (refused a_query) h = absurd (true≢false (sym h))
query-no_fault_input (an_answer query) (refused a_query) h = refl
query-no_fault_input an_explanation (refused a_query) h = absurd (true≢false (sym h))
query-no_fault_input the_view (refused some_states) h = absurd (true≢false (sym h))
query-no_fault_input (an_answer query) (refused some_states) h = refl
query-no_fault_input an_explanation (refused some_states) h = absurd (true≢false (sym h))
query-no_fault_input what e h = absurd (true≢false (sym h))

-- no run ends there by a fault of this object
pub query-no_fault_store : (what : Shown) (e : End) → IsTrue (ends_at_query what e) → is_fault_of store e ≡ false
query-no_fault_store what no_memory h = refl
query-no_fault_store the_view (refused a_query) h = absurd (true≢false (sym h))
query-no_fault_store (an_answer query) (refused a_query) h = refl
query-no_fault_store an_explanation (refused a_query) h = absurd (true≢false (sym h))
query-no_fault_store the_view (refused some_states) h = absurd (true≢false (sym h))
query-no_fault_store (an_answer query) (refused some_states) h = refl
query-no_fault_store an_explanation (refused some_states) h = absurd (true≢false (sym h))
query-no_fault_store what e h = absurd (true≢false (sym h))

-- no run ends there by a fault of this object
pub query-no_fault_out : (what : Shown) (e : End) → IsTrue (ends_at_query what e) → is_fault_of out e ≡ false
query-no_fault_out what no_memory h = refl
query-no_fault_out the_view (refused a_query) h = absurd (true≢false (sym h))
query-no_fault_out (an_answer query) (refused a_query) h = refl
query-no_fault_out an_explanation (refused a_query) h = absurd (true≢false (sym h))
query-no_fault_out the_view (refused some_states) h = absurd (true≢false (sym h))
query-no_fault_out (an_answer query) (refused some_states) h = refl
query-no_fault_out an_explanation (refused some_states) h = absurd (true≢false (sym h))
query-no_fault_out what e h = absurd (true≢false (sym h))

pub query-unread : (what : Shown) (P : Type 0) (e : End) → IsTrue (ends_at_query what e) → OnTrue (precedes_input (view what) e) P
unfolding precedes_input
query-unread what P no_memory h = tt
query-unread the_view P (refused a_query) h = absurd (true≢false (sym h))
query-unread (an_answer query) P (refused a_query) h = tt
query-unread an_explanation P (refused a_query) h = absurd (true≢false (sym h))
query-unread the_view P (refused some_states) h = absurd (true≢false (sym h))
query-unread (an_answer query) P (refused some_states) h = tt
query-unread an_explanation P (refused some_states) h = absurd (true≢false (sym h))
query-unread what P e h = absurd (true≢false (sym h))

-- such an end is neither a fault of the store nor a refusal of its bytes
pub query-not_of_store : (what : Shown) (e : End) → IsTrue (ends_at_query what e) → is_store_end e ≡ false
query-not_of_store what no_memory h = refl
query-not_of_store the_view (refused a_query) h = absurd (true≢false (sym h))
query-not_of_store (an_answer query) (refused a_query) h = refl
query-not_of_store an_explanation (refused a_query) h = absurd (true≢false (sym h))
query-not_of_store the_view (refused some_states) h = absurd (true≢false (sym h))
query-not_of_store (an_answer query) (refused some_states) h = refl
query-not_of_store an_explanation (refused some_states) h = absurd (true≢false (sym h))
query-not_of_store what e h = absurd (true≢false (sym h))

-- ---- at the opening of the store

-- at the opening of the store: such an end is an end of the command
pub store-may_end_so : (what : Shown) (e : End) → IsTrue (ends_opening e) → IsTrue (may_end_from (untold_steps (view what)) e)
store-may_end_so what no_memory h = refl
store-may_end_so what (fault store) h = refl
store-may_end_so what (refused a_file) h = refl
store-may_end_so what e h = absurd (true≢false (sym h))

-- nothing is claimed of a whole text
pub store-whole : (what : Shown) (P : Type 0) (e : End) → IsTrue (ends_opening e) → WhereWhole e P
store-whole what P no_memory h = tt
store-whole what P (fault store) h = tt
store-whole what P (refused a_file) h = tt
store-whole what P e h = absurd (true≢false (sym h))

-- no run ends there by a fault of this object
pub store-no_fault_keys : (what : Shown) (e : End) → IsTrue (ends_opening e) → is_fault_of keys e ≡ false
store-no_fault_keys what no_memory h = refl
store-no_fault_keys what (fault store) h = refl
store-no_fault_keys what (refused a_file) h = refl
store-no_fault_keys what e h = absurd (true≢false (sym h))

-- no run ends there by a fault of this object
pub store-no_fault_input : (what : Shown) (e : End) → IsTrue (ends_opening e) → is_fault_of input e ≡ false
store-no_fault_input what no_memory h = refl
store-no_fault_input what (fault store) h = refl
store-no_fault_input what (refused a_file) h = refl
store-no_fault_input what e h = absurd (true≢false (sym h))

-- no run ends there by a fault of this object
pub store-no_fault_out : (what : Shown) (e : End) → IsTrue (ends_opening e) → is_fault_of out e ≡ false
store-no_fault_out what no_memory h = refl
store-no_fault_out what (fault store) h = refl
store-no_fault_out what (refused a_file) h = refl
store-no_fault_out what e h = absurd (true≢false (sym h))

pub store-unread : (what : Shown) (P : Type 0) (e : End) → IsTrue (ends_opening e) → OnTrue (precedes_input (view what) e) P
unfolding precedes_input
store-unread what P no_memory h = tt
store-unread what P (fault store) h = tt
store-unread what P (refused a_file) h = tt
store-unread what P e h = absurd (true≢false (sym h))

pub store-unopened : (what : Shown) (P : Type 0) (e : End) → IsTrue (ends_opening e) → OnTrue (precedes_store (view what) e) P
unfolding precedes_store
store-unopened what P no_memory h = tt
store-unopened what P (fault store) h = tt
store-unopened what P (refused a_file) h = tt
store-unopened what P e h = absurd (true≢false (sym h))

-- ---- at the writing of what is shown

-- at the writing of what is shown: such an end is an end of the command
pub showing-may_end_so : (what : Shown) (e : End) → IsTrue (may_end_from writing_steps e) → IsTrue (may_end_from (untold_steps (view what)) e)
showing-may_end_so what done h = refl
showing-may_end_so what no_memory h = refl
showing-may_end_so what (fault out) h = refl
showing-may_end_so what e h = absurd (true≢false (sym h))

-- no run ends there by a fault of this object
pub showing-no_fault_keys : (what : Shown) (e : End) → IsTrue (may_end_from writing_steps e) → is_fault_of keys e ≡ false
showing-no_fault_keys what done h = refl
showing-no_fault_keys what no_memory h = refl
showing-no_fault_keys what (fault out) h = refl
showing-no_fault_keys what e h = absurd (true≢false (sym h))

-- no run ends there by a fault of this object
pub showing-no_fault_input : (what : Shown) (e : End) → IsTrue (may_end_from writing_steps e) → is_fault_of input e ≡ false
showing-no_fault_input what done h = refl
showing-no_fault_input what no_memory h = refl
showing-no_fault_input what (fault out) h = refl
showing-no_fault_input what e h = absurd (true≢false (sym h))

-- no run ends there by a fault of this object
pub showing-no_fault_store : (what : Shown) (e : End) → IsTrue (may_end_from writing_steps e) → is_fault_of store e ≡ false
showing-no_fault_store what done h = refl
showing-no_fault_store what no_memory h = refl
showing-no_fault_store what (fault out) h = refl
showing-no_fault_store what e h = absurd (true≢false (sym h))

pub showing-unread : (what : Shown) (P : Type 0) (e : End) → IsTrue (may_end_from writing_steps e) → OnTrue (precedes_input (view what) e) P
unfolding precedes_input
showing-unread what P done h = tt
showing-unread what P no_memory h = tt
showing-unread what P (fault out) h = tt
showing-unread what P e h = absurd (true≢false (sym h))

pub showing-unopened : (what : Shown) (P : Type 0) (e : End) → IsTrue (may_end_from writing_steps e) → OnTrue (precedes_store (view what) e) P
unfolding precedes_store
showing-unopened what P done h = tt
showing-unopened what P no_memory h = tt
showing-unopened what P (fault out) h = tt
showing-unopened what P e h = absurd (true≢false (sym h))

pub showing-unwritten : (what : Shown) (P : Type 0) (e : End) → IsTrue (may_end_from writing_steps e) → OnTrue (is_before (is_writing_to out) writing_steps e) P → OnTrue (precedes_output (view what) e) P
unfolding precedes_output
showing-unwritten what P done h p = tt
showing-unwritten what P no_memory h p = p
showing-unwritten what P (fault out) h p = tt
showing-unwritten what P e h p = absurd (true≢false (sym h))

-- such an end is neither a fault of the store nor a refusal of its bytes
pub showing-not_of_store : (what : Shown) (e : End) → IsTrue (may_end_from writing_steps e) → is_store_end e ≡ false
showing-not_of_store what done h = refl
showing-not_of_store what no_memory h = refl
showing-not_of_store what (fault out) h = refl
showing-not_of_store what e h = absurd (true≢false (sym h))

-- ---- by the outcome

pub keys-may_end : (what : Shown) (o : Outcome) → IsTrue (ends_reading keys are_keys (end_of o)) → IsTrue (may_end (view what) o)
unfolding may_end
keys-may_end what o h = keys-may_end_so what (end_of o) h

pub licence-may_end : (what : Shown) (o : Outcome) → IsTrue (ends_reading input is_licence (end_of o)) → IsTrue (may_end (view what) o)
unfolding may_end
licence-may_end what o h = licence-may_end_so what (end_of o) h

pub query-may_end : (what : Shown) (o : Outcome) → IsTrue (ends_at_query what (end_of o)) → IsTrue (may_end (view what) o)
unfolding may_end
query-may_end what o h = query-may_end_so what (end_of o) h

pub store-may_end : (what : Shown) (o : Outcome) → IsTrue (ends_opening (end_of o)) → IsTrue (may_end (view what) o)
unfolding may_end
store-may_end what o h = store-may_end_so what (end_of o) h

pub showing-may_end : (what : Shown) (o : Outcome) → IsTrue (may_end_from writing_steps (end_of o)) → IsTrue (may_end (view what) o)
unfolding may_end
showing-may_end what o h = showing-may_end_so what (end_of o) h

-- for the command
pub ruleset steps = (on_true, where_whole, source-same, source-no_fault, sink-same, sink-no_fault, store-same, store-no_fault, keys-whole, keys-no_fault_input, keys-no_fault_store, keys-no_fault_out, keys-keys_read, keys-input_read, licence-whole, licence-no_fault_keys, licence-no_fault_store, licence-no_fault_out, licence-input_read, licence-unread, query-whole, query-no_fault_keys, query-no_fault_input, query-no_fault_store, query-no_fault_out, query-unread, store-whole, store-no_fault_keys, store-no_fault_input, store-no_fault_out, store-unread, store-unopened, showing-unopened, showing-no_fault_keys, showing-no_fault_input, showing-no_fault_store, showing-unread, showing-unwritten, keys-may_end, licence-may_end, query-may_end, store-may_end, showing-may_end)
