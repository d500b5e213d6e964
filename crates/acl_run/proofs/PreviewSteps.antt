-- How `preview` keeps its contract, for each way in which it ends.
use Rattle.std.proofs.Common.{◌≡◌, ℕ, false, Option, Some, None, Result, Ok, Err, List, [], ◌∷◌, IsTrue, IfSome, refl, sym, ap, ◌∙◌, true≢false}
use Rattle.std.specs.Bool.{OnTrue}
use Rattle.std.specs.Result.{result_map_both}
use Rattle.acl_model.specs.declared.document.Doc.{Doc}
use Rattle.acl_model.specs.declared.path.Path.{Path}
use Rattle.licence.specs.declared.terms.Licence.{Licence}
use Rattle.licence.specs.Forms.{◌>>=◌}
use Rattle.acl_outcome.specs.declared.outcome.Outcome.{Outcome}
use Rattle.acl_outcome.specs.Ends.{keys, input, out, a_length, a_document, a_licence, some_states, a_query}
use Rattle.acl_outcome.specs.Ends.{End, done, no_memory, fault, refused, is_fault_of, end_of}
use Rattle.acl_words.specs.Command.{Shown, the_view, an_answer, an_explanation, preview}
use Rattle.acl_run.specs.Preview.{wanted_by, wanted_text, preview_text}
use Rattle.acl_run.specs.Readers.{licence_of, query_of, document_of}
use Rattle.acl_run.specs.inside.SourceSteps.{is_refusal, ends_reading}
use Rattle.acl_run.specs.Steps.{are_rules, is_query, is_document, good, Step, reads, asks, finding_of, may_end_in, may_end_from, is_before, is_writing_to, OrNoMemory, OrFaultOf, Follows}
use Rattle.acl_run.specs.WrittenTexts.{WritesText, WhereWhole}
use Rattle.acl_run.specs.Work.{steps_of, untold_steps, query_finding, ends_at_query, may_end, is_after_keys, is_after_input, precedes_input, precedes_output}
use Rattle.acl_run.specs.inside.WritingSteps.{writing_steps}
use Rattle.acl_run.specs.declared.preview.Wanted.{Wanted}
use Rattle.acl_run.specs.declared.preview.Wanted.TheVariants.{Answer}
use Rattle.acl_run.proofs.Facts.{on_true, or_no_memory, or_no_memory_so, where_whole}
use Rattle.acl_run.proofs.Following.{reading_ends, reading_passes, asking_ends, asking_passes, writing_ends}
use Rattle.acl_run.proofs.Objects.{source-same, source-no_fault, sink-same, sink-no_fault}

-- ---- at the reading of the rules

-- at the reading of the rules: such an end is an end of the command
pub rules-may_end_so : (what : Shown) (e : End) → IsTrue (ends_reading keys are_rules e) → IsTrue (may_end_from (untold_steps (preview what)) e)
rules-may_end_so what no_memory h = refl
rules-may_end_so what (fault keys) h = refl
rules-may_end_so what (refused a_length) h = refl
rules-may_end_so what (refused a_licence) h = refl
rules-may_end_so what (refused some_states) h = refl
rules-may_end_so what e h = absurd (true≢false (sym h))

-- nothing is claimed of a text there
pub rules-text : (what : Shown) (before : Option (List ℕ)) (after : Option (List ℕ)) (text : List ℕ) (e : End) → IsTrue (ends_reading keys are_rules e) → WritesText e before after text
rules-text what before after text no_memory h = tt
rules-text what before after text (fault keys) h = tt
rules-text what before after text (refused a_length) h = tt
rules-text what before after text (refused a_licence) h = tt
rules-text what before after text (refused some_states) h = tt
rules-text what before after text e h = absurd (true≢false (sym h))

-- nor of a whole text
pub rules-whole : (what : Shown) (P : Type 0) (e : End) → IsTrue (ends_reading keys are_rules e) → WhereWhole e P
rules-whole what P no_memory h = tt
rules-whole what P (fault keys) h = tt
rules-whole what P (refused a_length) h = tt
rules-whole what P (refused a_licence) h = tt
rules-whole what P (refused some_states) h = tt
rules-whole what P e h = absurd (true≢false (sym h))

-- no run ends there by a fault of this object
pub rules-no_fault_input : (what : Shown) (e : End) → IsTrue (ends_reading keys are_rules e) → is_fault_of input e ≡ false
rules-no_fault_input what no_memory h = refl
rules-no_fault_input what (fault keys) h = refl
rules-no_fault_input what (refused a_length) h = refl
rules-no_fault_input what (refused a_licence) h = refl
rules-no_fault_input what (refused some_states) h = refl
rules-no_fault_input what e h = absurd (true≢false (sym h))

-- no run ends there by a fault of this object
pub rules-no_fault_out : (what : Shown) (e : End) → IsTrue (ends_reading keys are_rules e) → is_fault_of out e ≡ false
rules-no_fault_out what no_memory h = refl
rules-no_fault_out what (fault keys) h = refl
rules-no_fault_out what (refused a_length) h = refl
rules-no_fault_out what (refused a_licence) h = refl
rules-no_fault_out what (refused some_states) h = refl
rules-no_fault_out what e h = absurd (true≢false (sym h))

pub rules-keys_read : (what : Shown) (P : Type 0) (e : End) → IsTrue (ends_reading keys are_rules e) → OnTrue (is_refusal e) P → OnTrue (is_after_keys (preview what) e) P
unfolding is_after_keys
rules-keys_read what P no_memory h p = tt
rules-keys_read what P (fault keys) h p = tt
rules-keys_read what P (refused a_length) h p = p
rules-keys_read what P (refused a_licence) h p = p
rules-keys_read what P (refused some_states) h p = p
rules-keys_read what P e h p = absurd (true≢false (sym h))

pub rules-input_read : (what : Shown) (P : Type 0) (e : End) → IsTrue (ends_reading keys are_rules e) → OnTrue (is_after_input (preview what) e) P
unfolding is_after_input
rules-input_read what P no_memory h = tt
rules-input_read what P (fault keys) h = tt
rules-input_read what P (refused a_length) h = tt
rules-input_read what P (refused a_licence) h = tt
rules-input_read what P (refused some_states) h = tt
rules-input_read what P e h = absurd (true≢false (sym h))

-- ---- at the reading of the query

-- at the reading of the query: such an end is an end of the command
pub query-may_end_so : (what : Shown) (e : End) → IsTrue (ends_at_query what e) → IsTrue (may_end_from (untold_steps (preview what)) e)
query-may_end_so what no_memory h = refl
query-may_end_so the_view (refused a_query) h = absurd (true≢false (sym h))
query-may_end_so (an_answer query) (refused a_query) h = refl
query-may_end_so an_explanation (refused a_query) h = absurd (true≢false (sym h))
query-may_end_so the_view (refused some_states) h = absurd (true≢false (sym h))
query-may_end_so (an_answer query) (refused some_states) h = refl
query-may_end_so an_explanation (refused some_states) h = absurd (true≢false (sym h))
query-may_end_so what e h = absurd (true≢false (sym h))

-- nothing is claimed of a text there
pub query-text : (what : Shown) (before : Option (List ℕ)) (after : Option (List ℕ)) (text : List ℕ) (e : End) → IsTrue (ends_at_query what e) → WritesText e before after text
query-text what before after text no_memory h = tt
query-text the_view before after text (refused a_query) h = absurd (true≢false (sym h))
query-text (an_answer query) before after text (refused a_query) h = tt
query-text an_explanation before after text (refused a_query) h = absurd (true≢false (sym h))
query-text the_view before after text (refused some_states) h = absurd (true≢false (sym h))
query-text (an_answer query) before after text (refused some_states) h = tt
query-text an_explanation before after text (refused some_states) h = absurd (true≢false (sym h))
query-text what before after text e h = absurd (true≢false (sym h))

-- nor of a whole text
pub query-whole : (what : Shown) (P : Type 0) (e : End) → IsTrue (ends_at_query what e) → WhereWhole e P
query-whole what P no_memory h = tt
query-whole the_view P (refused a_query) h = absurd (true≢false (sym h))
query-whole (an_answer query) P (refused a_query) h = tt
query-whole an_explanation P (refused a_query) h = absurd (true≢false (sym h))
query-whole the_view P (refused some_states) h = absurd (true≢false (sym h))
query-whole (an_answer query) P (refused some_states) h = tt
query-whole an_explanation P (refused some_states) h = absurd (true≢false (sym h))
query-whole what P e h = absurd (true≢false (sym h))

-- no run ends there by a fault of this object
pub query-no_fault_keys : (what : Shown) (e : End) → IsTrue (ends_at_query what e) → is_fault_of keys e ≡ false
query-no_fault_keys what no_memory h = refl
query-no_fault_keys the_view (refused a_query) h = absurd (true≢false (sym h))
query-no_fault_keys (an_answer query) (refused a_query) h = refl
query-no_fault_keys an_explanation (refused a_query) h = absurd (true≢false (sym h))
query-no_fault_keys the_view (refused some_states) h = absurd (true≢false (sym h))
query-no_fault_keys (an_answer query) (refused some_states) h = refl
query-no_fault_keys an_explanation (refused some_states) h = absurd (true≢false (sym h))
query-no_fault_keys what e h = absurd (true≢false (sym h))

-- no run ends there by a fault of this object
pub query-no_fault_input : (what : Shown) (e : End) → IsTrue (ends_at_query what e) → is_fault_of input e ≡ false
query-no_fault_input what no_memory h = refl
query-no_fault_input the_view (refused a_query) h = absurd (true≢false (sym h))
query-no_fault_input (an_answer query) (refused a_query) h = refl
query-no_fault_input an_explanation (refused a_query) h = absurd (true≢false (sym h))
query-no_fault_input the_view (refused some_states) h = absurd (true≢false (sym h))
query-no_fault_input (an_answer query) (refused some_states) h = refl
query-no_fault_input an_explanation (refused some_states) h = absurd (true≢false (sym h))
query-no_fault_input what e h = absurd (true≢false (sym h))

-- no run ends there by a fault of this object
pub query-no_fault_out : (what : Shown) (e : End) → IsTrue (ends_at_query what e) → is_fault_of out e ≡ false
query-no_fault_out what no_memory h = refl
query-no_fault_out the_view (refused a_query) h = absurd (true≢false (sym h))
query-no_fault_out (an_answer query) (refused a_query) h = refl
query-no_fault_out an_explanation (refused a_query) h = absurd (true≢false (sym h))
query-no_fault_out the_view (refused some_states) h = absurd (true≢false (sym h))
query-no_fault_out (an_answer query) (refused some_states) h = refl
query-no_fault_out an_explanation (refused some_states) h = absurd (true≢false (sym h))
query-no_fault_out what e h = absurd (true≢false (sym h))

pub query-input_read : (what : Shown) (P : Type 0) (e : End) → IsTrue (ends_at_query what e) → OnTrue (is_after_input (preview what) e) P
unfolding is_after_input
query-input_read what P no_memory h = tt
query-input_read the_view P (refused a_query) h = absurd (true≢false (sym h))
query-input_read (an_answer query) P (refused a_query) h = tt
query-input_read an_explanation P (refused a_query) h = absurd (true≢false (sym h))
query-input_read the_view P (refused some_states) h = absurd (true≢false (sym h))
query-input_read (an_answer query) P (refused some_states) h = tt
query-input_read an_explanation P (refused some_states) h = absurd (true≢false (sym h))
query-input_read what P e h = absurd (true≢false (sym h))

-- ---- at the reading of the document

-- at the reading of the document: such an end is an end of the command
pub document-may_end_so : (what : Shown) (e : End) → IsTrue (ends_reading input is_document e) → IsTrue (may_end_from (untold_steps (preview what)) e)
document-may_end_so what no_memory h = refl
document-may_end_so what (fault input) h = refl
document-may_end_so what (refused a_length) h = refl
document-may_end_so what (refused a_document) h = refl
document-may_end_so what e h = absurd (true≢false (sym h))

-- nothing is claimed of a text there
pub document-text : (what : Shown) (before : Option (List ℕ)) (after : Option (List ℕ)) (text : List ℕ) (e : End) → IsTrue (ends_reading input is_document e) → WritesText e before after text
document-text what before after text no_memory h = tt
document-text what before after text (fault input) h = tt
document-text what before after text (refused a_length) h = tt
document-text what before after text (refused a_document) h = tt
document-text what before after text e h = absurd (true≢false (sym h))

-- nor of a whole text
pub document-whole : (what : Shown) (P : Type 0) (e : End) → IsTrue (ends_reading input is_document e) → WhereWhole e P
document-whole what P no_memory h = tt
document-whole what P (fault input) h = tt
document-whole what P (refused a_length) h = tt
document-whole what P (refused a_document) h = tt
document-whole what P e h = absurd (true≢false (sym h))

-- no run ends there by a fault of this object
pub document-no_fault_keys : (what : Shown) (e : End) → IsTrue (ends_reading input is_document e) → is_fault_of keys e ≡ false
document-no_fault_keys what no_memory h = refl
document-no_fault_keys what (fault input) h = refl
document-no_fault_keys what (refused a_length) h = refl
document-no_fault_keys what (refused a_document) h = refl
document-no_fault_keys what e h = absurd (true≢false (sym h))

-- no run ends there by a fault of this object
pub document-no_fault_out : (what : Shown) (e : End) → IsTrue (ends_reading input is_document e) → is_fault_of out e ≡ false
document-no_fault_out what no_memory h = refl
document-no_fault_out what (fault input) h = refl
document-no_fault_out what (refused a_length) h = refl
document-no_fault_out what (refused a_document) h = refl
document-no_fault_out what e h = absurd (true≢false (sym h))

pub document-input_read : (what : Shown) (P : Type 0) (e : End) → IsTrue (ends_reading input is_document e) → OnTrue (is_refusal e) P → OnTrue (is_after_input (preview what) e) P
unfolding is_after_input
document-input_read what P no_memory h p = tt
document-input_read what P (fault input) h p = tt
document-input_read what P (refused a_length) h p = tt
document-input_read what P (refused a_document) h p = p
document-input_read what P e h p = absurd (true≢false (sym h))

pub document-unread : (what : Shown) (P : Type 0) (e : End) → IsTrue (ends_reading input is_document e) → OnTrue (precedes_input (preview what) e) P
unfolding precedes_input
document-unread what P no_memory h = tt
document-unread what P (fault input) h = tt
document-unread what P (refused a_length) h = tt
document-unread what P (refused a_document) h = tt
document-unread what P e h = absurd (true≢false (sym h))

-- ---- at the writing of what is shown

-- at the writing of what is shown: such an end is an end of the command
pub showing-may_end_so : (what : Shown) (e : End) → IsTrue (may_end_from writing_steps e) → IsTrue (may_end_from (untold_steps (preview what)) e)
showing-may_end_so what done h = refl
showing-may_end_so what no_memory h = refl
showing-may_end_so what (fault out) h = refl
showing-may_end_so what e h = absurd (true≢false (sym h))

-- no run ends there by a fault of this object
pub showing-no_fault_keys : (what : Shown) (e : End) → IsTrue (may_end_from writing_steps e) → is_fault_of keys e ≡ false
showing-no_fault_keys what done h = refl
showing-no_fault_keys what no_memory h = refl
showing-no_fault_keys what (fault out) h = refl
showing-no_fault_keys what e h = absurd (true≢false (sym h))

-- no run ends there by a fault of this object
pub showing-no_fault_input : (what : Shown) (e : End) → IsTrue (may_end_from writing_steps e) → is_fault_of input e ≡ false
showing-no_fault_input what done h = refl
showing-no_fault_input what no_memory h = refl
showing-no_fault_input what (fault out) h = refl
showing-no_fault_input what e h = absurd (true≢false (sym h))

pub showing-unread : (what : Shown) (P : Type 0) (e : End) → IsTrue (may_end_from writing_steps e) → OnTrue (precedes_input (preview what) e) P
unfolding precedes_input
showing-unread what P done h = tt
showing-unread what P no_memory h = tt
showing-unread what P (fault out) h = tt
showing-unread what P e h = absurd (true≢false (sym h))

pub showing-unwritten : (what : Shown) (P : Type 0) (e : End) → IsTrue (may_end_from writing_steps e) → OnTrue (is_before (is_writing_to out) writing_steps e) P → OnTrue (precedes_output (preview what) e) P
unfolding precedes_output
showing-unwritten what P done h p = tt
showing-unwritten what P no_memory h p = p
showing-unwritten what P (fault out) h p = tt
showing-unwritten what P e h p = absurd (true≢false (sym h))

-- ---- the outcomes

pub rules-may_end : (what : Shown) (o : Outcome) → IsTrue (ends_reading keys are_rules (end_of o)) → IsTrue (may_end (preview what) o)
unfolding may_end
rules-may_end what o h = rules-may_end_so what (end_of o) h

pub query-may_end : (what : Shown) (o : Outcome) → IsTrue (ends_at_query what (end_of o)) → IsTrue (may_end (preview what) o)
unfolding may_end
query-may_end what o h = query-may_end_so what (end_of o) h

pub document-may_end : (what : Shown) (o : Outcome) → IsTrue (ends_reading input is_document (end_of o)) → IsTrue (may_end (preview what) o)
unfolding may_end
document-may_end what o h = document-may_end_so what (end_of o) h

pub showing-may_end : (what : Shown) (o : Outcome) → IsTrue (may_end_from writing_steps (end_of o)) → IsTrue (may_end (preview what) o)
unfolding may_end
showing-may_end what o h = showing-may_end_so what (end_of o) h

-- ---- the query

-- where there is no query, a run ends at its reading by out of memory alone
pub nothing_asked : (e : End) (later : Type 0) → IsTrue (may_end_in (asks is_query good ∷ []) e) → OrNoMemory e later
nothing_asked no_memory later h = tt
nothing_asked (refused some_states) later h = absurd (true≢false (sym h))
nothing_asked e later h = absurd (true≢false (sym h))

-- an answer is wanted only where the query was read as a path
pub answer_read : (r : Result Path Outcome) (wanted : Wanted) → result_map_both Answer (λ refusal. refusal) r ≡ Ok wanted → (path : Path) × (r ≡ Ok path)
answer_read (Ok path) wanted h = (path, refl)
answer_read (Err o) wanted h = absurd (cc)

pub answer_refused : (r : Result Path Outcome) (o : Outcome) → result_map_both Answer (λ refusal. refusal) r ≡ Err o → r ≡ Err o
answer_refused (Ok path) o h = absurd (cc)
answer_refused (Err refusal) o h = cc

-- the path of a query for the user of the rules
abbrev path_of : List ℕ → List ℕ → Result Path Outcome
path_of query bytes = licence_of bytes >>= λ licence. query_of licence.user query

path_of_read : (query bytes : List ℕ) (licence : Licence) → licence_of bytes ≡ Ok licence → path_of query bytes ≡ query_of licence.user query
path_of_read query bytes licence is = ap (λ (r : Result Licence Outcome). r >>= λ licence. query_of licence.user query) is

told_path : (kl : Option (List ℕ)) (query : List ℕ) (licence : Licence) (path : Path) → IfSome kl (λ bytes. licence_of bytes ≡ Ok licence)
    → query_of licence.user query ≡ Ok path → IfSome kl (λ bytes. path_of query bytes ≡ Ok path)
told_path None query licence path licence_is is = tt
told_path (Some bytes) query licence path licence_is is = path_of_read query bytes licence licence_is ∙ is

told_refusal : (kl : Option (List ℕ)) (query : List ℕ) (licence : Licence) (o : Outcome) → IfSome kl (λ bytes. licence_of bytes ≡ Ok licence)
    → OrNoMemory (end_of o) (query_of licence.user query ≡ Err o) → IfSome kl (λ bytes. OrNoMemory (end_of o) (path_of query bytes ≡ Err o))
told_refusal None query licence o licence_is w = tt
told_refusal (Some bytes) query licence o licence_is w =
    or_no_memory_so (end_of o) _ _ (λ is. path_of_read query bytes licence licence_is ∙ is) w

query_ends : (what : Shown) (kl : Option (List ℕ)) (licence : Licence) (o : Outcome) (steps : List Step) → IfSome kl (λ bytes. licence_of bytes ≡ Ok licence)
    → IsTrue (ends_at_query what (end_of o)) → OrNoMemory (end_of o) (wanted_by licence.user what ≡ Err o)
    → Follows (asks is_query (query_finding what kl) ∷ steps) o
query_ends the_view kl licence o steps licence_is h w = nothing_asked (end_of o) _ h
query_ends (an_answer query) kl licence o steps licence_is h w =
    asking_ends is_query (path_of query) kl o steps h
    (told_refusal kl query licence o licence_is (or_no_memory_so (end_of o) _ _ (answer_refused (query_of licence.user query) o) w))
query_ends an_explanation kl licence o steps licence_is h w = nothing_asked (end_of o) _ h

query_passes : (what : Shown) (kl : Option (List ℕ)) (licence : Licence) (wanted : Wanted) (o : Outcome) (steps : List Step) → IfSome kl (λ bytes. licence_of bytes ≡ Ok licence)
    → wanted_by licence.user what ≡ Ok wanted → Follows steps o → Follows (asks is_query (query_finding what kl) ∷ steps) o
query_passes the_view kl licence wanted o steps licence_is is later = or_no_memory (end_of o) later
query_passes (an_answer query) kl licence wanted o steps licence_is is later =
    let read = answer_read (query_of licence.user query) wanted is in
    asking_passes is_query (path_of query) kl read.0 o steps (told_path kl query licence read.0 licence_is read.1) later
query_passes an_explanation kl licence wanted o steps licence_is is later = or_no_memory (end_of o) later

-- ---- the order of work

-- the steps after the reading of the rules, of the query, and of the document
abbrev after_query : Option (List ℕ) → List Step
after_query ql = reads input ∷ asks is_document (finding_of document_of ql) ∷ writing_steps

abbrev after_rules : Shown → Option (List ℕ) → Option (List ℕ) → List Step
after_rules what kl ql = asks is_query (query_finding what kl) ∷ after_query ql

-- the run ends at the reading of the rules
pub ends_at_rules : (what : Shown) (kl ql : Option (List ℕ)) (o : Outcome) → IsTrue (ends_reading keys are_rules (end_of o))
    → IfSome kl (λ bytes. OrNoMemory (end_of o) (OrFaultOf keys (end_of o) (licence_of bytes ≡ Err o)))
    → Follows (steps_of (preview what) kl ql) o
ends_at_rules what kl ql o h w = reading_ends keys are_rules licence_of kl o (after_rules what kl ql) h w

-- the run ends at the reading of the query
pub ends_at_wanted : (what : Shown) (kl ql : Option (List ℕ)) (licence : Licence) (o : Outcome) → IfSome kl (λ bytes. licence_of bytes ≡ Ok licence)
    → IsTrue (ends_at_query what (end_of o)) → OrNoMemory (end_of o) (wanted_by licence.user what ≡ Err o)
    → Follows (steps_of (preview what) kl ql) o
ends_at_wanted what kl ql licence o licence_is h w =
    reading_passes keys are_rules licence_of kl licence o (after_rules what kl ql) licence_is
    (query_ends what kl licence o (after_query ql) licence_is h w)

-- the run ends at the reading of the document
pub ends_at_document : (what : Shown) (kl ql : Option (List ℕ)) (licence : Licence) (wanted : Wanted) (o : Outcome) → IfSome kl (λ bytes. licence_of bytes ≡ Ok licence)
    → wanted_by licence.user what ≡ Ok wanted → IsTrue (ends_reading input is_document (end_of o))
    → IfSome ql (λ bytes. OrNoMemory (end_of o) (OrFaultOf input (end_of o) (document_of bytes ≡ Err o)))
    → Follows (steps_of (preview what) kl ql) o
ends_at_document what kl ql licence wanted o licence_is wanted_is h w =
    reading_passes keys are_rules licence_of kl licence o (after_rules what kl ql) licence_is
    (query_passes what kl licence wanted o (after_query ql) licence_is wanted_is
    (reading_ends input is_document document_of ql o writing_steps h w))

-- the run ends after everything was read
pub ends_at_showing : (what : Shown) (kl ql : Option (List ℕ)) (licence : Licence) (wanted : Wanted) (d : Doc) (o : Outcome) → IfSome kl (λ bytes. licence_of bytes ≡ Ok licence)
    → wanted_by licence.user what ≡ Ok wanted → IfSome ql (λ bytes. document_of bytes ≡ Ok d)
    → IsTrue (may_end_from writing_steps (end_of o)) → Follows (steps_of (preview what) kl ql) o
ends_at_showing what kl ql licence wanted d o licence_is wanted_is document_is h =
    reading_passes keys are_rules licence_of kl licence o (after_rules what kl ql) licence_is
    (query_passes what kl licence wanted o (after_query ql) licence_is wanted_is
    (reading_passes input is_document document_of ql d o writing_steps document_is (writing_ends o (end_of o) h)))

-- ---- the text

-- a fact about the text that was made is one about the text that is due
pub due_is_made : (what : Shown) (kl ql : Option (List ℕ)) (licence : Licence) (wanted : Wanted) (d : Doc) (P : List ℕ → Type 0) → IfSome kl (λ bytes. licence_of bytes ≡ Ok licence)
    → wanted_by licence.user what ≡ Ok wanted → IfSome ql (λ bytes. document_of bytes ≡ Ok d) → P (wanted_text d licence.rules wanted)
    → IfSome kl (λ rules. IfSome ql (λ lines. P (preview_text what rules lines)))
due_is_made what None ql licence wanted d P licence_is wanted_is document_is p = tt
due_is_made what (Some rules) None licence wanted d P licence_is wanted_is document_is p = tt
due_is_made what (Some rules) (Some lines) licence wanted d P licence_is wanted_is document_is p = rw (licence_is, document_is, wanted_is) p

-- for the command
pub ruleset steps = (on_true, where_whole, source-same, source-no_fault, sink-same, sink-no_fault, rules-text, rules-whole, rules-no_fault_input, rules-no_fault_out, rules-keys_read, rules-input_read, query-text, query-whole, query-no_fault_keys, query-no_fault_input, query-no_fault_out, query-input_read, document-text, document-whole, document-no_fault_keys, document-no_fault_out, document-input_read, document-unread, showing-no_fault_keys, showing-no_fault_input, showing-unread, showing-unwritten, rules-may_end, query-may_end, document-may_end, showing-may_end)
