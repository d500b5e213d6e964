-- How `encode` keeps its contract, for each way in which it ends.
use Rattle.std.proofs.Common.{◌≡◌, ℕ, false, Option, Some, None, Ok, Err, List, ◌∷◌, IsTrue, IfSome, refl, sym, true≢false}
use Rattle.std.specs.Bool.{OnTrue}
use Rattle.acl_outcome.specs.declared.outcome.Outcome.{Outcome}
use Rattle.acl_outcome.specs.Ends.{keys, input, out, note, a_length, a_document, some_keys, a_size}
use Rattle.acl_outcome.specs.Ends.{End, done, no_memory, fault, refused, is_fault_of, end_of}
use Rattle.acl_model.specs.declared.document.Doc.{Doc}
use Rattle.licence.specs.declared.keys.Keys.{Keys}
use Rattle.merkle_chunks.specs.File.{file, file_root}
use Rattle.acl_words.specs.Command.{encode}
use Rattle.acl_run.specs.Encode.{root_line, encode_text, encode_note}
use Rattle.acl_run.specs.Readers.{keys_of, document_of, with_file, encodable_of}
use Rattle.acl_run.specs.inside.SourceSteps.{is_refusal, ends_reading, ends_asking}
use Rattle.acl_run.specs.Steps.{are_keys, is_document, has_file, Step, reads, asks, makes, finding_of, is_writing_to, may_end_from, is_before, OrNoMemory, OrFaultOf, Follows}
use Rattle.acl_run.specs.WrittenTexts.{WritesText, WritesNote, WhereWhole, WhereDone}
use Rattle.acl_run.specs.Work.{steps_of, untold_steps, may_end, is_after_keys, is_after_input, precedes_input, precedes_output, precedes_note}
use Rattle.acl_run.specs.inside.WritingSteps.{noting_steps}
use Rattle.acl_run.proofs.Facts.{on_true, where_whole, or_no_memory_so}
use Rattle.acl_run.proofs.Following.{reading_ends, reading_passes, asking_ends, asking_passes, noting_ends}
use Rattle.acl_run.proofs.Objects.{source-same, source-no_fault, sink-same, sink-no_fault}

-- ---- at the reading of the keys

-- at the reading of the keys: such an end is an end of the command
pub keys-may_end_so : (e : End) → IsTrue (ends_reading keys are_keys e) → IsTrue (may_end_from (untold_steps encode) e)
keys-may_end_so no_memory h = refl
keys-may_end_so (fault keys) h = refl
keys-may_end_so (refused a_length) h = refl
keys-may_end_so (refused some_keys) h = refl
keys-may_end_so e h = absurd (true≢false (sym h))

-- nothing is claimed of a text there
pub keys-text : (before : Option (List ℕ)) (after : Option (List ℕ)) (text : List ℕ) (e : End) → IsTrue (ends_reading keys are_keys e) → WritesText e before after text
keys-text before after text no_memory h = tt
keys-text before after text (fault keys) h = tt
keys-text before after text (refused a_length) h = tt
keys-text before after text (refused some_keys) h = tt
keys-text before after text e h = absurd (true≢false (sym h))

-- nor of a note
pub keys-note_text : (before : Option (List ℕ)) (after : Option (List ℕ)) (text : List ℕ) (e : End) → IsTrue (ends_reading keys are_keys e) → WritesNote e before after text
keys-note_text before after text no_memory h = tt
keys-note_text before after text (fault keys) h = tt
keys-note_text before after text (refused a_length) h = tt
keys-note_text before after text (refused some_keys) h = tt
keys-note_text before after text e h = absurd (true≢false (sym h))

-- nor of a whole text
pub keys-whole : (P : Type 0) (e : End) → IsTrue (ends_reading keys are_keys e) → WhereWhole e P
keys-whole P no_memory h = tt
keys-whole P (fault keys) h = tt
keys-whole P (refused a_length) h = tt
keys-whole P (refused some_keys) h = tt
keys-whole P e h = absurd (true≢false (sym h))

pub keys-done : (P : Type 0) (e : End) → IsTrue (ends_reading keys are_keys e) → WhereDone e P
keys-done P no_memory h = tt
keys-done P (fault keys) h = tt
keys-done P (refused a_length) h = tt
keys-done P (refused some_keys) h = tt
keys-done P e h = absurd (true≢false (sym h))

-- no run ends there by a fault of this object
pub keys-no_fault_input : (e : End) → IsTrue (ends_reading keys are_keys e) → is_fault_of input e ≡ false
keys-no_fault_input no_memory h = refl
keys-no_fault_input (fault keys) h = refl
keys-no_fault_input (refused a_length) h = refl
keys-no_fault_input (refused some_keys) h = refl
keys-no_fault_input e h = absurd (true≢false (sym h))

-- no run ends there by a fault of this object
pub keys-no_fault_out : (e : End) → IsTrue (ends_reading keys are_keys e) → is_fault_of out e ≡ false
keys-no_fault_out no_memory h = refl
keys-no_fault_out (fault keys) h = refl
keys-no_fault_out (refused a_length) h = refl
keys-no_fault_out (refused some_keys) h = refl
keys-no_fault_out e h = absurd (true≢false (sym h))

-- no run ends there by a fault of this object
pub keys-no_fault_note : (e : End) → IsTrue (ends_reading keys are_keys e) → is_fault_of note e ≡ false
keys-no_fault_note no_memory h = refl
keys-no_fault_note (fault keys) h = refl
keys-no_fault_note (refused a_length) h = refl
keys-no_fault_note (refused some_keys) h = refl
keys-no_fault_note e h = absurd (true≢false (sym h))

pub keys-keys_read : (P : Type 0) (e : End) → IsTrue (ends_reading keys are_keys e) → OnTrue (is_refusal e) P → OnTrue (is_after_keys encode e) P
unfolding is_after_keys
keys-keys_read P no_memory h p = tt
keys-keys_read P (fault keys) h p = tt
keys-keys_read P (refused a_length) h p = p
keys-keys_read P (refused some_keys) h p = p
keys-keys_read P e h p = absurd (true≢false (sym h))

pub keys-input_read : (P : Type 0) (e : End) → IsTrue (ends_reading keys are_keys e) → OnTrue (is_after_input encode e) P
unfolding is_after_input
keys-input_read P no_memory h = tt
keys-input_read P (fault keys) h = tt
keys-input_read P (refused a_length) h = tt
keys-input_read P (refused some_keys) h = tt
keys-input_read P e h = absurd (true≢false (sym h))

-- ---- at the reading of the document

-- at the reading of the document: such an end is an end of the command
pub document-may_end_so : (e : End) → IsTrue (ends_reading input is_document e) → IsTrue (may_end_from (untold_steps encode) e)
document-may_end_so no_memory h = refl
document-may_end_so (fault input) h = refl
document-may_end_so (refused a_length) h = refl
document-may_end_so (refused a_document) h = refl
document-may_end_so e h = absurd (true≢false (sym h))

-- nothing is claimed of a text there
pub document-text : (before : Option (List ℕ)) (after : Option (List ℕ)) (text : List ℕ) (e : End) → IsTrue (ends_reading input is_document e) → WritesText e before after text
document-text before after text no_memory h = tt
document-text before after text (fault input) h = tt
document-text before after text (refused a_length) h = tt
document-text before after text (refused a_document) h = tt
document-text before after text e h = absurd (true≢false (sym h))

-- nor of a note
pub document-note_text : (before : Option (List ℕ)) (after : Option (List ℕ)) (text : List ℕ) (e : End) → IsTrue (ends_reading input is_document e) → WritesNote e before after text
document-note_text before after text no_memory h = tt
document-note_text before after text (fault input) h = tt
document-note_text before after text (refused a_length) h = tt
document-note_text before after text (refused a_document) h = tt
document-note_text before after text e h = absurd (true≢false (sym h))

-- nor of a whole text
pub document-whole : (P : Type 0) (e : End) → IsTrue (ends_reading input is_document e) → WhereWhole e P
document-whole P no_memory h = tt
document-whole P (fault input) h = tt
document-whole P (refused a_length) h = tt
document-whole P (refused a_document) h = tt
document-whole P e h = absurd (true≢false (sym h))

pub document-done : (P : Type 0) (e : End) → IsTrue (ends_reading input is_document e) → WhereDone e P
document-done P no_memory h = tt
document-done P (fault input) h = tt
document-done P (refused a_length) h = tt
document-done P (refused a_document) h = tt
document-done P e h = absurd (true≢false (sym h))

-- no run ends there by a fault of this object
pub document-no_fault_keys : (e : End) → IsTrue (ends_reading input is_document e) → is_fault_of keys e ≡ false
document-no_fault_keys no_memory h = refl
document-no_fault_keys (fault input) h = refl
document-no_fault_keys (refused a_length) h = refl
document-no_fault_keys (refused a_document) h = refl
document-no_fault_keys e h = absurd (true≢false (sym h))

-- no run ends there by a fault of this object
pub document-no_fault_out : (e : End) → IsTrue (ends_reading input is_document e) → is_fault_of out e ≡ false
document-no_fault_out no_memory h = refl
document-no_fault_out (fault input) h = refl
document-no_fault_out (refused a_length) h = refl
document-no_fault_out (refused a_document) h = refl
document-no_fault_out e h = absurd (true≢false (sym h))

-- no run ends there by a fault of this object
pub document-no_fault_note : (e : End) → IsTrue (ends_reading input is_document e) → is_fault_of note e ≡ false
document-no_fault_note no_memory h = refl
document-no_fault_note (fault input) h = refl
document-no_fault_note (refused a_length) h = refl
document-no_fault_note (refused a_document) h = refl
document-no_fault_note e h = absurd (true≢false (sym h))

pub document-input_read : (P : Type 0) (e : End) → IsTrue (ends_reading input is_document e) → OnTrue (is_refusal e) P → OnTrue (is_after_input encode e) P
unfolding is_after_input
document-input_read P no_memory h p = tt
document-input_read P (fault input) h p = tt
document-input_read P (refused a_length) h p = tt
document-input_read P (refused a_document) h p = p
document-input_read P e h p = absurd (true≢false (sym h))

pub document-unread : (P : Type 0) (e : End) → IsTrue (ends_reading input is_document e) → OnTrue (precedes_input encode e) P
unfolding precedes_input
document-unread P no_memory h = tt
document-unread P (fault input) h = tt
document-unread P (refused a_length) h = tt
document-unread P (refused a_document) h = tt
document-unread P e h = absurd (true≢false (sym h))

-- ---- at the making of the file

-- at the making of the file: such an end is an end of the command
pub file-may_end_so : (e : End) → IsTrue (ends_asking has_file e) → IsTrue (may_end_from (untold_steps encode) e)
file-may_end_so no_memory h = refl
file-may_end_so (refused a_size) h = refl
file-may_end_so e h = absurd (true≢false (sym h))

-- nothing is claimed of a text there
pub file-text : (before : Option (List ℕ)) (after : Option (List ℕ)) (text : List ℕ) (e : End) → IsTrue (ends_asking has_file e) → WritesText e before after text
file-text before after text no_memory h = tt
file-text before after text (refused a_size) h = tt
file-text before after text e h = absurd (true≢false (sym h))

-- nor of a note
pub file-note_text : (before : Option (List ℕ)) (after : Option (List ℕ)) (text : List ℕ) (e : End) → IsTrue (ends_asking has_file e) → WritesNote e before after text
file-note_text before after text no_memory h = tt
file-note_text before after text (refused a_size) h = tt
file-note_text before after text e h = absurd (true≢false (sym h))

-- nor of a whole text
pub file-whole : (P : Type 0) (e : End) → IsTrue (ends_asking has_file e) → WhereWhole e P
file-whole P no_memory h = tt
file-whole P (refused a_size) h = tt
file-whole P e h = absurd (true≢false (sym h))

pub file-done : (P : Type 0) (e : End) → IsTrue (ends_asking has_file e) → WhereDone e P
file-done P no_memory h = tt
file-done P (refused a_size) h = tt
file-done P e h = absurd (true≢false (sym h))

-- no run ends there by a fault of this object
pub file-no_fault_keys : (e : End) → IsTrue (ends_asking has_file e) → is_fault_of keys e ≡ false
file-no_fault_keys no_memory h = refl
file-no_fault_keys (refused a_size) h = refl
file-no_fault_keys e h = absurd (true≢false (sym h))

-- no run ends there by a fault of this object
pub file-no_fault_input : (e : End) → IsTrue (ends_asking has_file e) → is_fault_of input e ≡ false
file-no_fault_input no_memory h = refl
file-no_fault_input (refused a_size) h = refl
file-no_fault_input e h = absurd (true≢false (sym h))

-- no run ends there by a fault of this object
pub file-no_fault_out : (e : End) → IsTrue (ends_asking has_file e) → is_fault_of out e ≡ false
file-no_fault_out no_memory h = refl
file-no_fault_out (refused a_size) h = refl
file-no_fault_out e h = absurd (true≢false (sym h))

-- no run ends there by a fault of this object
pub file-no_fault_note : (e : End) → IsTrue (ends_asking has_file e) → is_fault_of note e ≡ false
file-no_fault_note no_memory h = refl
file-no_fault_note (refused a_size) h = refl
file-no_fault_note e h = absurd (true≢false (sym h))

pub file-unread : (P : Type 0) (e : End) → IsTrue (ends_asking has_file e) → OnTrue (precedes_input encode e) P
unfolding precedes_input
file-unread P no_memory h = tt
file-unread P (refused a_size) h = tt
file-unread P e h = absurd (true≢false (sym h))

-- ---- at the writing

-- at the writing: such an end is an end of the command
pub noting-may_end_so : (e : End) → IsTrue (may_end_from noting_steps e) → IsTrue (may_end_from (untold_steps encode) e)
noting-may_end_so done h = refl
noting-may_end_so (fault out) h = refl
noting-may_end_so (fault note) h = refl
noting-may_end_so e h = absurd (true≢false (sym h))

-- no run ends there by a fault of this object
pub noting-no_fault_keys : (e : End) → IsTrue (may_end_from noting_steps e) → is_fault_of keys e ≡ false
noting-no_fault_keys done h = refl
noting-no_fault_keys (fault out) h = refl
noting-no_fault_keys (fault note) h = refl
noting-no_fault_keys e h = absurd (true≢false (sym h))

-- no run ends there by a fault of this object
pub noting-no_fault_input : (e : End) → IsTrue (may_end_from noting_steps e) → is_fault_of input e ≡ false
noting-no_fault_input done h = refl
noting-no_fault_input (fault out) h = refl
noting-no_fault_input (fault note) h = refl
noting-no_fault_input e h = absurd (true≢false (sym h))

pub noting-unread : (P : Type 0) (e : End) → IsTrue (may_end_from noting_steps e) → OnTrue (precedes_input encode e) P
unfolding precedes_input
noting-unread P done h = tt
noting-unread P (fault out) h = tt
noting-unread P (fault note) h = tt
noting-unread P e h = absurd (true≢false (sym h))

pub noting-unwritten : (P : Type 0) (e : End) → IsTrue (may_end_from noting_steps e) → OnTrue (precedes_output encode e) P
unfolding precedes_output
noting-unwritten P done h = tt
noting-unwritten P (fault out) h = tt
noting-unwritten P (fault note) h = tt
noting-unwritten P e h = absurd (true≢false (sym h))

pub noting-unnoted : (P : Type 0) (e : End) → IsTrue (may_end_from noting_steps e) → OnTrue (is_before (is_writing_to note) noting_steps e) P → OnTrue (precedes_note encode e) P
unfolding precedes_note
noting-unnoted P done h p = tt
noting-unnoted P (fault out) h p = p
noting-unnoted P (fault note) h p = tt
noting-unnoted P e h p = absurd (true≢false (sym h))

-- ---- the outcomes

pub keys-may_end : (o : Outcome) → IsTrue (ends_reading keys are_keys (end_of o)) → IsTrue (may_end encode o)
unfolding may_end
keys-may_end o h = keys-may_end_so (end_of o) h

pub document-may_end : (o : Outcome) → IsTrue (ends_reading input is_document (end_of o)) → IsTrue (may_end encode o)
unfolding may_end
document-may_end o h = document-may_end_so (end_of o) h

pub file-may_end : (o : Outcome) → IsTrue (ends_asking has_file (end_of o)) → IsTrue (may_end encode o)
unfolding may_end
file-may_end o h = file-may_end_so (end_of o) h

pub noting-may_end : (o : Outcome) → IsTrue (may_end_from noting_steps (end_of o)) → IsTrue (may_end encode o)
unfolding may_end
noting-may_end o h = noting-may_end_so (end_of o) h

-- ---- the document that is to have a file

-- a document that has a file is read as an encodable one
encodable : (ql : Option (List ℕ)) (d : Doc) → IfSome ql (λ bytes. document_of bytes ≡ Ok d) → with_file d ≡ Ok d → IfSome ql (λ bytes. encodable_of bytes ≡ Ok d)
unfolding encodable_of
encodable None d document_is has = tt
encodable (Some bytes) d document_is has = rw document_is has

-- a document that has no file is refused so by the reader of encodable documents
refused_where_read : (ql : Option (List ℕ)) (d : Doc) (o : Outcome) → IfSome ql (λ bytes. document_of bytes ≡ Ok d) → OrNoMemory (end_of o) (with_file d ≡ Err o)
    → IfSome ql (λ bytes. OrNoMemory (end_of o) (encodable_of bytes ≡ Err o))
unfolding encodable_of
refused_where_read None d o document_is w = tt
refused_where_read (Some bytes) d o document_is w = or_no_memory_so (end_of o) _ _ (λ refused. rw document_is refused) w

-- ---- the order of work

-- the steps after the reading of the document
abbrev after_document : Option (List ℕ) → List Step
after_document ql = asks has_file (finding_of encodable_of ql) ∷ makes ∷ noting_steps

-- the steps after the reading of the keys
abbrev after_keys : Option (List ℕ) → List Step
after_keys ql = reads input ∷ asks is_document (finding_of document_of ql) ∷ after_document ql

-- the run ends at the reading of the keys
pub ends_at_keys : (kl ql : Option (List ℕ)) (o : Outcome) → IsTrue (ends_reading keys are_keys (end_of o))
    → IfSome kl (λ bytes. OrNoMemory (end_of o) (OrFaultOf keys (end_of o) (keys_of bytes ≡ Err o)))
    → Follows (steps_of encode kl ql) o
ends_at_keys kl ql o h w = reading_ends keys are_keys keys_of kl o (after_keys ql) h w

-- the run ends at the reading of the document
pub ends_at_document : (kl ql : Option (List ℕ)) (secret : Keys) (o : Outcome) → IfSome kl (λ bytes. keys_of bytes ≡ Ok secret)
    → IsTrue (ends_reading input is_document (end_of o))
    → IfSome ql (λ bytes. OrNoMemory (end_of o) (OrFaultOf input (end_of o) (document_of bytes ≡ Err o)))
    → Follows (steps_of encode kl ql) o
ends_at_document kl ql secret o keys_is h w =
    reading_passes keys are_keys keys_of kl secret o (after_keys ql) keys_is
    (reading_ends input is_document document_of ql o (after_document ql) h w)

-- the run ends at the making of the file
pub ends_at_file : (kl ql : Option (List ℕ)) (secret : Keys) (d : Doc) (o : Outcome) → IfSome kl (λ bytes. keys_of bytes ≡ Ok secret)
    → IfSome ql (λ bytes. document_of bytes ≡ Ok d) → IsTrue (ends_asking has_file (end_of o))
    → OrNoMemory (end_of o) (with_file d ≡ Err o)
    → Follows (steps_of encode kl ql) o
ends_at_file kl ql secret d o keys_is document_is h w =
    reading_passes keys are_keys keys_of kl secret o (after_keys ql) keys_is
    (reading_passes input is_document document_of ql d o (after_document ql) document_is
    (asking_ends has_file encodable_of ql o (makes ∷ noting_steps) h (refused_where_read ql d o document_is w)))

-- the run ends at the writing, or after it
pub ends_at_noting : (kl ql : Option (List ℕ)) (secret : Keys) (d : Doc) (o : Outcome) → IfSome kl (λ bytes. keys_of bytes ≡ Ok secret)
    → IfSome ql (λ bytes. document_of bytes ≡ Ok d) → with_file d ≡ Ok d → IsTrue (may_end_from noting_steps (end_of o))
    → Follows (steps_of encode kl ql) o
ends_at_noting kl ql secret d o keys_is document_is has h =
    reading_passes keys are_keys keys_of kl secret o (after_keys ql) keys_is
    (reading_passes input is_document document_of ql d o (after_document ql) document_is
    (asking_passes has_file encodable_of ql d o (makes ∷ noting_steps) (encodable ql d document_is has) (noting_ends o (end_of o) h)))

-- ---- what is written

told_text : (secret lines : List ℕ) (said : Keys) (d : Doc) (P : List ℕ → Type 0) → keys_of secret ≡ Ok said → encodable_of lines ≡ Ok d
    → P (file d said.document) → P (encode_text secret lines)
told_text secret lines said d P keys_is document_is p = rw (keys_is, document_is) p

told_note : (secret lines : List ℕ) (said : Keys) (d : Doc) (P : List ℕ → Type 0) → keys_of secret ≡ Ok said → encodable_of lines ≡ Ok d
    → P (root_line (file_root d said.document)) → P (encode_note secret lines)
told_note secret lines said d P keys_is document_is p = rw (keys_is, document_is) p

-- a fact about the file that was made is one about the text that is due
pub due_is_made : (kl ql : Option (List ℕ)) (secret : Keys) (d : Doc) (P : List ℕ → Type 0) → IfSome kl (λ bytes. keys_of bytes ≡ Ok secret)
    → IfSome ql (λ bytes. document_of bytes ≡ Ok d) → with_file d ≡ Ok d → P (file d secret.document)
    → IfSome kl (λ keys. IfSome ql (λ lines. P (encode_text keys lines)))
due_is_made None ql secret d P keys_is document_is has p = tt
due_is_made (Some bytes) None secret d P keys_is document_is has p = tt
due_is_made (Some bytes) (Some lines) secret d P keys_is document_is has p =
    told_text bytes lines secret d P keys_is (encodable (Some lines) d document_is has) p

-- a fact about the line of its root is one about the note that is due
pub due_note_is_made : (kl ql : Option (List ℕ)) (secret : Keys) (d : Doc) (P : List ℕ → Type 0) → IfSome kl (λ bytes. keys_of bytes ≡ Ok secret)
    → IfSome ql (λ bytes. document_of bytes ≡ Ok d) → with_file d ≡ Ok d → P (root_line (file_root d secret.document))
    → IfSome kl (λ keys. IfSome ql (λ lines. P (encode_note keys lines)))
due_note_is_made None ql secret d P keys_is document_is has p = tt
due_note_is_made (Some bytes) None secret d P keys_is document_is has p = tt
due_note_is_made (Some bytes) (Some lines) secret d P keys_is document_is has p =
    told_note bytes lines secret d P keys_is (encodable (Some lines) d document_is has) p

-- for the command
pub ruleset steps = (on_true, where_whole, source-same, source-no_fault, sink-same, sink-no_fault, keys-text, keys-note_text, keys-whole, keys-done, keys-no_fault_input, keys-no_fault_out, keys-no_fault_note, keys-keys_read, keys-input_read, document-text, document-note_text, document-whole, document-done, document-no_fault_keys, document-no_fault_out, document-no_fault_note, document-input_read, document-unread, file-text, file-note_text, file-whole, file-done, file-no_fault_keys, file-no_fault_input, file-no_fault_out, file-no_fault_note, file-unread, noting-no_fault_keys, noting-no_fault_input, noting-unread, noting-unwritten, noting-unnoted, keys-may_end, document-may_end, file-may_end, noting-may_end)
