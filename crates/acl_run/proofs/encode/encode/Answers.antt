use Rattle.std.proofs.Common.{ℕ, List, refl, subst}
use Rattle.acl_outcome.specs.Ends.{end_of}
use Rattle.acl_run.specs.Encode.{root_line}
use Rattle.acl_run.specs.Readers.{most_key_bytes}
use Rattle.acl_run.specs.WrittenTexts.{WritesText, WritesNote}
use Rattle.acl_run.proofs.Facts.{whatever_told}
use Rattle.acl_run.proofs.EncodeSteps.{ends_at_document, ends_at_file, ends_at_noting, due_is_made, due_note_is_made, document-text, document-note_text, file-text, file-note_text}
use Rattle.acl_run.proofs.Lengths.{ends_at_input, file-not_long, keys_end, keys_not_long, long_anyway, noting-not_long, other_end}
use Rattle.acl_run.proofs.encode.encode.Goals as goal

-- ---- the order of work

pub returns-in-Err-read_document-clause-order : goal.returns-in-Err-read_document-clause-order
returns-in-Err-read_document-clause-order g c =
    ends_at_document (g.K.Source.left c.args.keys.now) (g.Q.Source.left c.args.input.now) c.in-Ok.secret c.in-Err-read_document.outcome
    c.in-Ok.ensures.answer c.in-Err-read_document.ensures.ends c.in-Err-read_document.ensures.answer

pub returns-in-Err-make_file-clause-order : goal.returns-in-Err-make_file-clause-order
returns-in-Err-make_file-clause-order g c =
    ends_at_file (g.K.Source.left c.args.keys.now) (g.Q.Source.left c.args.input.now) c.in-Ok.secret c.in-Ok-read_document.doc c.in-Err-make_file.outcome
    c.in-Ok.ensures.answer c.in-Ok-read_document.ensures.answer c.in-Err-make_file.ensures.ends c.in-Err-make_file.ensures.refused

pub returns-clause-order : goal.returns-clause-order
returns-clause-order g c =
    ends_at_noting (g.K.Source.left c.args.keys.now) (g.Q.Source.left c.args.input.now) c.in-Ok.secret c.in-Ok-read_document.doc c.write_file.result
    c.in-Ok.ensures.answer c.in-Ok-read_document.ensures.answer c.in-Ok-make_file.ensures.has_file c.write_file.ensures.ends

-- ---- the file

pub returns-in-Err-read_document-clause-text : goal.returns-in-Err-read_document-clause-text
returns-in-Err-read_document-clause-text g c =
    whatever_told _ _ _ (λ secret lines. document-text _ _ _ (end_of c.in-Err-read_document.outcome) c.in-Err-read_document.ensures.ends)

pub returns-in-Err-make_file-clause-text : goal.returns-in-Err-make_file-clause-text
returns-in-Err-make_file-clause-text g c =
    whatever_told _ _ _ (λ secret lines. file-text _ _ _ (end_of c.in-Err-make_file.outcome) c.in-Err-make_file.ensures.ends)

pub returns-clause-text : goal.returns-clause-text
returns-clause-text g c =
    due_is_made (g.K.Source.left c.args.keys.now) (g.Q.Source.left c.args.input.now) c.in-Ok.secret c.in-Ok-read_document.doc
    (λ text. WritesText (end_of c.write_file.result) (g.W.Sink.written c.args.out.now) (g.W.Sink.written c.write_file.new.out) text)
    c.in-Ok.ensures.answer c.in-Ok-read_document.ensures.answer c.in-Ok-make_file.ensures.has_file
    (subst (λ (bytes : List ℕ). WritesText (end_of c.write_file.result) (g.W.Sink.written c.args.out.now) (g.W.Sink.written c.write_file.new.out) bytes)
    c.in-Ok-make_file.ensures.file.bytes c.write_file.ensures.text)

-- ---- the line of its root

pub returns-in-Err-read_document-clause-note_text : goal.returns-in-Err-read_document-clause-note_text
returns-in-Err-read_document-clause-note_text g c =
    whatever_told _ _ _ (λ secret lines. document-note_text _ _ _ (end_of c.in-Err-read_document.outcome) c.in-Err-read_document.ensures.ends)

pub returns-in-Err-make_file-clause-note_text : goal.returns-in-Err-make_file-clause-note_text
returns-in-Err-make_file-clause-note_text g c =
    whatever_told _ _ _ (λ secret lines. file-note_text _ _ _ (end_of c.in-Err-make_file.outcome) c.in-Err-make_file.ensures.ends)

pub returns-clause-note_text : goal.returns-clause-note_text
returns-clause-note_text g c =
    due_note_is_made (g.K.Source.left c.args.keys.now) (g.Q.Source.left c.args.input.now) c.in-Ok.secret c.in-Ok-read_document.doc
    (λ text. WritesNote (end_of c.write_file.result) (g.N.Sink.written c.args.note.now) (g.N.Sink.written c.write_file.new.note) text)
    c.in-Ok.ensures.answer c.in-Ok-read_document.ensures.answer c.in-Ok-make_file.ensures.has_file
    (subst (λ (root : List ℕ). WritesNote (end_of c.write_file.result) (g.N.Sink.written c.args.note.now) (g.N.Sink.written c.write_file.new.note) (root_line root))
    c.in-Ok-make_file.ensures.file.root c.write_file.ensures.note_text)

-- ---- lengths

pub returns-in-Err-clause-long_keys : goal.returns-in-Err-clause-long_keys
returns-in-Err-clause-long_keys g c =
    long_anyway most_key_bytes (g.K.Source.left c.args.keys.now) _ (refl, refl, refl)

pub returns-in-Err-clause-long_input : goal.returns-in-Err-clause-long_input
returns-in-Err-clause-long_input g c =
    keys_end (g.K.Source.left c.args.keys.now) c.in-Err.outcome _ c.in-Err.ensures.answer

pub returns-in-Err-read_document-clause-long_keys : goal.returns-in-Err-read_document-clause-long_keys
returns-in-Err-read_document-clause-long_keys g c =
    keys_not_long (g.K.Source.left c.args.keys.now) c.in-Ok.secret _ c.in-Ok.ensures.answer

pub returns-in-Err-read_document-clause-long_input : goal.returns-in-Err-read_document-clause-long_input
returns-in-Err-read_document-clause-long_input g c =
    ends_at_input most_key_bytes (g.K.Source.left c.args.keys.now) (end_of c.in-Err-read_document.outcome) _ _
    c.in-Ok.ensures.to_the_end c.in-Err-read_document.ensures.read

pub returns-in-Err-make_file-clause-long_keys : goal.returns-in-Err-make_file-clause-long_keys
returns-in-Err-make_file-clause-long_keys g c =
    keys_not_long (g.K.Source.left c.args.keys.now) c.in-Ok.secret _ c.in-Ok.ensures.answer

pub returns-in-Err-make_file-clause-long_input : goal.returns-in-Err-make_file-clause-long_input
returns-in-Err-make_file-clause-long_input g c =
    other_end most_key_bytes (g.K.Source.left c.args.keys.now) (end_of c.in-Err-make_file.outcome) _
    (file-not_long (end_of c.in-Err-make_file.outcome) c.in-Err-make_file.ensures.ends)

pub returns-clause-long_keys : goal.returns-clause-long_keys
returns-clause-long_keys g c =
    keys_not_long (g.K.Source.left c.args.keys.now) c.in-Ok.secret _ c.in-Ok.ensures.answer

pub returns-clause-long_input : goal.returns-clause-long_input
returns-clause-long_input g c =
    other_end most_key_bytes (g.K.Source.left c.args.keys.now) (end_of c.write_file.result) _
    (noting-not_long (end_of c.write_file.result) c.write_file.ensures.ends)
