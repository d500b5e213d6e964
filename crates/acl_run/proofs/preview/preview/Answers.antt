use Rattle.std.proofs.Common.{◌≡◌, ℕ, Ok, Err, List, refl, subst}
use Rattle.acl_outcome.specs.Ends.{end_of}
use Rattle.acl_model.specs.declared.rule.Rule.{Rule}
use Rattle.acl_run.specs.Preview.{wanted_by, wanted_text}
use Rattle.acl_run.specs.Readers.{most_key_bytes}
use Rattle.acl_words.specs.inside.Request.{meant_shown}
use Rattle.acl_run.specs.Steps.{OrNoMemory}
use Rattle.acl_run.specs.WrittenTexts.{WritesText}
use Rattle.acl_run.proofs.Facts.{whatever_told}
use Rattle.acl_run.proofs.Lengths.{ends_at_input, long_anyway, other_end, query-not_long, rules_end, rules_not_long, writing-not_long}
use Rattle.acl_run.proofs.PreviewSteps.{ends_at_rules, ends_at_wanted, ends_at_document, ends_at_showing, due_is_made, document-text}
use Rattle.acl_run.proofs.preview.preview.Goals as goal

-- ---- the order of work

pub returns-in-Err-clause-order : goal.returns-in-Err-clause-order
returns-in-Err-clause-order g c =
    ends_at_rules (meant_shown c.args.shown) (g.K.Source.left c.args.keys.now) (g.Q.Source.left c.args.input.now) c.in-Err.outcome c.in-Err.ensures.ends c.in-Err.ensures.answer

pub returns-in-Err-read_wanted-clause-order : goal.returns-in-Err-read_wanted-clause-order
returns-in-Err-read_wanted-clause-order g c =
    ends_at_wanted (meant_shown c.args.shown) (g.K.Source.left c.args.keys.now) (g.Q.Source.left c.args.input.now) c.in-Ok.licence c.in-Err-read_wanted.outcome
    c.in-Ok.ensures.answer c.in-Err-read_wanted.ensures.ends
    (subst (λ (user : List ℕ). OrNoMemory (end_of c.in-Err-read_wanted.outcome) (wanted_by user (meant_shown c.args.shown) ≡ Err c.in-Err-read_wanted.outcome)) c.as_slice.ensures c.in-Err-read_wanted.ensures.answer)

pub returns-in-Err-read_document-clause-order : goal.returns-in-Err-read_document-clause-order
returns-in-Err-read_document-clause-order g c =
    ends_at_document (meant_shown c.args.shown) (g.K.Source.left c.args.keys.now) (g.Q.Source.left c.args.input.now) c.in-Ok.licence c.in-Ok-read_wanted.wanted c.in-Err-read_document.outcome
    c.in-Ok.ensures.answer
    (subst (λ (user : List ℕ). wanted_by user (meant_shown c.args.shown) ≡ Ok c.in-Ok-read_wanted.wanted) c.as_slice.ensures c.in-Ok-read_wanted.ensures.answer)
    c.in-Err-read_document.ensures.ends c.in-Err-read_document.ensures.answer

pub returns-clause-order : goal.returns-clause-order
returns-clause-order g c =
    ends_at_showing (meant_shown c.args.shown) (g.K.Source.left c.args.keys.now) (g.Q.Source.left c.args.input.now) c.in-Ok.licence c.in-Ok-read_wanted.wanted c.in-Ok-read_document.doc c.show.result
    c.in-Ok.ensures.answer
    (subst (λ (user : List ℕ). wanted_by user (meant_shown c.args.shown) ≡ Ok c.in-Ok-read_wanted.wanted) c.as_slice.ensures c.in-Ok-read_wanted.ensures.answer)
    c.in-Ok-read_document.ensures.answer c.show.ensures.ends

-- ---- the text

pub returns-in-Err-read_document-clause-text : goal.returns-in-Err-read_document-clause-text
returns-in-Err-read_document-clause-text g c =
    whatever_told _ _ _ (λ rules lines. document-text (meant_shown c.args.shown) _ _ _ (end_of c.in-Err-read_document.outcome) c.in-Err-read_document.ensures.ends)

pub returns-clause-text : goal.returns-clause-text
returns-clause-text g c =
    due_is_made (meant_shown c.args.shown) (g.K.Source.left c.args.keys.now) (g.Q.Source.left c.args.input.now) c.in-Ok.licence c.in-Ok-read_wanted.wanted c.in-Ok-read_document.doc
    (λ text. WritesText (end_of c.show.result) (g.W.Sink.written c.args.out.now) (g.W.Sink.written c.show.new.out) text)
    c.in-Ok.ensures.answer
    (subst (λ (user : List ℕ). wanted_by user (meant_shown c.args.shown) ≡ Ok c.in-Ok-read_wanted.wanted) c.as_slice.ensures c.in-Ok-read_wanted.ensures.answer)
    c.in-Ok-read_document.ensures.answer
    (subst (λ (rules : List Rule). WritesText (end_of c.show.result) (g.W.Sink.written c.args.out.now) (g.W.Sink.written c.show.new.out) (wanted_text c.in-Ok-read_document.doc rules c.in-Ok-read_wanted.wanted)) c.as_slice-2.ensures c.show.ensures.text)

-- ---- lengths

pub returns-in-Err-clause-long_keys : goal.returns-in-Err-clause-long_keys
returns-in-Err-clause-long_keys g c =
    long_anyway most_key_bytes (g.K.Source.left c.args.keys.now) _ (refl, refl)

pub returns-in-Err-clause-long_input : goal.returns-in-Err-clause-long_input
returns-in-Err-clause-long_input g c =
    rules_end (g.K.Source.left c.args.keys.now) c.in-Err.outcome _ c.in-Err.ensures.answer

pub returns-in-Err-read_wanted-clause-long_keys : goal.returns-in-Err-read_wanted-clause-long_keys
returns-in-Err-read_wanted-clause-long_keys g c =
    rules_not_long (g.K.Source.left c.args.keys.now) c.in-Ok.licence _ c.in-Ok.ensures.answer

pub returns-in-Err-read_wanted-clause-long_input : goal.returns-in-Err-read_wanted-clause-long_input
returns-in-Err-read_wanted-clause-long_input g c =
    other_end most_key_bytes (g.K.Source.left c.args.keys.now) (end_of c.in-Err-read_wanted.outcome) _
    (query-not_long (meant_shown c.args.shown) (end_of c.in-Err-read_wanted.outcome) c.in-Err-read_wanted.ensures.ends)

pub returns-in-Err-read_document-clause-long_keys : goal.returns-in-Err-read_document-clause-long_keys
returns-in-Err-read_document-clause-long_keys g c =
    rules_not_long (g.K.Source.left c.args.keys.now) c.in-Ok.licence _ c.in-Ok.ensures.answer

pub returns-in-Err-read_document-clause-long_input : goal.returns-in-Err-read_document-clause-long_input
returns-in-Err-read_document-clause-long_input g c =
    ends_at_input most_key_bytes (g.K.Source.left c.args.keys.now) (end_of c.in-Err-read_document.outcome) _ _
    c.in-Ok.ensures.to_the_end c.in-Err-read_document.ensures.read

pub returns-clause-long_keys : goal.returns-clause-long_keys
returns-clause-long_keys g c =
    rules_not_long (g.K.Source.left c.args.keys.now) c.in-Ok.licence _ c.in-Ok.ensures.answer

pub returns-clause-long_input : goal.returns-clause-long_input
returns-clause-long_input g c =
    other_end most_key_bytes (g.K.Source.left c.args.keys.now) (end_of c.show.result) _ (writing-not_long (end_of c.show.result) c.show.ensures.ends)
