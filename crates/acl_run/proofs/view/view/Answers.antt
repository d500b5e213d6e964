use Rattle.std.proofs.Common.{◌≡◌, ℕ, Ok, Err, List, refl, subst}
use Rattle.std.specs.Io.KnownBytes.{Appends}
use Rattle.acl_model.specs.declared.rule.Rule.{Rule}
use Rattle.acl_outside.specs.Outside.{AppendsPart, StoreRead}
use Rattle.acl_outcome.specs.Ends.{end_of}
use Rattle.fragment_open.specs.Served.{IsRegular}
use Rattle.fragment_open.proofs.ClimbLemmas.{Told-weaker}
use Rattle.file_reading.specs.FileEnds.{FileEnds}
use Rattle.acl_words.specs.Command.{Command}
use Rattle.acl_run.specs.Headline.{EndsWithoutDocument, WritesShown, HasServedCause, HasStoreCause, IsUnrefusedEnd, IsRefusedAsServed, IsRefusedAsShown}
use Rattle.acl_run.specs.inside.Opening.{IsStoreRefused, IsStoreWithoutDocument, StoreEnds}
use Rattle.acl_run.specs.Outcomes.{is_bad_fragment_outcome}
use Rattle.acl_run.specs.Preview.{wanted_by, wanted_text}
use Rattle.acl_run.specs.Readers.{most_key_bytes}
use Rattle.acl_words.specs.inside.Request.{meant_shown}
use Rattle.acl_run.specs.Steps.{OrNoMemory}
use Rattle.acl_run.specs.WrittenTexts.{WhereWhole, WritesText}
use Rattle.acl_run.proofs.HeadlineLemmas.{cause_anyway, due_anyway, each_due, held_due, opened_anyway, prefix_of_none, reads_are, unasked, unshown, unshown_document, written_shown}
use Rattle.acl_run.proofs.HonestEnds.{keys_honest, licence_honest, wanted_honest, store_honest, writing_prefix, writing_whole, writing_honest}
use Rattle.acl_run.proofs.Lengths.{ends_at_input, keys_end, keys_not_long, long_anyway, opening-not_long, other_end, query-not_long, writing-not_long}
use Rattle.acl_run.proofs.Served.{checked_anyway, refusal_served, refused_alone, served_anyway, served_unasked, unasked_checked, unrefused_alone, unrefused_unasked}
use Rattle.acl_run.proofs.StoreEnds.{refusal_cause, refusal_regular, refused_so, unrefused_so}
use Rattle.acl_run.proofs.ViewOrder.{ends_at_keys, ends_at_licence, ends_at_opening, ends_at_showing, ends_at_wanted}
use Rattle.acl_run.proofs.ViewSteps.{keys-whole, licence-whole, query-whole, store-whole, keys-not_of_store, licence-not_of_store, query-not_of_store, showing-not_of_store}
use Rattle.acl_run.proofs.view.view.Goals as goal

-- ---- the order of work

pub returns-in-Err-clause-order : goal.returns-in-Err-clause-order
returns-in-Err-clause-order g c =
    ends_at_keys (meant_shown c.args.shown) (g.K.Source.left c.args.keys.now) (g.Q.Source.left c.args.input.now) c.in-Err.outcome c.in-Err.ensures.ends c.in-Err.ensures.answer

pub returns-in-Err-read_sealed_licence-clause-order : goal.returns-in-Err-read_sealed_licence-clause-order
returns-in-Err-read_sealed_licence-clause-order g c =
    ends_at_licence (meant_shown c.args.shown) (g.K.Source.left c.args.keys.now) (g.Q.Source.left c.args.input.now) c.in-Ok.secret c.in-Err-read_sealed_licence.outcome
    c.in-Ok.ensures.answer c.in-Err-read_sealed_licence.ensures.ends c.in-Err-read_sealed_licence.ensures.answer

pub returns-in-Err-read_wanted-clause-order : goal.returns-in-Err-read_wanted-clause-order
returns-in-Err-read_wanted-clause-order g c =
    ends_at_wanted (meant_shown c.args.shown) (g.K.Source.left c.args.keys.now) (g.Q.Source.left c.args.input.now) c.in-Ok.secret c.in-Err-read_wanted.outcome
    c.in-Ok.ensures.answer c.in-Ok-read_sealed_licence.licence c.in-Ok-read_sealed_licence.ensures.answer c.in-Err-read_wanted.ensures.ends
    (subst (λ (user : List ℕ). OrNoMemory (end_of c.in-Err-read_wanted.outcome) (wanted_by user (meant_shown c.args.shown) ≡ Err c.in-Err-read_wanted.outcome)) c.as_slice.ensures c.in-Err-read_wanted.ensures.answer)

pub returns-in-Err-read_store-clause-order : goal.returns-in-Err-read_store-clause-order
returns-in-Err-read_store-clause-order g c =
    ends_at_opening (meant_shown c.args.shown) (g.K.Source.left c.args.keys.now) (g.Q.Source.left c.args.input.now) c.in-Ok.secret c.in-Err-read_store.outcome
    c.in-Ok.ensures.answer c.in-Ok-read_sealed_licence.licence c.in-Ok-read_sealed_licence.ensures.answer c.in-Ok-read_wanted.wanted
    (subst (λ (user : List ℕ). wanted_by user (meant_shown c.args.shown) ≡ Ok c.in-Ok-read_wanted.wanted) c.as_slice.ensures c.in-Ok-read_wanted.ensures.answer)
    c.in-Err-read_store.ensures.ends

pub returns-clause-order : goal.returns-clause-order
returns-clause-order g c =
    ends_at_showing (meant_shown c.args.shown) (g.K.Source.left c.args.keys.now) (g.Q.Source.left c.args.input.now) c.in-Ok.secret c.show.result
    c.in-Ok.ensures.answer c.in-Ok-read_sealed_licence.licence c.in-Ok-read_sealed_licence.ensures.answer c.in-Ok-read_wanted.wanted
    (subst (λ (user : List ℕ). wanted_by user (meant_shown c.args.shown) ≡ Ok c.in-Ok-read_wanted.wanted) c.as_slice.ensures c.in-Ok-read_wanted.ensures.answer)
    c.show.ensures.ends

-- ---- the keys are refused

pub returns-in-Err-clause-prefix : goal.returns-in-Err-clause-prefix
returns-in-Err-clause-prefix g c = prefix_of_none (Command.view (meant_shown c.args.shown)) (g.K.Source.left c.args.keys.now) (g.Q.Source.left c.args.input.now) (g.S.Store.served c.args.store.now) (g.S.Store.served c.args.store.now) IsRegular (g.W.Sink.written c.args.out.now) (unasked (g.S.Store.served c.args.store.now))

pub returns-in-Err-clause-whole : goal.returns-in-Err-clause-whole
returns-in-Err-clause-whole g c =
    due_anyway (Command.view (meant_shown c.args.shown)) (g.K.Source.left c.args.keys.now) (g.Q.Source.left c.args.input.now) (g.S.Store.served c.args.store.now) (g.S.Store.served c.args.store.now) IsRegular
    (λ text. WhereWhole (end_of c.in-Err.outcome) (Appends (g.W.Sink.written c.args.out.now) (g.W.Sink.written c.args.out.now) text)) (λ text. keys-whole (meant_shown c.args.shown) _ (end_of c.in-Err.outcome) c.in-Err.ensures.ends) (unasked (g.S.Store.served c.args.store.now))

pub returns-in-Err-clause-honest : goal.returns-in-Err-clause-honest
returns-in-Err-clause-honest g c = keys_honest (meant_shown c.args.shown) (g.K.Source.left c.args.keys.now) (g.Q.Source.left c.args.input.now) (g.S.Store.holds c.args.store.now) c.in-Err.outcome (λ text. Appends (g.W.Sink.written c.args.out.now) (g.W.Sink.written c.args.out.now) text) c.in-Err.ensures.ends c.in-Err.ensures.answer

pub returns-in-Err-clause-regular : goal.returns-in-Err-clause-regular
returns-in-Err-clause-regular g c = unasked (g.S.Store.served c.args.store.now)

pub returns-in-Err-clause-cause : goal.returns-in-Err-clause-cause
returns-in-Err-clause-cause g c =
    cause_anyway (Command.view (meant_shown c.args.shown)) (g.K.Source.left c.args.keys.now) (g.Q.Source.left c.args.input.now) (g.S.Store.served c.args.store.now) (g.S.Store.served c.args.store.now) IsRegular c.in-Err.outcome (keys-not_of_store (meant_shown c.args.shown) (end_of c.in-Err.outcome) c.in-Err.ensures.ends) (unasked (g.S.Store.served c.args.store.now))

pub returns-in-Err-clause-refused : goal.returns-in-Err-clause-refused
returns-in-Err-clause-refused g c = unshown (Command.view (meant_shown c.args.shown)) (g.K.Source.left c.args.keys.now) (g.Q.Source.left c.args.input.now) (g.S.Store.served c.args.store.now) c.in-Err.outcome

-- ---- the licence is refused

pub returns-in-Err-read_sealed_licence-clause-prefix : goal.returns-in-Err-read_sealed_licence-clause-prefix
returns-in-Err-read_sealed_licence-clause-prefix g c = prefix_of_none (Command.view (meant_shown c.args.shown)) (g.K.Source.left c.args.keys.now) (g.Q.Source.left c.args.input.now) (g.S.Store.served c.args.store.now) (g.S.Store.served c.args.store.now) IsRegular (g.W.Sink.written c.args.out.now) (unasked (g.S.Store.served c.args.store.now))

pub returns-in-Err-read_sealed_licence-clause-whole : goal.returns-in-Err-read_sealed_licence-clause-whole
returns-in-Err-read_sealed_licence-clause-whole g c =
    due_anyway (Command.view (meant_shown c.args.shown)) (g.K.Source.left c.args.keys.now) (g.Q.Source.left c.args.input.now) (g.S.Store.served c.args.store.now) (g.S.Store.served c.args.store.now) IsRegular
    (λ text. WhereWhole (end_of c.in-Err-read_sealed_licence.outcome) (Appends (g.W.Sink.written c.args.out.now) (g.W.Sink.written c.args.out.now) text)) (λ text. licence-whole (meant_shown c.args.shown) _ (end_of c.in-Err-read_sealed_licence.outcome) c.in-Err-read_sealed_licence.ensures.ends) (unasked (g.S.Store.served c.args.store.now))

pub returns-in-Err-read_sealed_licence-clause-honest : goal.returns-in-Err-read_sealed_licence-clause-honest
returns-in-Err-read_sealed_licence-clause-honest g c =
    licence_honest (meant_shown c.args.shown) (g.K.Source.left c.args.keys.now) (g.Q.Source.left c.args.input.now) (g.S.Store.holds c.args.store.now) c.in-Ok.secret c.in-Err-read_sealed_licence.outcome (λ text. Appends (g.W.Sink.written c.args.out.now) (g.W.Sink.written c.args.out.now) text)
    c.in-Ok.ensures.answer c.in-Err-read_sealed_licence.ensures.ends c.in-Err-read_sealed_licence.ensures.answer

pub returns-in-Err-read_sealed_licence-clause-regular : goal.returns-in-Err-read_sealed_licence-clause-regular
returns-in-Err-read_sealed_licence-clause-regular g c = unasked (g.S.Store.served c.args.store.now)

pub returns-in-Err-read_sealed_licence-clause-cause : goal.returns-in-Err-read_sealed_licence-clause-cause
returns-in-Err-read_sealed_licence-clause-cause g c =
    cause_anyway (Command.view (meant_shown c.args.shown)) (g.K.Source.left c.args.keys.now) (g.Q.Source.left c.args.input.now) (g.S.Store.served c.args.store.now) (g.S.Store.served c.args.store.now) IsRegular c.in-Err-read_sealed_licence.outcome (licence-not_of_store (meant_shown c.args.shown) (end_of c.in-Err-read_sealed_licence.outcome) c.in-Err-read_sealed_licence.ensures.ends) (unasked (g.S.Store.served c.args.store.now))

pub returns-in-Err-read_sealed_licence-clause-refused : goal.returns-in-Err-read_sealed_licence-clause-refused
returns-in-Err-read_sealed_licence-clause-refused g c = unshown (Command.view (meant_shown c.args.shown)) (g.K.Source.left c.args.keys.now) (g.Q.Source.left c.args.input.now) (g.S.Store.served c.args.store.now) c.in-Err-read_sealed_licence.outcome

-- ---- the query is refused

pub returns-in-Err-read_wanted-clause-prefix : goal.returns-in-Err-read_wanted-clause-prefix
returns-in-Err-read_wanted-clause-prefix g c = prefix_of_none (Command.view (meant_shown c.args.shown)) (g.K.Source.left c.args.keys.now) (g.Q.Source.left c.args.input.now) (g.S.Store.served c.args.store.now) (g.S.Store.served c.args.store.now) IsRegular (g.W.Sink.written c.args.out.now) (unasked (g.S.Store.served c.args.store.now))

pub returns-in-Err-read_wanted-clause-whole : goal.returns-in-Err-read_wanted-clause-whole
returns-in-Err-read_wanted-clause-whole g c =
    due_anyway (Command.view (meant_shown c.args.shown)) (g.K.Source.left c.args.keys.now) (g.Q.Source.left c.args.input.now) (g.S.Store.served c.args.store.now) (g.S.Store.served c.args.store.now) IsRegular
    (λ text. WhereWhole (end_of c.in-Err-read_wanted.outcome) (Appends (g.W.Sink.written c.args.out.now) (g.W.Sink.written c.args.out.now) text)) (λ text. query-whole (meant_shown c.args.shown) _ (end_of c.in-Err-read_wanted.outcome) c.in-Err-read_wanted.ensures.ends) (unasked (g.S.Store.served c.args.store.now))

pub returns-in-Err-read_wanted-clause-honest : goal.returns-in-Err-read_wanted-clause-honest
returns-in-Err-read_wanted-clause-honest g c =
    wanted_honest (meant_shown c.args.shown) (g.K.Source.left c.args.keys.now) (g.Q.Source.left c.args.input.now) (g.S.Store.holds c.args.store.now) c.in-Ok.secret c.in-Ok-read_sealed_licence.licence c.in-Err-read_wanted.outcome (λ text. Appends (g.W.Sink.written c.args.out.now) (g.W.Sink.written c.args.out.now) text)
    c.in-Ok.ensures.answer c.in-Ok-read_sealed_licence.ensures.answer c.in-Err-read_wanted.ensures.ends
    (subst (λ (user : List ℕ). OrNoMemory (end_of c.in-Err-read_wanted.outcome) (wanted_by user (meant_shown c.args.shown) ≡ Err c.in-Err-read_wanted.outcome)) c.as_slice.ensures c.in-Err-read_wanted.ensures.answer)

pub returns-in-Err-read_wanted-clause-regular : goal.returns-in-Err-read_wanted-clause-regular
returns-in-Err-read_wanted-clause-regular g c = unasked (g.S.Store.served c.args.store.now)

pub returns-in-Err-read_wanted-clause-cause : goal.returns-in-Err-read_wanted-clause-cause
returns-in-Err-read_wanted-clause-cause g c =
    cause_anyway (Command.view (meant_shown c.args.shown)) (g.K.Source.left c.args.keys.now) (g.Q.Source.left c.args.input.now) (g.S.Store.served c.args.store.now) (g.S.Store.served c.args.store.now) IsRegular c.in-Err-read_wanted.outcome (query-not_of_store (meant_shown c.args.shown) (end_of c.in-Err-read_wanted.outcome) c.in-Err-read_wanted.ensures.ends) (unasked (g.S.Store.served c.args.store.now))

pub returns-in-Err-read_wanted-clause-refused : goal.returns-in-Err-read_wanted-clause-refused
returns-in-Err-read_wanted-clause-refused g c = unshown (Command.view (meant_shown c.args.shown)) (g.K.Source.left c.args.keys.now) (g.Q.Source.left c.args.input.now) (g.S.Store.served c.args.store.now) c.in-Err-read_wanted.outcome

-- ---- the store is refused

pub returns-in-Err-read_store-clause-prefix : goal.returns-in-Err-read_store-clause-prefix
returns-in-Err-read_store-clause-prefix g c = prefix_of_none (Command.view (meant_shown c.args.shown)) (g.K.Source.left c.args.keys.now) (g.Q.Source.left c.args.input.now) (g.S.Store.served c.args.store.now) (g.S.Store.served c.read_store.new.store) (StoreEnds (Err c.in-Err-read_store.outcome) c.in-Ok-read_sealed_licence.licence.root c.in-Ok.secret.document) (g.W.Sink.written c.args.out.now) c.in-Err-read_store.ensures.told

pub returns-in-Err-read_store-clause-whole : goal.returns-in-Err-read_store-clause-whole
returns-in-Err-read_store-clause-whole g c =
    due_anyway (Command.view (meant_shown c.args.shown)) (g.K.Source.left c.args.keys.now) (g.Q.Source.left c.args.input.now) (g.S.Store.served c.args.store.now) (g.S.Store.served c.read_store.new.store) (StoreEnds (Err c.in-Err-read_store.outcome) c.in-Ok-read_sealed_licence.licence.root c.in-Ok.secret.document)
    (λ text. WhereWhole (end_of c.in-Err-read_store.outcome) (Appends (g.W.Sink.written c.args.out.now) (g.W.Sink.written c.args.out.now) text)) (λ text. store-whole (meant_shown c.args.shown) _ (end_of c.in-Err-read_store.outcome) c.in-Err-read_store.ensures.ends) c.in-Err-read_store.ensures.told

pub returns-in-Err-read_store-clause-honest : goal.returns-in-Err-read_store-clause-honest
returns-in-Err-read_store-clause-honest g c =
    store_honest (meant_shown c.args.shown) (g.K.Source.left c.args.keys.now) (g.Q.Source.left c.args.input.now) c.in-Ok.secret c.in-Ok-read_sealed_licence.licence c.in-Ok-read_wanted.wanted
    (subst (λ (user : List ℕ). wanted_by user (meant_shown c.args.shown) ≡ Ok c.in-Ok-read_wanted.wanted) c.as_slice.ensures c.in-Ok-read_wanted.ensures.answer)
    c.in-Ok.ensures.answer c.in-Ok-read_sealed_licence.ensures.answer
    (g.S.Store.holds c.args.store.now) c.in-Err-read_store.outcome (λ text. Appends (g.W.Sink.written c.args.out.now) (g.W.Sink.written c.args.out.now) text) c.in-Err-read_store.ensures.held

pub returns-in-Err-read_store-clause-regular : goal.returns-in-Err-read_store-clause-regular
returns-in-Err-read_store-clause-regular g c =
    Told-weaker (g.S.Store.served c.args.store.now) (g.S.Store.served c.read_store.new.store) (StoreEnds (Err c.in-Err-read_store.outcome) c.in-Ok-read_sealed_licence.licence.root c.in-Ok.secret.document) IsRegular c.in-Err-read_store.ensures.told
    (refusal_regular c.in-Err-read_store.outcome c.in-Ok-read_sealed_licence.licence.root c.in-Ok.secret.document)

pub returns-in-Err-read_store-clause-cause : goal.returns-in-Err-read_store-clause-cause
returns-in-Err-read_store-clause-cause g c =
    reads_are (meant_shown c.args.shown) (g.K.Source.left c.args.keys.now) (g.Q.Source.left c.args.input.now) c.in-Ok.secret c.in-Ok-read_sealed_licence.licence c.in-Ok-read_wanted.wanted
    (subst (λ (user : List ℕ). wanted_by user (meant_shown c.args.shown) ≡ Ok c.in-Ok-read_wanted.wanted) c.as_slice.ensures c.in-Ok-read_wanted.ensures.answer)
    c.in-Ok.ensures.answer c.in-Ok-read_sealed_licence.ensures.answer
    (g.S.Store.served c.args.store.now) (g.S.Store.served c.read_store.new.store) (StoreEnds (Err c.in-Err-read_store.outcome) c.in-Ok-read_sealed_licence.licence.root c.in-Ok.secret.document)
    (λ reads keys licence wanted. HasStoreCause c.in-Err-read_store.outcome licence.root keys.document reads) c.in-Err-read_store.ensures.told
    (refusal_cause c.in-Err-read_store.outcome c.in-Ok-read_sealed_licence.licence.root c.in-Ok.secret.document)

pub returns-in-Err-read_store-clause-refused : goal.returns-in-Err-read_store-clause-refused
returns-in-Err-read_store-clause-refused g c =
    reads_are (meant_shown c.args.shown) (g.K.Source.left c.args.keys.now) (g.Q.Source.left c.args.input.now) c.in-Ok.secret c.in-Ok-read_sealed_licence.licence c.in-Ok-read_wanted.wanted
    (subst (λ (user : List ℕ). wanted_by user (meant_shown c.args.shown) ≡ Ok c.in-Ok-read_wanted.wanted) c.as_slice.ensures c.in-Ok-read_wanted.ensures.answer)
    c.in-Ok.ensures.answer c.in-Ok-read_sealed_licence.ensures.answer
    (g.S.Store.served c.args.store.now) (g.S.Store.served c.read_store.new.store) (IsStoreRefused (Err c.in-Err-read_store.outcome) c.in-Ok-read_sealed_licence.licence.root c.in-Ok.secret.document)
    (λ reads keys licence wanted. IsRefusedAsShown c.in-Err-read_store.outcome licence.root keys.document reads) c.in-Err-read_store.ensures.exact
    (refused_so c.in-Err-read_store.outcome c.in-Ok-read_sealed_licence.licence.root c.in-Ok.secret.document)

-- ---- all was read

pub returns-clause-prefix : goal.returns-clause-prefix
returns-clause-prefix g c =
    each_due (meant_shown c.args.shown) (g.K.Source.left c.args.keys.now) (g.Q.Source.left c.args.input.now) c.in-Ok.secret c.in-Ok-read_sealed_licence.licence c.in-Ok-read_wanted.wanted
    (subst (λ (user : List ℕ). wanted_by user (meant_shown c.args.shown) ≡ Ok c.in-Ok-read_wanted.wanted) c.as_slice.ensures c.in-Ok-read_wanted.ensures.answer)
    c.in-Ok.ensures.answer c.in-Ok-read_sealed_licence.ensures.answer
    (g.S.Store.served c.args.store.now) (g.S.Store.served c.read_store.new.store) c.in-Ok-read_store.doc (λ text. AppendsPart (g.W.Sink.written c.args.out.now) (g.W.Sink.written c.show.new.out) text) c.in-Ok-read_store.ensures.told
    (writing_prefix g.W.Sink.written (end_of c.show.result) c.args.out.now c.show.new.out (wanted_text c.in-Ok-read_store.doc c.in-Ok-read_sealed_licence.licence.rules c.in-Ok-read_wanted.wanted) c.show.ensures.ends
    (subst (λ (rules : List Rule). WritesText (end_of c.show.result) (g.W.Sink.written c.args.out.now) (g.W.Sink.written c.show.new.out) (wanted_text c.in-Ok-read_store.doc rules c.in-Ok-read_wanted.wanted)) c.as_slice-2.ensures c.show.ensures.text)
    c.show.ensures.unwritten)

pub returns-clause-whole : goal.returns-clause-whole
returns-clause-whole g c =
    each_due (meant_shown c.args.shown) (g.K.Source.left c.args.keys.now) (g.Q.Source.left c.args.input.now) c.in-Ok.secret c.in-Ok-read_sealed_licence.licence c.in-Ok-read_wanted.wanted
    (subst (λ (user : List ℕ). wanted_by user (meant_shown c.args.shown) ≡ Ok c.in-Ok-read_wanted.wanted) c.as_slice.ensures c.in-Ok-read_wanted.ensures.answer)
    c.in-Ok.ensures.answer c.in-Ok-read_sealed_licence.ensures.answer
    (g.S.Store.served c.args.store.now) (g.S.Store.served c.read_store.new.store) c.in-Ok-read_store.doc (λ text. WhereWhole (end_of c.show.result) (Appends (g.W.Sink.written c.args.out.now) (g.W.Sink.written c.show.new.out) text)) c.in-Ok-read_store.ensures.told
    (writing_whole (end_of c.show.result) (g.W.Sink.written c.args.out.now) (g.W.Sink.written c.show.new.out) (wanted_text c.in-Ok-read_store.doc c.in-Ok-read_sealed_licence.licence.rules c.in-Ok-read_wanted.wanted) c.show.ensures.ends
    (subst (λ (rules : List Rule). WritesText (end_of c.show.result) (g.W.Sink.written c.args.out.now) (g.W.Sink.written c.show.new.out) (wanted_text c.in-Ok-read_store.doc rules c.in-Ok-read_wanted.wanted)) c.as_slice-2.ensures c.show.ensures.text))

pub returns-clause-honest : goal.returns-clause-honest
returns-clause-honest g c =
    held_due (meant_shown c.args.shown) (g.K.Source.left c.args.keys.now) (g.Q.Source.left c.args.input.now) c.in-Ok.secret c.in-Ok-read_sealed_licence.licence c.in-Ok-read_wanted.wanted
    (subst (λ (user : List ℕ). wanted_by user (meant_shown c.args.shown) ≡ Ok c.in-Ok-read_wanted.wanted) c.as_slice.ensures c.in-Ok-read_wanted.ensures.answer)
    c.in-Ok.ensures.answer c.in-Ok-read_sealed_licence.ensures.answer
    (g.S.Store.holds c.args.store.now) c.in-Ok-read_store.doc (λ text. IsUnrefusedEnd (end_of c.show.result) × WhereWhole (end_of c.show.result) (Appends (g.W.Sink.written c.args.out.now) (g.W.Sink.written c.show.new.out) text)) c.in-Ok-read_store.ensures.held (
      writing_honest (end_of c.show.result) c.show.ensures.ends,
      writing_whole (end_of c.show.result) (g.W.Sink.written c.args.out.now) (g.W.Sink.written c.show.new.out) (wanted_text c.in-Ok-read_store.doc c.in-Ok-read_sealed_licence.licence.rules c.in-Ok-read_wanted.wanted) c.show.ensures.ends
          (subst (λ (rules : List Rule). WritesText (end_of c.show.result) (g.W.Sink.written c.args.out.now) (g.W.Sink.written c.show.new.out) (wanted_text c.in-Ok-read_store.doc rules c.in-Ok-read_wanted.wanted)) c.as_slice-2.ensures c.show.ensures.text),
    )

pub returns-clause-regular : goal.returns-clause-regular
returns-clause-regular g c = Told-weaker (g.S.Store.served c.args.store.now) (g.S.Store.served c.read_store.new.store) (FileEnds (Ok c.in-Ok-read_store.doc) c.in-Ok-read_sealed_licence.licence.root c.in-Ok.secret.document) IsRegular c.in-Ok-read_store.ensures.told (λ reads read. read.regular)

pub returns-clause-cause : goal.returns-clause-cause
returns-clause-cause g c =
    cause_anyway (Command.view (meant_shown c.args.shown)) (g.K.Source.left c.args.keys.now) (g.Q.Source.left c.args.input.now) (g.S.Store.served c.args.store.now) (g.S.Store.served c.read_store.new.store) (FileEnds (Ok c.in-Ok-read_store.doc) c.in-Ok-read_sealed_licence.licence.root c.in-Ok.secret.document)
    c.show.result (showing-not_of_store (meant_shown c.args.shown) (end_of c.show.result) c.show.ensures.ends) c.in-Ok-read_store.ensures.told

pub returns-clause-refused : goal.returns-clause-refused
returns-clause-refused g c =
    reads_are (meant_shown c.args.shown) (g.K.Source.left c.args.keys.now) (g.Q.Source.left c.args.input.now) c.in-Ok.secret c.in-Ok-read_sealed_licence.licence c.in-Ok-read_wanted.wanted
    (subst (λ (user : List ℕ). wanted_by user (meant_shown c.args.shown) ≡ Ok c.in-Ok-read_wanted.wanted) c.as_slice.ensures c.in-Ok-read_wanted.ensures.answer)
    c.in-Ok.ensures.answer c.in-Ok-read_sealed_licence.ensures.answer
    (g.S.Store.served c.args.store.now) (g.S.Store.served c.read_store.new.store) (IsStoreRefused (Ok c.in-Ok-read_store.doc) c.in-Ok-read_sealed_licence.licence.root c.in-Ok.secret.document)
    (λ reads keys licence wanted. IsRefusedAsShown c.show.result licence.root keys.document reads) c.in-Ok-read_store.ensures.exact
    (unrefused_so c.in-Ok-read_store.doc c.show.result c.in-Ok-read_sealed_licence.licence.root c.in-Ok.secret.document)

-- ---- lengths, and what the reads show without root and key

pub returns-in-Err-clause-long_keys : goal.returns-in-Err-clause-long_keys
returns-in-Err-clause-long_keys g c =
    long_anyway most_key_bytes (g.K.Source.left c.args.keys.now) _ (refl, refl, refl)

pub returns-in-Err-clause-long_input : goal.returns-in-Err-clause-long_input
returns-in-Err-clause-long_input g c =
    keys_end (g.K.Source.left c.args.keys.now) c.in-Err.outcome _ c.in-Err.ensures.answer

pub returns-in-Err-clause-served_cause : goal.returns-in-Err-clause-served_cause
returns-in-Err-clause-served_cause g c =
    served_unasked c.in-Err.outcome (g.S.Store.served c.args.store.now)
    (keys-not_of_store (meant_shown c.args.shown) (end_of c.in-Err.outcome) c.in-Err.ensures.ends)

pub returns-in-Err-clause-refused_alone : goal.returns-in-Err-clause-refused_alone
returns-in-Err-clause-refused_alone g c =
    unrefused_unasked c.in-Err.outcome (g.S.Store.served c.args.store.now)

pub returns-in-Err-read_sealed_licence-clause-long_keys : goal.returns-in-Err-read_sealed_licence-clause-long_keys
returns-in-Err-read_sealed_licence-clause-long_keys g c =
    keys_not_long (g.K.Source.left c.args.keys.now) c.in-Ok.secret _ c.in-Ok.ensures.answer

pub returns-in-Err-read_sealed_licence-clause-long_input : goal.returns-in-Err-read_sealed_licence-clause-long_input
returns-in-Err-read_sealed_licence-clause-long_input g c =
    ends_at_input most_key_bytes (g.K.Source.left c.args.keys.now) (end_of c.in-Err-read_sealed_licence.outcome) _ _
    c.in-Ok.ensures.to_the_end c.in-Err-read_sealed_licence.ensures.read

pub returns-in-Err-read_sealed_licence-clause-served_cause : goal.returns-in-Err-read_sealed_licence-clause-served_cause
returns-in-Err-read_sealed_licence-clause-served_cause g c =
    served_unasked c.in-Err-read_sealed_licence.outcome (g.S.Store.served c.args.store.now)
    (licence-not_of_store (meant_shown c.args.shown) (end_of c.in-Err-read_sealed_licence.outcome) c.in-Err-read_sealed_licence.ensures.ends)

pub returns-in-Err-read_sealed_licence-clause-refused_alone : goal.returns-in-Err-read_sealed_licence-clause-refused_alone
returns-in-Err-read_sealed_licence-clause-refused_alone g c =
    unrefused_unasked c.in-Err-read_sealed_licence.outcome (g.S.Store.served c.args.store.now)

pub returns-in-Err-read_wanted-clause-long_keys : goal.returns-in-Err-read_wanted-clause-long_keys
returns-in-Err-read_wanted-clause-long_keys g c =
    keys_not_long (g.K.Source.left c.args.keys.now) c.in-Ok.secret _ c.in-Ok.ensures.answer

pub returns-in-Err-read_wanted-clause-long_input : goal.returns-in-Err-read_wanted-clause-long_input
returns-in-Err-read_wanted-clause-long_input g c =
    other_end most_key_bytes (g.K.Source.left c.args.keys.now) (end_of c.in-Err-read_wanted.outcome) _
    (query-not_long (meant_shown c.args.shown) (end_of c.in-Err-read_wanted.outcome) c.in-Err-read_wanted.ensures.ends)

pub returns-in-Err-read_wanted-clause-served_cause : goal.returns-in-Err-read_wanted-clause-served_cause
returns-in-Err-read_wanted-clause-served_cause g c =
    served_unasked c.in-Err-read_wanted.outcome (g.S.Store.served c.args.store.now)
    (query-not_of_store (meant_shown c.args.shown) (end_of c.in-Err-read_wanted.outcome) c.in-Err-read_wanted.ensures.ends)

pub returns-in-Err-read_wanted-clause-refused_alone : goal.returns-in-Err-read_wanted-clause-refused_alone
returns-in-Err-read_wanted-clause-refused_alone g c =
    unrefused_unasked c.in-Err-read_wanted.outcome (g.S.Store.served c.args.store.now)

pub returns-in-Err-read_store-clause-long_keys : goal.returns-in-Err-read_store-clause-long_keys
returns-in-Err-read_store-clause-long_keys g c =
    keys_not_long (g.K.Source.left c.args.keys.now) c.in-Ok.secret _ c.in-Ok.ensures.answer

pub returns-in-Err-read_store-clause-long_input : goal.returns-in-Err-read_store-clause-long_input
returns-in-Err-read_store-clause-long_input g c =
    other_end most_key_bytes (g.K.Source.left c.args.keys.now) (end_of c.in-Err-read_store.outcome) _
    (opening-not_long (end_of c.in-Err-read_store.outcome) c.in-Err-read_store.ensures.ends)

pub returns-in-Err-read_store-clause-served_cause : goal.returns-in-Err-read_store-clause-served_cause
returns-in-Err-read_store-clause-served_cause g c =
    Told-weaker (g.S.Store.served c.args.store.now) (g.S.Store.served c.read_store.new.store)
    (StoreEnds (Err c.in-Err-read_store.outcome) c.in-Ok-read_sealed_licence.licence.root c.in-Ok.secret.document)
    (HasServedCause c.in-Err-read_store.outcome) c.in-Err-read_store.ensures.told
    (refusal_served c.in-Err-read_store.outcome c.in-Ok-read_sealed_licence.licence.root c.in-Ok.secret.document)

pub returns-in-Err-read_store-clause-refused_alone : goal.returns-in-Err-read_store-clause-refused_alone
returns-in-Err-read_store-clause-refused_alone g c =
    Told-weaker (g.S.Store.served c.args.store.now) (g.S.Store.served c.read_store.new.store)
    (IsStoreRefused (Err c.in-Err-read_store.outcome) c.in-Ok-read_sealed_licence.licence.root c.in-Ok.secret.document)
    (IsRefusedAsServed c.in-Err-read_store.outcome) c.in-Err-read_store.ensures.exact
    (refused_alone c.in-Err-read_store.outcome c.in-Ok-read_sealed_licence.licence.root c.in-Ok.secret.document)

pub returns-clause-long_keys : goal.returns-clause-long_keys
returns-clause-long_keys g c =
    keys_not_long (g.K.Source.left c.args.keys.now) c.in-Ok.secret _ c.in-Ok.ensures.answer

pub returns-clause-long_input : goal.returns-clause-long_input
returns-clause-long_input g c =
    other_end most_key_bytes (g.K.Source.left c.args.keys.now) (end_of c.show.result) _ (writing-not_long (end_of c.show.result) c.show.ensures.ends)

pub returns-clause-served_cause : goal.returns-clause-served_cause
returns-clause-served_cause g c =
    served_anyway c.show.result (g.S.Store.served c.args.store.now) (g.S.Store.served c.read_store.new.store)
    (FileEnds (Ok c.in-Ok-read_store.doc) c.in-Ok-read_sealed_licence.licence.root c.in-Ok.secret.document)
    (showing-not_of_store (meant_shown c.args.shown) (end_of c.show.result) c.show.ensures.ends) c.in-Ok-read_store.ensures.told

pub returns-clause-refused_alone : goal.returns-clause-refused_alone
returns-clause-refused_alone g c =
    Told-weaker (g.S.Store.served c.args.store.now) (g.S.Store.served c.read_store.new.store)
    (IsStoreRefused (Ok c.in-Ok-read_store.doc) c.in-Ok-read_sealed_licence.licence.root c.in-Ok.secret.document)
    (IsRefusedAsServed c.show.result) c.in-Ok-read_store.ensures.exact
    (unrefused_alone c.in-Ok-read_store.doc c.show.result c.in-Ok-read_sealed_licence.licence.root c.in-Ok.secret.document)

-- ---- each opening was checked

pub returns-in-Err-clause-checked : goal.returns-in-Err-clause-checked
returns-in-Err-clause-checked g c = unasked_checked (is_bad_fragment_outcome c.in-Err.outcome) (g.S.Store.served c.args.store.now)

pub returns-in-Err-read_sealed_licence-clause-checked : goal.returns-in-Err-read_sealed_licence-clause-checked
returns-in-Err-read_sealed_licence-clause-checked g c = unasked_checked (is_bad_fragment_outcome c.in-Err-read_sealed_licence.outcome) (g.S.Store.served c.args.store.now)

pub returns-in-Err-read_wanted-clause-checked : goal.returns-in-Err-read_wanted-clause-checked
returns-in-Err-read_wanted-clause-checked g c = unasked_checked (is_bad_fragment_outcome c.in-Err-read_wanted.outcome) (g.S.Store.served c.args.store.now)

pub returns-in-Err-read_store-clause-checked : goal.returns-in-Err-read_store-clause-checked
returns-in-Err-read_store-clause-checked g c = c.in-Err-read_store.ensures.checked

pub returns-clause-checked : goal.returns-clause-checked
returns-clause-checked g c =
    checked_anyway (is_bad_fragment_outcome c.show.result) (g.S.Store.served c.args.store.now) (g.S.Store.served c.read_store.new.store)
    c.in-Ok-read_store.ensures.checked

-- ---- which document the reads show

pub returns-in-Err-clause-read : goal.returns-in-Err-clause-read
returns-in-Err-clause-read g c =
    opened_anyway (Command.view (meant_shown c.args.shown)) (g.K.Source.left c.args.keys.now) (g.Q.Source.left c.args.input.now) (g.S.Store.served c.args.store.now) (g.S.Store.served c.args.store.now) IsRegular
    (λ reads keys licence wanted. WhereWhole (end_of c.in-Err.outcome) (WritesShown keys licence wanted reads (g.W.Sink.written c.args.out.now) (g.W.Sink.written c.args.out.now)))
    (λ reads k l w. keys-whole (meant_shown c.args.shown) _ (end_of c.in-Err.outcome) c.in-Err.ensures.ends) (unasked (g.S.Store.served c.args.store.now))

pub returns-in-Err-clause-no_document : goal.returns-in-Err-clause-no_document
returns-in-Err-clause-no_document g c =
    unshown_document (Command.view (meant_shown c.args.shown)) (g.K.Source.left c.args.keys.now) (g.Q.Source.left c.args.input.now) (g.S.Store.served c.args.store.now) c.in-Err.outcome

pub returns-in-Err-read_sealed_licence-clause-read : goal.returns-in-Err-read_sealed_licence-clause-read
returns-in-Err-read_sealed_licence-clause-read g c =
    opened_anyway (Command.view (meant_shown c.args.shown)) (g.K.Source.left c.args.keys.now) (g.Q.Source.left c.args.input.now) (g.S.Store.served c.args.store.now) (g.S.Store.served c.args.store.now) IsRegular
    (λ reads keys licence wanted. WhereWhole (end_of c.in-Err-read_sealed_licence.outcome) (WritesShown keys licence wanted reads (g.W.Sink.written c.args.out.now) (g.W.Sink.written c.args.out.now)))
    (λ reads k l w. licence-whole (meant_shown c.args.shown) _ (end_of c.in-Err-read_sealed_licence.outcome) c.in-Err-read_sealed_licence.ensures.ends) (unasked (g.S.Store.served c.args.store.now))

pub returns-in-Err-read_sealed_licence-clause-no_document : goal.returns-in-Err-read_sealed_licence-clause-no_document
returns-in-Err-read_sealed_licence-clause-no_document g c =
    unshown_document (Command.view (meant_shown c.args.shown)) (g.K.Source.left c.args.keys.now) (g.Q.Source.left c.args.input.now) (g.S.Store.served c.args.store.now) c.in-Err-read_sealed_licence.outcome

pub returns-in-Err-read_wanted-clause-read : goal.returns-in-Err-read_wanted-clause-read
returns-in-Err-read_wanted-clause-read g c =
    opened_anyway (Command.view (meant_shown c.args.shown)) (g.K.Source.left c.args.keys.now) (g.Q.Source.left c.args.input.now) (g.S.Store.served c.args.store.now) (g.S.Store.served c.args.store.now) IsRegular
    (λ reads keys licence wanted. WhereWhole (end_of c.in-Err-read_wanted.outcome) (WritesShown keys licence wanted reads (g.W.Sink.written c.args.out.now) (g.W.Sink.written c.args.out.now)))
    (λ reads k l w. query-whole (meant_shown c.args.shown) _ (end_of c.in-Err-read_wanted.outcome) c.in-Err-read_wanted.ensures.ends) (unasked (g.S.Store.served c.args.store.now))

pub returns-in-Err-read_wanted-clause-no_document : goal.returns-in-Err-read_wanted-clause-no_document
returns-in-Err-read_wanted-clause-no_document g c =
    unshown_document (Command.view (meant_shown c.args.shown)) (g.K.Source.left c.args.keys.now) (g.Q.Source.left c.args.input.now) (g.S.Store.served c.args.store.now) c.in-Err-read_wanted.outcome

pub returns-in-Err-read_store-clause-read : goal.returns-in-Err-read_store-clause-read
returns-in-Err-read_store-clause-read g c =
    opened_anyway (Command.view (meant_shown c.args.shown)) (g.K.Source.left c.args.keys.now) (g.Q.Source.left c.args.input.now) (g.S.Store.served c.args.store.now) (g.S.Store.served c.read_store.new.store) (StoreEnds (Err c.in-Err-read_store.outcome) c.in-Ok-read_sealed_licence.licence.root c.in-Ok.secret.document)
    (λ reads keys licence wanted. WhereWhole (end_of c.in-Err-read_store.outcome) (WritesShown keys licence wanted reads (g.W.Sink.written c.args.out.now) (g.W.Sink.written c.args.out.now)))
    (λ reads k l w. store-whole (meant_shown c.args.shown) _ (end_of c.in-Err-read_store.outcome) c.in-Err-read_store.ensures.ends) c.in-Err-read_store.ensures.told

pub returns-in-Err-read_store-clause-no_document : goal.returns-in-Err-read_store-clause-no_document
returns-in-Err-read_store-clause-no_document g c =
    reads_are (meant_shown c.args.shown) (g.K.Source.left c.args.keys.now) (g.Q.Source.left c.args.input.now) c.in-Ok.secret c.in-Ok-read_sealed_licence.licence c.in-Ok-read_wanted.wanted
    (subst (λ (user : List ℕ). wanted_by user (meant_shown c.args.shown) ≡ Ok c.in-Ok-read_wanted.wanted) c.as_slice.ensures c.in-Ok-read_wanted.ensures.answer)
    c.in-Ok.ensures.answer c.in-Ok-read_sealed_licence.ensures.answer
    (g.S.Store.served c.args.store.now) (g.S.Store.served c.read_store.new.store) (IsStoreWithoutDocument (Err c.in-Err-read_store.outcome) c.in-Ok-read_sealed_licence.licence.root c.in-Ok.secret.document)
    (λ reads keys licence wanted. EndsWithoutDocument c.in-Err-read_store.outcome licence.root keys.document reads) c.in-Err-read_store.ensures.shown_index
    (λ reads only shows. only shows)

pub returns-clause-read : goal.returns-clause-read
returns-clause-read g c =
    reads_are (meant_shown c.args.shown) (g.K.Source.left c.args.keys.now) (g.Q.Source.left c.args.input.now) c.in-Ok.secret c.in-Ok-read_sealed_licence.licence c.in-Ok-read_wanted.wanted
    (subst (λ (user : List ℕ). wanted_by user (meant_shown c.args.shown) ≡ Ok c.in-Ok-read_wanted.wanted) c.as_slice.ensures c.in-Ok-read_wanted.ensures.answer)
    c.in-Ok.ensures.answer c.in-Ok-read_sealed_licence.ensures.answer
    (g.S.Store.served c.args.store.now) (g.S.Store.served c.read_store.new.store) (FileEnds (Ok c.in-Ok-read_store.doc) c.in-Ok-read_sealed_licence.licence.root c.in-Ok.secret.document)
    (λ reads keys licence wanted. WhereWhole (end_of c.show.result) (WritesShown keys licence wanted reads (g.W.Sink.written c.args.out.now) (g.W.Sink.written c.show.new.out))) c.in-Ok-read_store.ensures.told
    (λ reads read. written_shown (end_of c.show.result) c.in-Ok.secret c.in-Ok-read_sealed_licence.licence c.in-Ok-read_wanted.wanted
    (g.W.Sink.written c.args.out.now) (g.W.Sink.written c.show.new.out) c.in-Ok-read_store.doc reads c.in-Ok-read_store.ensures.document read
    (writing_whole (end_of c.show.result) (g.W.Sink.written c.args.out.now) (g.W.Sink.written c.show.new.out) (wanted_text c.in-Ok-read_store.doc c.in-Ok-read_sealed_licence.licence.rules c.in-Ok-read_wanted.wanted) c.show.ensures.ends
    (subst (λ (rules : List Rule). WritesText (end_of c.show.result) (g.W.Sink.written c.args.out.now) (g.W.Sink.written c.show.new.out) (wanted_text c.in-Ok-read_store.doc rules c.in-Ok-read_wanted.wanted)) c.as_slice-2.ensures c.show.ensures.text)))

pub returns-clause-no_document : goal.returns-clause-no_document
returns-clause-no_document g c =
    reads_are (meant_shown c.args.shown) (g.K.Source.left c.args.keys.now) (g.Q.Source.left c.args.input.now) c.in-Ok.secret c.in-Ok-read_sealed_licence.licence c.in-Ok-read_wanted.wanted
    (subst (λ (user : List ℕ). wanted_by user (meant_shown c.args.shown) ≡ Ok c.in-Ok-read_wanted.wanted) c.as_slice.ensures c.in-Ok-read_wanted.ensures.answer)
    c.in-Ok.ensures.answer c.in-Ok-read_sealed_licence.ensures.answer
    (g.S.Store.served c.args.store.now) (g.S.Store.served c.read_store.new.store) (IsStoreWithoutDocument (Ok c.in-Ok-read_store.doc) c.in-Ok-read_sealed_licence.licence.root c.in-Ok.secret.document)
    (λ reads keys licence wanted. EndsWithoutDocument c.show.result licence.root keys.document reads) c.in-Ok-read_store.ensures.shown_index
    (λ reads none shows. absurd (none shows))
