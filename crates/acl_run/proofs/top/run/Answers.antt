use Rattle.std.proofs.Common.{rules, map, string_bytes, refl}
use Rattle.acl_outcome.specs.Ends.{end_of}
use Rattle.acl_words.specs.Command.{Command}
use Rattle.acl_words.specs.inside.Request.{meant_shown}
use Rattle.acl_words.specs.CommandLines.{words_of}
use Rattle.acl_run.proofs.Facts.{whatever_told}
use Rattle.acl_run.specs.Outcomes.{is_bad_fragment_outcome}
use Rattle.acl_run.specs.Readers.{most_key_bytes}
use Rattle.acl_run.proofs.Lengths.{long_so, other_end, sample-not_long}
use Rattle.acl_run.proofs.Served.{encode-not_of_store, preview-not_of_store, sample-not_of_store, seal-not_of_store, served_unasked, unasked_checked, unrefused_unasked}
use Rattle.acl_run.proofs.TopSteps.{usage_of_taken, where_taken, where_any, where_unread, where_untold, no_note}
use Rattle.acl_run.proofs.top.run.Goals as goal

pub returns-in-Some-Preview-clause-usage : goal.returns-in-Some-Preview-clause-usage
returns-in-Some-Preview-clause-usage g c =
    usage_of_taken (Command.preview (meant_shown c.in-Some-Preview.shown)) c.preview.result (words_of (map string_bytes c.args.words.now)) c.preview.ensures.ends (search rules)

pub returns-in-Some-Preview-clause-text : goal.returns-in-Some-Preview-clause-text
returns-in-Some-Preview-clause-text g c =
    where_taken (Command.preview (meant_shown c.in-Some-Preview.shown)) (words_of (map string_bytes c.args.words.now)) _ (search rules) c.preview.ensures.text

pub returns-in-Some-Preview-clause-note_text : goal.returns-in-Some-Preview-clause-note_text
returns-in-Some-Preview-clause-note_text g c =
    where_taken (Command.preview (meant_shown c.in-Some-Preview.shown)) (words_of (map string_bytes c.args.words.now)) _ (search rules)
    (whatever_told (g.K.Source.left c.args.keys.now) (g.Q.Source.left c.args.input.now) _ (λ rules lines. no_note (end_of c.preview.result) (g.N.Sink.written c.args.note.now)))

pub returns-in-Some-Preview-clause-prefix : goal.returns-in-Some-Preview-clause-prefix
returns-in-Some-Preview-clause-prefix g c =
    where_unread (Command.preview (meant_shown c.in-Some-Preview.shown)) (words_of (map string_bytes c.args.words.now)) (g.K.Source.left c.args.keys.now) (g.Q.Source.left c.args.input.now) (g.S.Store.served c.args.store.now) _ (search rules) (λ secret sealed. tt)

pub returns-in-Some-Preview-clause-whole : goal.returns-in-Some-Preview-clause-whole
returns-in-Some-Preview-clause-whole g c =
    where_unread (Command.preview (meant_shown c.in-Some-Preview.shown)) (words_of (map string_bytes c.args.words.now)) (g.K.Source.left c.args.keys.now) (g.Q.Source.left c.args.input.now) (g.S.Store.served c.args.store.now) _ (search rules) (λ secret sealed. tt)

pub returns-in-Some-Preview-clause-store_cause : goal.returns-in-Some-Preview-clause-store_cause
returns-in-Some-Preview-clause-store_cause g c =
    where_unread (Command.preview (meant_shown c.in-Some-Preview.shown)) (words_of (map string_bytes c.args.words.now)) (g.K.Source.left c.args.keys.now) (g.Q.Source.left c.args.input.now) (g.S.Store.served c.args.store.now) _ (search rules) (λ secret sealed. tt)

pub returns-in-Some-Preview-clause-refused : goal.returns-in-Some-Preview-clause-refused
returns-in-Some-Preview-clause-refused g c =
    where_unread (Command.preview (meant_shown c.in-Some-Preview.shown)) (words_of (map string_bytes c.args.words.now)) (g.K.Source.left c.args.keys.now) (g.Q.Source.left c.args.input.now) (g.S.Store.served c.args.store.now) _ (search rules) (λ secret sealed. tt)

pub returns-in-Some-Preview-clause-honest : goal.returns-in-Some-Preview-clause-honest
returns-in-Some-Preview-clause-honest g c =
    where_any (Command.preview (meant_shown c.in-Some-Preview.shown)) (words_of (map string_bytes c.args.words.now)) (g.K.Source.left c.args.keys.now) (g.Q.Source.left c.args.input.now) _ (search rules) (λ secret sealed. tt)

pub returns-in-Some-Encode-clause-usage : goal.returns-in-Some-Encode-clause-usage
returns-in-Some-Encode-clause-usage g c =
    usage_of_taken Command.encode c.encode.result (words_of (map string_bytes c.args.words.now)) c.encode.ensures.ends (search rules)

pub returns-in-Some-Encode-clause-text : goal.returns-in-Some-Encode-clause-text
returns-in-Some-Encode-clause-text g c =
    where_taken Command.encode (words_of (map string_bytes c.args.words.now)) _ (search rules) c.encode.ensures.text

pub returns-in-Some-Encode-clause-note_text : goal.returns-in-Some-Encode-clause-note_text
returns-in-Some-Encode-clause-note_text g c =
    where_taken Command.encode (words_of (map string_bytes c.args.words.now)) _ (search rules) c.encode.ensures.note_text

pub returns-in-Some-Encode-clause-prefix : goal.returns-in-Some-Encode-clause-prefix
returns-in-Some-Encode-clause-prefix g c =
    where_unread Command.encode (words_of (map string_bytes c.args.words.now)) (g.K.Source.left c.args.keys.now) (g.Q.Source.left c.args.input.now) (g.S.Store.served c.args.store.now) _ (search rules) (λ secret sealed. tt)

pub returns-in-Some-Encode-clause-whole : goal.returns-in-Some-Encode-clause-whole
returns-in-Some-Encode-clause-whole g c =
    where_unread Command.encode (words_of (map string_bytes c.args.words.now)) (g.K.Source.left c.args.keys.now) (g.Q.Source.left c.args.input.now) (g.S.Store.served c.args.store.now) _ (search rules) (λ secret sealed. tt)

pub returns-in-Some-Encode-clause-store_cause : goal.returns-in-Some-Encode-clause-store_cause
returns-in-Some-Encode-clause-store_cause g c =
    where_unread Command.encode (words_of (map string_bytes c.args.words.now)) (g.K.Source.left c.args.keys.now) (g.Q.Source.left c.args.input.now) (g.S.Store.served c.args.store.now) _ (search rules) (λ secret sealed. tt)

pub returns-in-Some-Encode-clause-refused : goal.returns-in-Some-Encode-clause-refused
returns-in-Some-Encode-clause-refused g c =
    where_unread Command.encode (words_of (map string_bytes c.args.words.now)) (g.K.Source.left c.args.keys.now) (g.Q.Source.left c.args.input.now) (g.S.Store.served c.args.store.now) _ (search rules) (λ secret sealed. tt)

pub returns-in-Some-Encode-clause-honest : goal.returns-in-Some-Encode-clause-honest
returns-in-Some-Encode-clause-honest g c =
    where_any Command.encode (words_of (map string_bytes c.args.words.now)) (g.K.Source.left c.args.keys.now) (g.Q.Source.left c.args.input.now) _ (search rules) (λ secret sealed. tt)

pub returns-in-Some-Seal-clause-usage : goal.returns-in-Some-Seal-clause-usage
returns-in-Some-Seal-clause-usage g c =
    usage_of_taken Command.seal c.seal.result (words_of (map string_bytes c.args.words.now)) c.seal.ensures.ends (search rules)

pub returns-in-Some-Seal-clause-note_text : goal.returns-in-Some-Seal-clause-note_text
returns-in-Some-Seal-clause-note_text g c =
    where_taken Command.seal (words_of (map string_bytes c.args.words.now)) _ (search rules)
    (whatever_told (g.K.Source.left c.args.keys.now) (g.Q.Source.left c.args.input.now) _ (λ secret body. no_note (end_of c.seal.result) (g.N.Sink.written c.args.note.now)))

pub returns-in-Some-Seal-clause-prefix : goal.returns-in-Some-Seal-clause-prefix
returns-in-Some-Seal-clause-prefix g c =
    where_unread Command.seal (words_of (map string_bytes c.args.words.now)) (g.K.Source.left c.args.keys.now) (g.Q.Source.left c.args.input.now) (g.S.Store.served c.args.store.now) _ (search rules) (λ secret sealed. tt)

pub returns-in-Some-Seal-clause-whole : goal.returns-in-Some-Seal-clause-whole
returns-in-Some-Seal-clause-whole g c =
    where_unread Command.seal (words_of (map string_bytes c.args.words.now)) (g.K.Source.left c.args.keys.now) (g.Q.Source.left c.args.input.now) (g.S.Store.served c.args.store.now) _ (search rules) (λ secret sealed. tt)

pub returns-in-Some-Seal-clause-store_cause : goal.returns-in-Some-Seal-clause-store_cause
returns-in-Some-Seal-clause-store_cause g c =
    where_unread Command.seal (words_of (map string_bytes c.args.words.now)) (g.K.Source.left c.args.keys.now) (g.Q.Source.left c.args.input.now) (g.S.Store.served c.args.store.now) _ (search rules) (λ secret sealed. tt)

pub returns-in-Some-Seal-clause-refused : goal.returns-in-Some-Seal-clause-refused
returns-in-Some-Seal-clause-refused g c =
    where_unread Command.seal (words_of (map string_bytes c.args.words.now)) (g.K.Source.left c.args.keys.now) (g.Q.Source.left c.args.input.now) (g.S.Store.served c.args.store.now) _ (search rules) (λ secret sealed. tt)

pub returns-in-Some-Seal-clause-honest : goal.returns-in-Some-Seal-clause-honest
returns-in-Some-Seal-clause-honest g c =
    where_any Command.seal (words_of (map string_bytes c.args.words.now)) (g.K.Source.left c.args.keys.now) (g.Q.Source.left c.args.input.now) _ (search rules) (λ secret sealed. tt)

pub returns-in-Some-Sample-clause-prefix : goal.returns-in-Some-Sample-clause-prefix
returns-in-Some-Sample-clause-prefix g c =
    where_unread (Command.sample c.in-Some-Sample.size) (words_of (map string_bytes c.args.words.now)) (g.K.Source.left c.args.keys.now) (g.Q.Source.left c.args.input.now) (g.S.Store.served c.args.store.now) _ (search rules) (λ secret sealed. tt)

pub returns-in-Some-Sample-clause-whole : goal.returns-in-Some-Sample-clause-whole
returns-in-Some-Sample-clause-whole g c =
    where_unread (Command.sample c.in-Some-Sample.size) (words_of (map string_bytes c.args.words.now)) (g.K.Source.left c.args.keys.now) (g.Q.Source.left c.args.input.now) (g.S.Store.served c.args.store.now) _ (search rules) (λ secret sealed. tt)

pub returns-in-Some-Sample-clause-store_cause : goal.returns-in-Some-Sample-clause-store_cause
returns-in-Some-Sample-clause-store_cause g c =
    where_unread (Command.sample c.in-Some-Sample.size) (words_of (map string_bytes c.args.words.now)) (g.K.Source.left c.args.keys.now) (g.Q.Source.left c.args.input.now) (g.S.Store.served c.args.store.now) _ (search rules) (λ secret sealed. tt)

pub returns-in-Some-Sample-clause-refused : goal.returns-in-Some-Sample-clause-refused
returns-in-Some-Sample-clause-refused g c =
    where_unread (Command.sample c.in-Some-Sample.size) (words_of (map string_bytes c.args.words.now)) (g.K.Source.left c.args.keys.now) (g.Q.Source.left c.args.input.now) (g.S.Store.served c.args.store.now) _ (search rules) (λ secret sealed. tt)

pub returns-in-Some-Sample-clause-honest : goal.returns-in-Some-Sample-clause-honest
returns-in-Some-Sample-clause-honest g c =
    where_any (Command.sample c.in-Some-Sample.size) (words_of (map string_bytes c.args.words.now)) (g.K.Source.left c.args.keys.now) (g.Q.Source.left c.args.input.now) _ (search rules) (λ secret sealed. tt)

pub returns-in-Some-View-clause-usage : goal.returns-in-Some-View-clause-usage
returns-in-Some-View-clause-usage g c =
    usage_of_taken (Command.view (meant_shown c.in-Some-View.shown)) c.view.result (words_of (map string_bytes c.args.words.now)) c.view.ensures.ends (search rules)

pub returns-in-Some-View-clause-text : goal.returns-in-Some-View-clause-text
returns-in-Some-View-clause-text g c =
    where_taken (Command.view (meant_shown c.in-Some-View.shown)) (words_of (map string_bytes c.args.words.now)) _ (search rules) (where_untold (g.K.Source.left c.args.keys.now))

pub returns-in-Some-View-clause-note_text : goal.returns-in-Some-View-clause-note_text
returns-in-Some-View-clause-note_text g c =
    where_taken (Command.view (meant_shown c.in-Some-View.shown)) (words_of (map string_bytes c.args.words.now)) _ (search rules) (where_untold (g.K.Source.left c.args.keys.now))

pub returns-in-Some-View-clause-prefix : goal.returns-in-Some-View-clause-prefix
returns-in-Some-View-clause-prefix g c =
    where_taken (Command.view (meant_shown c.in-Some-View.shown)) (words_of (map string_bytes c.args.words.now)) _ (search rules) c.view.ensures.prefix

pub returns-in-Some-View-clause-whole : goal.returns-in-Some-View-clause-whole
returns-in-Some-View-clause-whole g c =
    where_taken (Command.view (meant_shown c.in-Some-View.shown)) (words_of (map string_bytes c.args.words.now)) _ (search rules) c.view.ensures.whole

pub returns-in-Some-View-clause-honest : goal.returns-in-Some-View-clause-honest
returns-in-Some-View-clause-honest g c =
    where_taken (Command.view (meant_shown c.in-Some-View.shown)) (words_of (map string_bytes c.args.words.now)) _ (search rules) c.view.ensures.honest

pub returns-in-Some-View-clause-store_cause : goal.returns-in-Some-View-clause-store_cause
returns-in-Some-View-clause-store_cause g c =
    where_taken (Command.view (meant_shown c.in-Some-View.shown)) (words_of (map string_bytes c.args.words.now)) _ (search rules) c.view.ensures.cause

pub returns-in-Some-View-clause-refused : goal.returns-in-Some-View-clause-refused
returns-in-Some-View-clause-refused g c =
    where_taken (Command.view (meant_shown c.in-Some-View.shown)) (words_of (map string_bytes c.args.words.now)) _ (search rules) c.view.ensures.refused

-- ---- lengths, and what the reads show without root and key

pub returns-in-Some-Preview-clause-long_keys : goal.returns-in-Some-Preview-clause-long_keys
returns-in-Some-Preview-clause-long_keys g c =
    where_taken (Command.preview (meant_shown c.in-Some-Preview.shown)) (words_of (map string_bytes c.args.words.now)) _ (search rules)
    (long_so most_key_bytes (g.K.Source.left c.args.keys.now) _ _ (λ p. (p.0, refl, p.1, refl)) c.preview.ensures.long_keys)

pub returns-in-Some-Preview-clause-long_input : goal.returns-in-Some-Preview-clause-long_input
returns-in-Some-Preview-clause-long_input g c =
    where_taken (Command.preview (meant_shown c.in-Some-Preview.shown)) (words_of (map string_bytes c.args.words.now)) _ (search rules) c.preview.ensures.long_input

pub returns-in-Some-Preview-clause-served_cause : goal.returns-in-Some-Preview-clause-served_cause
returns-in-Some-Preview-clause-served_cause g c =
    served_unasked c.preview.result (g.S.Store.served c.args.store.now) (preview-not_of_store (meant_shown c.in-Some-Preview.shown) c.preview.result c.preview.ensures.ends)

pub returns-in-Some-Preview-clause-refused_alone : goal.returns-in-Some-Preview-clause-refused_alone
returns-in-Some-Preview-clause-refused_alone g c =
    unrefused_unasked c.preview.result (g.S.Store.served c.args.store.now)

pub returns-in-Some-Encode-clause-long_keys : goal.returns-in-Some-Encode-clause-long_keys
returns-in-Some-Encode-clause-long_keys g c =
    where_taken Command.encode (words_of (map string_bytes c.args.words.now)) _ (search rules)
    (long_so most_key_bytes (g.K.Source.left c.args.keys.now) _ _ (λ p. (p.0, refl, p.1, p.2)) c.encode.ensures.long_keys)

pub returns-in-Some-Encode-clause-long_input : goal.returns-in-Some-Encode-clause-long_input
returns-in-Some-Encode-clause-long_input g c =
    where_taken Command.encode (words_of (map string_bytes c.args.words.now)) _ (search rules) c.encode.ensures.long_input

pub returns-in-Some-Encode-clause-served_cause : goal.returns-in-Some-Encode-clause-served_cause
returns-in-Some-Encode-clause-served_cause g c =
    served_unasked c.encode.result (g.S.Store.served c.args.store.now) (encode-not_of_store c.encode.result c.encode.ensures.ends)

pub returns-in-Some-Encode-clause-refused_alone : goal.returns-in-Some-Encode-clause-refused_alone
returns-in-Some-Encode-clause-refused_alone g c =
    unrefused_unasked c.encode.result (g.S.Store.served c.args.store.now)

pub returns-in-Some-Seal-clause-long_keys : goal.returns-in-Some-Seal-clause-long_keys
returns-in-Some-Seal-clause-long_keys g c =
    where_taken Command.seal (words_of (map string_bytes c.args.words.now)) _ (search rules)
    (long_so most_key_bytes (g.K.Source.left c.args.keys.now) _ _ (λ p. (p.0, refl, p.1, refl)) c.seal.ensures.long_keys)

pub returns-in-Some-Seal-clause-long_input : goal.returns-in-Some-Seal-clause-long_input
returns-in-Some-Seal-clause-long_input g c =
    where_taken Command.seal (words_of (map string_bytes c.args.words.now)) _ (search rules) c.seal.ensures.long_input

pub returns-in-Some-Seal-clause-served_cause : goal.returns-in-Some-Seal-clause-served_cause
returns-in-Some-Seal-clause-served_cause g c =
    served_unasked c.seal.result (g.S.Store.served c.args.store.now) (seal-not_of_store c.seal.result c.seal.ensures.ends)

pub returns-in-Some-Seal-clause-refused_alone : goal.returns-in-Some-Seal-clause-refused_alone
returns-in-Some-Seal-clause-refused_alone g c =
    unrefused_unasked c.seal.result (g.S.Store.served c.args.store.now)

pub returns-in-Some-View-clause-long_keys : goal.returns-in-Some-View-clause-long_keys
returns-in-Some-View-clause-long_keys g c =
    where_taken (Command.view (meant_shown c.in-Some-View.shown)) (words_of (map string_bytes c.args.words.now)) _ (search rules)
    (long_so most_key_bytes (g.K.Source.left c.args.keys.now) _ _ (λ p. (p.0, p.1, p.2, refl)) c.view.ensures.long_keys)

pub returns-in-Some-View-clause-long_input : goal.returns-in-Some-View-clause-long_input
returns-in-Some-View-clause-long_input g c =
    where_taken (Command.view (meant_shown c.in-Some-View.shown)) (words_of (map string_bytes c.args.words.now)) _ (search rules) c.view.ensures.long_input

pub returns-in-Some-Sample-clause-long_keys : goal.returns-in-Some-Sample-clause-long_keys
returns-in-Some-Sample-clause-long_keys g c =
    where_taken (Command.sample c.in-Some-Sample.size) (words_of (map string_bytes c.args.words.now)) _ (search rules) tt

pub returns-in-Some-Sample-clause-long_input : goal.returns-in-Some-Sample-clause-long_input
returns-in-Some-Sample-clause-long_input g c =
    where_taken (Command.sample c.in-Some-Sample.size) (words_of (map string_bytes c.args.words.now)) _ (search rules)
    (other_end 0 (g.K.Source.left c.args.keys.now) (end_of c.sample.result) _ (sample-not_long c.in-Some-Sample.size c.sample.result c.sample.ensures.ends))

pub returns-in-Some-Sample-clause-served_cause : goal.returns-in-Some-Sample-clause-served_cause
returns-in-Some-Sample-clause-served_cause g c =
    served_unasked c.sample.result (g.S.Store.served c.args.store.now) (sample-not_of_store c.in-Some-Sample.size c.sample.result c.sample.ensures.ends)

pub returns-in-Some-Sample-clause-refused_alone : goal.returns-in-Some-Sample-clause-refused_alone
returns-in-Some-Sample-clause-refused_alone g c =
    unrefused_unasked c.sample.result (g.S.Store.served c.args.store.now)

-- ---- each opening was checked

pub returns-in-Some-Preview-clause-checked : goal.returns-in-Some-Preview-clause-checked
returns-in-Some-Preview-clause-checked g c = unasked_checked (is_bad_fragment_outcome c.preview.result) (g.S.Store.served c.args.store.now)

pub returns-in-Some-Encode-clause-checked : goal.returns-in-Some-Encode-clause-checked
returns-in-Some-Encode-clause-checked g c = unasked_checked (is_bad_fragment_outcome c.encode.result) (g.S.Store.served c.args.store.now)

pub returns-in-Some-Seal-clause-checked : goal.returns-in-Some-Seal-clause-checked
returns-in-Some-Seal-clause-checked g c = unasked_checked (is_bad_fragment_outcome c.seal.result) (g.S.Store.served c.args.store.now)

pub returns-in-Some-Sample-clause-checked : goal.returns-in-Some-Sample-clause-checked
returns-in-Some-Sample-clause-checked g c = unasked_checked (is_bad_fragment_outcome c.sample.result) (g.S.Store.served c.args.store.now)

-- ---- which document the reads show

pub returns-in-Some-Preview-clause-read : goal.returns-in-Some-Preview-clause-read
returns-in-Some-Preview-clause-read g c =
    where_unread (Command.preview (meant_shown c.in-Some-Preview.shown)) (words_of (map string_bytes c.args.words.now)) (g.K.Source.left c.args.keys.now) (g.Q.Source.left c.args.input.now) (g.S.Store.served c.args.store.now) _ (search rules) (λ secret sealed. tt)

pub returns-in-Some-Preview-clause-no_document : goal.returns-in-Some-Preview-clause-no_document
returns-in-Some-Preview-clause-no_document g c =
    where_unread (Command.preview (meant_shown c.in-Some-Preview.shown)) (words_of (map string_bytes c.args.words.now)) (g.K.Source.left c.args.keys.now) (g.Q.Source.left c.args.input.now) (g.S.Store.served c.args.store.now) _ (search rules) (λ secret sealed. tt)

pub returns-in-Some-Encode-clause-read : goal.returns-in-Some-Encode-clause-read
returns-in-Some-Encode-clause-read g c =
    where_unread Command.encode (words_of (map string_bytes c.args.words.now)) (g.K.Source.left c.args.keys.now) (g.Q.Source.left c.args.input.now) (g.S.Store.served c.args.store.now) _ (search rules) (λ secret sealed. tt)

pub returns-in-Some-Encode-clause-no_document : goal.returns-in-Some-Encode-clause-no_document
returns-in-Some-Encode-clause-no_document g c =
    where_unread Command.encode (words_of (map string_bytes c.args.words.now)) (g.K.Source.left c.args.keys.now) (g.Q.Source.left c.args.input.now) (g.S.Store.served c.args.store.now) _ (search rules) (λ secret sealed. tt)

pub returns-in-Some-Seal-clause-read : goal.returns-in-Some-Seal-clause-read
returns-in-Some-Seal-clause-read g c =
    where_unread Command.seal (words_of (map string_bytes c.args.words.now)) (g.K.Source.left c.args.keys.now) (g.Q.Source.left c.args.input.now) (g.S.Store.served c.args.store.now) _ (search rules) (λ secret sealed. tt)

pub returns-in-Some-Seal-clause-no_document : goal.returns-in-Some-Seal-clause-no_document
returns-in-Some-Seal-clause-no_document g c =
    where_unread Command.seal (words_of (map string_bytes c.args.words.now)) (g.K.Source.left c.args.keys.now) (g.Q.Source.left c.args.input.now) (g.S.Store.served c.args.store.now) _ (search rules) (λ secret sealed. tt)

pub returns-in-Some-Sample-clause-read : goal.returns-in-Some-Sample-clause-read
returns-in-Some-Sample-clause-read g c =
    where_unread (Command.sample c.in-Some-Sample.size) (words_of (map string_bytes c.args.words.now)) (g.K.Source.left c.args.keys.now) (g.Q.Source.left c.args.input.now) (g.S.Store.served c.args.store.now) _ (search rules) (λ secret sealed. tt)

pub returns-in-Some-Sample-clause-no_document : goal.returns-in-Some-Sample-clause-no_document
returns-in-Some-Sample-clause-no_document g c =
    where_unread (Command.sample c.in-Some-Sample.size) (words_of (map string_bytes c.args.words.now)) (g.K.Source.left c.args.keys.now) (g.Q.Source.left c.args.input.now) (g.S.Store.served c.args.store.now) _ (search rules) (λ secret sealed. tt)

pub returns-in-Some-View-clause-read : goal.returns-in-Some-View-clause-read
returns-in-Some-View-clause-read g c =
    where_taken (Command.view (meant_shown c.in-Some-View.shown)) (words_of (map string_bytes c.args.words.now)) _ (search rules) c.view.ensures.read

pub returns-in-Some-View-clause-no_document : goal.returns-in-Some-View-clause-no_document
returns-in-Some-View-clause-no_document g c =
    where_taken (Command.view (meant_shown c.in-Some-View.shown)) (words_of (map string_bytes c.args.words.now)) _ (search rules) c.view.ensures.no_document
