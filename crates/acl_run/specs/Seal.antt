-- What `seal` writes: a licence, which is a seal and a body. Defined by this project.
use Rattle.std.specs.Prelude.{ℕ, Result, Ok, Err, List, []}
use Rattle.licence.specs.declared.keys.Keys.{Keys}
use Rattle.acl_outcome.specs.declared.outcome.Outcome.{Outcome}
use Rattle.acl_run.specs.Readers.{keys_of, sealed_of}

-- the licence that was made, where the body was not refused; else no text
abbrev pub text_of_sealed : Result (List ℕ) Outcome → List ℕ
text_of_sealed (Ok text) = text
text_of_sealed (Err refusal) = []

-- the licence of these bytes of a body, where the keys were read; else no text
abbrev pub text_under_keys : Result Keys Outcome → List ℕ → List ℕ
text_under_keys (Ok keys) body = text_of_sealed (sealed_of keys.seal body)
text_under_keys (Err refusal) body = []

-- the text that `seal` is to write for these bytes of keys and these bytes of a body
abbrev pub seal_text : List ℕ → List ℕ → List ℕ
seal_text secret body = text_under_keys (keys_of secret) body
