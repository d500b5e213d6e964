-- What a run reads. Each reader gives, for some bytes, a value or the outcome that refuses them. Defined by this
-- project.
use Rattle.std.specs.Prelude.{ℕ, nat_le, nat_lt, Bool, ◌&&◌, Result, Ok, Err, List, length, if◌then◌else◌}
use Rattle.std.specs.Result.{result_map_both}
use Rattle.acl_model.specs.Dictionary.{dictionary}
pub use Rattle.acl_model.specs.Limits.{most_key_bytes}
use Rattle.acl_model.specs.Limits.{most_names, most_stream_bytes, most_steps, most_pred_steps, most_preds}
use Rattle.acl_model.specs.declared.document.Doc.{Doc}
use Rattle.acl_model.specs.declared.path.Path.{Path}
use Rattle.esis_lines.specs.DocumentAnswers.{answer_within, most_document_bytes}
use Rattle.licence.specs.Body.{read_body_of}
use Rattle.licence.specs.Forms.{◌>>=◌}
use Rattle.licence.specs.Keys.{read_keys_of}
use Rattle.licence.specs.Sealed.{read_licence_of, sealed_text_of}
use Rattle.licence.specs.declared.keys.Keys.{Keys}
use Rattle.licence.specs.declared.terms.Licence.{Licence}
use Rattle.skip_encode.specs.PlainStream.{sections_size}
use Rattle.xpath_rules.specs.Counting.{step_count, pred_step_count, pred_count}
use Rattle.xpath_rules.specs.PathMachine.{read_path_of}
use Rattle.acl_outcome.specs.declared.outcome.Outcome.{Outcome}
use Rattle.acl_run.specs.Outcomes.{outcome_of_fault, outcome_of_licence_fault, outcome_of_keys_error}

-- The wanted value or refusal, where there are at most so many bytes. More bytes are refused with InputTooLong.
abbrev pub read_within : {A : Type 0} → ℕ → Result A Outcome → List ℕ → Result A Outcome
read_within most wanted bytes = if nat_le (length bytes) most then wanted else Err (Outcome.InputTooLong most)

-- the licence whose body is these bytes
unfoldable pub licence_of : List ℕ → Result Licence Outcome
licence_of bytes =
    read_within most_key_bytes (result_map_both (λ licence. licence) outcome_of_licence_fault (read_body_of bytes)) bytes

-- the keys in these bytes
unfoldable pub keys_of : List ℕ → Result Keys Outcome
keys_of bytes =
    read_within most_key_bytes (result_map_both (λ keys. keys) outcome_of_keys_error (read_keys_of bytes)) bytes

-- the document whose lines are these bytes, at most `most_document_bytes` of them
unfoldable pub document_of : List ℕ → Result Doc Outcome
document_of bytes = result_map_both (λ d. d) outcome_of_fault (answer_within most_document_bytes bytes)

-- The document, where it has a file. It is refused with TooManyTags where it has more than `most_names` names, and
-- else with TooLarge where its dictionary and its tree have together more than `most_stream_bytes` bytes.
unfoldable pub with_file : Doc → Result Doc Outcome
with_file d =
    if nat_lt most_names (length (dictionary d)) then Err Outcome.TooManyTags
    else if nat_lt most_stream_bytes (sections_size d) then Err Outcome.TooLarge
    else Ok d

-- the document whose lines are these bytes, where it has a file
unfoldable pub encodable_of : List ℕ → Result Doc Outcome
encodable_of bytes = document_of bytes >>= with_file

-- the sealed licence whose body is these bytes, with its seal under this key
unfoldable pub sealed_of : List ℕ → List ℕ → Result (List ℕ) Outcome
sealed_of key bytes =
    read_within most_key_bytes (result_map_both (λ text. text) outcome_of_licence_fault (sealed_text_of bytes key)) bytes

-- the licence in these bytes, where its seal is right under this key
unfoldable pub sealed_licence_of : List ℕ → List ℕ → Result Licence Outcome
sealed_licence_of key bytes =
    read_within most_key_bytes (result_map_both (λ licence. licence) outcome_of_licence_fault (read_licence_of bytes key)) bytes

-- ---- a query

-- whether a query is within the limits of steps, predicate steps and predicates, those of the licence's rules not
-- counted
abbrev pub is_within_limits : Path → Bool
is_within_limits path =
    nat_le (step_count path) most_steps && nat_le (pred_step_count path) most_pred_steps && nat_le (pred_count path) most_preds

-- the path, where it is within these limits; else TooManyStates
abbrev pub path_within_limits : Path → Result Path Outcome
path_within_limits path = if is_within_limits path then Ok path else Err Outcome.TooManyStates

-- The path that these bytes of a query are, where `USER` means this user. Bytes that are no path are refused with
-- BadQuery.
unfoldable pub query_of : List ℕ → List ℕ → Result Path Outcome
query_of user query = result_map_both (λ path. path) Outcome.BadQuery (read_path_of query user) >>= path_within_limits
