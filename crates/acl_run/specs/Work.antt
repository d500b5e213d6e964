-- The order of work. Each command is a list of steps, and a run ends at the first step that it does not pass. So a step
-- refuses a run exactly where its bytes are refused and all earlier steps are passed, unless memory runs out. A new
-- command is one more line in each table. Defined by this project.
-- A source *tells* its bytes where contracts can see them. A source in memory does, and a file does not.
use Rattle.std.specs.Prelude.{ℕ, Bool, ◌||◌, Option, Some, None, List, [], ◌∷◌, if◌then◌else◌}
use Rattle.std.specs.List.{list_any}
use Rattle.esis_lines.specs.DocumentAnswers.{most_document_bytes}
use Rattle.licence.specs.Forms.{◌>>=◌}
use Rattle.acl_outcome.specs.declared.outcome.Outcome.{Outcome}
use Rattle.acl_outcome.specs.Ends.{Object, keys, input, store, out, note, End, end_of}
use Rattle.acl_words.specs.Command.{Command, Shown, the_view, an_answer, an_explanation, preview, encode, seal, view, sample}
use Rattle.acl_run.specs.Readers.{licence_of, keys_of, document_of, encodable_of, query_of, sealed_licence_of, most_key_bytes}
use Rattle.acl_run.specs.Steps.{Step, reads, asks, opens, makes, writes, are_rules, is_query, is_document, has_file, are_keys, is_body, is_licence, Finding, good, unknown, finding_of}
use Rattle.acl_run.specs.Steps.{is_reading_of, is_opening_of, is_writing_to, may_end_in, may_end_from, is_before, is_after}

-- ---- the steps of each command

-- What is found of the query of a `preview`. `USER` in it is the user of the rules; where the rules are refused, so is
-- the query, by the same outcome. If there is no query, the finding is good. If the rules aren't told, it is unknown.
abbrev pub query_finding : Shown → Option (List ℕ) → Finding
query_finding the_view rules = good
query_finding (an_answer query) rules = finding_of (λ bytes. licence_of bytes >>= λ licence. query_of licence.user query) rules
query_finding an_explanation rules = good

-- What is found of a sealed licence, whose seal is checked under the seal key. Where the keys are refused, so is the
-- licence, by the same outcome. If the keys or the licence aren't told, the finding is unknown.
abbrev pub licence_finding : Option (List ℕ) → Option (List ℕ) → Finding
licence_finding None sealed = unknown
licence_finding (Some secret) sealed = finding_of (λ bytes. keys_of secret >>= λ keys. sealed_licence_of keys.seal bytes) sealed

-- What is found of the query of a `view`. `USER` in it is the user of the sealed licence; where the keys or the
-- licence are refused, so is the query, by the same outcome. If there is no query, the finding is good. If the keys or
-- the licence aren't told, it is unknown.
abbrev pub sealed_query_finding : Shown → Option (List ℕ) → Option (List ℕ) → Finding
sealed_query_finding the_view secret sealed = good
sealed_query_finding (an_answer query) None sealed = unknown
sealed_query_finding (an_answer query) (Some secret) sealed =
    finding_of (λ bytes. keys_of secret >>= λ keys. sealed_licence_of keys.seal bytes >>= λ licence. query_of licence.user query) sealed
sealed_query_finding an_explanation secret sealed = good

-- The steps of each command, in order, for the bytes that the keys and the input tell.
abbrev pub steps_of : Command → Option (List ℕ) → Option (List ℕ) → List Step
steps_of (preview what) rules lines =
    reads keys ∷ asks are_rules (finding_of licence_of rules) ∷ asks is_query (query_finding what rules)
    ∷ reads input ∷ asks is_document (finding_of document_of lines) ∷ makes ∷ writes out ∷ []
steps_of encode secret lines =
    reads keys ∷ asks are_keys (finding_of keys_of secret)
    ∷ reads input ∷ asks is_document (finding_of document_of lines) ∷ asks has_file (finding_of encodable_of lines)
    ∷ makes ∷ writes out ∷ writes note ∷ []
steps_of seal secret body =
    reads keys ∷ asks are_keys (finding_of keys_of secret)
    ∷ reads input ∷ asks is_body (finding_of licence_of body) ∷ makes ∷ writes out ∷ []
steps_of (view what) secret sealed =
    reads keys ∷ asks are_keys (finding_of keys_of secret)
    ∷ reads input ∷ asks is_licence (licence_finding secret sealed) ∷ asks is_query (sealed_query_finding what secret sealed)
    ∷ opens ∷ makes ∷ writes out ∷ []
steps_of (sample size) rules lines = makes ∷ writes out ∷ writes note ∷ []

-- whether a run that is to show this may end so at the reading of the query
abbrev pub ends_at_query : Shown → End → Bool
ends_at_query what e = may_end_in (asks is_query (query_finding what None) ∷ []) e

-- the steps of a command where neither source tells its bytes
abbrev pub untold_steps : Command → List Step
untold_steps c = steps_of c None None

-- the most bytes that the keys of a command may have: 0 where it reads none
abbrev pub keys_limit : Command → ℕ
keys_limit (preview what) = most_key_bytes
keys_limit encode = most_key_bytes
keys_limit seal = most_key_bytes
keys_limit (view what) = most_key_bytes
keys_limit (sample size) = 0

-- the most bytes that the input of a command may have: 0 where it reads none
abbrev pub input_limit : Command → ℕ
input_limit (preview what) = most_document_bytes
input_limit encode = most_document_bytes
input_limit seal = most_key_bytes
input_limit (view what) = most_key_bytes
input_limit (sample size) = 0

-- ---- what follows from the steps, whatever bytes the sources have

-- whether a command uses an object: it reads it, opens it or writes to it
abbrev pub uses : Command → Object → Bool
uses c x = list_any (λ step. is_reading_of x step || (is_opening_of x step || is_writing_to x step)) (untold_steps c)

-- whether a command may end with this outcome
unfoldable pub may_end : Command → Outcome → Bool
may_end c outcome = may_end_from (untold_steps c) (end_of outcome)

-- whether this end of a command comes only after the reading of the keys, and can come there
unfoldable pub is_after_keys : Command → End → Bool
is_after_keys c e = is_after (is_reading_of keys) (untold_steps c) e

-- whether this end of a command comes only after the reading of the input, and can come there
unfoldable pub is_after_input : Command → End → Bool
is_after_input c e = is_after (is_reading_of input) (untold_steps c) e

-- whether this end of a command comes only before the reading of the input; where it reads none, each end does
unfoldable pub precedes_input : Command → End → Bool
precedes_input c e = is_before (is_reading_of input) (untold_steps c) e

-- whether this end of a command comes only before the opening of the store; where it opens none, each end does
unfoldable pub precedes_store : Command → End → Bool
precedes_store c e = is_before (is_opening_of store) (untold_steps c) e

-- whether this end of a command comes only before the writing of the output
unfoldable pub precedes_output : Command → End → Bool
precedes_output c e = is_before (is_writing_to out) (untold_steps c) e

-- whether this end of a command comes only before the writing of the note; where it writes none, each end does
unfoldable pub precedes_note : Command → End → Bool
precedes_note c e = is_before (is_writing_to note) (untold_steps c) e

-- what the keys tell, where a command uses them; else no bytes
abbrev pub keys_for : Command → Option (List ℕ) → Option (List ℕ)
keys_for c left = if uses c keys then left else Some []

-- What the input tells, where a command uses it; else no bytes. Where a command opens a store it is None, since the
-- two sources alone don't determine the text that is due.
abbrev pub input_for : Command → Option (List ℕ) → Option (List ℕ)
input_for c left = if uses c store then None else if uses c input then left else Some []
