-- What a run does where a source has more bytes than its limit. Defined by this project.
use Rattle.std.specs.Prelude.{ℕ, ◌<◌, ◌≤◌, Bool, true, false, Option, Some, None, List, length}
use Rattle.acl_outcome.specs.Ends.{Subject, a_length, a_document, a_seal, a_licence, some_states, a_query, some_keys, a_size, a_file}
use Rattle.acl_outcome.specs.Ends.{End, done, no_memory, usage, fault, stopped, refused}

-- If the source tells its bytes, and has more of them than the limit, the fact is true.
abbrev pub WhereTooLong : ℕ → Option (List ℕ) → Type 0 → Type 0
WhereTooLong limit None fact = Unit {0}
WhereTooLong limit (Some bytes) fact = limit < length bytes → fact

-- If the source tells its bytes, and has at most as many as the limit, the fact is true.
abbrev pub WhereWithin : ℕ → Option (List ℕ) → Type 0 → Type 0
WhereWithin limit None fact = Unit {0}
WhereWithin limit (Some bytes) fact = length bytes ≤ limit → fact

-- whether the subject of a refusal is how many bytes a source has
abbrev pub is_of_length : Subject → Bool
is_of_length a_length = true
is_of_length a_document = false
is_of_length a_seal = false
is_of_length a_licence = false
is_of_length some_states = false
is_of_length a_query = false
is_of_length some_keys = false
is_of_length a_size = false
is_of_length a_file = false

-- whether the run ended because a source has too many bytes
abbrev pub is_too_long : End → Bool
is_too_long done = false
is_too_long no_memory = false
is_too_long usage = false
is_too_long (fault x) = false
is_too_long stopped = false
is_too_long (refused subject) = is_of_length subject
