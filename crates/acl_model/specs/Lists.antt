-- Prefixes of texts.
use Rattle.std.specs.Prelude.{ℕ, nat_eq, List, length, take, drop, Option, Some, None, if◌then◌else◌}
use Rattle.std.specs.Cmp.Lexicographic.{pointwise}

-- what follows `word` in a text that begins with it, or None where the text doesn't
abbrev pub text_after : List ℕ → List ℕ → Option (List ℕ)
text_after word bytes = if pointwise nat_eq (take (length word) bytes) word then Some (drop (length word) bytes) else None
