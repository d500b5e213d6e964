-- How many bytes are taken of a source.
use Rattle.std.proofs.Common.{ℕ, ◌+◌, ◌≤◌, Option, Some, None, List, ◌++◌, length, drop, sym, arith, append-nil, ap, ◌∙◌}
use Rattle.std.proofs.lemmas.List.{drop_all}
use Rattle.std.specs.Io.KnownBytes.{Consumes, IsAtEnd}
use Rattle.esis_lines.specs.DocumentAnswers.{TakesUpTo}
use Rattle.esis_lines.specs.Input.{TakesCount}

-- all bytes were taken of a source that has at most as many as a limit
pub takes_all : (old new : Option (List ℕ)) (bytes : List ℕ) (most : ℕ) → Consumes old new bytes → IsAtEnd new → length bytes ≤ most → TakesUpTo (most + 1) old new
takes_all None new bytes most took ended fits = tt
takes_all (Some before) None bytes most took ended fits = absurd took
takes_all (Some before) (Some after) bytes most took ended fits =
    ended ∙ sym (ap (drop (most + 1)) (took ∙ ap (λ l. bytes ++ l) ended ∙ append-nil bytes) ∙ drop_all (most + 1) bytes (omega arith))

-- this number of bytes was taken of a source that has more
pub takes_count : (count : ℕ) (old new : Option (List ℕ)) → TakesCount count old new → TakesUpTo count old new
takes_count count None new took = tt
takes_count count (Some before) None took = absurd took
takes_count count (Some before) (Some after) took = took.1

-- for the reading of a source
pub ruleset taken = (takes_all, takes_count)
