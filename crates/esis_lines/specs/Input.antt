-- What `read_all` answers, and what it takes from its source. Defined by this project.
use Rattle.std.specs.Prelude.{◌≡◌, ℕ, ◌+◌, ◌≤◌, Bool, true, false, List, Option, Some, None, Result, Ok, Err, length, drop}
use Rattle.esis_lines.specs.declared.input.ReadAllFault.{ReadAllFault}
use Rattle.esis_lines.specs.declared.input.ReadAllFault.TheVariants.{TooLong, Failed, NoMemory}

-- Exactly `count` bytes were taken, if the source shows its bytes to come.
abbrev pub TakesCount : ℕ → Option (List ℕ) → Option (List ℕ) → Type 0
TakesCount count None new = Unit {0}
TakesCount count (Some before) None = ⊥
TakesCount count (Some before) (Some after) = (count ≤ length before) × (after ≡ drop count before)

-- Where the answer is TooLong, its limit is the one that was asked for, and one byte more than the limit was taken.
abbrev pub TookTooMany : ReadAllFault → ℕ → Option (List ℕ) → Option (List ℕ) → Type 0
TookTooMany (TooLong limit) asked old new = (limit ≡ asked) × TakesCount (asked + 1) old new
TookTooMany Failed asked old new = Unit {0}
TookTooMany NoMemory asked old new = Unit {0}

-- The answer is that the source failed.
abbrev pub is_failure : Result (List ℕ) ReadAllFault → Bool
is_failure (Ok bytes) = false
is_failure (Err (TooLong limit)) = false
is_failure (Err Failed) = true
is_failure (Err NoMemory) = false
