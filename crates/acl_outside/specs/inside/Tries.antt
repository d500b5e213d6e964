-- The reads that a loop makes of a file or a reader, and which of them failed. Defined by this project.
use Rattle.std.specs.Prelude.{◌≡◌, ℕ, ◌+◌, ◌-◌, ◌^◌, ◌⊎◌, Option, Some, None, Result, Ok, Err}
use Rattle.std.specs.IoError.{error_kind}
use Rattle.std.specs.declared.io.Error.{Error}
use Rattle.std.specs.declared.io.ErrorKind.TheVariants.{Interrupted}

-- how many reads were made, and how many of them failed
pub record Tries : Type 0 where
  pub made : ℕ
  pub failed : ℕ

-- the reads of an object that doesn't tell them
abbrev pub unknown_tries : Option Tries
unknown_tries = None

-- a signal interrupted the read before it gave a byte; such a read is repeated, and doesn't count as failed
abbrev pub IsCutOff : Error → Type 0
IsCutOff error = error_kind error ≡ Interrupted

-- where the reads are told: one more was made, and it failed where it answered an error other than an interruption
abbrev pub CountsTry : Option Tries → Option Tries → Result ℕ Error → Type 0
CountsTry None new result = Unit {0}
CountsTry (Some before) None result = ⊥
CountsTry (Some before) (Some after) (Ok count) =
    (after.made ≡ before.made + 1) × (after.failed ≡ before.failed)
CountsTry (Some before) (Some after) (Err error) =
    (after.made ≡ before.made + 1) × (IsCutOff error → after.failed ≡ before.failed)
    × (¬ IsCutOff error → after.failed ≡ before.failed + 1)

-- where the reads are told: no more of them failed
abbrev pub NoneFailed : Option Tries → Option Tries → Type 0
NoneFailed None new = Unit {0}
NoneFailed (Some before) None = ⊥
NoneFailed (Some before) (Some after) = after.failed ≡ before.failed

-- where the reads are told: one more of them failed, or 2^64 - 1 were made and none failed
abbrev pub OneFailed : Option Tries → Option Tries → Type 0
OneFailed None new = Unit {0}
OneFailed (Some before) None = ⊥
OneFailed (Some before) (Some after) =
    (after.failed ≡ before.failed + 1)
    ⊎ ((after.made ≡ before.made + (2 ^ 64 - 1)) × (after.failed ≡ before.failed))
