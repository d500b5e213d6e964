-- How the reads of one loop count together.
use Rattle.std.proofs.Common.{◌≡◌, ℕ, ◌+◌, Option, Some, None, Ok, Err, inl, ◌∙◌, arith}
use Rattle.std.specs.declared.io.Error.{Error}
use Rattle.acl_outside.specs.inside.Tries.{Tries, IsCutOff, CountsTry, OneFailed}

-- where the reads are told: so many more were made, and none failed
abbrev pub Passed : Option Tries → Option Tries → ℕ → Type 0
Passed None new count = Unit {0}
Passed (Some before) None count = ⊥
Passed (Some before) (Some after) count = (after.made ≡ before.made + count) × (after.failed ≡ before.failed)

-- one that gave bytes
pub Passed-given : (a b c : Option Tries) (turn n : ℕ) → Passed a b turn → CountsTry b c (Ok n) → Passed a c (turn + 1)
Passed-given None b c turn n before one = tt
Passed-given (Some al) None c turn n before one = absurd before
Passed-given (Some al) (Some bl) None turn n before one = absurd one
Passed-given (Some al) (Some bl) (Some cl) turn n before one = (omega (arith, before.0, one.0), one.1 ∙ before.1)

-- one that a signal interrupted
pub Passed-cut_off : (a b c : Option Tries) (turn : ℕ) (e : Error) → IsCutOff e → Passed a b turn → CountsTry b c (Err e) → Passed a c (turn + 1)
Passed-cut_off None b c turn e signal before one = tt
Passed-cut_off (Some al) None c turn e signal before one = absurd before
Passed-cut_off (Some al) (Some bl) None turn e signal before one = absurd one
Passed-cut_off (Some al) (Some bl) (Some cl) turn e signal before one =
    (omega (arith, before.0, one.0), one.1 signal ∙ before.1)

-- the last one failed
pub OneFailed-last : (a b c : Option Tries) (turn : ℕ) (e : Error) → ¬ IsCutOff e → Passed a b turn → CountsTry b c (Err e) → OneFailed a c
OneFailed-last None b c turn e broken before one = tt
OneFailed-last (Some al) None c turn e broken before one = absurd before
OneFailed-last (Some al) (Some bl) None turn e broken before one = absurd one
OneFailed-last (Some al) (Some bl) (Some cl) turn e broken before one = inl (omega (arith, before.1, one.2 broken))
