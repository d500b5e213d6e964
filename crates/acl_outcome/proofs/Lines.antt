-- The line of an outcome other than `Done`.
use Rattle.std.proofs.Common.{◌≡◌, ℕ, List, refl}
use Rattle.acl_outcome.specs.Outcome.{line_of, outcome_line}
use Rattle.acl_outcome.specs.declared.outcome.Outcome.{Outcome}
use Rattle.acl_outcome.specs.declared.outcome.Outcome.TheVariants.{Done, NoMemory, Usage, KeysFault, NoteFault, BadLine, Unsupported, Unbalanced, NoRoot, SecondRoot, TooDeep, NameTooLong, InputTooLong, SourceFault, TooManyAttributes, BadSeal, BadRule, BadLicence, TooManyRules, TooManyStates, BadKeys, BadQuery, BadHeader, WrongRoot, WrongKey, StoreShort, StoreFault, BadFragment, TooManyTags, TooLarge, BadIndex, SinkFault, Stopped}

-- An outcome other than `Done` has the line `line_of`.
pub line_unless_done : (o : Outcome) → (o ≡ Done → ⊥) → outcome_line o ≡ line_of o
line_unless_done Done h = absurd (h refl)
line_unless_done o h = refl
