-- How a run ends for each fault of a licence body.
use Rattle.std.proofs.Common.{◌≡◌, ℕ, Err, List, IsTrue, refl}
use Rattle.licence.specs.Body.{read_body_of, Reads}
use Rattle.licence.specs.Sealed.{sealed_text_of}
use Rattle.licence.specs.declared.fault.LicenceFault.{LicenceFault}
use Rattle.licence.specs.declared.fault.LicenceFault.TheVariants.{BadSeal, BadRule, BadLicence, TooManyRules, TooManyStates, NoMemory}
use Rattle.licence.specs.declared.terms.Licence.{Licence}
use Rattle.licence.proofs.NoOther.{no_seal, no_seal_in_text}
use Rattle.acl_outcome.specs.declared.outcome.Outcome.{Outcome}
use Rattle.acl_outcome.specs.Ends.{keys, input, end_of}
use Rattle.acl_run.specs.Outcomes.{outcome_of_licence_fault}
use Rattle.acl_run.specs.inside.SourceSteps.{ends_reading}
use Rattle.acl_run.specs.Steps.{are_rules, is_body}

-- The body that `preview` reads has no seal, so BadSeal is no end there.
pub rules_end : (bytes : List ℕ) (o : Outcome) (failure : LicenceFault) → o ≡ outcome_of_licence_fault failure → Reads {A = Licence} (read_body_of bytes) (Err failure)
    → IsTrue (ends_reading keys are_rules (end_of o))
rules_end bytes o (BadSeal given made) is h = absurd (no_seal bytes given made h)
rules_end bytes o (BadRule line at) is h = rw is refl
rules_end bytes o (BadLicence line) is h = rw is refl
rules_end bytes o TooManyRules is h = rw is refl
rules_end bytes o TooManyStates is h = rw is refl
rules_end bytes o NoMemory is h = rw is refl

-- Neither has the body that `seal` reads.
pub body_end : (key bytes : List ℕ) (o : Outcome) (failure : LicenceFault) → o ≡ outcome_of_licence_fault failure → Reads {A = List ℕ} (sealed_text_of bytes key) (Err failure)
    → IsTrue (ends_reading input is_body (end_of o))
body_end key bytes o (BadSeal given made) is h = absurd (no_seal_in_text key bytes given made h)
body_end key bytes o (BadRule line at) is h = rw is refl
body_end key bytes o (BadLicence line) is h = rw is refl
body_end key bytes o TooManyRules is h = rw is refl
body_end key bytes o TooManyStates is h = rw is refl
body_end key bytes o NoMemory is h = rw is refl
