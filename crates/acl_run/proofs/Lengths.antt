-- What a run does where a source has more bytes than its limit.
use Rattle.std.proofs.Common.{◌≡◌, ℕ, Bool, true, false, Option, Some, None, Result, Ok, Err, List, length, IsTrue}
use Rattle.std.proofs.Common.{IfSome, refl, sym, ap, subst, arith, true≢false}
use Rattle.std.specs.Prelude.{nat_le, if◌then◌else◌, ◌≤◌}
use Rattle.std.specs.Bool.{OnTrue}
use Rattle.std.specs.Result.{result_map_both}
use Rattle.std.proofs.lemmas.Bool.{leb-true, le-leb}
use Rattle.licence.specs.Body.{read_body_of}
use Rattle.licence.specs.Keys.{read_keys_of}
use Rattle.licence.specs.declared.fault.LicenceFault.{LicenceFault}
use Rattle.licence.specs.declared.fault.LicenceFault.TheVariants.{BadSeal, BadRule, BadLicence, TooManyRules}
use Rattle.licence.specs.declared.fault.LicenceFault.TheVariants.{TooManyStates, NoMemory}
use Rattle.licence.specs.declared.keys.Keys.{Keys}
use Rattle.licence.specs.declared.keys.KeysError.{KeysError}
use Rattle.licence.specs.declared.terms.Licence.{Licence}
use Rattle.acl_outcome.specs.declared.outcome.Outcome.{Outcome}
use Rattle.acl_outcome.specs.Ends.{Object, keys, input, a_length, a_document, a_seal, a_licence, some_states, a_query}
use Rattle.acl_outcome.specs.Ends.{some_keys, a_size, a_file}
use Rattle.acl_outcome.specs.Ends.{End, done, no_memory, usage, fault, stopped, refused, end_of}
use Rattle.acl_words.specs.Command.{Shown, sample}
use Rattle.acl_run.specs.Lengths.{WhereTooLong, WhereWithin, is_too_long}
use Rattle.acl_run.specs.inside.Opening.{ends_opening}
use Rattle.acl_run.specs.Outcomes.{outcome_of_keys_error, outcome_of_licence_fault}
use Rattle.acl_run.specs.Readers.{keys_of, licence_of, most_key_bytes, read_within}
use Rattle.acl_run.specs.inside.SourceSteps.{is_refusal, ends_asking}
use Rattle.acl_run.specs.Steps.{has_file, may_end_from, OrNoMemory, OrFaultOf}
use Rattle.acl_run.specs.Work.{ends_at_query, may_end, untold_steps}
use Rattle.acl_run.specs.inside.WritingSteps.{writing_steps, noting_steps}

-- ---- where the keys are too long

-- bytes that were read as a value are within the limit
read_is_within : {A : Type 0} (within : Bool) (wanted : Result A Outcome) (refusal : Outcome) (a : A)
    → (if within then wanted else Err refusal) ≡ Ok a → within ≡ true
read_is_within true wanted refusal a is = refl
read_is_within false wanted refusal a is = absurd (cc)

keys_are_within : (bytes : List ℕ) (secret : Keys) → keys_of bytes ≡ Ok secret → length bytes ≤ most_key_bytes
unfolding keys_of
keys_are_within bytes secret is =
    leb-true (length bytes) most_key_bytes (read_is_within (nat_le (length bytes) most_key_bytes) _ _ secret is)

rules_are_within : (bytes : List ℕ) (licence : Licence) → licence_of bytes ≡ Ok licence
    → length bytes ≤ most_key_bytes
unfolding licence_of
rules_are_within bytes licence is =
    leb-true (length bytes) most_key_bytes (read_is_within (nat_le (length bytes) most_key_bytes) _ _ licence is)

-- where keys were read they are not too long
pub keys_not_long : (kl : Option (List ℕ)) (secret : Keys) (P : Type 0)
    → IfSome kl (λ bytes. keys_of bytes ≡ Ok secret) → WhereTooLong most_key_bytes kl P
keys_not_long None secret P is = tt
keys_not_long (Some bytes) secret P is =
    λ long. absurd (let fits = keys_are_within bytes secret is in omega (arith, fits, long))

-- where rules were read they are not too long
pub rules_not_long : (kl : Option (List ℕ)) (licence : Licence) (P : Type 0)
    → IfSome kl (λ bytes. licence_of bytes ≡ Ok licence) → WhereTooLong most_key_bytes kl P
rules_not_long None licence P is = tt
rules_not_long (Some bytes) licence P is =
    λ long. absurd (let fits = rules_are_within bytes licence is in omega (arith, fits, long))

-- a true fact is true where a source is too long
pub long_anyway : (limit : ℕ) (left : Option (List ℕ)) (P : Type 0) → P → WhereTooLong limit left P
long_anyway limit None P p = tt
long_anyway limit (Some bytes) P p = λ long. p

-- a fact for a source that is too long may be replaced by one that it implies
pub long_so : (limit : ℕ) (left : Option (List ℕ)) (P Q : Type 0) → (P → Q) → WhereTooLong limit left P
    → WhereTooLong limit left Q
long_so limit None P Q f p = tt
long_so limit (Some bytes) P Q f p = λ long. f (p long)

-- ---- where the input is too long

-- a true fact is true where a source is within its limit
pub within_anyway : (limit : ℕ) (left : Option (List ℕ)) (P : Type 0) → P → WhereWithin limit left P
within_anyway limit None P p = tt
within_anyway limit (Some bytes) P p = λ within. p

-- nothing is claimed of a run that did not end by a length
not_long : (e : End) (P : Type 0) → is_too_long e ≡ false → OnTrue (is_too_long e) P
not_long e P h = subst (λ (b : Bool). OnTrue b P) (sym h) tt

pub other_end : (limit : ℕ) (left : Option (List ℕ)) (e : End) (P : Type 0) → is_too_long e ≡ false
    → WhereWithin limit left (OnTrue (is_too_long e) P)
other_end limit left e P h = within_anyway limit left (OnTrue (is_too_long e) P) (not_long e P h)

-- a run that ended by a length ended by a refusal
input_was_read : (e : End) (P Q : Type 0) → P → OnTrue (is_refusal e) Q → OnTrue (is_too_long e) (P × Q)
input_was_read done P Q p q = tt
input_was_read no_memory P Q p q = tt
input_was_read usage P Q p q = tt
input_was_read (fault x) P Q p q = tt
input_was_read stopped P Q p q = tt
input_was_read (refused a_length) P Q p q = (p, q)
input_was_read (refused a_document) P Q p q = tt
input_was_read (refused a_seal) P Q p q = tt
input_was_read (refused a_licence) P Q p q = tt
input_was_read (refused some_states) P Q p q = tt
input_was_read (refused a_query) P Q p q = tt
input_was_read (refused some_keys) P Q p q = tt
input_was_read (refused a_size) P Q p q = tt
input_was_read (refused a_file) P Q p q = tt

-- the run ended at the reading of the input
pub ends_at_input : (limit : ℕ) (left : Option (List ℕ)) (e : End) (P Q : Type 0) → P → OnTrue (is_refusal e) Q
    → WhereWithin limit left (OnTrue (is_too_long e) (P × Q))
ends_at_input limit left e P Q p q = within_anyway limit left _ (input_was_read e P Q p q)

-- bytes within the limit are refused, but not for their length
refused_so : (e : End) (x : Object) (P Q : Type 0) → (P → is_too_long e ≡ false) → OrNoMemory e (OrFaultOf x e P)
    → OnTrue (is_too_long e) Q
refused_so done x P Q f w = tt
refused_so no_memory x P Q f w = tt
refused_so usage x P Q f w = tt
refused_so (fault y) x P Q f w = tt
refused_so stopped x P Q f w = tt
refused_so (refused subject) x P Q f w = not_long (refused subject) Q (f w)

error_is_other : (error : KeysError) → is_too_long (end_of (outcome_of_keys_error error)) ≡ false
error_is_other (KeysError.BadKeys line) = refl
error_is_other KeysError.NoMemory = refl

fault_is_other : (failure : LicenceFault) → is_too_long (end_of (outcome_of_licence_fault failure)) ≡ false
fault_is_other (BadSeal given made) = refl
fault_is_other (BadRule line at) = refl
fault_is_other (BadLicence line) = refl
fault_is_other TooManyRules = refl
fault_is_other TooManyStates = refl
fault_is_other NoMemory = refl

same_refusal : {A : Type 0} (o p : Outcome) (r : Result A Outcome) → r ≡ Err o → r ≡ Err p → o ≡ p
same_refusal o p r o_is p_is = cc

keys_refusal : (within : Bool) (r : Result Keys KeysError) (refusal o : Outcome) → within ≡ true
    → (if within then result_map_both (λ keys. keys) outcome_of_keys_error r else Err refusal) ≡ Err o
    → is_too_long (end_of o) ≡ false
keys_refusal true (Ok secret) refusal o h is = absurd (cc)
keys_refusal true (Err error) refusal o h is =
    subst (λ (p : Outcome). is_too_long (end_of p) ≡ false) (same_refusal {A = Keys} (outcome_of_keys_error error) o (Err (outcome_of_keys_error error)) refl is) (error_is_other error)
keys_refusal false r refusal o h is = absurd (true≢false (sym h))

rules_refusal : (within : Bool) (r : Result Licence LicenceFault) (refusal o : Outcome) → within ≡ true
    → (if within then result_map_both (λ licence. licence) outcome_of_licence_fault r else Err refusal) ≡ Err o
    → is_too_long (end_of o) ≡ false
rules_refusal true (Ok licence) refusal o h is = absurd (cc)
rules_refusal true (Err failure) refusal o h is =
    subst (λ (p : Outcome). is_too_long (end_of p) ≡ false) (same_refusal {A = Licence} (outcome_of_licence_fault failure) o (Err (outcome_of_licence_fault failure)) refl is) (fault_is_other failure)
rules_refusal false r refusal o h is = absurd (true≢false (sym h))

keys_refusal_of : (bytes : List ℕ) (o : Outcome) → length bytes ≤ most_key_bytes → keys_of bytes ≡ Err o
    → is_too_long (end_of o) ≡ false
unfolding keys_of
keys_refusal_of bytes o within is =
    keys_refusal (nat_le (length bytes) most_key_bytes) (read_keys_of bytes) _ o
    (le-leb (length bytes) most_key_bytes within) is

rules_refusal_of : (bytes : List ℕ) (o : Outcome) → length bytes ≤ most_key_bytes → licence_of bytes ≡ Err o
    → is_too_long (end_of o) ≡ false
unfolding licence_of
rules_refusal_of bytes o within is =
    rules_refusal (nat_le (length bytes) most_key_bytes) (read_body_of bytes) _ o
    (le-leb (length bytes) most_key_bytes within) is

-- keys within the limit are not refused for their length
pub keys_end : (kl : Option (List ℕ)) (o : Outcome) (P : Type 0)
    → IfSome kl (λ bytes. OrNoMemory (end_of o) (OrFaultOf keys (end_of o) (keys_of bytes ≡ Err o)))
    → WhereWithin most_key_bytes kl (OnTrue (is_too_long (end_of o)) P)
keys_end None o P w = tt
keys_end (Some bytes) o P w =
    λ within. refused_so (end_of o) keys (keys_of bytes ≡ Err o) P (keys_refusal_of bytes o within) w

-- rules within the limit are not refused for their length
pub rules_end : (kl : Option (List ℕ)) (o : Outcome) (P : Type 0)
    → IfSome kl (λ bytes. OrNoMemory (end_of o) (OrFaultOf keys (end_of o) (licence_of bytes ≡ Err o)))
    → WhereWithin most_key_bytes kl (OnTrue (is_too_long (end_of o)) P)
rules_end None o P w = tt
rules_end (Some bytes) o P w =
    λ within. refused_so (end_of o) keys (licence_of bytes ≡ Err o) P (rules_refusal_of bytes o within) w

-- ---- at other steps no run ends by a length

pub query-not_long : (what : Shown) (e : End) → IsTrue (ends_at_query what e) → is_too_long e ≡ false
query-not_long what done h = absurd (true≢false (sym h))
query-not_long what no_memory h = refl
query-not_long what usage h = absurd (true≢false (sym h))
query-not_long what (fault x) h = absurd (true≢false (sym h))
query-not_long what stopped h = absurd (true≢false (sym h))
query-not_long what (refused a_length) h = absurd (true≢false (sym h))
query-not_long what (refused a_document) h = refl
query-not_long what (refused a_seal) h = refl
query-not_long what (refused a_licence) h = refl
query-not_long what (refused some_states) h = refl
query-not_long what (refused a_query) h = refl
query-not_long what (refused some_keys) h = refl
query-not_long what (refused a_size) h = refl
query-not_long what (refused a_file) h = refl

pub file-not_long : (e : End) → IsTrue (ends_asking has_file e) → is_too_long e ≡ false
file-not_long no_memory h = refl
file-not_long (refused a_size) h = refl
file-not_long e h = absurd (true≢false (sym h))

pub opening-not_long : (e : End) → IsTrue (ends_opening e) → is_too_long e ≡ false
opening-not_long no_memory h = refl
opening-not_long (fault x) h = refl
opening-not_long (refused a_file) h = refl
opening-not_long e h = absurd (true≢false (sym h))

pub writing-not_long : (e : End) → IsTrue (may_end_from writing_steps e) → is_too_long e ≡ false
writing-not_long done h = refl
writing-not_long no_memory h = refl
writing-not_long (fault x) h = refl
writing-not_long e h = absurd (true≢false (sym h))

pub noting-not_long : (e : End) → IsTrue (may_end_from noting_steps e) → is_too_long e ≡ false
noting-not_long done h = refl
noting-not_long (fault x) h = refl
noting-not_long e h = absurd (true≢false (sym h))

sample-not_long_so : (n : ℕ) (e : End) → IsTrue (may_end_from (untold_steps (sample n)) e) → is_too_long e ≡ false
sample-not_long_so n done h = refl
sample-not_long_so n no_memory h = refl
sample-not_long_so n (fault x) h = refl
sample-not_long_so n e h = absurd (true≢false (sym h))

pub sample-not_long : (n : ℕ) (o : Outcome) → IsTrue (may_end (sample n) o) → is_too_long (end_of o) ≡ false
unfolding may_end
sample-not_long n o h = sample-not_long_so n (end_of o) h
