-- Which documents have a file, and how those that have none are refused.
use Rattle.std.proofs.Common.{◌≡◌, ℕ, ◌<◌, ◌≤◌, Bool, true, false, ◌&&◌, Result, Ok, Err, length, IsTrue, refl, List}
use Rattle.std.specs.Prelude.{nat_le, nat_lt, if◌then◌else◌}
use Rattle.acl_model.specs.Dictionary.{dictionary}
use Rattle.acl_model.specs.declared.document.Doc.{Doc}
use Rattle.skip_encode.specs.EncodedFile.{IsFileOf}
use Rattle.skip_encode.specs.PlainStream.{sections_size}
use Rattle.skip_encode.specs.declared.encoded.Encoded.{Encoded}
use Rattle.skip_encode.specs.declared.fault.EncodeFault.{EncodeFault}
use Rattle.skip_encode.specs.declared.fault.EncodeFault.TheVariants.{TooManyTags, TooLarge, NoMemory}
use Rattle.acl_outcome.specs.declared.outcome.Outcome.{Outcome}
use Rattle.acl_outcome.specs.Ends.{end_of}
use Rattle.acl_run.specs.Outcomes.{outcome_of_encode_fault}
use Rattle.acl_run.specs.Readers.{with_file}
use Rattle.acl_run.specs.inside.SourceSteps.{ends_asking}
use Rattle.acl_run.specs.Steps.{has_file, OrNoMemory}
use borrow.Author.Tests.{leb-true, lt-ltb, le-ltb}

-- ---- which answer is chosen

both : (a b : Bool) → (a && b) ≡ true → (a ≡ true) × (b ≡ true)
both true true h = (refl, refl)
both true false h = absurd (cc)
both false b h = absurd (cc)

-- the answer for a document of too many names, for one that is too large, and for any other
abbrev chosen : Bool → Bool → Doc → Result Doc Outcome
chosen many large d = if many then Err Outcome.TooManyTags else if large then Err Outcome.TooLarge else Ok d

neither : (many large : Bool) (d : Doc) → many ≡ false → large ≡ false → chosen many large d ≡ Ok d
neither true large d not_many not_large = absurd (cc)
neither false true d not_many not_large = absurd (cc)
neither false false d not_many not_large = refl

many_names : (many large : Bool) (d : Doc) → many ≡ true → chosen many large d ≡ Err Outcome.TooManyTags
many_names true large d is_many = refl
many_names false large d is_many = absurd (cc)

large_alone : (many large : Bool) (d : Doc) → many ≡ false → large ≡ true → chosen many large d ≡ Err Outcome.TooLarge
large_alone true large d not_many is_large = absurd (cc)
large_alone false true d not_many is_large = refl
large_alone false false d not_many is_large = absurd (cc)

-- ---- files

-- If a file was made of a document, the document has one.
pub made_has_file : (d : Doc) (key : List ℕ) (encoded : Encoded) → IsFileOf d key encoded → with_file d ≡ Ok d
unfolding with_file
made_has_file d key encoded made =
    let fits = both (nat_le (length (dictionary d)) 256) (nat_le (sections_size d) 33554432) made.defined in
    neither (nat_lt 256 (length (dictionary d))) (nat_lt 33554432 (sections_size d)) d
    (le-ltb 256 (length (dictionary d)) (leb-true (length (dictionary d)) 256 fits.0))
    (le-ltb 33554432 (sections_size d) (leb-true (sections_size d) 33554432 fits.1))

-- A document of too many names is refused with TooManyTags.
refused_for_names : (d : Doc) → 256 < length (dictionary d) → with_file d ≡ Err Outcome.TooManyTags
unfolding with_file
refused_for_names d many =
    many_names (nat_lt 256 (length (dictionary d))) (nat_lt 33554432 (sections_size d)) d (lt-ltb 256 (length (dictionary d)) many)

-- A document that is too large alone is refused with TooLarge.
refused_for_size : (d : Doc) → length (dictionary d) ≤ 256 → 33554432 < sections_size d → with_file d ≡ Err Outcome.TooLarge
unfolding with_file
refused_for_size d few large =
    large_alone (nat_lt 256 (length (dictionary d))) (nat_lt 33554432 (sections_size d)) d
    (le-ltb 256 (length (dictionary d)) few) (lt-ltb 33554432 (sections_size d) large)

-- If no file was made, the document has none, or memory ran out.
pub refused_file : (d : Doc) (o : Outcome) (failure : EncodeFault) (r : Result Encoded EncodeFault) → o ≡ outcome_of_encode_fault failure → r ≡ Err failure
    → (r ≡ Err TooManyTags → 256 < length (dictionary d)) → (r ≡ Err TooLarge → length (dictionary d) ≤ 256)
    → (r ≡ Err TooLarge → 33554432 < sections_size d)
    → OrNoMemory (end_of o) (with_file d ≡ Err o)
refused_file d o TooManyTags r is failed many few large = rw is (refused_for_names d (many failed))
refused_file d o TooLarge r is failed many few large = rw is (refused_for_size d (few failed) (large failed))
refused_file d o NoMemory r is failed many few large = rw is tt

pub refusal_ends : (o : Outcome) (failure : EncodeFault) → o ≡ outcome_of_encode_fault failure → IsTrue (ends_asking has_file (end_of o))
refusal_ends o TooManyTags is = rw is refl
refusal_ends o TooLarge is = rw is refl
refusal_ends o NoMemory is = rw is refl
