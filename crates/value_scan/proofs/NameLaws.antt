-- One pass over a raw attribute decides whether it has the name, and finds what follows the name.
use Rattle.std.proofs.Common.{◌≡◌, ℕ, ◌+◌, ◌<◌, Bool, true, false, not, nat_eq, ◌&&◌, Option, Some, None, List, [], ◌∷◌, length, take, drop, refl, ap, sym, ◌∙◌, arith, if◌then◌else◌, drop-cons, suc}
use Rattle.std.specs.List.{before_first, after_first, position_or_len}
use Rattle.std.specs.Option.{option_map_or}
use Rattle.std.specs.Cmp.Lexicographic.{pointwise}
use Rattle.acl_model.specs.Predicates.{is_enough}
use Rattle.acl_model.specs.Values.{is_space, implied}
use Rattle.acl_model.specs.declared.path.Cmp.{Cmp}
use Rattle.value_scan.specs.Attributes.{after_name, attribute_is_enough, typed_is_enough}

-- A byte that isn't a space is before the first space.
before-other : (b : ℕ) (raw : List ℕ) → is_space b ≡ false
    → before_first is_space (b ∷ raw) ≡ b ∷ before_first is_space raw
before-other b raw other =
    let one : 1 + position_or_len is_space raw ≡ suc (position_or_len is_space raw) = omega arith in
    rw (other, one) refl

-- such a byte doesn't change what follows the first space
after-other : (b : ℕ) (raw : List ℕ) → is_space b ≡ false → after_first is_space (b ∷ raw) ≡ after_first is_space raw
after-other b raw other =
    let one : 1 + position_or_len is_space raw + 1 ≡ suc (position_or_len is_space raw + 1) = omega arith in
    rw (other, one) refl

-- The attribute has the name, and what follows its first space passes the test.
abbrev has_name : (List ℕ → Bool) → List ℕ → List ℕ → Bool
has_name test name raw = pointwise nat_eq (before_first is_space raw) name && test (after_first is_space raw)

-- the same, computed in one pass
abbrev passes_after : (List ℕ → Bool) → List ℕ → List ℕ → Bool
passes_after test name raw = option_map_or test (after_name name raw) false

name_ends : (test : List ℕ → Bool) (b : ℕ) (raw : List ℕ) (t : Bool) → is_space b ≡ t
    → has_name test [] (b ∷ raw) ≡ passes_after test [] (b ∷ raw)
name_ends test b raw true is = rw is refl
name_ends test b raw false is = rw (before-other b raw is, is) refl

name_goes_on : (test : List ℕ → Bool) (n b : ℕ) (name raw : List ℕ) (t : Bool) → is_space b ≡ t
    → has_name test name raw ≡ passes_after test name raw
    → has_name test (n ∷ name) (b ∷ raw) ≡ passes_after test (n ∷ name) (b ∷ raw)
name_goes_on test n b name raw true is rest =
    rw is (elim (nat_eq b n) as
    (λ t. false ≡ option_map_or test (if t && false then after_name name raw else None) false)
    [ true ↦ refl | false ↦ refl ])
name_goes_on test n b name raw false is rest =
    rw (before-other b raw is, after-other b raw is, is)
    (elim (nat_eq b n) as
    (λ t. ((t && pointwise nat_eq (before_first is_space raw) name) && test (after_first is_space raw)) ≡
    option_map_or test (if t && true then after_name name raw else None) false)
    [ true ↦ rest | false ↦ refl ])

-- One pass finds the name, and what follows its space.
name_is : (test : List ℕ → Bool) (name raw : List ℕ) → has_name test name raw ≡ passes_after test name raw
name_is test [] [] = refl
name_is test [] (b ∷ raw) = name_ends test b raw (is_space b) refl
name_is test (n ∷ name) [] = refl
name_is test (n ∷ name) (b ∷ raw) = name_goes_on test n b name raw (is_space b) refl (name_is test name raw)

and_assoc : (a b c : Bool) → ((a && b) && c) ≡ (a && (b && c))
and_assoc true b c = refl
and_assoc false b c = refl

-- So an attribute is enough exactly where one pass finds its name, and its type and value are enough.
attribute_is : (name : List ℕ) (cmp : Option Cmp) (raw : List ℕ)
    → attribute_is_enough name cmp raw ≡ option_map_or (typed_is_enough cmp) (after_name name raw) false
attribute_is name cmp raw =
    and_assoc (pointwise nat_eq (before_first is_space raw) name)
    (not (pointwise nat_eq (before_first is_space (after_first is_space raw)) implied))
    (is_enough cmp (after_first is_space (after_first is_space raw)))
    ∙ name_is (typed_is_enough cmp) name raw

-- the attribute has the name
pub attribute_found : (name : List ℕ) (cmp : Option Cmp) (raw typed : List ℕ) → after_name name raw ≡ Some typed
    → typed_is_enough cmp typed ≡ attribute_is_enough name cmp raw
attribute_found name cmp raw typed found =
    sym (attribute_is name cmp raw ∙ ap (λ o. option_map_or (typed_is_enough cmp) o false) found)

-- the attribute has another name
pub attribute_other : (name : List ℕ) (cmp : Option Cmp) (raw : List ℕ) → after_name name raw ≡ None
    → false ≡ attribute_is_enough name cmp raw
attribute_other name cmp raw other =
    sym (attribute_is name cmp raw ∙ ap (λ o. option_map_or (typed_is_enough cmp) o false) other)

-- A name is not found where the attribute ends within it.
pub after_name-short : (name rest : List ℕ) (i : ℕ) → i < length name → length rest < 1
    → after_name (drop i name) rest ≡ None
after_name-short name [] i inside short = rw (drop-cons name i 0 inside) refl
after_name-short name (b ∷ rest) i inside short = absurd (omega arith)

pub ruleset name_steps = (drop-cons, after_name-short)

pub ruleset attribute_laws = (attribute_found, attribute_other)
