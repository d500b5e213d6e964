-- Names, ways, literals and numbers that grow by one byte.
use Rattle.std.proofs.Common.{◌≡◌, ℕ, suc, ◌+◌, ◌-◌, ◌*◌, ◌^◌, ◌<◌, ◌≤◌, min, Bool, true, false, not, nat_eq, nat_le, nat_lt, ◌&&◌, Option, Some, None, List, [], ◌∷◌, ◌++◌, length, map, flat_map, refl, sym, ap, subst, ◌∙◌, arith, append_assoc, append-nil, length-append, rules}
use Rattle.std.specs.List.{list_all}
use Rattle.std.specs.Char.{is_ascii_digit, digit_value}
use Rattle.std.specs.Str.Parse.{digits_value, AllDigits}
use Rattle.std.proofs.lemmas.Int.Digits.{digits_value_push}
use Rattle.std.proofs.lemmas.Str.{digit_value_digit}
use Rattle.std.proofs.lemmas.Str.Parse.{IsNumeralModel, IsDigitsTest, numerals_by_value, digits_value_short}
use Rattle.std.proofs.lemmas.List.Folds.{list_all-append}
use Rattle.std.proofs.lemmas.List.Concat.{flat_map-append}
use Rattle.std.proofs.lemmas.Bool.{ltb-true, lt-ltb}
use borrow.Author.Tests.{eqb-true, leb-true}
use Rattle.acl_model.specs.Names.{begins_name, continues_name, is_spelled_as_name, is_name}
use Rattle.acl_model.specs.declared.path.PredStep.{PredStep}
use Rattle.acl_model.specs.declared.path.Axis.{Axis}
use Rattle.acl_model.specs.declared.path.Axis.TheVariants.{Child, Descendant}
use Rattle.acl_model.specs.declared.path.Test.{Test}
use Rattle.acl_model.specs.declared.path.Test.TheVariants.{Any, Named}
use Rattle.xpath_rules.specs.Grammar.{slash_text, test_text, lead_text, further_text, way_text, is_test, is_way, body_text}
use Rattle.xpath_rules.specs.PathMachine.{longer_test, has_room}

-- ---- Bool

pub and_left : (a b : Bool) → (a && b) ≡ true → a ≡ true
and_left true b h = refl
and_left false b h = h

pub and_right : (a b : Bool) → (a && b) ≡ true → b ≡ true
and_right true b h = h
and_right false b h = cc

pub and_both : (a b : Bool) → a ≡ true → b ≡ true → (a && b) ≡ true
and_both a b p q = rw (p, q) refl

pub le_test : (m n : ℕ) → m ≤ n → nat_le m n ≡ true
le_test m n h = grind arith

pub test_le : (m n : ℕ) → nat_le m n ≡ true → m ≤ n
test_le m n h = leb-true m n h

pub test_lt : (m n : ℕ) → nat_lt m n ≡ true → m < n
test_lt m n h = ltb-true m n h

pub lt_test : (m n : ℕ) → m < n → nat_lt m n ≡ true
lt_test m n h = lt-ltb m n h

-- ---- one more element

pub all_more : {X : Type 0} (p : X → Bool) (xs : List X) (x : X) → list_all p xs ≡ true → p x ≡ true → list_all p (xs ++ x ∷ []) ≡ true
all_more p xs x all one = list_all-append p xs (x ∷ []) ∙ and_both _ _ all (and_both _ _ one refl)

pub length_more : {X : Type 0} (xs : List X) (x : X) → length (xs ++ x ∷ []) ≡ suc (length xs)
length_more xs x = length-append xs (x ∷ []) ∙ omega arith

-- ---- names

pub first_name : (b : ℕ) → begins_name b ≡ true → is_name (b ∷ []) ≡ true
first_name b h = and_both _ _ (and_both _ _ h refl) refl

spelled_more : (name : List ℕ) (b : ℕ) → is_spelled_as_name name ≡ true → continues_name b ≡ true → is_spelled_as_name (name ++ b ∷ []) ≡ true
spelled_more [] b h more = cc
spelled_more (c ∷ cs) b h more = and_both _ _ (and_left (begins_name c) _ h) (all_more continues_name cs b (and_right (begins_name c) _ h) more)

pub name_more : (name : List ℕ) (b : ℕ) → is_name name ≡ true → (continues_name b && nat_lt (length name) 255) ≡ true → is_name (name ++ b ∷ []) ≡ true
name_more name b h more = and_both _ _
    (spelled_more name b (and_left (is_spelled_as_name name) _ h) (and_left (continues_name b) _ more))
    (le_test _ _ (let lt = test_lt _ _ (and_right (continues_name b) _ more) in let n = length_more name b in omega (arith, lt, n)))

pub test_more : (test : Test) (b : ℕ) → is_test test ≡ true → (continues_name b && has_room test) ≡ true → is_test (longer_test test b) ≡ true
test_more Any b h more = refl
test_more (Named name) b h more = name_more name b h more

pub test_text_more : (test : Test) (b : ℕ) → has_room test ≡ true → test_text (longer_test test b) ≡ test_text test ++ b ∷ []
test_text_more Any b h = cc
test_text_more (Named name) b h = refl

-- ---- ways

-- What comes before the test of a later step of a way.
abbrev pub opening : List PredStep → Axis → List ℕ
opening [] axis = lead_text axis
opening (s ∷ way) axis = slash_text axis

pub way_text_more : (way : List PredStep) (s : PredStep) → way_text (way ++ s ∷ []) ≡ way_text way ++ (opening way s.axis ++ test_text s.test)
way_text_more [] s = ap (λ t. lead_text s.axis ++ t) (append-nil (test_text s.test))
way_text_more (r ∷ way) s = rw (flat_map-append further_text way (s ∷ [])) (simp (append_assoc, append-nil))

pub way_more : (way : List PredStep) (s : PredStep) → is_way way ≡ true → is_test s.test ≡ true → is_way (way ++ s ∷ []) ≡ true
way_more way s all one = all_more (λ s. is_test s.test) way s all one

-- A body that is a whole way.
pub body_of_way : (way : List PredStep) (s : PredStep) → body_text (way ++ s ∷ []) None ≡ way_text (way ++ s ∷ [])
body_of_way [] s = refl
body_of_way (r ∷ way) s = refl

-- What comes between a way and the name of an attribute.
abbrev pub at_text : List PredStep → List ℕ
at_text [] = 64 ∷ []
at_text (s ∷ way) = 47 ∷ 64 ∷ []

pub at_text_after : (way : List PredStep) (s : PredStep) → at_text (way ++ s ∷ []) ≡ 47 ∷ 64 ∷ []
at_text_after [] s = refl
at_text_after (r ∷ way) s = refl

pub opening_after : (way : List PredStep) (s : PredStep) (axis : Axis) → opening (way ++ s ∷ []) axis ≡ slash_text axis
opening_after [] s axis = refl
opening_after (r ∷ way) s axis = refl

pub body_of_attribute : (way : List PredStep) (name : List ℕ) → body_text way (Some name) ≡ way_text way ++ (at_text way ++ name)
body_of_attribute [] name = refl
body_of_attribute (s ∷ way) name = refl

-- ---- digits

own_test : IsDigitsTest (λ ds. list_all is_ascii_digit ds ≡ true)
own_test = search rules

-- Digits are std's numerals.
pub own : IsNumeralModel (λ ds. list_all is_ascii_digit ds ≡ true) (digits_value 10)
own = numerals_by_value _ own_test

pub digit_is : (b : ℕ) → is_ascii_digit b ≡ true → digit_value b ≡ b - 48
digit_is b h = search rules

pub value_more : (ds : List ℕ) (b : ℕ) → is_ascii_digit b ≡ true → digits_value 10 ds * 10 + (b - 48) ≡ digits_value 10 (ds ++ b ∷ [])
value_more ds b h = sym (digits_value_push 10 ds b ∙ ap (λ d. digits_value 10 ds * 10 + d) (digit_is b h))

pub value_first : (b : ℕ) → is_ascii_digit b ≡ true → b - 48 ≡ digits_value 10 (b ∷ [])
value_first b h = sym (digit_is b h) ∙ omega arith

-- 18 digits are below 10^18, so the least of the two is their value.
pub value_of_18 : (ds : List ℕ) → list_all is_ascii_digit ds ≡ true → length ds ≤ 18 → min (digits_value 10 ds) 999999999999999999 ≡ digits_value 10 ds
value_of_18 ds h few = let below : digits_value 10 ds < 10 ^ 18 = digits_value_short own ds 18 h few in omega (arith, below)

-- 17 digits are below 10^17.
pub value_of_17 : (ds : List ℕ) → list_all is_ascii_digit ds ≡ true → length ds ≤ 17 → digits_value 10 ds < 100000000000000000
value_of_17 ds h few = let below : digits_value 10 ds < 10 ^ 17 = digits_value_short own ds 17 h few in omega (arith, below)
