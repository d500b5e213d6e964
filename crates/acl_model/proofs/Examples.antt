-- Examples of the definitions of values, numbers and comparisons. Each is checked by computing it.
use Rattle.std.proofs.Common.{◌≡◌, ℕ, pos, negsuc, true, false, Some, None, List, [], ◌∷◌, codes, refl}
use Rattle.acl_model.specs.Numbers.{whole}
use Rattle.acl_model.specs.NameTests.{passes}
use Rattle.acl_model.specs.Values.{attribute_values}
use Rattle.acl_model.specs.Comparisons.{satisfies}
use Rattle.acl_model.specs.declared.document.Element.{Element}
use Rattle.acl_model.specs.declared.path.Op.TheVariants.{Eq, Ne, Lt, Le, Gt, Ge}
use Rattle.acl_model.specs.declared.path.Operand.TheVariants.{Text, Number, User}
use Rattle.acl_model.specs.declared.path.Test.TheVariants.{Any, Named}

-- ---- whole numbers

leading_zero : whole (codes "09") ≡ Some (pos 9)
leading_zero = refl

minus_zero : whole (codes "-0") ≡ Some (pos 0)
minus_zero = refl

below_zero : whole (codes "-12") ≡ Some (negsuc 11)
below_zero = refl

no_digits : whole [] ≡ None
no_digits = refl

minus_alone : whole (codes "-") ≡ None
minus_alone = refl

space_before : whole (codes " 9") ≡ None
space_before = refl

eighteen_digits : whole (codes "999999999999999999") ≡ Some (pos 999999999999999999)
eighteen_digits = refl

nineteen_digits : whole (codes "0000000000000000009") ≡ None
nineteen_digits = refl

-- ---- comparisons

same_number : satisfies Eq (Number (pos 9)) (codes "09") ≡ true
same_number = refl

same_number_as_texts : satisfies Eq (Text (codes "9")) (codes "09") ≡ false
same_number_as_texts = refl

other_than_a_number : satisfies Ne (Number (pos 9)) (codes "x") ≡ true
other_than_a_number = refl

below_ten : satisfies Lt (Number (pos 10)) (codes "9") ≡ true
below_ten = refl

below_ten_as_texts : satisfies Lt (Text (codes "10")) (codes "9") ≡ true
below_ten_as_texts = refl

unordered_with_a_text : satisfies Ge (Text (codes "x")) (codes "9") ≡ false
unordered_with_a_text = refl

unordered_text : satisfies Le (Number (pos 9)) (codes "x") ≡ false
unordered_text = refl

above_the_user : satisfies Gt (User (codes "-1")) (codes "0") ≡ true
above_the_user = refl

-- ---- attributes

-- an element of this name with these attributes and nothing inside
abbrev bearing : List (List ℕ) → Element
bearing attributes = record { name = codes "a"; attributes = attributes; items = [] }

implied_has_no_value : attribute_values (codes "Id") (bearing (codes "Id IMPLIED" ∷ [])) ≡ []
implied_has_no_value = refl

implied_is_a_type_not_a_value : attribute_values (codes "Id") (bearing (codes "Id CDATA IMPLIED" ∷ codes "Id IMPLIED x" ∷ [])) ≡ codes "IMPLIED" ∷ []
implied_is_a_type_not_a_value = refl

names_may_repeat : attribute_values (codes "Id") (bearing (codes "Id CDATA a b" ∷ codes "Idx CDATA c" ∷ codes "Id TOKEN" ∷ [])) ≡ codes "a b" ∷ [] ∷ []
names_may_repeat = refl

-- ---- name tests

no_name_passes_a_dummy : passes (Named (codes "-")) (codes "-") ≡ false
no_name_passes_a_dummy = refl

every_name_passes_a_dummy_for_the_asterisk : passes Any (codes "-") ≡ true
every_name_passes_a_dummy_for_the_asterisk = refl
