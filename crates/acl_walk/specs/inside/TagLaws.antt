-- Laws about the tag of a name and the set in a Begin.
use Rattle.std.proofs.Common.{◌≡◌, ℕ, zero, suc, ◌+◌, ◌<◌, inl, inr, Bool, true, false, ◌||◌, eqb, ltb, nat_eq, Option, Some, None, is_some, List, [], ◌∷◌, length, max, cond, ap, sym, subst, ◌∙◌, refl, arith, zero-add, add-zero, IfSome}
use Rattle.std.specs.List.{range_with_len, position_or_len, flat_map, cons_option, Contains}
use Rattle.std.specs.Option.{unwrap_or}
use Rattle.std.specs.Cmp.Lexicographic.{pointwise}
use Rattle.std.proofs.lemmas.Bool.{true≢false}
use Rattle.std.proofs.lemmas.Bool.Decides.{nat_tests}
use Rattle.std.proofs.lemmas.Option.{same_Some}
use Rattle.std.proofs.lemmas.List.FromFn.{length-range_with_len}
use Rattle.std.proofs.lemmas.List.Quantifiers.{position-Some}
use Rattle.acl_bits.specs.Row.{is_member}
use Rattle.acl_model.specs.Document.{is_dummy_name}
use Rattle.acl_model.specs.Dictionary.{has_name, name_number}
use Rattle.acl_model.specs.Places.{element_of, children, names_of}
use Rattle.acl_model.specs.declared.document.Item.{Item}
use Rattle.acl_model.specs.declared.document.Element.{Element}
use Rattle.acl_model.proofs.DictionaryLaws.{list_any-position}
use Rattle.acl_model.proofs.Members.{has_none, has-Contains}
use Rattle.acl_walk.specs.Nesting.{IsTag}
use Rattle.acl_walk.specs.Spelling.{tag_of, Covers}
use Rattle.acl_walk.specs.TreeEvents.{may_hold_element, told_below, tag_number}
use Rattle.acl_walk.specs.TreeState.{is_known}

-- the tag of a dummy's name
pub tag_of-dummy : (names : List (List ℕ)) (name : List ℕ) → is_dummy_name name ≡ true → tag_of names name ≡ Some 256
unfolding tag_of
tag_of-dummy names name dummy = ap (λ b. cond b (Some 256) (name_number names name)) dummy

-- the tag of a name that isn't a dummy's
pub tag_of-name : (names : List (List ℕ)) (name : List ℕ) → is_dummy_name name ≡ false → tag_of names name ≡ name_number names name
unfolding tag_of
tag_of-name names name other = ap (λ b. cond b (Some 256) (name_number names name)) other

-- the same, as tag_number
pub tag_number-dummy : (names : List (List ℕ)) (name : List ℕ) → is_dummy_name name ≡ true → tag_number names name ≡ 256
unfolding tag_number
tag_number-dummy names name dummy = ap (λ o. unwrap_or o 256) (tag_of-dummy names name dummy)

-- the same of a name that isn't a dummy's
pub tag_number-name : (names : List (List ℕ)) (name : List ℕ) → is_dummy_name name ≡ false → tag_number names name ≡ unwrap_or (name_number names name) 256
unfolding tag_number
tag_number-name names name other = ap (λ o. unwrap_or o 256) (tag_of-name names name other)

-- where an element may be inside, the set has all numbers
pub told_below-all : (names : ℕ) (items : List Item) → may_hold_element items ≡ true → told_below names items ≡ range_with_len 0 (max names 1)
unfolding told_below
told_below-all names items may = ap (λ b. cond b (range_with_len 0 (max names 1)) []) may

-- else the set is empty
pub told_below-none : (names : ℕ) (items : List Item) → may_hold_element items ≡ false → told_below names items ≡ []
unfolding told_below
told_below-none names items not_one = ap (λ b. cond b (range_with_len 0 (max names 1)) []) not_one

-- ---- tags are those of names

-- the tag of a name that is a dummy's, or of one that isn't
tag_by_dummy : (names : List (List ℕ)) (name : List ℕ) (tag : ℕ) (b : Bool) → is_dummy_name name ≡ b → tag_of names name ≡ Some tag → IsTag (length names) tag
tag_by_dummy names name tag true dummy found = inr (sym (same_Some 256 tag (sym (tag_of-dummy names name dummy) ∙ found)))
tag_by_dummy names name tag false other found = inl (position-Some (pointwise nat_eq name) names tag [] (sym (tag_of-name names name other) ∙ found)).0

-- A tag is 256 or the number of a name.
pub tag_of-within : (names : List (List ℕ)) (name : List ℕ) (tag : ℕ) → tag_of names name ≡ Some tag → IsTag (length names) tag
tag_of-within names name tag found = tag_by_dummy names name tag (is_dummy_name name) refl found

-- ---- known names have tags

-- an option chosen by a test is Some where the test passes
some_of_test : (b : Bool) (n : ℕ) → is_some (cond b (Some n) None) ≡ b
some_of_test true n = refl
some_of_test false n = refl

-- a name has a number where it is one of the names
pub is_some-name_number : (names : List (List ℕ)) (name : List ℕ) → is_some (name_number names name) ≡ has_name names name
is_some-name_number names name =
    some_of_test (ltb (position_or_len (pointwise nat_eq name) names) (length names)) (position_or_len (pointwise nat_eq name) names)
    ∙ sym (list_any-position (pointwise nat_eq name) names)

-- a known name has a tag, whether it is a dummy's or not
some_by_dummy : (names : List (List ℕ)) (name : List ℕ) (b : Bool) → is_dummy_name name ≡ b → is_known names name ≡ true → is_some (tag_of names name) ≡ true
some_by_dummy names name true dummy known = ap is_some (tag_of-dummy names name dummy)
some_by_dummy names name false other known =
    ap is_some (tag_of-name names name other) ∙ is_some-name_number names name ∙ ap (λ b. b || has_name names name) (sym other) ∙ known

-- an option that is Some is equal to Some of its value
some_is : (o : Option ℕ) → is_some o ≡ true → o ≡ Some (unwrap_or o 256)
some_is None some = absurd (true≢false (sym some))
some_is (Some n) some = refl

-- a known name has a tag
pub tag_of-known : (names : List (List ℕ)) (name : List ℕ) → is_known names name ≡ true → tag_of names name ≡ Some (tag_number names name)
unfolding tag_number
tag_of-known names name known = some_is (tag_of names name) (some_by_dummy names name (is_dummy_name name) refl known)

-- ---- the set covers what is inside

-- each number from the first one on and below the end is in a range
range-member : (a n k : ℕ) → k < n → is_member (range_with_len a n) (k + a) ≡ true
unfolding is_member
range-member a zero k below = absurd (omega (arith, below))
range-member a (suc n) zero below = ap (λ x. eqb a x || is_member (range_with_len (a + 1) n) x) (zero-add a) ∙ grind (arith, nat_tests)
range-member a (suc n) (suc k) below =
    let next : k + (a + 1) ≡ suc k + a = omega arith in
    let later : is_member (range_with_len (a + 1) n) (suc k + a) ≡ true = ap (is_member (range_with_len (a + 1) n)) (sym next) ∙ range-member (a + 1) n k (omega arith) in
    ap (λ b. eqb a (suc k + a) || b) later ∙ grind (arith, nat_tests)

-- what is true of each value is true of an option's value
all_numbers : (o : Option ℕ) (below : List ℕ) → ((n : ℕ) → o ≡ Some n → is_member below n ≡ true) → IfSome o (λ n. is_member below n ≡ true)
all_numbers None below h = tt
all_numbers (Some n) below h = h n refl

-- the set of all numbers covers each element
covers_all : (names : List (List ℕ)) (e : Element) → Covers names (range_with_len 0 (max (length names) 1)) e
covers_all names e = record {
  names_inside = λ name inside other. all_numbers (name_number names name) (range_with_len 0 (max (length names) 1))
      (λ n found. let before : n < length names = (position-Some (pointwise nat_eq name) names n [] found).0 in
      ap (is_member (range_with_len 0 (max (length names) 1))) (sym (add-zero n)) ∙ range-member 0 (max (length names) 1) n (omega arith));
  some_inside = λ some. omega (arith, length-range_with_len 0 (max (length names) 1));
}

-- where no element may be among the items, there is none
children-none : (items : List Item) → may_hold_element items ≡ false → children items ≡ []
children-none [] none = refl
children-none (first ∷ []) none = no_child (element_of first) none
  where
    no_child : (o : Option Element) → is_some o ≡ false → cons_option o [] ≡ []
    no_child None none = refl
    no_child (Some e) none = absurd (true≢false none)
children-none (first ∷ second ∷ items) none = absurd (true≢false none)

-- the empty set covers an element without child elements
covers_none : (names : List (List ℕ)) (e : Element) → children e.items ≡ [] → Covers names [] e
covers_none names e none = record {
  names_inside = λ name inside other. absurd (has_none name (has-Contains [] name (subst (λ cs. Contains (flat_map names_of cs) name) none inside)));
  some_inside = λ some. absurd (omega (arith, some, ap length none));
}

-- the set covers the element in both cases
covers_by : (names : List (List ℕ)) (e : Element) (b : Bool) → may_hold_element e.items ≡ b → Covers names (told_below (length names) e.items) e
covers_by names e true may = subst (λ below. Covers names below e) (sym (told_below-all (length names) e.items may)) (covers_all names e)
covers_by names e false none = subst (λ below. Covers names below e) (sym (told_below-none (length names) e.items none)) (covers_none names e (children-none e.items none))

-- the set that a TreeWalk gives covers the element
pub told_below-covers : (names : List (List ℕ)) (e : Element) → Covers names (told_below (length names) e.items) e
told_below-covers names e = covers_by names e (may_hold_element e.items) refl
