-- The map from names to numbers after a new name is inserted.
use Rattle.std.proofs.Common.{◌≡◌, ℕ, ◌<◌, Bool, true, false, cond, ltb, None, Some, is_some, Vec, List, [], ◌∷◌, ◌++◌, length, length-append, nat_eq, refl, ap, subst, sym, ◌∙◌, ⊎_elim, arith}
use Rattle.std.specs.Cmp.Lexicographic.{pointwise, bytes_decides}
use Rattle.std.specs.List.{position_or_len}
use Rattle.std.specs.HashMap.{HashMap, UpdatesBy}
use Rattle.std.specs.Map.{lookup, IsKeyTest, AreApart, KeepsOthers}
use Rattle.std.proofs.lemmas.Bool.{cases_Bool, cond-true, cond-false}
use Rattle.std.proofs.lemmas.Cmp.{nat_list_eq_equiv}
use Rattle.std.proofs.lemmas.List.Folds.{list_all-append}
use Rattle.acl_model.specs.Names.{is_name}
use Rattle.acl_model.specs.Dictionary.{has_name, name_number}
use Rattle.acl_model.proofs.DictionaryLaws.{position-last, list_any-position, are_new-last}
use Rattle.tag_dictionary.specs.inside.Index.{number_in, IsIndex}

-- two lists of bytes that compare equal are equal
same_bytes : (xs ys : List ℕ) → pointwise nat_eq xs ys ≡ true → xs ≡ ys
same_bytes xs ys same = (bytes_decides xs ys).0 same

-- where one entry changes, an entry that another test finds stays the same
others_stay : {K X : Type 0} (eq : K → K → Bool) (test : K → Bool) (old new : List (K × X)) → KeepsOthers eq test old new
    → (other : K → Bool) → IsKeyTest eq other → AreApart test other → lookup other new ≡ lookup other old
unfolding KeepsOthers
others_stay eq test old new keeps = keeps

-- the number of each name, after a key is inserted
number_in-put : {A H : Type 0} (old new : HashMap (Vec ℕ A) ℕ H) (key : Vec ℕ A) (number : ℕ)
    → UpdatesBy (λ x y. pointwise nat_eq x.items y.items) (λ k. pointwise nat_eq key.items k.items) old new (Some number)
    → (name : List ℕ) → number_in new name ≡ cond (pointwise nat_eq key.items name) (Some number) (number_in old name)
number_in-put old new key number put name = ⊎_elim
    (λ same. subst (λ l. number_in new l ≡ Some number) (same_bytes key.items name same) put.1
    ∙ sym (cond-true (pointwise nat_eq key.items name) (Some number) (number_in old name) same))
    (λ apart. others_stay _ _ _ _ put.3 (λ k. pointwise nat_eq name k.items)
    (λ x y. nat_list_eq_equiv.congr name x.items y.items)
    (λ k at. nat_list_eq_equiv.symm name k.items ∙ sym (nat_list_eq_equiv.congr key.items k.items name at) ∙ apart)
    ∙ sym (cond-false (pointwise nat_eq key.items name) (Some number) (number_in old name) apart))
    (cases_Bool (pointwise nat_eq key.items name))

-- the number of a new name is how many names come before it
new_number : (names : List (List ℕ)) (name : List ℕ) → has_name names name ≡ false → name_number (names ++ (name ∷ [])) name ≡ Some (length names)
new_number names name absent =
    position-last (pointwise nat_eq name) names name
    ∙ rw (absent, nat_list_eq_equiv.refl name) refl

-- another name keeps its number, or has none
old_number : (names : List (List ℕ)) (name other : List ℕ) → pointwise nat_eq name other ≡ false → name_number (names ++ (name ∷ [])) other ≡ name_number names other
old_number names name other apart =
    let turned : pointwise nat_eq other name ≡ false = nat_list_eq_equiv.symm other name ∙ apart in
    position-last (pointwise nat_eq other) names name
    ∙ rw (turned, list_any-position (pointwise nat_eq other) names) (elim (ltb (position_or_len (pointwise nat_eq other) names) (length names)) as
    (λ b. cond b (cond b (Some (position_or_len (pointwise nat_eq other) names)) None) None ≡ cond b (Some (position_or_len (pointwise nat_eq other) names)) None) [ true ↦ refl | false ↦ refl ])

-- the number of each name, after a new name is appended
number-last : (names : List (List ℕ)) (name : List ℕ) → has_name names name ≡ false
    → (other : List ℕ) → cond (pointwise nat_eq name other) (Some (length names)) (name_number names other) ≡ name_number (names ++ (name ∷ [])) other
number-last names name absent other = ⊎_elim
    (λ same. cond-true _ _ _ same ∙ sym (subst (λ o. name_number (names ++ (name ∷ [])) o ≡ Some (length names)) (same_bytes name other same) (new_number names name absent)))
    (λ apart. cond-false _ _ _ apart ∙ sym (old_number names name other apart))
    (cases_Bool (pointwise nat_eq name other))

-- the extended map is an index of the extended names
pub IsIndex-put : {A H : Type 0} (old new : HashMap (Vec ℕ A) ℕ H) (key : Vec ℕ A) (number : ℕ) (names : List (List ℕ)) (name : List ℕ)
    → IsIndex old names → is_name name ≡ true → has_name names name ≡ false → length names < 256 → key.items ≡ name → number ≡ length names
    → UpdatesBy (λ x y. pointwise nat_eq x.items y.items) (λ k. pointwise nat_eq key.items k.items) old new (Some number)
    → IsIndex new (names ++ (name ∷ []))
IsIndex-put old new key number names name index named absent few same counted put = record {
  numbered = λ other.
      number_in-put old new key number put other
      ∙ ap (λ k. cond (pointwise nat_eq k other) (Some number) (number_in old other)) same
      ∙ ap (λ n. cond (pointwise nat_eq name other) (Some n) (number_in old other)) counted
      ∙ ap (λ r. cond (pointwise nat_eq name other) (Some (length names)) r) (index.numbered other)
      ∙ number-last names name absent other;
  few = grind (arith, length-append);
  apart = are_new-last [] names name ∙ rw (index.apart, absent) refl;
  named = list_all-append is_name names (name ∷ []) ∙ rw (index.named, named) refl;
}

-- the map has a name exactly where it is one of the names
pub number_in-is_some : {A H : Type 0} (numbers : HashMap (Vec ℕ A) ℕ H) (names : List (List ℕ)) → IsIndex numbers names
    → (name : List ℕ) → is_some (number_in numbers name) ≡ has_name names name
number_in-is_some numbers names index name =
    ap is_some (index.numbered name)
    ∙ elim (ltb (position_or_len (pointwise nat_eq name) names) (length names)) as (λ b. is_some (cond b (Some (position_or_len (pointwise nat_eq name) names)) None) ≡ b) [ true ↦ refl | false ↦ refl ]
    ∙ sym (list_any-position (pointwise nat_eq name) names)
