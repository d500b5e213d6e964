-- The numbers in a root's head are all numbers of the document's dictionary.
use Rattle.std.proofs.Common.{◌≡◌, ℕ, zero, suc, ◌<◌, ◌≤◌, Bool, true, false, not, ◌||◌, nat_eq, nat_lt, Some, List, [], ◌∷◌, ◌++◌, length, refl, ap, sym, ◌∙◌, arith, inl, inr, ◌⊎◌, ⊎_elim}
use Rattle.std.specs.Prelude.{slice_get}
use Rattle.std.specs.Cmp.{first_so, second_so}
use Rattle.std.specs.Cmp.Lexicographic.{pointwise}
use Rattle.std.proofs.lemmas.Bool.{cases_Bool, true≢false}
use Rattle.std.proofs.lemmas.Bool.Decides.{nat_tests}
use Rattle.std.proofs.lemmas.Cmp.{nat_list_eq_equiv}
use Rattle.std.proofs.lemmas.List.Folds.{list_any-append}
use Rattle.std.proofs.lemmas.Option.{same_Some, none-some}
use Rattle.acl_bits.specs.Row.{row_of, is_member}
use Rattle.acl_bits.specs.inside.RowLaws.{row_of-same}
use Rattle.acl_model.specs.Document.{is_well_formed}
use Rattle.acl_model.specs.Dictionary.{has_name, with_name, with_names, are_new, start_names}
use Rattle.acl_model.specs.Stream.{tag_of, Branch, element_part, holds_number, has_member, branch_of}
use Rattle.acl_model.proofs.DictionaryLaws.{with_name-there, with_name-new}
use Rattle.acl_model.specs.declared.document.Element.{Element}
use Rattle.skip_decode.specs.declared.head.Head.{Head}
use Rattle.skip_decode.specs.StreamSteps.{met_with}
use Rattle.skip_decode.proofs.Heads.{is_member-has}
use Rattle.skip_decode.proofs.HeldNames.{element_holds}
use Rattle.skip_decode.proofs.Names.{slice_get-tag_of}
use Rattle.skip_decode.proofs.Starts.{element_counted}

either : (a b : Bool) → (a || b) ≡ true → (a ≡ true) ⊎ (b ≡ true)
either true b so = inl refl
either false b so = inr so

or_true : (b : Bool) → (b || true) ≡ true
or_true true = refl
or_true false = refl

neither : (a b : Bool) → (a || b) ≡ false → (a ≡ false) × (b ≡ false)
neither true b none = absurd (true≢false none)
neither false b none = (refl, none)

not_so : (b : Bool) → not b ≡ true → b ≡ false
not_so true h = absurd (true≢false (sym h))
not_so false h = refl

-- ---- names by their numbers

-- There is a name with each number.
pub name_at : (names : List (List ℕ)) (k : ℕ) → k < length names → (name : List ℕ) × (slice_get names k ≡ Some name)
name_at [] k within = absurd (omega (arith, within))
name_at (name ∷ names) zero within = (name, refl)
name_at (name ∷ names) (suc k) within = name_at names k (omega (arith, within))

-- It is one of the names.
pub has_at : (names : List (List ℕ)) (k : ℕ) (name : List ℕ) → slice_get names k ≡ Some name → has_name names name ≡ true
has_at [] k name found = absurd (none-some name found)
has_at (first ∷ names) zero name found =
    ap (λ l. pointwise nat_eq name l || has_name names name) (same_Some first name found) ∙ ap (λ b. b || has_name names name) (nat_list_eq_equiv.refl name)
has_at (first ∷ names) (suc k) name found = ap (λ b. pointwise nat_eq name first || b) (has_at names k name found) ∙ or_true (pointwise nat_eq name first)

-- Where no name is repeated, each is none of those before.
new_before : (before names : List (List ℕ)) (k : ℕ) (name : List ℕ) → are_new before names ≡ true → slice_get names k ≡ Some name → has_name before name ≡ false
new_before before [] k name new found = absurd (none-some name found)
new_before before (x ∷ names) zero name new found =
    ap (has_name before) (sym (same_Some x name found)) ∙ not_so (has_name before x) (first_so (not (has_name before x)) (are_new (before ++ (x ∷ [])) names) new)
new_before before (x ∷ names) (suc k) name new found =
    (neither (has_name before name) (has_name (x ∷ []) name)
    (sym (list_any-append (pointwise nat_eq name) before (x ∷ [])) ∙ new_before (before ++ (x ∷ [])) names k name (second_so (not (has_name before x)) (are_new (before ++ (x ∷ [])) names) new) found)).0

-- A later name isn't the first.
later_differs : (before names : List (List ℕ)) (x : List ℕ) (k : ℕ) → are_new (before ++ (x ∷ [])) names ≡ true → slice_get names k ≡ Some x → ⊥
later_differs before names x k new found =
    let absent = sym (list_any-append (pointwise nat_eq x) before (x ∷ [])) ∙ new_before (before ++ (x ∷ [])) names k x new found in
    let other = (neither (pointwise nat_eq x x) false (neither (has_name before x) (has_name (x ∷ []) x) absent).1).0 in
    true≢false (sym (nat_list_eq_equiv.refl x) ∙ other)

-- So a name has one number.
pub one_number : (before names : List (List ℕ)) (i j : ℕ) (name : List ℕ) → are_new before names ≡ true → slice_get names i ≡ Some name → slice_get names j ≡ Some name → i ≡ j
one_number before [] i j name new one other = absurd (none-some name one)
one_number before (x ∷ names) zero zero name new one other = refl
one_number before (x ∷ names) zero (suc j) name new one other =
    absurd (later_differs before names x j (second_so (not (has_name before x)) (are_new (before ++ (x ∷ [])) names) new) (other ∙ sym one))
one_number before (x ∷ names) (suc i) zero name new one other =
    absurd (later_differs before names x i (second_so (not (has_name before x)) (are_new (before ++ (x ∷ [])) names) new) (one ∙ sym other))
one_number before (x ∷ names) (suc i) (suc j) name new one other =
    ap suc (one_number (before ++ (x ∷ [])) names i j name (second_so (not (has_name before x)) (are_new (before ++ (x ∷ [])) names) new) one other)

-- A name that was added is one of those before, or of the added ones.
added_name : (names more : List (List ℕ)) (name : List ℕ) → has_name (with_names names more) name ≡ true → (has_name names name ≡ true) ⊎ (has_name more name ≡ true)
added_name names [] name there = inl there
added_name names (m ∷ more) name there = elim (added_name (with_name names m) more name there) [
  | inl early ↦ ⊎_elim
      (λ old. inl (ap (λ l. has_name l name) (sym (with_name-there names m old)) ∙ early))
      (λ new. elim (either (has_name names name) (has_name (m ∷ []) name) (sym (list_any-append (pointwise nat_eq name) names (m ∷ [])) ∙ ap (λ l. has_name l name) (sym (with_name-new names m new)) ∙ early)) [
        | inl before ↦ inl before
        | inr same ↦ inr (first_is (pointwise nat_eq name m) (has_name more name) same)
      ])
      (cases_Bool (has_name names m))
  | inr later ↦ inr (ap (λ b. pointwise nat_eq name m || b) later ∙ or_true (pointwise nat_eq name m))
]
  where
    first_is : (a b : Bool) → (a || false) ≡ true → (a || b) ≡ true
    first_is true b h = refl
    first_is false b h = absurd (true≢false (sym h))

-- ---- the root

-- two tests with the same answers
same_test : (a b : Bool) → (a ≡ true → b ≡ true) → (b ≡ true → a ≡ true) → a ≡ b
same_test true b to back = sym (to refl)
same_test false true to back = back refl
same_test false false to back = refl

module _ (e : Element) (names : List (List ℕ)) (made : names ≡ with_names [] (start_names e)) (few : length names ≤ 256) (new : are_new [] names ≡ true)
    (good : is_well_formed (has_name names) e ≡ true) where
  -- Each number of the dictionary is held by the root.
  number_held : (k : ℕ) → k < length names → holds_number k (element_part (branch_of names e)) ≡ true
  number_held k within =
      let named = name_at names k within in
      let known : has_name names named.0 ≡ true = has_at names k named.0 named.1 in
      let number : tag_of names named.0 ≡ k = one_number [] names (tag_of names named.0) k named.0 new (slice_get-tag_of names named.0 known) named.1 in
      let inside : has_name (start_names e) named.0 ≡ true = (elim (added_name [] (start_names e) named.0 (ap (λ l. has_name l named.0) (sym made) ∙ known)) [
        | inl none ↦ absurd (true≢false (sym none))
        | inr there ↦ there
      ]) in
      ap (λ n. holds_number n (element_part (branch_of names e))) (sym number) ∙ element_holds names few named.0 known e good inside

  -- What is met with the root's head is the whole dictionary.
  pub root_meets : (head : Head) → head.tag ≡ (branch_of names e).tag → head.below ≡ (branch_of names e).below → met_with [] head ≡ row_of (λ k. nat_lt k (length names))
  root_meets head tag below =
      row_of-same (λ n. nat_eq n head.tag || (is_member [] n || is_member head.below n)) (λ k. nat_lt k (length names)) (λ k small.
      let b : Branch = branch_of names e in
      let turned : (nat_eq k head.tag || (is_member [] k || is_member head.below k)) ≡ (nat_eq b.tag k || has_member b.below k) =
      ap (λ n. nat_eq k n || (is_member [] k || is_member head.below k)) tag ∙ ap (λ l. nat_eq k b.tag || (is_member [] k || is_member l k)) below
      ∙ ap (λ x. nat_eq k b.tag || (x || is_member b.below k)) (is_member-has [] k) ∙ ap (λ x. nat_eq k b.tag || x) (is_member-has b.below k) ∙ ap (λ x. x || has_member b.below k) (swapped k b.tag) in
      same_test (nat_eq k head.tag || (is_member [] k || is_member head.below k)) (nat_lt k (length names))
      (λ holds. let within = element_counted names e good k small (sym turned ∙ holds) in grind (arith, nat_tests))
      (λ holds. let within : k < length names = grind (arith, nat_tests) in turned ∙ number_held k within))
    where
      swapped : (a b : ℕ) → nat_eq a b ≡ nat_eq b a
      swapped a b = grind (arith, nat_tests)
