-- A tag passes the test of a step exactly where the tag's name does.
use Rattle.std.proofs.Common.{◌≡◌, ℕ, zero, suc, ◌+◌, ◌<◌, ◌≤◌, Bool, true, false, cond, ltb, not, ◌&&◌, ◌||◌, Option, Some, None, List, [], ◌∷◌, ◌++◌, length, refl, ap, sym, subst, ◌∙◌, arith}
use Rattle.std.specs.Prelude.{nat_eq}
use Rattle.std.specs.Cmp.{first_so, second_so}
use Rattle.std.specs.Cmp.Lexicographic.{pointwise, bytes_decides}
use Rattle.std.specs.List.{slice_get, position_from, position_or_len}
use Rattle.std.specs.Option.{option_map_or, MatchOption}
use Rattle.std.proofs.Math.Bool.{and-false}
use Rattle.std.proofs.lemmas.Bool.{true≢false}
use Rattle.std.proofs.lemmas.Bool.Decides.{nat_tests}
use Rattle.std.proofs.lemmas.Iterator.Adapters.{position_from-zero}
use Rattle.std.proofs.lemmas.List.Folds.{list_any-append}
use Rattle.std.proofs.lemmas.Option.{same_Some}
use Rattle.acl_model.specs.Ascii.{hyphen}
use Rattle.acl_model.specs.Dictionary.{name_number, are_new, are_distinct, has_name}
use Rattle.acl_model.specs.Document.{is_dummy_name}
use Rattle.acl_model.specs.NameTests.{passes}
use Rattle.acl_model.specs.declared.path.Test.{Test}
use Rattle.acl_model.specs.declared.path.Test.TheVariants.{Any, Named}
use Rattle.rule_automata.specs.declared.state.TagTest.TheVariants.{Only, Never}
use Rattle.rule_automata.specs.Compile.{tag_test}
use Rattle.rule_automata.specs.Run.{passes_tag}
use Rattle.rule_automata.specs.Meaning.{tag_name}

none_is_not_some : {A : Type 0} (x : A) → None ≡ Some x → ⊥
none_is_not_some x h = subst (λ o. MatchOption o (Unit {0}) (λ _. ⊥)) h tt

same_bytes : (xs ys : List ℕ) → pointwise nat_eq xs ys ≡ true → xs ≡ ys
same_bytes xs ys same = (bytes_decides xs ys).0 same

bytes_same : (xs : List ℕ) → pointwise nat_eq xs xs ≡ true
bytes_same xs = (bytes_decides xs xs).1 refl

false_from : (b : Bool) → (b ≡ true → ⊥) → b ≡ false
false_from true never = absurd (never refl)
false_from false never = refl

left_false : (a b : Bool) → (a || b) ≡ false → a ≡ false
left_false true b h = h
left_false false b h = refl

right_false : (a b : Bool) → (a || b) ≡ false → b ≡ false
right_false true b h = absurd (true≢false h)
right_false false b h = h

not_false : (b : Bool) → not b ≡ true → b ≡ false
not_false true h = absurd (true≢false (sym h))
not_false false h = refl

-- ---- distinct names

-- where no name of the second list is in the first, a member of the second is none of the first
new_is_none_before : (before names : List (List ℕ)) (k : ℕ) (name : List ℕ) → are_new before names ≡ true → slice_get names k ≡ Some name → has_name before name ≡ false
new_is_none_before before [] k name new found = absurd (none_is_not_some name found)
new_is_none_before before (x ∷ names) zero name new found =
    ap (has_name before) (sym (same_Some x name found)) ∙ not_false (has_name before x) (first_so (not (has_name before x)) (are_new (before ++ (x ∷ [])) names) new)
new_is_none_before before (x ∷ names) (suc k) name new found =
    left_false (has_name before name) (has_name (x ∷ []) name)
    (sym (list_any-append (pointwise nat_eq name) before (x ∷ []))
    ∙ new_is_none_before (before ++ (x ∷ [])) names k name (second_so (not (has_name before x)) (are_new (before ++ (x ∷ [])) names) new) found)

-- where names are distinct, a name after the first is not the first
later_is_other : (before names : List (List ℕ)) (x name : List ℕ) (k : ℕ) → are_new (before ++ (x ∷ [])) names ≡ true → slice_get names k ≡ Some name → pointwise nat_eq name x ≡ false
later_is_other before names x name k new found =
    left_false (pointwise nat_eq name x) false
    (right_false (has_name before name) (has_name (x ∷ []) name)
    (sym (list_any-append (pointwise nat_eq name) before (x ∷ [])) ∙ new_is_none_before (before ++ (x ∷ [])) names k name new found))

-- a position that is found is not before the first one searched
after_start : (test : List ℕ → Bool) (names : List (List ℕ)) (a b : ℕ) → b < a → option_map_or (λ k. nat_eq k b) (position_from test a names) false ≡ false
after_start test [] a b less = refl
after_start test (x ∷ names) a b less =
    let apart : nat_eq a b ≡ false = grind (arith, nat_tests) in
    elim (test x) as (λ v. option_map_or (λ k. nat_eq k b) (cond v (Some a) (position_from test (a + 1) names)) false ≡ false) [
      | true ↦ apart
      | false ↦ after_start test names (a + 1) b (omega arith)
    ]

-- Among distinct names, a name is found at the position of another exactly where the two are the same.
found_at : (wanted : List ℕ) (before names : List (List ℕ)) (a k : ℕ) (name : List ℕ) → are_new before names ≡ true → slice_get names k ≡ Some name
    → option_map_or (λ n. nat_eq n (a + k)) (position_from (pointwise nat_eq wanted) a names) false ≡ pointwise nat_eq wanted name
found_at wanted before [] a k name new found = absurd (none_is_not_some name found)
found_at wanted before (x ∷ names) a zero name new found =
    let here : nat_eq a (a + 0) ≡ true = grind (arith, nat_tests) in
    elim (pointwise nat_eq wanted x) as (λ v. pointwise nat_eq wanted x ≡ v → option_map_or (λ n. nat_eq n (a + 0)) (cond v (Some a) (position_from (pointwise nat_eq wanted) (a + 1) names)) false ≡ pointwise nat_eq wanted name) [
      | true ↦ λ is. here ∙ sym is ∙ ap (pointwise nat_eq wanted) (same_Some x name found)
      | false ↦ λ is. after_start (pointwise nat_eq wanted) names (a + 1) (a + 0) (omega arith) ∙ sym is ∙ ap (pointwise nat_eq wanted) (same_Some x name found)
    ] refl
found_at wanted before (x ∷ names) a (suc k) name new found =
    let rest : are_new (before ++ (x ∷ [])) names ≡ true = second_so (not (has_name before x)) (are_new (before ++ (x ∷ [])) names) new in
    let apart : nat_eq a (a + suc k) ≡ false = grind (arith, nat_tests) in
    let next : a + suc k ≡ a + 1 + k = omega arith in
    elim (pointwise nat_eq wanted x) as (λ v. pointwise nat_eq wanted x ≡ v → option_map_or (λ n. nat_eq n (a + suc k)) (cond v (Some a) (position_from (pointwise nat_eq wanted) (a + 1) names)) false ≡ pointwise nat_eq wanted name) [
      | true ↦ λ is. apart ∙ sym (other wanted x name is (later_is_other before names x name k rest found))
      | false ↦ λ is. ap (λ m. option_map_or (λ n. nat_eq n m) (position_from (pointwise nat_eq wanted) (a + 1) names) false) next
          ∙ found_at wanted (before ++ (x ∷ [])) names (a + 1) k name rest found
    ] refl
  where
    other : (wanted x name : List ℕ) → pointwise nat_eq wanted x ≡ true → pointwise nat_eq name x ≡ false → pointwise nat_eq wanted name ≡ false
    other wanted x name same apart =
        false_from (pointwise nat_eq wanted name)
        (λ is. true≢false (sym (bytes_same x) ∙ ap (λ y. pointwise nat_eq y x) (sym (same_bytes wanted x same) ∙ same_bytes wanted name is) ∙ apart))

-- ---- tests

number_test : (o : Option ℕ) (tag : ℕ) → passes_tag (option_map_or Only o Never) tag ≡ option_map_or (λ k. nat_eq k tag) o false
number_test None tag = refl
number_test (Some k) tag = refl

-- the number of a name is never a dummy's tag
no_dummy_number : (wanted : List ℕ) (names : List (List ℕ)) (tag : ℕ) → length names ≤ tag → option_map_or (λ k. nat_eq k tag) (name_number names wanted) false ≡ false
no_dummy_number wanted names tag few =
    let place : ℕ = position_or_len (pointwise nat_eq wanted) names in
    elim (ltb place (length names)) as (λ v. ltb place (length names) ≡ v → option_map_or (λ k. nat_eq k tag) (cond v (Some place) None) false ≡ false) [
      | true ↦ λ is. let apart : nat_eq place tag ≡ false = grind (arith, nat_tests) in apart
      | false ↦ λ is. refl
    ] refl

-- the tag of a name passes exactly where the name is the wanted one
numbered_test : (names : List (List ℕ)) (wanted : List ℕ) (tag : ℕ) (name : List ℕ) (b : Bool) → are_distinct names ≡ true → length names ≤ 256
    → nat_eq tag 256 ≡ b → cond b (Some (hyphen ∷ [])) (slice_get names tag) ≡ Some name → is_dummy_name wanted ≡ false
    → option_map_or (λ k. nat_eq k tag) (name_number names wanted) false ≡ (pointwise nat_eq wanted name && not (is_dummy_name name))
numbered_test names wanted tag name true distinct few dummy is plain =
    no_dummy_number wanted names tag (grind (arith, nat_tests))
    ∙ sym (and-false (pointwise nat_eq wanted name))
    ∙ ap (λ n. pointwise nat_eq wanted name && not (is_dummy_name n)) (same_Some (hyphen ∷ []) name is)
numbered_test names wanted tag name false distinct few dummy is plain =
    let same : 0 + tag ≡ tag = omega arith in
    ap (λ o. option_map_or (λ k. nat_eq k tag) o false) (position_from-zero (pointwise nat_eq wanted) names)
    ∙ ap (λ m. option_map_or (λ k. nat_eq k m) (position_from (pointwise nat_eq wanted) 0 names) false) (sym same)
    ∙ found_at wanted [] names 0 tag name distinct is
    ∙ no_dummy (pointwise nat_eq wanted name) wanted name refl plain
  where
    no_dummy : (b : Bool) (wanted name : List ℕ) → pointwise nat_eq wanted name ≡ b → is_dummy_name wanted ≡ false → b ≡ (b && not (is_dummy_name name))
    no_dummy true wanted name same plain = ap not (sym plain ∙ ap is_dummy_name (same_bytes wanted name same))
    no_dummy false wanted name same plain = refl

dummy_passes_none : (wanted name : List ℕ) (b : Bool) → pointwise nat_eq wanted name ≡ b → is_dummy_name wanted ≡ true → false ≡ (b && not (is_dummy_name name))
dummy_passes_none wanted name true same dummy = ap not (sym dummy ∙ ap is_dummy_name (same_bytes wanted name same))
dummy_passes_none wanted name false same dummy = refl

-- a tag passes the test of a step exactly where its name does
pub passes_tag-name : (names : List (List ℕ)) (test : Test) (tag : ℕ) (name : List ℕ) → are_distinct names ≡ true → length names ≤ 256 → tag_name names tag ≡ Some name
    → passes_tag (tag_test names test) tag ≡ passes test name
passes_tag-name names Any tag name distinct few is = refl
passes_tag-name names (Named wanted) tag name distinct few is =
    elim (is_dummy_name wanted) as (λ v. is_dummy_name wanted ≡ v → passes_tag (cond v Never (option_map_or Only (name_number names wanted) Never)) tag ≡ (pointwise nat_eq wanted name && not (is_dummy_name name))) [
      | true ↦ λ dummy. dummy_passes_none wanted name (pointwise nat_eq wanted name) refl dummy
      | false ↦ λ plain. number_test (name_number names wanted) tag ∙ numbered_test names wanted tag name (nat_eq tag 256) distinct few refl is plain
    ] refl
