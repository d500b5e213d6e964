-- Lemmas on names, their numbers in a dictionary, and the dictionary of a list of names.
use Rattle.std.proofs.Common.{◌≡◌, ℕ, suc, ◌+◌, ◌<◌, ◌≤◌, Bool, true, false, not, ◌||◌, cond, nat_eq, ltb, None, Some, List, [], ◌∷◌, length, refl, ap, sym, ◌∙◌, ⊎_elim, arith}
use Rattle.std.specs.Prelude.{slice_get, unwrap_or}
use Rattle.std.specs.Cmp.{first_so, second_so}
use Rattle.std.specs.Cmp.Lexicographic.{pointwise, bytes_decides}
use Rattle.std.specs.List.{list_all, position_or_len}
use Rattle.std.proofs.lemmas.Bool.{cases_Bool}
use Rattle.std.proofs.lemmas.Bool.Decides.{nat_tests}
use Rattle.std.proofs.lemmas.Cmp.{nat_list_eq_equiv}
use Rattle.std.proofs.lemmas.List.Folds.{list_all-append, list_any-append}
use Rattle.acl_model.specs.Names.{is_name}
use Rattle.acl_model.specs.Dictionary.{has_name, with_name, with_names, are_new, is_dictionary}
use Rattle.acl_model.specs.Stream.{tag_of}
use Rattle.acl_model.proofs.DictionaryLaws.{with_name-there, with_name-new, with_names-longer, list_any-position, are_new-last}
use Rattle.tag_dictionary.proofs.Readings.{is_dictionary-made}

-- Where a name is in the list, the name at its index is that name.
number_found : (names : List (List ℕ)) (name : List ℕ) → ltb (position_or_len (pointwise nat_eq name) names) (length names) ≡ true
    → slice_get names (position_or_len (pointwise nat_eq name) names) ≡ Some name
number_found [] name there = absurd (false_true there)
  where
    false_true : false ≡ true → ⊥
    false_true h = cc
number_found (first ∷ names) name there = ⊎_elim
    (λ same.
    ap (λ b. slice_get (first ∷ names) (cond (not b) (1 + position_or_len (pointwise nat_eq name) names) 0)) same
    ∙ ap Some (sym ((bytes_decides name first).0 same)))
    (λ apart.
    let on : position_or_len (pointwise nat_eq name) (first ∷ names) ≡ 1 + position_or_len (pointwise nat_eq name) names = ap (λ b. cond (not b) (1 + position_or_len (pointwise nat_eq name) names) 0) apart in
    let later : ltb (position_or_len (pointwise nat_eq name) names) (length names) ≡ true = grind (arith, nat_tests, on) in
    let step : 1 + position_or_len (pointwise nat_eq name) names ≡ suc (position_or_len (pointwise nat_eq name) names) = omega arith in
    ap (slice_get (first ∷ names)) (on ∙ step) ∙ number_found names name later)
    (cases_Bool (pointwise nat_eq name first))

tag_of_is : (names : List (List ℕ)) (name : List ℕ) → ltb (position_or_len (pointwise nat_eq name) names) (length names) ≡ true → tag_of names name ≡ position_or_len (pointwise nat_eq name) names
tag_of_is names name there = ap (λ b. unwrap_or (cond b (Some (position_or_len (pointwise nat_eq name) names)) None) 0) there

pub slice_get-tag_of : (names : List (List ℕ)) (name : List ℕ) → has_name names name ≡ true → slice_get names (tag_of names name) ≡ Some name
slice_get-tag_of names name there =
    let at = sym (list_any-position (pointwise nat_eq name) names) ∙ there in
    ap (slice_get names) (tag_of_is names name at) ∙ number_found names name at

-- Where a name is in the list, its number is below the length.
pub tag_of-below : (names : List (List ℕ)) (name : List ℕ) → has_name names name ≡ true → tag_of names name < length names
tag_of-below names name there =
    let at = sym (list_any-position (pointwise nat_eq name) names) ∙ there in
    let is = tag_of_is names name at in
    grind (arith, nat_tests, is, at)

-- ---- adding names to a dictionary

-- A name that is added is in the list.
with_name-has : (names : List (List ℕ)) (name : List ℕ) → has_name (with_name names name) name ≡ true
with_name-has names name = ⊎_elim
    (λ there. ap (λ ns. has_name ns name) (with_name-there names name there) ∙ there)
    (λ absent.
    ap (λ ns. has_name ns name) (with_name-new names name absent)
    ∙ list_any-append (pointwise nat_eq name) names (name ∷ [])
    ∙ ap (λ b. has_name names name || (b || false)) (nat_list_eq_equiv.refl name) ∙ always (has_name names name))
    (cases_Bool (has_name names name))
  where
    always : (b : Bool) → (b || true) ≡ true
    always true = refl
    always false = refl

-- Adding a name keeps the others.
with_name-keeps : (names : List (List ℕ)) (name other : List ℕ) → has_name names other ≡ true → has_name (with_name names name) other ≡ true
with_name-keeps names name other there = ⊎_elim
    (λ found. ap (λ ns. has_name ns other) (with_name-there names name found) ∙ there)
    (λ absent.
    ap (λ ns. has_name ns other) (with_name-new names name absent)
    ∙ list_any-append (pointwise nat_eq other) names (name ∷ [])
    ∙ ap (λ b. b || has_name (name ∷ []) other) there)
    (cases_Bool (has_name names name))

with_names-keeps : (names more : List (List ℕ)) (other : List ℕ) → has_name names other ≡ true → has_name (with_names names more) other ≡ true
with_names-keeps names [] other there = there
with_names-keeps names (name ∷ more) other there = with_names-keeps (with_name names name) more other (with_name-keeps names name other there)

-- All names that are added are in the list.
pub with_names-has : (names more : List (List ℕ)) → list_all (has_name (with_names names more)) more ≡ true
with_names-has names [] = refl
with_names-has names (name ∷ more) =
    rw (with_names-keeps (with_name names name) more name (with_name-has names name), with_names-has (with_name names name) more) refl

-- Adding names keeps the names distinct.
with_name-apart : (names : List (List ℕ)) (name : List ℕ) → are_new [] names ≡ true → are_new [] (with_name names name) ≡ true
with_name-apart names name apart = ⊎_elim
    (λ there. ap (are_new []) (with_name-there names name there) ∙ apart)
    (λ absent. ap (are_new []) (with_name-new names name absent) ∙ are_new-last [] names name ∙ rw (apart, absent) refl)
    (cases_Bool (has_name names name))

with_names-apart : (names more : List (List ℕ)) → are_new [] names ≡ true → are_new [] (with_names names more) ≡ true
with_names-apart names [] apart = apart
with_names-apart names (name ∷ more) apart = with_names-apart (with_name names name) more (with_name-apart names name apart)

-- Where all names pass a test, the names after an addition pass it too.
with_name-formed : (test : List ℕ → Bool) (names : List (List ℕ)) (name : List ℕ) → list_all test names ≡ true → test name ≡ true → list_all test (with_name names name) ≡ true
with_name-formed test names name all one = ⊎_elim
    (λ there. ap (list_all test) (with_name-there names name there) ∙ all)
    (λ absent. ap (list_all test) (with_name-new names name absent) ∙ list_all-append test names (name ∷ []) ∙ rw (all, one) refl)
    (cases_Bool (has_name names name))

with_names-formed : (test : List ℕ → Bool) (names more : List (List ℕ)) → list_all test names ≡ true → list_all test more ≡ true → list_all test (with_names names more) ≡ true
with_names-formed test names [] all others = all
with_names-formed test names (name ∷ more) all others =
    with_names-formed test (with_name names name) more (with_name-formed test names name all (first_so (test name) (list_all test more) others)) (second_so (test name) (list_all test more) others)

-- Valid names, at least one and at most 256 without repeats, form a valid dictionary when they are added to an empty
-- one.
pub is_dictionary-joined : (name : List ℕ) (more : List (List ℕ)) → list_all is_name (name ∷ more) ≡ true → length (with_names [] (name ∷ more)) ≤ 256 → is_dictionary (with_names [] (name ∷ more)) ≡ true
is_dictionary-joined name more formed few =
    let names : List (List ℕ) = with_names [] (name ∷ more) in
    let first : length (with_name [] name) ≡ 1 = ap length (with_name-new [] name refl) in
    let longer = with_names-longer (with_name [] name) more in
    is_dictionary-made names (omega (arith, first, longer)) few (with_names-formed is_name [] (name ∷ more) refl formed) (with_names-apart [] (name ∷ more) refl)
