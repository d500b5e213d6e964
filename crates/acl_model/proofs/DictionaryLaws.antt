-- The names of an element and of each kind of item, as equations, and laws of the names of a document.
use Rattle.std.proofs.Common.{◌≡◌, ℕ, suc, ◌+◌, ◌≤◌, Bool, true, false, not, ◌&&◌, ◌||◌, cond, ltb, None, Some, List, [], ◌∷◌, ◌++◌, length, length-append, map, ap, refl, sym, ◌∙◌, arith, append_assoc, append-nil}
use Rattle.std.specs.Prelude.{nat_eq, IsNone, ◌↔◌}
use Rattle.std.specs.Cmp.{first_so, second_so}
use Rattle.std.proofs.Math.Bool.{and_assoc}
use Rattle.std.proofs.lemmas.Bool.Decides.{nat_tests}
use Rattle.std.proofs.lemmas.List.Folds.{position_or_len_push}
use Rattle.std.proofs.lemmas.List.Sums.{prefix_len-le-length}
use Rattle.std.specs.Cmp.Lexicographic.{pointwise}
use Rattle.std.specs.List.{list_any, flat_map, position, position_or_len}
use Rattle.acl_model.specs.Dictionary.{item_starts, element_starts, start_names, item_start_names, has_name, name_number, with_name, with_names, are_new}
use Rattle.acl_model.specs.declared.document.Element.{Element}
use Rattle.acl_model.specs.declared.document.Item.TheVariants.{Text, Child, rolls-Text, rolls-Child}
use Rattle.acl_model.specs.declared.document.Item.TheOpen.{Item-F}
use Rattle.acl_model.specs.declared.document.Item.TheFolds.{fold_out-Element, fold-roll-Item}

-- the names of an element
pub start_names_is : (e : Element) → start_names e ≡ e.name ∷ flat_map (λ starts. starts) (map item_start_names e.items)
unfolding start_names item_start_names
start_names_is e = fold_out-Element (List (List ℕ)) (List (List ℕ)) item_starts element_starts e

-- a text has no names
pub item_start_names-Text : (bytes : List ℕ) → item_start_names (Text bytes) ≡ []
unfolding item_start_names
item_start_names-Text bytes = ap item_start_names (sym (rolls-Text bytes)) ∙ fold-roll-Item (List (List ℕ)) (List (List ℕ)) item_starts element_starts (Item-F.Text bytes)

-- a child element has its own
pub item_start_names-Child : (e : Element) → item_start_names (Child e) ≡ start_names e
unfolding start_names item_start_names
item_start_names-Child e = ap item_start_names (sym (rolls-Child e)) ∙ fold-roll-Item (List (List ℕ)) (List (List ℕ)) item_starts element_starts (Item-F.Child e)

-- these three equations, as a rule set
pub ruleset start_equations = (start_names_is, item_start_names-Text, item_start_names-Child)

-- a name that is there already adds nothing
pub with_name-there : (names : List (List ℕ)) (name : List ℕ) → has_name names name ≡ true → with_name names name ≡ names
unfolding with_name
with_name-there names name there = ap (λ b. cond b names (names ++ (name ∷ []))) there

-- a new name is appended
pub with_name-new : (names : List (List ℕ)) (name : List ℕ) → has_name names name ≡ false → with_name names name ≡ names ++ (name ∷ [])
unfolding with_name
with_name-new names name new = ap (λ b. cond b names (names ++ (name ∷ []))) new

-- these two equations, as a rule set
pub ruleset joinings = (with_name-there, with_name-new)

-- adding names and then others is adding all of them at once
pub with_names-append : (names xs ys : List (List ℕ)) → with_names names (xs ++ ys) ≡ with_names (with_names names xs) ys
with_names-append names [] ys = refl
with_names-append names (x ∷ xs) ys = with_names-append (with_name names x) xs ys

-- adding a name never makes the list shorter
pub with_name-longer : (names : List (List ℕ)) (name : List ℕ) → length names ≤ length (with_name names name)
unfolding with_name
with_name-longer names name = elim (has_name names name) as (λ b. length names ≤ length (cond b names (names ++ (name ∷ [])))) [
  | true ↦ omega arith
  | false ↦ grind (arith, length-append)
]

-- nor does adding several
pub with_names-longer : (names more : List (List ℕ)) → length names ≤ length (with_names names more)
with_names-longer names [] = omega arith
with_names-longer names (name ∷ more) =
    let one : length names ≤ length (with_name names name) = with_name-longer names name in
    let rest : length (with_name names name) ≤ length (with_names (with_name names name) more) = with_names-longer (with_name names name) more in
    omega arith

-- ---- positions

-- some element passes a test exactly where the first position at which the test passes is below the length
pub list_any-position : (p : List ℕ → Bool) (xs : List (List ℕ)) → list_any p xs ≡ ltb (position_or_len p xs) (length xs)
list_any-position p [] = refl
list_any-position p (x ∷ xs) =
    let rest : list_any p xs ≡ ltb (position_or_len p xs) (length xs) = list_any-position p xs in
    elim (p x) as (λ b. (b || list_any p xs) ≡ ltb (cond (not b) (1 + position_or_len p xs) 0) (suc (length xs))) [
      | true ↦ grind (arith, nat_tests)
      | false ↦ grind (arith, nat_tests)
    ]

-- that position is at most the length
pub position_or_len-within : (p : List ℕ → Bool) (xs : List (List ℕ)) → position_or_len p xs ≤ length xs
position_or_len-within p xs = prefix_len-le-length (λ x. not (p x)) xs

-- the first position at which a test passes, in a list with one element more
pub position-last : (p : List ℕ → Bool) (xs : List (List ℕ)) (y : List ℕ)
    → position p (xs ++ (y ∷ [])) ≡ cond (list_any p xs) (position p xs) (cond (p y) (Some (length xs)) None)
position-last p xs y =
    let within = position_or_len-within p xs in
    let any = list_any-position p xs in
    let moved = position_or_len_push p xs y in
    let longer : length (xs ++ (y ∷ [])) ≡ length xs + 1 = grind (arith, length-append) in
    rw (any, moved, longer) (grind (arith, nat_tests))

-- a name has no number exactly where it is not one of the names
pub name_number-none : (names : List (List ℕ)) (name : List ℕ) → IsNone (name_number names name) ↔ (has_name names name ≡ false)
name_number-none names name =
    let any : has_name names name ≡ ltb (position_or_len (pointwise nat_eq name) names) (length names) = list_any-position (pointwise nat_eq name) names in
    rw any (elim (ltb (position_or_len (pointwise nat_eq name) names) (length names)) as (λ b. IsNone (cond b (Some (position_or_len (pointwise nat_eq name) names)) None) ↔ (b ≡ false)) [
      | true ↦ grind arith
      | false ↦ grind arith
    ])

-- ---- names that are new, one after the other

-- a list of names is new exactly where its last name is none of those before it, and the others are new
pub are_new-last : (before names : List (List ℕ)) (name : List ℕ) → are_new before (names ++ (name ∷ [])) ≡ (are_new before names && not (has_name (before ++ names) name))
are_new-last before [] name = rw append-nil (grind arith)
are_new-last before (x ∷ names) name =
    ap (λ b. not (has_name before x) && b) (are_new-last (before ++ (x ∷ [])) names name)
    ∙ sym (and_assoc (not (has_name before x)) (are_new (before ++ (x ∷ [])) names) (not (has_name ((before ++ (x ∷ [])) ++ names) name)))
    ∙ ap (λ l. not (has_name before x) && are_new (before ++ (x ∷ [])) names && not (has_name l name)) (append_assoc before (x ∷ []) names)

-- new names are all added
pub with_names-new : (before names : List (List ℕ)) → are_new before names ≡ true → with_names before names ≡ before ++ names
with_names-new before [] new = sym (append-nil before)
with_names-new before (name ∷ names) new =
    let first : not (has_name before name) ≡ true = first_so (not (has_name before name)) (are_new (before ++ (name ∷ [])) names) new in
    let absent : has_name before name ≡ false = grind (arith, first) in
    let rest : are_new (before ++ (name ∷ [])) names ≡ true = second_so (not (has_name before name)) (are_new (before ++ (name ∷ [])) names) new in
    ap (λ ns. with_names ns names) (with_name-new before name absent) ∙ with_names-new (before ++ (name ∷ [])) names rest ∙ append_assoc before (name ∷ []) names
