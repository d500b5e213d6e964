-- The checks of `can_be_walked`, part by part.
use Rattle.std.proofs.Common.{◌≡◌, ℕ, ◌+◌, ◌<◌, Bool, true, false, not, ◌&&◌, is_some, List, [], ◌∷◌, ◌++◌, length, map, take, drop, get_or, take-append-drop, suc, refl, ap, sym, ◌∙◌}
use Rattle.std.specs.List.{list_all, flat_map}
use Rattle.std.proofs.Math.Seq.{take-suc}
use Rattle.std.proofs.lemmas.List.{drop_more}
use Rattle.std.proofs.lemmas.List.Folds.{list_all-append}
use Rattle.std.proofs.lemmas.Bool.{true≢false}
use Rattle.acl_model.specs.Dictionary.{has_name, name_number, are_new, are_distinct, start_names, item_start_names}
use Rattle.acl_model.specs.declared.document.Item.{Item}
use Rattle.acl_model.specs.declared.document.Element.{Element}
use Rattle.acl_model.proofs.DictionaryLaws.{are_new-last, start_names_is}
use Rattle.acl_walk.specs.inside.TagLaws.{is_some-name_number}
use Rattle.acl_walk.specs.TreeState.{is_known}

-- ---- names

by_first : (a b c : Bool) → (a && b) ≡ false → (b ≡ false → c ≡ false) → (a && c) ≡ false
by_first true b c none rest = rest none
by_first false b c none rest = refl

-- names that aren't distinct stay so with others after them
not_new-more : (before xs ys : List (List ℕ)) → are_new before xs ≡ false → are_new before (xs ++ ys) ≡ false
not_new-more before [] ys none = absurd (true≢false none)
not_new-more before (x ∷ xs) ys none =
    by_first (not (has_name before x)) (are_new (before ++ (x ∷ [])) xs) (are_new (before ++ (x ∷ [])) (xs ++ ys)) none (not_new-more (before ++ (x ∷ [])) xs ys)

-- whether the first names and one more are distinct, by whether that one is among them
next_distinct : (names : List (List ℕ)) (i : ℕ) (name : List ℕ) → i < length names → name ≡ get_or names i name
    → are_distinct (take (suc i) names) ≡ (are_distinct (take i names) && not (is_some (name_number (take i names) name)))
next_distinct names i name within is =
    ap are_distinct (take-suc names i name within ∙ ap (λ n. take i names ++ (n ∷ [])) (sym is)) ∙ are_new-last [] (take i names) name
    ∙ ap (λ b. are_distinct (take i names) && not b) (sym (is_some-name_number (take i names) name))

-- they are distinct where it isn't among them
pub distinct-next : (names : List (List ℕ)) (i : ℕ) (name : List ℕ) → i < length names → name ≡ get_or names i name → are_distinct (take i names) ≡ true
    → is_some (name_number (take i names) name) ≡ false → are_distinct (take (suc i) names) ≡ true
distinct-next names i name within is before new =
    next_distinct names i name within is ∙ ap (λ b. b && not (is_some (name_number (take i names) name))) before ∙ ap not new

-- the names aren't distinct where it is among them
pub distinct-not : (names : List (List ℕ)) (i : ℕ) (name : List ℕ) → i < length names → name ≡ get_or names i name
    → is_some (name_number (take i names) name) ≡ true → are_distinct names ≡ false
distinct-not names i name within is old =
    ap are_distinct (sym (take-append-drop (suc i) names))
    ∙ not_new-more [] (take (suc i) names) (drop (suc i) names)
    (next_distinct names i name within is ∙ ap (λ b. are_distinct (take i names) && not b) old ∙ never (are_distinct (take i names)))
  where
    never : (a : Bool) → (a && false) ≡ false
    never true = refl
    never false = refl

-- ---- known names

-- the names of items
abbrev pub names_of_items : List Item → List (List ℕ)
names_of_items items = flat_map {X = List (List ℕ)} (λ starts. starts) (map item_start_names items)

-- The names in an element are known if its own is and those in its items are.
pub known-element : (names : List (List ℕ)) (e : Element)
    → list_all (is_known names) (start_names e) ≡ (is_known names e.name && list_all (is_known names) (names_of_items e.items))
known-element names e = ap (list_all (is_known names)) (start_names_is e)

-- Not all names are known where one item has an unknown one.
pub unknown-item : (names : List (List ℕ)) (items : List Item) (i : ℕ) (item : Item) → i < length items → item ≡ get_or items i item
    → list_all (is_known names) (item_start_names item) ≡ false → list_all (is_known names) (names_of_items (drop i items)) ≡ false
unknown-item names items i item within is unknown =
    ap (λ l. list_all (is_known names) (names_of_items l)) (drop_more items i item within ∙ ap (λ x. x ∷ drop (i + 1) items) (sym is))
    ∙ list_all-append (is_known names) (item_start_names item) (names_of_items (drop (i + 1) items))
    ∙ ap (λ b. b && list_all (is_known names) (names_of_items (drop (i + 1) items))) unknown

-- a conjunction with a false second part
pub and_no : (a b : Bool) → b ≡ false → (a && b) ≡ false
and_no true b no_second = no_second
and_no false b no_second = refl
