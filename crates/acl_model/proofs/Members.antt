-- The elements of a list, each given by its index, under the list functions that the definitions use.
use Rattle.std.proofs.Common.{◌≡◌, ℕ, zero, suc, Bool, true, false, Some, None, List, [], ◌∷◌, ◌++◌, cond, ap, sym, subst, ◌∙◌, refl, inl, inr, ◌⊎◌}
use Rattle.std.proofs.lemmas.Option.{slice_get_within, get_or_from_slice_get, slice_get-get_or, same_Some}
use Rattle.std.specs.List.{filter, flat_map, slice_get, Contains}
use Rattle.std.specs.Option.{MatchOption}

-- x is in the list, with some index
abbrev pub Has : {X : Type 0} → List X → X → Type 0
Has xs x = (k : ℕ) × (slice_get xs k ≡ Some x)

module _ {X : Type 0} where
  -- an element with an index is contained in the list
  pub Contains-has : (xs : List X) (x : X) → Has xs x → Contains xs x
  Contains-has xs x h = (h.0, slice_get_within xs h.0 x h.1, get_or_from_slice_get xs h.0 x x h.1)

  -- what the list contains has an index
  pub has-Contains : (xs : List X) (x : X) → Contains xs x → Has xs x
  has-Contains xs x c = (c.0, slice_get-get_or xs c.0 x c.1 ∙ ap Some c.2)

  none_is_not_some : (x : X) → None ≡ Some x → ⊥
  none_is_not_some x h = subst (λ o. MatchOption o (Unit {0}) (λ _. ⊥)) h tt

  -- an empty list has no element
  pub has_none : (x : X) → Has [] x → ⊥
  has_none x h = none_is_not_some x h.1

  has_same : (y x : X) (xs : List X) → y ≡ x → Has (y ∷ xs) x
  has_same y x xs same = (0, ap Some same)

  -- an element of the rest is an element of the list
  pub has_later : (y x : X) (xs : List X) → Has xs x → Has (y ∷ xs) x
  has_later y x xs h = (suc h.0, h.1)

  at_number : (k : ℕ) (y x : X) (xs : List X) → slice_get (y ∷ xs) k ≡ Some x → (y ≡ x) ⊎ Has xs x
  at_number zero y x xs found = inl (same_Some y x found)
  at_number (suc k) y x xs found = inr (k, found)

  -- an element of the list is its first, or one of the rest
  pub has_cases : (y x : X) (xs : List X) → Has (y ∷ xs) x → (y ≡ x) ⊎ Has xs x
  has_cases y x xs h = at_number h.0 y x xs h.1

  -- ---- concatenation

  pub has_left : (xs ys : List X) (x : X) → Has xs x → Has (xs ++ ys) x
  has_left [] ys x h = absurd (has_none x h)
  has_left (y ∷ xs) ys x h = elim (has_cases y x xs h) [ inl same ↦ has_same y x (xs ++ ys) same | inr later ↦ has_later y x (xs ++ ys) (has_left xs ys x later) ]

  pub has_right : (xs ys : List X) (x : X) → Has ys x → Has (xs ++ ys) x
  has_right [] ys x h = h
  has_right (y ∷ xs) ys x h = has_later y x (xs ++ ys) (has_right xs ys x h)

  -- an element of two concatenated lists is in the first, or in the second
  pub has_append_cases : (xs ys : List X) (x : X) → Has (xs ++ ys) x → Has xs x ⊎ Has ys x
  has_append_cases [] ys x h = inr h
  has_append_cases (y ∷ xs) ys x h = elim (has_cases y x (xs ++ ys) h) [
    | inl same ↦ inl (has_same y x xs same)
    | inr later ↦ elim (has_append_cases xs ys x later) [ inl left ↦ inl (has_later y x xs left) | inr right ↦ inr right ]
  ]

  -- ---- filters

  kept_by : (b : Bool) (y x : X) (xs : List X) → Has xs x → Has (cond b (y ∷ xs) xs) x
  kept_by true y x xs h = has_later y x xs h
  kept_by false y x xs h = h

  -- an element that passes is kept
  pub has_filter : (test : X → Bool) (xs : List X) (x : X) → test x ≡ true → Has xs x → Has (filter test xs) x
  has_filter test [] x passes h = absurd (has_none x h)
  has_filter test (y ∷ xs) x passes h = elim (has_cases y x xs h) [
    | inl same ↦ subst (λ b. Has (cond b (y ∷ filter test xs) (filter test xs)) x) (sym (ap test same ∙ passes)) (has_same y x (filter test xs) same)
    | inr later ↦ kept_by (test y) y x (filter test xs) (has_filter test xs x passes later)
  ]

  filter_first : (test : X → Bool) (b : Bool) (y x : X) (xs kept : List X) → test y ≡ b → (Has kept x → (test x ≡ true) × Has xs x) → Has (cond b (y ∷ kept) kept) x → (test x ≡ true) × Has (y ∷ xs) x
  filter_first test true y x xs kept passes rest h = elim (has_cases y x kept h) [
    | inl same ↦ (ap test (sym same) ∙ passes, has_same y x xs same)
    | inr later ↦ ((rest later).0, has_later y x xs (rest later).1)
  ]
  filter_first test false y x xs kept passes rest h = ((rest h).0, has_later y x xs (rest h).1)

  -- an element that is kept passes
  pub has_filter_cases : (test : X → Bool) (xs : List X) (x : X) → Has (filter test xs) x → (test x ≡ true) × Has xs x
  has_filter_cases test [] x h = absurd (has_none x h)
  has_filter_cases test (y ∷ xs) x h = filter_first test (test y) y x xs (filter test xs) refl (has_filter_cases test xs x) h

-- ---- `flat_map`

module _ {X Y : Type 0} where
  pub has_flat_map : (f : X → List Y) (xs : List X) (x : X) (y : Y) → Has xs x → Has (f x) y → Has (flat_map f xs) y
  has_flat_map f [] x y h there = absurd (has_none x h)
  has_flat_map f (z ∷ xs) x y h there = elim (has_cases z x xs h) [
    | inl same ↦ has_left (f z) (flat_map f xs) y (subst (λ v. Has (f v) y) (sym same) there)
    | inr later ↦ has_right (f z) (flat_map f xs) y (has_flat_map f xs x y later there)
  ]

  -- an element of the result comes from one of the elements
  pub has_flat_map_cases : (f : X → List Y) (xs : List X) (y : Y) → Has (flat_map f xs) y → (x : X) × Has xs x × Has (f x) y
  has_flat_map_cases f [] y h = absurd (has_none y h)
  has_flat_map_cases f (z ∷ xs) y h = elim (has_append_cases (f z) (flat_map f xs) y h) [
    | inl first ↦ (z, has_same z z xs refl, first)
    | inr later ↦ let found = has_flat_map_cases f xs y later in (found.0, has_later z found.0 xs found.1, found.2)
  ]
