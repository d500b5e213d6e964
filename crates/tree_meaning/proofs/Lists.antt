-- Lemmas on lists, for the loops of this crate.
use Rattle.std.proofs.Common.{◌≡◌, ℕ, ◌+◌, ◌<◌, Bool, true, false, suc, add-one, ◌≤◌, ◌||◌, List, [], ◌∷◌, ◌++◌, map, drop, length, get_or, refl, ap, sym, ◌∙◌, append-nil, append_assoc, drop-cons}
use Rattle.std.proofs.lemmas.List.{map-append, drop_all}
use Rattle.std.specs.List.{list_any, flat_map}

pub any_map : {A B : Type 0} (test : B → Bool) (f : A → B) (xs : List A) → list_any test (map f xs) ≡ list_any (λ x. test (f x)) xs
any_map test f [] = refl
any_map test f (x ∷ xs) = ap (λ b. test (f x) || b) (any_map test f xs)

pub ruleset list_steps = (map-append, append_assoc, drop-cons)

-- at the end of a loop over a list nothing is left
pub flat_map-end : {A B : Type 0} (f : A → List B) (done : List B) (i : ℕ) (xs : List A) → done ++ flat_map f (drop i xs) ≡ flat_map f xs → length xs ≤ i → done ≡ flat_map f xs
flat_map-end f done i xs whole past = sym (append-nil done) ∙ ap (λ rest. done ++ flat_map f rest) (sym (drop_all i xs past)) ∙ whole

-- ---- a loop that stops at the first item that passes

-- one more item that doesn't pass
pub any_step : {A : Type 0} (test : A → Bool) (xs : List A) (i : ℕ) (x : A) → i < length xs → x ≡ get_or xs i x → test x ≡ false → list_any test (drop i xs) ≡ list_any test xs → list_any test (drop (i + 1) xs) ≡ list_any test xs
any_step test xs i x inside is fails way =
    ap (λ b. b || list_any test (drop (i + 1) xs)) (sym fails ∙ ap test is)
    ∙ ap (λ n. test (get_or xs i x) || list_any test (drop n xs)) (add-one i)
    ∙ ap (list_any test) (sym (drop-cons xs i x inside)) ∙ way

-- an item that passes
pub any_found : {A : Type 0} (test : A → Bool) (xs : List A) (i : ℕ) (x : A) → i < length xs → x ≡ get_or xs i x → test x ≡ true → list_any test (drop i xs) ≡ list_any test xs → true ≡ list_any test xs
any_found test xs i x inside is passes way =
    ap (λ b. b || list_any test (drop (suc i) xs)) (sym passes ∙ ap test is)
    ∙ ap (list_any test) (sym (drop-cons xs i x inside)) ∙ way

-- nothing passed
pub any_end : {A : Type 0} (test : A → Bool) (xs : List A) (i : ℕ) → length xs ≤ i → list_any test (drop i xs) ≡ list_any test xs → false ≡ list_any test xs
any_end test xs i past way = ap (list_any test) (sym (drop_all i xs past)) ∙ way
