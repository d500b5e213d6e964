-- Flags of a set of indexes.
use Rattle.std.proofs.Common.{◌≡◌, ℕ, zero, suc, ◌+◌, ◌<◌, ◌≤◌, Bool, true, false, cond, nat_eq, List, [], ◌∷◌, ◌++◌, length, take, drop, get_or, refl, ap, sym, ◌∙◌, arith}
use Rattle.std.specs.Prelude.{◌||◌, replicate}
use Rattle.std.specs.List.{list_any}
use Rattle.std.proofs.lemmas.Bool.Decides.{nat_tests}
use Rattle.skip_decode.specs.Different.{different}
use Rattle.skip_decode.specs.inside.IndexSets.{AreFlagsOf, set_count}

-- ---- one flag

-- the flags, once the one at an index is set
abbrev pub with_flag : ℕ → List Bool → List Bool
with_flag n flags = take n flags ++ (true ∷ drop (n + 1) flags)

-- a first flag before them
with_flag-suc : (n : ℕ) (f : Bool) (flags : List Bool) → with_flag (suc n) (f ∷ flags) ≡ f ∷ with_flag n flags
with_flag-suc n f flags =
    let next : suc n + 1 ≡ suc (n + 1) = omega arith in
    ap (λ k. f ∷ (take n flags ++ (true ∷ drop k (f ∷ flags)))) next

-- the flag at an index, once one is set
get_or-with_flag : (n : ℕ) (flags : List Bool) (i : ℕ) → n < length flags
    → get_or (with_flag n flags) i false ≡ nat_eq i n || get_or flags i false
get_or-with_flag n [] i lt = absurd (omega (arith, lt))
get_or-with_flag zero (f ∷ flags) zero lt = refl
get_or-with_flag zero (f ∷ flags) (suc i) lt =
    let other : nat_eq (suc i) 0 ≡ false = grind (arith, nat_tests) in
    ap (λ b. b || get_or flags i false) (sym other)
get_or-with_flag (suc n) (f ∷ flags) zero lt =
    let other : nat_eq 0 (suc n) ≡ false = grind (arith, nat_tests) in
    ap (λ l. get_or l 0 false) (with_flag-suc n f flags) ∙ ap (λ b. b || f) (sym other)
get_or-with_flag (suc n) (f ∷ flags) (suc i) lt =
    let same : nat_eq i n ≡ nat_eq (suc i) (suc n) = grind (arith, nat_tests) in
    ap (λ l. get_or l (suc i) false) (with_flag-suc n f flags)
    ∙ get_or-with_flag n flags i (omega (arith, lt))
    ∙ ap (λ b. b || get_or flags i false) same

-- one more flag is set
pub set_count-with_flag : (n : ℕ) (flags : List Bool) → n < length flags → get_or flags n false ≡ false
    → set_count (with_flag n flags) ≡ suc (set_count flags)
unfolding set_count
set_count-with_flag n [] lt clear = absurd (omega (arith, lt))
set_count-with_flag zero (f ∷ flags) lt clear =
    ap (λ b. suc (cond b (suc (set_count flags)) (set_count flags))) (sym clear)
set_count-with_flag (suc n) (true ∷ flags) lt clear =
    ap set_count (with_flag-suc n true flags) ∙ ap suc (set_count-with_flag n flags (omega (arith, lt)) clear)
set_count-with_flag (suc n) (false ∷ flags) lt clear =
    ap set_count (with_flag-suc n false flags) ∙ set_count-with_flag n flags (omega (arith, lt)) clear

-- as many as there are flags
pub length-with_flag : (n : ℕ) (flags : List Bool) → n < length flags → length (with_flag n flags) ≡ length flags
length-with_flag n [] lt = absurd (omega (arith, lt))
length-with_flag zero (f ∷ flags) lt = refl
length-with_flag (suc n) (f ∷ flags) lt =
    ap (λ (l : List Bool). length l) (with_flag-suc n f flags) ∙ ap suc (length-with_flag n flags (omega (arith, lt)))

-- at most all flags are set
set_count-few : (flags : List Bool) → set_count flags ≤ length flags
unfolding set_count
set_count-few [] = omega arith
set_count-few (true ∷ flags) = omega (arith, set_count-few flags)
set_count-few (false ∷ flags) = omega (arith, set_count-few flags)

-- where one isn't set, not all are
pub set_count-room : (n : ℕ) (flags : List Bool) → n < length flags → get_or flags n false ≡ false
    → set_count flags < length flags
set_count-room n flags lt clear =
    let few = set_count-few (with_flag n flags) in
    omega (arith, few, set_count-with_flag n flags lt clear, length-with_flag n flags lt)

-- ---- no flag

-- none is set
pub set_count-replicate : (n : ℕ) → set_count (replicate n false) ≡ 0
unfolding set_count
set_count-replicate zero = refl
set_count-replicate (suc n) = set_count-replicate n

-- each flag is clear
get_or-clear : (n i : ℕ) → get_or (replicate n false) i false ≡ false
get_or-clear zero i = refl
get_or-clear (suc n) zero = refl
get_or-clear (suc n) (suc i) = get_or-clear n i

-- ---- sets

-- The flags of the empty set.
pub flags_of_none : (n : ℕ) → AreFlagsOf [] (replicate n false)
unfolding different
flags_of_none n = record { each = λ i. get_or-clear n i; many = set_count-replicate n }

-- A number that isn't in the list yet.
pub flags_of_more : (n : ℕ) (members : List ℕ) (flags : List Bool) → n < length flags → get_or flags n false ≡ false
    → AreFlagsOf members flags → AreFlagsOf (n ∷ members) (with_flag n flags)
unfolding different
flags_of_more n members flags lt clear are = record {
  each = λ i. get_or-with_flag n flags i lt ∙ ap (λ b. nat_eq i n || b) (are.each i);
  many =
      set_count-with_flag n flags lt clear ∙ ap suc are.many
      ∙ ap (λ b. cond b (different members) (suc (different members))) (sym (sym (are.each n) ∙ clear));
}

-- A number that is in the list already.
pub flags_of_same : (n : ℕ) (members : List ℕ) (flags : List Bool) → get_or flags n false ≡ true
    → AreFlagsOf members flags → AreFlagsOf (n ∷ members) flags
unfolding different
flags_of_same n members flags set are = record {
  each = λ i. by i (nat_eq i n) refl;
  many = are.many ∙ ap (λ b. cond b (different members) (suc (different members))) (sym (sym (are.each n) ∙ set));
}
  where
    by : (i : ℕ) (b : Bool) → nat_eq i n ≡ b → get_or flags i false ≡ nat_eq i n || list_any (nat_eq i) members
    by i true is =
        let same : i ≡ n = grind (arith, nat_tests, is) in
        ap (λ k. get_or flags k false) same ∙ set ∙ ap (λ b. b || list_any (nat_eq i) members) (sym is)
    by i false is = are.each i ∙ ap (λ b. b || list_any (nat_eq i) members) (sym is)
