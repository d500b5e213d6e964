-- What it means that lists of named strings do not clash: under one name, strings of equal digest are equal.
use Rattle.std.proofs.Common.{◌≡◌, ◌≢◌, ℕ, Bool, true, false, ◌&&◌, not, List, refl, sym, ap, subst, ◌∙◌, true≢false}
use Rattle.std.specs.Prelude.{nat_eq, bytes_eq, Contains}
use Rattle.std.specs.List.{list_any}
use Rattle.std.proofs.lemmas.Bool.{eqb-true, eq-eqb}
use Rattle.std.proofs.lemmas.Slice.Eq.{bytes_eq-Decides}
use Rattle.std.proofs.lemmas.List.Folds.{list_any_at, Any-from_list_any}
use Rattle.merkle_chunks.specs.Strings.{StringName, root, spot}
use Rattle.fragment_open.specs.Clash.{IsClash, clashes_with, has_clash, same_name}

-- ---- tests

pub both_true : (a b : Bool) → (a && b) ≡ true → (a ≡ true) × (b ≡ true)
both_true true b h = (refl, h)
both_true false b h = absurd (true≢false (sym h))

pub and_true : (a b : Bool) → a ≡ true → b ≡ true → (a && b) ≡ true
and_true a b h k = ap (λ (v : Bool). v && b) h ∙ k

not_true : (a : Bool) → not a ≡ true → a ≡ false
not_true true h = absurd (true≢false (sym h))
not_true false h = refl

same_name-refl : (name : StringName) → same_name name name ≡ true
same_name-refl root = refl
same_name-refl (spot level index) = and_true _ _ (eq-eqb level level refl) (eq-eqb index index refl)

one_name : (a b : StringName) → same_name a b ≡ true → a ≡ b
one_name root root h = refl
one_name root (spot level index) h = absurd (true≢false (sym h))
one_name (spot level index) root h = absurd (true≢false (sym h))
one_name (spot level index) (spot other place) h =
    let parts = both_true (nat_eq level other) (nat_eq index place) h in
    λ i. spot (eqb-true level other parts.0 i) (eqb-true index place parts.1 i)

-- ---- clashes

contained_any : {X : Type 0} (p : X → Bool) (xs : List X) (x : X) → Contains xs x → p x ≡ true → list_any p xs ≡ true
contained_any p xs x h e = list_any_at p xs h.0 x h.1 (ap p h.2 ∙ e)

module _ (hash : List ℕ → List ℕ) (ours theirs : List (StringName × List ℕ)) where
  pub clash_found : IsClash hash ours theirs → has_clash hash ours theirs ≡ true
  unfolding has_clash
  clash_found c =
      let one : StringName × List ℕ = (c.name, c.one) in
      let other : StringName × List ℕ = (c.name, c.other) in
      let digests : bytes_eq (hash c.one) (hash c.other) ≡ true = (bytes_eq-Decides (hash c.one) (hash c.other)).1 c.same_digest in
      let differ : not (bytes_eq c.one c.other) ≡ true = elim (bytes_eq c.one c.other) as (λ (v : Bool). (v ≡ true → c.one ≡ c.other) → not v ≡ true) [
        | true ↦ λ same. absurd (c.different (same refl))
        | false ↦ λ same. refl
      ] (bytes_eq-Decides c.one c.other).0 in
      contained_any (λ a. list_any (clashes_with hash a) theirs) ours one c.here
      (contained_any (clashes_with hash one) theirs other c.there (and_true _ _ (same_name-refl c.name) (and_true _ _ digests differ)))

  pub found_clash : has_clash hash ours theirs ≡ true → IsClash hash ours theirs
  unfolding has_clash
  found_clash h =
      let a = Any-from_list_any (λ a. list_any (clashes_with hash a) theirs) ours h in
      let b = Any-from_list_any (clashes_with hash a.1) theirs a.4 in
      let parts = both_true (same_name a.1.0 b.1.0) (bytes_eq (hash a.1.1) (hash b.1.1) && not (bytes_eq a.1.1 b.1.1)) b.4 in
      let rest = both_true (bytes_eq (hash a.1.1) (hash b.1.1)) (not (bytes_eq a.1.1 b.1.1)) parts.1 in
      record {
        name = a.1.0;
        one = a.1.1;
        other = b.1.1;
        here = (a.0, a.2, a.3);
        there = let P : StringName → Type 0 = λ name. Contains theirs (name, b.1.1) in subst P (sym (one_name a.1.0 b.1.0 parts.0)) (b.0, b.2, b.3);
        different = λ same. true≢false (sym ((bytes_eq-Decides a.1.1 b.1.1).1 same) ∙ not_true (bytes_eq a.1.1 b.1.1) rest.1);
        same_digest = (bytes_eq-Decides (hash a.1.1) (hash b.1.1)).0 rest.0;
      }

  -- without a clash, strings of equal digest under one name are equal
  pub agree : has_clash hash ours theirs ≡ false → (name : StringName) (one other : List ℕ) → Contains ours (name, one) → Contains theirs (name, other) → hash one ≡ hash other → one ≡ other
  agree none name one other here there same =
      elim (bytes_eq one other) as (λ (v : Bool). (v ≡ true → one ≡ other) → (one ≡ other → v ≡ true) → one ≡ other) [
        | true ↦ λ yes no'. yes refl
        | false ↦ λ yes no'. absurd (true≢false (sym (clash_found (record { name = name; one = one; other = other; here = here; there = there; different = λ e. true≢false (sym (no' e)); same_digest = same })) ∙ none))
      ] (bytes_eq-Decides one other).0 (bytes_eq-Decides one other).1

  -- and where such strings are always equal, there is no clash
  pub no_clash : ((name : StringName) (one other : List ℕ) → Contains ours (name, one) → Contains theirs (name, other) → one ≡ other) → has_clash hash ours theirs ≡ false
  no_clash same =
      elim (has_clash hash ours theirs) as (λ (v : Bool). (v ≡ true → IsClash hash ours theirs) → v ≡ false) [
        | true ↦ λ found. let c = found refl in absurd (c.different (same c.name c.one c.other c.here c.there))
        | false ↦ λ found. refl
      ] found_clash

-- ---- comparisons in the code

pub bytes_differ : (a b : List ℕ) → true ≡ not (bytes_eq a b) → a ≢ b
bytes_differ a b h same = true≢false (sym ((bytes_eq-Decides a b).1 same) ∙ not_true (bytes_eq a b) (sym h))

not_false : (a : Bool) → false ≡ not a → a ≡ true
not_false true h = refl
not_false false h = absurd (true≢false (sym h))

pub bytes_same : (a b : List ℕ) → false ≡ not (bytes_eq a b) → a ≡ b
bytes_same a b h = (bytes_eq-Decides a b).0 (not_false (bytes_eq a b) h)
