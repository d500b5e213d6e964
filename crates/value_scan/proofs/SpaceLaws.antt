-- One cut at the first space gives what comes before and after it.
use Rattle.std.proofs.Common.{◌≡◌, ℕ, suc, zero, ◌+◌, ◌<◌, ◌≤◌, Some, None, List, [], length, get_or, ap, sym, subst, ◌∙◌, inl, inr, ◌⊎◌, arith}
use Rattle.std.proofs.lemmas.Bool.{true≢false}
use Rattle.std.proofs.lemmas.List.{take_all, drop_all}
use Rattle.std.proofs.lemmas.List.Sums.{fails_before_first, passes_at_first}
use Rattle.std.specs.List.{before_first, after_first, position_or_len}
use Rattle.std.specs.Option.{unwrap_or, MatchOption}
use borrow.Author.Tests.{eqb-true}
use Rattle.acl_model.specs.Values.{is_space}
use Rattle.acl_model.specs.Lines.{cut_at}
use Rattle.acl_model.proofs.LineLaws.{cut_at-found, cut_at-none}

inside_or_past : (i n : ℕ) → (i < n) ⊎ (n ≤ i)
inside_or_past i zero = inr (omega arith)
inside_or_past zero (suc n) = inl (omega arith)
inside_or_past (suc i) (suc n) =
    elim (inside_or_past i n) [ inl h ↦ inl (omega (arith, h)) | inr h ↦ inr (omega (arith, h)) ]

-- no byte before the first space is a space
none_before : (bytes : List ℕ) (k : ℕ) → k < position_or_len is_space bytes → get_or bytes k 0 ≡ 32 → ⊥
none_before bytes k before is = true≢false (sym (ap is_space is) ∙ fails_before_first is_space bytes k 0 before)

-- the cut, where there is a space
cut_where_found : (bytes : List ℕ) → position_or_len is_space bytes < length bytes
    → cut_at 32 bytes ≡ Some (before_first is_space bytes, after_first is_space bytes)
cut_where_found bytes inside =
    cut_at-found 32 bytes (position_or_len is_space bytes) (none_before bytes) inside
    (eqb-true (get_or bytes (position_or_len is_space bytes) 0) 32 (passes_at_first is_space bytes 0 inside))

-- the cut, where there is no space
cut_where_none : (bytes : List ℕ) → length bytes ≤ position_or_len is_space bytes → cut_at 32 bytes ≡ None
cut_where_none bytes past = cut_at-none 32 bytes (λ k h. none_before bytes k (omega (arith, h, past)))

none_is_not_some : {A : Type 0} (x : A) → None ≡ Some x → ⊥
none_is_not_some x h = subst (λ o. MatchOption o (Unit {0}) (λ _. ⊥)) h tt

same_within : {A : Type 0} (x y : A) → Some x ≡ Some y → x ≡ y
same_within x y h = ap (λ o. unwrap_or o x) h

-- The two parts of a cut are what comes before and after the first space.
same_parts : (bytes : List ℕ) (p : List ℕ × List ℕ) → cut_at 32 bytes ≡ Some p
    → (p.0 ≡ before_first is_space bytes) × (p.1 ≡ after_first is_space bytes)
same_parts bytes p is = elim (inside_or_past (position_or_len is_space bytes) (length bytes)) [
  | inl inside ↦
      let parts : List ℕ × List ℕ = (before_first is_space bytes, after_first is_space bytes) in
      let same : p ≡ parts = same_within p parts (sym is ∙ cut_where_found bytes inside) in
      (ap (λ (q : List ℕ × List ℕ). q.0) same, ap (λ (q : List ℕ × List ℕ). q.1) same)
  | inr past ↦ absurd (none_is_not_some p (sym (cut_where_none bytes past) ∙ is))
]

pub before_of_cut : (bytes before after : List ℕ) → cut_at 32 bytes ≡ Some (before, after)
    → before ≡ before_first is_space bytes
before_of_cut bytes before after is = (same_parts bytes (before, after) is).0

pub after_of_cut : (bytes before after : List ℕ) → cut_at 32 bytes ≡ Some (before, after)
    → after ≡ after_first is_space bytes
after_of_cut bytes before after is = (same_parts bytes (before, after) is).1

-- Without a space, all bytes come before it, and none after it.
pub before_without_cut : (bytes : List ℕ) → cut_at 32 bytes ≡ None → bytes ≡ before_first is_space bytes
before_without_cut bytes none = elim (inside_or_past (position_or_len is_space bytes) (length bytes)) [
  | inl inside ↦ absurd
      (none_is_not_some (before_first is_space bytes, after_first is_space bytes)
      (sym none ∙ cut_where_found bytes inside))
  | inr past ↦ sym (take_all (position_or_len is_space bytes) bytes past)
]

pub after_without_cut : (bytes : List ℕ) → cut_at 32 bytes ≡ None → [] ≡ after_first is_space bytes
after_without_cut bytes none = elim (inside_or_past (position_or_len is_space bytes) (length bytes)) [
  | inl inside ↦ absurd
      (none_is_not_some (before_first is_space bytes, after_first is_space bytes)
      (sym none ∙ cut_where_found bytes inside))
  | inr past ↦ sym (drop_all (position_or_len is_space bytes + 1) bytes (omega (arith, past)))
]

pub ruleset space_laws = (before_of_cut, after_of_cut, before_without_cut, after_without_cut)
