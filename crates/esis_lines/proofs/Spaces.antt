-- One cut at the first space gives what comes before and after it.
use Rattle.std.proofs.Common.{◌≡◌, ℕ, ◌+◌, suc, Bool, true, false, not, Option, Some, None, List, [], ◌∷◌, take, drop, if◌then◌else◌, refl, ap, sym, ◌∙◌, arith}
use Rattle.std.specs.List.{before_first, after_first, prefix_len}
use Rattle.std.specs.Option.{option_map}
use Rattle.acl_model.specs.Ascii.{space}
use Rattle.acl_model.specs.Lines.{cut_at}
use Rattle.acl_model.specs.Values.{is_space}

-- the parts that a cut leaves: all and nothing, where there was none
parts_of : List ℕ → Option (List ℕ × List ℕ) → List ℕ × List ℕ
parts_of bytes None = (bytes, [])
parts_of bytes (Some p) = p

with_byte : ℕ → List ℕ × List ℕ → List ℕ × List ℕ
with_byte b p = (b ∷ p.0, p.1)

parts_with : (b : ℕ) (bytes : List ℕ) (o : Option (List ℕ × List ℕ)) → parts_of (b ∷ bytes) (option_map (λ p. (b ∷ p.0, p.1)) o) ≡ with_byte b (parts_of bytes o)
unfolding parts_of with_byte
parts_with b bytes None = refl
parts_with b bytes (Some p) = refl

-- the parts by the number of bytes before the first space
parts_at : List ℕ → ℕ → List ℕ × List ℕ
parts_at bytes n = (take n bytes, drop (n + 1) bytes)

parts_at-more : (b : ℕ) (bytes : List ℕ) (n : ℕ) → with_byte b (parts_at bytes n) ≡ parts_at (b ∷ bytes) (1 + n)
unfolding parts_at with_byte
parts_at-more b bytes n =
    let one : 1 + n ≡ suc n = omega arith in
    let two : 1 + n + 1 ≡ suc (n + 1) = omega arith in
    rw (two, one) refl

before_space : List ℕ → ℕ
before_space bytes = prefix_len (λ b. not (is_space b)) bytes

parts_are : (bytes : List ℕ) → parts_of bytes (cut_at space bytes) ≡ parts_at bytes (before_space bytes)
unfolding parts_of parts_at before_space
parts_are [] = refl
parts_are (b ∷ bytes) = elim (is_space b) as (λ (v : Bool). parts_of (b ∷ bytes) (if v then Some ([], bytes) else option_map (λ p. (b ∷ p.0, p.1)) (cut_at space bytes)) ≡ parts_at (b ∷ bytes) (if not v then 1 + before_space bytes else 0)) [
  | true ↦ refl
  | false ↦ parts_with b bytes (cut_at space bytes) ∙ ap (with_byte b) (parts_are bytes) ∙ parts_at-more b bytes (before_space bytes)
]

cut_is : (bytes : List ℕ) (o : Option (List ℕ × List ℕ)) → cut_at space bytes ≡ o → parts_of bytes o ≡ parts_at bytes (before_space bytes)
cut_is bytes o is = ap (parts_of bytes) (sym is) ∙ parts_are bytes

pub before_of_cut : (bytes before after : List ℕ) → cut_at 32 bytes ≡ Some (before, after) → before ≡ before_first is_space bytes
unfolding parts_of parts_at before_space
before_of_cut bytes before after is = ap (λ (p : List ℕ × List ℕ). p.0) (cut_is bytes (Some (before, after)) is)

pub after_of_cut : (bytes before after : List ℕ) → cut_at 32 bytes ≡ Some (before, after) → after ≡ after_first is_space bytes
unfolding parts_of parts_at before_space
after_of_cut bytes before after is = ap (λ (p : List ℕ × List ℕ). p.1) (cut_is bytes (Some (before, after)) is)

-- Where there is no space, all bytes come before it, and none after.
pub before_without_cut : (bytes : List ℕ) → cut_at 32 bytes ≡ None → bytes ≡ before_first is_space bytes
unfolding parts_of parts_at before_space
before_without_cut bytes none = ap (λ (p : List ℕ × List ℕ). p.0) (cut_is bytes None none)

pub after_without_cut : (bytes : List ℕ) → cut_at 32 bytes ≡ None → [] ≡ after_first is_space bytes
unfolding parts_of parts_at before_space
after_without_cut bytes none = ap (λ (p : List ℕ × List ℕ). p.1) (cut_is bytes None none)

pub ruleset space_laws = (before_of_cut, after_of_cut, before_without_cut, after_without_cut)
