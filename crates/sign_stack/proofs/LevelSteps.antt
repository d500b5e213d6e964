-- Steps of the loops over levels and rules: one level or one rule more or less.
use Rattle.std.proofs.Common.{◌≡◌, ℕ, zero, suc, cond, ◌+◌, ◌-◌, ◌<◌, ◌≤◌, Some, None, List, [], ◌∷◌, ◌++◌, length, get_or, take, drop, set, reverse, true, false, refl, ap, sym, ◌∙◌, arith}
use Rattle.std.specs.List.{slice_get}
use Rattle.std.specs.Option.{option_or}
use Rattle.std.proofs.lemmas.List.{take_more, reverse-append, take-append-drop, take-set, drop-set, drop_all}
use Rattle.acl_bits.specs.Row.{is_member}
use Rattle.sign_stack.specs.declared.level.Level.{Level}
use Rattle.sign_stack.specs.SignLevels.{verdict_at, sign_by, sign_of_levels, rule_at, rule_of_levels, first_rule_of, rule_among, with_level}

module _ {X : Type 0} where
  -- of the first k + 1 entries in reverse, the last entry is the first
  reverse-take_more : (xs : List X) (k : ℕ) (x : X) → k < length xs → x ≡ get_or xs k x → reverse (take (k + 1) xs) ≡ x ∷ reverse (take k xs)
  reverse-take_more xs k x inside is =
      ap reverse (take_more xs k x inside) ∙ reverse-append (take k xs) (get_or xs k x ∷ []) ∙ ap (λ y. y ∷ reverse (take k xs)) (sym is)

-- the sign by the first n levels, from the last of them and the sign by those before it
pub sign-take_more : (grants denies : List ℕ) (levels : List Level) (n k : ℕ) (level : Level) → n ≡ k + 1 → k < length levels → level ≡ get_or levels k level
    → sign_of_levels grants denies (reverse (take n levels)) ≡ sign_by (verdict_at grants denies level) (sign_of_levels grants denies (reverse (take k levels)))
sign-take_more grants denies levels n k level e inside is =
    ap (λ m. sign_of_levels grants denies (reverse (take m levels))) e ∙ ap (sign_of_levels grants denies) (reverse-take_more levels k level inside is)

-- the rule by the first n levels, from the last of them and the rule by those before it
pub rule-take_more : (grants denies : List ℕ) (levels : List Level) (n k : ℕ) (level : Level) → n ≡ k + 1 → k < length levels → level ≡ get_or levels k level
    → rule_of_levels grants denies (reverse (take n levels)) ≡ option_or (rule_at grants denies level) (rule_of_levels grants denies (reverse (take k levels)))
rule-take_more grants denies levels n k level e inside is =
    ap (λ m. rule_of_levels grants denies (reverse (take m levels))) e ∙ ap (rule_of_levels grants denies) (reverse-take_more levels k level inside is)

pub ruleset level_steps = (sign-take_more, rule-take_more)

-- the first rule from position k on, from the rule at k and the first one after it
pub first-drop : (rules row : List ℕ) (k : ℕ) → k < length row → first_rule_of rules (drop k row) ≡ option_or (rule_among rules (slice_get row k)) (first_rule_of rules (drop (k + 1) row))
first-drop rules [] k inside = absurd (omega arith)
first-drop rules (n ∷ row) zero inside =
    elim (is_member rules n) as (λ b. cond b (Some n) (first_rule_of rules row) ≡ option_or (cond b (Some n) None) (first_rule_of rules (drop (0 + 1) (n ∷ row)))) [ true ↦ refl | false ↦ refl ]
first-drop rules (n ∷ row) (suc k) inside =
    let next : suc (k + 1) ≡ suc k + 1 = omega arith in
    first-drop rules row k (omega arith) ∙ ap (λ m. option_or (rule_among rules (slice_get row k)) (first_rule_of rules (drop m (n ∷ row)))) next

pub first-drop_all : (rules row : List ℕ) (k : ℕ) → length row ≤ k → first_rule_of rules (drop k row) ≡ None
first-drop_all rules row k past = ap (first_rule_of rules) (drop_all k row past)

pub ruleset rule_steps = (first-drop, first-drop_all)

-- writing over a level that is set gives with_level
pub with_level-set : (levels : List Level) (n : ℕ) (level : Level) → 1 ≤ n → n - 1 < length levels → set levels (n - 1) level ≡ with_level levels n level
with_level-set levels n level one inside =
    let next : n - 1 + 1 ≡ n = omega arith in
    sym (take-append-drop (n - 1) (set levels (n - 1) level))
    ∙ ap (λ prefix. prefix ++ drop (n - 1) (set levels (n - 1) level)) (take-set levels (n - 1) level)
    ∙ ap (λ back. take (n - 1) levels ++ back) (drop-set levels (n - 1) level inside)
    ∙ ap (λ m. take (n - 1) levels ++ (level ∷ drop m levels)) next
