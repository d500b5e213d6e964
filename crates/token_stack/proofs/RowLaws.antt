-- The rules of entries, one entry after another.
use Rattle.std.proofs.Common.{◌≡◌, ℕ, ◌+◌, ◌<◌, ◌≤◌, Bool, true, false, eqb, ◌||◌, Some, None, List, [], ◌∷◌, length, get_or, take, refl, ap, sym, ◌∙◌, arith}
use Rattle.std.specs.List.{list_any}
use Rattle.std.proofs.lemmas.Bool.Decides.{nat_tests}
use Rattle.std.proofs.lemmas.List.{take_more, take_all}
use Rattle.std.proofs.lemmas.List.Folds.{list_any-append}
use Rattle.acl_bits.specs.Row.{row_of, is_member}
use Rattle.acl_bits.specs.inside.RowLaws.{row_of-same, is_member-row_of}
use Rattle.rule_automata.specs.Run.{is_rule}
use Rattle.token_stack.specs.declared.entry.Entry.{Entry}
use Rattle.token_stack.specs.Entries.{rules_of}

pub rules-none : [] ≡ rules_of []
unfolding row_of
rules-none = refl

-- whether one of the first i + 1 entries has the rule
any_more : (es : List Entry) (i : ℕ) (e : Entry) (rule : ℕ) → i < length es
    → list_any (λ x. is_rule rule x.selects) (take (i + 1) es) ≡ (list_any (λ x. is_rule rule x.selects) (take i es) || is_rule rule (get_or es i e).selects)
any_more es i e rule inside =
    ap (list_any (λ x. is_rule rule x.selects)) (take_more es i e inside)
    ∙ list_any-append (λ x. is_rule rule x.selects) (take i es) (get_or es i e ∷ [])
    ∙ without_false (list_any (λ y. is_rule rule y.selects) (take i es)) (is_rule rule (get_or es i e).selects)
  where
    without_false : (a b : Bool) → (a || (b || false)) ≡ (a || b)
    without_false true b = refl
    without_false false true = refl
    without_false false false = refl

turned : (rule n : ℕ) (b : Bool) → (eqb n rule || b) ≡ (b || eqb rule n)
turned rule n true = grind (arith, nat_tests)
turned rule n false = grind (arith, nat_tests)

-- an entry by which a rule selects
pub rules-put : (es : List Entry) (i : ℕ) (e : Entry) (rule : ℕ) → i < length es → (get_or es i e).selects ≡ Some rule
    → row_of (λ n. eqb n rule || is_member (rules_of (take i es)) n) ≡ rules_of (take (i + 1) es)
rules-put es i e rule inside selects =
    row_of-same (λ n. eqb n rule || is_member (rules_of (take i es)) n) (λ n. list_any (λ x. is_rule n x.selects) (take (i + 1) es))
    (λ n small. ap (λ b. eqb n rule || b) (is_member-row_of (λ m. list_any (λ x. is_rule m x.selects) (take i es)) n small)
    ∙ turned rule n (list_any (λ x. is_rule n x.selects) (take i es))
    ∙ ap (λ o. list_any (λ x. is_rule n x.selects) (take i es) || is_rule n o) (sym selects)
    ∙ sym (any_more es i e n inside))

or_false : (b : Bool) → b ≡ (b || false)
or_false true = refl
or_false false = refl

-- an entry by which none does
pub rules-pass : (es : List Entry) (i : ℕ) (e : Entry) → i < length es → (get_or es i e).selects ≡ None → rules_of (take i es) ≡ rules_of (take (i + 1) es)
rules-pass es i e inside selects =
    row_of-same (λ n. list_any (λ x. is_rule n x.selects) (take i es)) (λ n. list_any (λ x. is_rule n x.selects) (take (i + 1) es))
    (λ n small. or_false (list_any (λ x. is_rule n x.selects) (take i es)) ∙ ap (λ o. list_any (λ x. is_rule n x.selects) (take i es) || is_rule n o) (sym selects) ∙ sym (any_more es i e n inside))

pub rules-all : (es : List Entry) (i : ℕ) → length es ≤ i → rules_of (take i es) ≡ rules_of es
rules-all es i past = ap rules_of (take_all i es past)

pub ruleset row_steps = (rules-none, rules-all)
