-- A sign that is given before all levels are settled stays right, whatever they settle to.
use Rattle.std.proofs.Common.{◌≡◌, ◌⊎◌, inl, inr, ℕ, suc, Bool, true, false, cond, eqb, ◌||◌, Option, Some, None, List, [], ◌∷◌, refl, ap, sym, subst, ◌∙◌, arith, map, Any, eq-eqb}
use Rattle.std.specs.Bool.{MatchBool}
use Rattle.std.specs.List.{list_any, find}
use Rattle.std.specs.Option.{option_or, is_some, MatchOption}
use Rattle.std.proofs.lemmas.Bool.{true≢false, eqb-true}
use Rattle.std.proofs.lemmas.List.Folds.{Any-from_list_any, list_any-from_Any}
use Rattle.acl_bits.specs.Row.{is_member}
use Rattle.acl_model.specs.declared.rule.Sign.{Sign}
use Rattle.acl_model.specs.declared.rule.Sign.TheVariants.{Grant, Deny}
use Rattle.sign_stack.specs.declared.level.Level.{Level}
use Rattle.sign_stack.specs.declared.level.Verdict.{Verdict}
use Rattle.sign_stack.specs.declared.level.Verdict.TheVariants.{Decided, Unsettled, Inherited}
use Rattle.sign_stack.specs.SignLevels.{has_rule_of, sign_by, sign_of_levels, rule_of_levels}
use Rattle.sign_stack.specs.RuleRows.{settled_level, AreOutcomes, IsUnsettled, IsUnsettledBy, IsUndecided, AreSettledToDecider, IsSettledToDecider}

none_is_not_some : {A : Type 0} (x : A) → None ≡ Some x → ⊥
none_is_not_some x h = subst (λ o. MatchOption o (Unit {0}) (λ _. ⊥)) h tt

-- ---- members

-- where a member passes a test, some member does
any_from_member : (f : ℕ → Bool) (xs : List ℕ) (n : ℕ) → is_member xs n ≡ true → f n ≡ true → list_any f xs ≡ true
unfolding is_member
any_from_member f xs n in_it passes =
    let a : Any (λ x. eqb x n ≡ true) xs = Any-from_list_any (λ x. eqb x n) xs in_it in
    list_any-from_Any f xs (a.0, a.1, a.2, a.3, ap f (eqb-true a.1 n a.4) ∙ passes)

-- where some pass a test, some member passes it
member_from_any : (f : ℕ → Bool) (xs : List ℕ) → list_any f xs ≡ true → (n : ℕ) × (is_member xs n ≡ true) × (f n ≡ true)
unfolding is_member
member_from_any f xs some =
    let a : Any (λ x. f x ≡ true) xs = Any-from_list_any f xs some in
    (a.1, list_any-from_Any (λ x. eqb x a.1) xs (a.0, a.1, a.2, a.3, eq-eqb a.1 a.1 refl), a.4)

-- where all of these are members of the other list and some of these pass, some of the others pass
any_of_more : (f : ℕ → Bool) (xs ys : List ℕ) → ((n : ℕ) → is_member xs n ≡ true → is_member ys n ≡ true) → list_any f xs ≡ true → list_any f ys ≡ true
any_of_more f xs ys more some =
    let found : (n : ℕ) × (is_member xs n ≡ true) × (f n ≡ true) = member_from_any f xs some in
    any_from_member f ys found.0 (more found.0 found.1) found.2

-- where some rule of the first set passes and none of the second does, one passes that is in the first
-- only
one_between : (f : ℕ → Bool) (may sure : List ℕ) → list_any f may ≡ true → list_any f sure ≡ false → (n : ℕ) × (f n ≡ true) × (is_member may n ≡ true) × (is_member sure n ≡ false)
one_between f may sure some none =
    let found : (n : ℕ) × (is_member may n ≡ true) × (f n ≡ true) = member_from_any f may some in
    (found.0, found.2, found.1, not_member f sure found.0 (is_member sure found.0) refl found.2 none)
  where
    not_member : (f : ℕ → Bool) (sure : List ℕ) (n : ℕ) (b : Bool) → is_member sure n ≡ b → f n ≡ true → list_any f sure ≡ false → is_member sure n ≡ false
    not_member f sure n true is passes none = absurd (true≢false (sym (any_from_member f sure n is passes) ∙ none))
    not_member f sure n false is passes none = is

-- ---- signs

-- what sets say, by whether a denial surely or possibly selects, and whether a grant does
abbrev said : Bool → Bool → Bool → Bool → Verdict
said denial denials grant grants = cond denial (Decided Deny) (cond denials Unsettled (cond grant (Decided Grant) (cond grants Unsettled Inherited)))

-- a sign that is given stays right for a set that has each sure rule and only possible rules
kept_sign : (denial denials grant grants denied granted : Bool) (above below : Option Sign) (s : Sign)
    → (denial ≡ true → denied ≡ true) → (denied ≡ true → denials ≡ true) → (grant ≡ true → granted ≡ true) → (granted ≡ true → grants ≡ true)
    → (above ≡ Some s → below ≡ Some s) → sign_by (said denial denials grant grants) above ≡ Some s → sign_by (said denied denied granted granted) below ≡ Some s
kept_sign true denials grant grants true granted above below s d1 d2 g1 g2 up is = is
kept_sign true denials grant grants false granted above below s d1 d2 g1 g2 up is = absurd (true≢false (sym (d1 refl)))
kept_sign false true grant grants denied granted above below s d1 d2 g1 g2 up is = absurd (none_is_not_some s is)
kept_sign false false grant grants true granted above below s d1 d2 g1 g2 up is = absurd (true≢false (sym (d2 refl)))
kept_sign false false true grants false true above below s d1 d2 g1 g2 up is = is
kept_sign false false true grants false false above below s d1 d2 g1 g2 up is = absurd (true≢false (sym (g1 refl)))
kept_sign false false false true false granted above below s d1 d2 g1 g2 up is = absurd (none_is_not_some s is)
kept_sign false false false false false true above below s d1 d2 g1 g2 up is = absurd (true≢false (sym (g2 refl)))
kept_sign false false false false false false above below s d1 d2 g1 g2 up is = up is

-- A sign that is given stays right, whatever the levels settle to.
pub sign_holds : (grants denies : List ℕ) (levels : List Level) (rows : List (List ℕ)) (s : Sign) → AreOutcomes levels rows
    → sign_of_levels grants denies levels ≡ Some s → sign_of_levels grants denies (map settled_level rows) ≡ Some s
sign_holds grants denies [] [] s outcomes is = is
sign_holds grants denies [] (row ∷ rows) s outcomes is = absurd outcomes
sign_holds grants denies (level ∷ levels) [] s outcomes is = absurd outcomes
sign_holds grants denies (level ∷ levels) (row ∷ rows) s outcomes is =
    kept_sign (has_rule_of denies level.sure) (has_rule_of denies level.may) (has_rule_of grants level.sure) (has_rule_of grants level.may) (has_rule_of denies row) (has_rule_of grants row)
    (sign_of_levels grants denies levels) (sign_of_levels grants denies (map settled_level rows)) s
    (any_of_more (is_member denies) level.sure row outcomes.0.sure) (any_of_more (is_member denies) row level.may outcomes.0.may)
    (any_of_more (is_member grants) level.sure row outcomes.0.sure) (any_of_more (is_member grants) row level.may outcomes.0.may)
    (sign_holds grants denies levels rows s outcomes.1) is

later : (level : Level) (levels : List Level) → Any IsUnsettled levels → Any IsUnsettled (level ∷ levels)
later level levels a = (suc a.0, a.1, omega (arith, a.2), a.3, a.4)

without_rules : (rules : List ℕ) (level : Level) → IsUnsettledBy rules level → IsUnsettled level
without_rules rules level by = (by.0, by.2, by.3)

-- where no sign is given, this level or one around it isn't settled
why_none : (grants denies : List ℕ) (level : Level) (levels : List Level) (denial denials grant grant' : Bool) (above : Option Sign)
    → has_rule_of denies level.sure ≡ denial → has_rule_of denies level.may ≡ denials → has_rule_of grants level.sure ≡ grant → has_rule_of grants level.may ≡ grant'
    → (above ≡ None → Any IsUnsettled levels) → sign_by (said denial denials grant grant') above ≡ None → Any IsUnsettled (level ∷ levels)
why_none grants denies level levels true denials grant grant' above d1 d2 g1 g2 up is = absurd (none_is_not_some Deny (sym is))
why_none grants denies level levels false true grant grant' above d1 d2 g1 g2 up is = (0, level, omega arith, refl, without_rules denies level (one_between (is_member denies) level.may level.sure d2 d1))
why_none grants denies level levels false false true grant' above d1 d2 g1 g2 up is = absurd (none_is_not_some Grant (sym is))
why_none grants denies level levels false false false true above d1 d2 g1 g2 up is = (0, level, omega arith, refl, without_rules grants level (one_between (is_member grants) level.may level.sure g2 g1))
why_none grants denies level levels false false false false above d1 d2 g1 g2 up is = later level levels (up is)

pub none_is_unsettled : (grants denies : List ℕ) (levels : List Level) → sign_of_levels grants denies levels ≡ None → Any IsUnsettled levels
none_is_unsettled grants denies [] is = absurd (none_is_not_some Deny (sym is))
none_is_unsettled grants denies (level ∷ levels) is =
    why_none grants denies level levels (has_rule_of denies level.sure) (has_rule_of denies level.may) (has_rule_of grants level.sure) (has_rule_of grants level.may) (sign_of_levels grants denies levels)
    refl refl refl refl (none_is_unsettled grants denies levels) is

-- where no sign is given, the innermost level at which a rule may select is the reason
stops_there : (grants denies : List ℕ) (level : Level) (levels : List Level) (denial denials grant grant' : Bool) (above : Option Sign)
    → has_rule_of denies level.sure ≡ denial → has_rule_of denies level.may ≡ denials → has_rule_of grants level.sure ≡ grant → has_rule_of grants level.may ≡ grant'
    → (above ≡ None → IsUndecided grants denies levels) → sign_by (said denial denials grant grant') above ≡ None
    → MatchBool (denials || grant') (IsUnsettledBy denies level ⊎ IsUnsettledBy grants level) (IsUndecided grants denies levels)
stops_there grants denies level levels true denials grant grant' above d1 d2 g1 g2 up is = absurd (none_is_not_some Deny (sym is))
stops_there grants denies level levels false true grant grant' above d1 d2 g1 g2 up is = inl (one_between (is_member denies) level.may level.sure d2 d1)
stops_there grants denies level levels false false true grant' above d1 d2 g1 g2 up is = absurd (none_is_not_some Grant (sym is))
stops_there grants denies level levels false false false true above d1 d2 g1 g2 up is = inr (one_between (is_member grants) level.may level.sure g2 g1)
stops_there grants denies level levels false false false false above d1 d2 g1 g2 up is = up is

pub none_is_held_up : (grants denies : List ℕ) (levels : List Level) → sign_of_levels grants denies levels ≡ None → IsUndecided grants denies levels
none_is_held_up grants denies [] is = absurd (none_is_not_some Deny (sym is))
none_is_held_up grants denies (level ∷ levels) is =
    stops_there grants denies level levels (has_rule_of denies level.sure) (has_rule_of denies level.may) (has_rule_of grants level.sure) (has_rule_of grants level.may) (sign_of_levels grants denies levels)
    refl refl refl refl (none_is_held_up grants denies levels) is

-- where each rule that may select surely does, none of these is unsettled
none_unsettled : (rules : List ℕ) (level : Level) → level.sure ≡ level.may → IsUnsettledBy rules level → ⊥
none_unsettled rules level same by = true≢false (sym by.2 ∙ sym (ap (λ row. is_member row by.0) same) ∙ by.3)

not_held_up : (grants denies : List ℕ) (levels : List Level) → IsSettledToDecider grants denies levels → IsUndecided grants denies levels → ⊥
not_held_up grants denies [] settled held = held
not_held_up grants denies (level ∷ levels) settled held =
    stop (has_rule_of denies level.may || has_rule_of grants level.may) (not_held_up grants denies levels) settled.1 held
  where
    stop : (b : Bool) → (IsSettledToDecider grants denies levels → IsUndecided grants denies levels → ⊥) → MatchBool b (Unit {0}) (IsSettledToDecider grants denies levels)
        → MatchBool b (IsUnsettledBy denies level ⊎ IsUnsettledBy grants level) (IsUndecided grants denies levels) → ⊥
    stop true farther rest (inl by) = none_unsettled denies level settled.0 by
    stop true farther rest (inr by) = none_unsettled grants level settled.0 by
    stop false farther rest up = farther rest up

some_or_none : (o : Option Sign) → (o ≡ None → ⊥) → is_some o ≡ true
some_or_none None never = absurd (never refl)
some_or_none (Some s) never = refl

-- A sign is given where the levels up to the decider are settled.
pub settled_is_given : (grants denies : List ℕ) (levels : List Level) → IsSettledToDecider grants denies levels → is_some (sign_of_levels grants denies levels) ≡ true
settled_is_given grants denies levels settled =
    some_or_none (sign_of_levels grants denies levels) (λ none. not_held_up grants denies levels settled (none_is_held_up grants denies levels none))

-- ---- rules

-- a member that passes is found exactly where there is one
found_is : (f : ℕ → Bool) (xs : List ℕ) → is_some (find f xs) ≡ list_any f xs
found_is f [] = refl
found_is f (x ∷ xs) = elim (f x) as (λ b. is_some (cond b (Some x) (find f xs)) ≡ (b || list_any f xs)) [ true ↦ refl | false ↦ found_is f xs ]

-- what is farther out doesn't matter where a rule is found
farther_rule : (deny grant far near : Option ℕ) (denied granted : Bool) → is_some deny ≡ denied → is_some grant ≡ granted
    → MatchBool (denied || granted) (Unit {0}) (far ≡ near) → option_or (option_or deny grant) far ≡ option_or (option_or deny grant) near
farther_rule (Some n) grant far near denied granted d g same = refl
farther_rule None (Some n) far near denied granted d g same = refl
farther_rule None None far near true granted d g same = absurd (true≢false (sym d))
farther_rule None None far near false true d g same = absurd (true≢false (sym g))
farther_rule None None far near false false d g same = same

-- Where b is true nothing is to be shown; else Q follows from P.
pub within : (b : Bool) (P Q : Type 0) → (P → Q) → MatchBool b (Unit {0}) P → MatchBool b (Unit {0}) Q
within true P Q f h = tt
within false P Q f h = f h

-- The rule depends only on the levels up to the decider.
pub rule_settled : (grants denies : List ℕ) (levels : List Level) (rows : List (List ℕ)) → AreSettledToDecider grants denies levels rows
    → rule_of_levels grants denies levels ≡ rule_of_levels grants denies (map settled_level rows)
rule_settled grants denies [] [] settled = refl
rule_settled grants denies [] (row ∷ rows) settled = absurd settled
rule_settled grants denies (level ∷ levels) [] settled = absurd settled
rule_settled grants denies (level ∷ levels) (row ∷ rows) settled =
    ap (λ sure. option_or (option_or (find (is_member denies) sure) (find (is_member grants) sure)) (rule_of_levels grants denies levels)) settled.0
    ∙ farther_rule (find (is_member denies) row) (find (is_member grants) row) (rule_of_levels grants denies levels) (rule_of_levels grants denies (map settled_level rows))
    (has_rule_of denies row) (has_rule_of grants row) (found_is (is_member denies) row) (found_is (is_member grants) row)
    (within (has_rule_of denies row || has_rule_of grants row) (AreSettledToDecider grants denies levels rows) (rule_of_levels grants denies levels ≡ rule_of_levels grants denies (map settled_level rows)) (rule_settled grants denies levels rows) settled.2)
