-- The sign of an element and the rule that decides it, from the sets of rules that select the element
-- and its ancestors. The policy is that of VLDB 2004: the most specific object takes precedence,
-- denial takes precedence, rules propagate to descendants, and the policy is closed.
use Rattle.std.specs.Prelude.{ℕ, Option, Some, None, List, [], ◌∷◌, ◌++◌, Bool, if◌then◌else◌, ◌-◌, take, drop}
use Rattle.std.specs.List.{list_any, find}
use Rattle.std.specs.Option.{option_or}
use Rattle.acl_bits.specs.Row.{is_member}
use Rattle.acl_model.specs.declared.rule.Sign.{Sign}
use Rattle.acl_model.specs.declared.rule.Sign.TheVariants.{Grant, Deny}
use Rattle.sign_stack.specs.declared.level.Level.{Level}
use Rattle.sign_stack.specs.declared.level.Verdict.{Verdict}
use Rattle.sign_stack.specs.declared.level.Verdict.TheVariants.{Decided, Unsettled, Inherited}

-- The model of a stack of signs: the rules that grant, the rules that deny, how many levels it has
-- room for, and the sets of each level that is set, the root's first.
pub record SignStack : Type 0 where
  pub grants : List ℕ
  pub denies : List ℕ
  pub depth : ℕ
  pub levels : List Level

-- Some rule of the set is one of these rules.
abbrev pub has_rule_of : List ℕ → List ℕ → Bool
has_rule_of rules row = list_any (is_member rules) row

-- What the sets of an element say about its sign, by the first of these that applies. A denial that
-- surely selects the element decides. A denial that may select it leaves the sign unsettled. A grant
-- that surely selects it decides. A grant that may select it leaves the sign unsettled. Otherwise the
-- element inherits the sign of its parent.
abbrev pub verdict_at : List ℕ → List ℕ → Level → Verdict
verdict_at grants denies level =
    if has_rule_of denies level.sure then Decided Deny
    else if has_rule_of denies level.may then Unsettled
    else if has_rule_of grants level.sure then Decided Grant
    else if has_rule_of grants level.may then Unsettled
    else Inherited

-- the sign of an element, from what its sets say and the sign of its parent
abbrev pub sign_by : Verdict → Option Sign → Option Sign
sign_by (Decided sign) above = Some sign
sign_by Unsettled above = None
sign_by Inherited above = above

-- the sign of an element, from its sets, those of its parent, and so on to the root's; the sign above
-- the root is a denial
abbrev pub sign_of_levels : List ℕ → List ℕ → List Level → Option Sign
sign_of_levels grants denies [] = Some Deny
sign_of_levels grants denies (level ∷ up) =
    sign_by (verdict_at grants denies level) (sign_of_levels grants denies up)

-- the first rule of the set that is one of these rules
abbrev pub first_rule_of : List ℕ → List ℕ → Option ℕ
first_rule_of rules row = find (is_member rules) row

-- the rule, if there is one and it is one of these rules
abbrev pub rule_among : List ℕ → Option ℕ → Option ℕ
rule_among rules None = None
rule_among rules (Some rule) = if is_member rules rule then Some rule else None

-- the rule that decides at an element, among those that surely select it: the first that denies, or
-- the first that grants where none denies
abbrev pub rule_at : List ℕ → List ℕ → Level → Option ℕ
rule_at grants denies level =
    option_or (first_rule_of denies level.sure) (first_rule_of grants level.sure)

-- the rule that the sign of an element comes from: the one that decides at the nearest element, itself
-- or an ancestor, at which a rule decides
abbrev pub rule_of_levels : List ℕ → List ℕ → List Level → Option ℕ
rule_of_levels grants denies [] = None
rule_of_levels grants denies (level ∷ up) =
    option_or (rule_at grants denies level) (rule_of_levels grants denies up)

-- the levels after the sets of level n are set, in place of those that were there; the root's level
-- is 1
abbrev pub with_level : List Level → ℕ → Level → List Level
with_level levels n level = take (n - 1) levels ++ (level ∷ drop n levels)
