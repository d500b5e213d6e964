-- The decider and the sign of an element (VLDB 2004: the most specific object takes precedence, denial takes
-- precedence, rules propagate to descendants, and the policy is closed).
use Rattle.std.specs.Prelude.{ℕ, Option, Some, None, Bool, true, false, ◌&&◌, List, if◌then◌else◌}
use Rattle.std.specs.List.{list_any, find}
use Rattle.acl_model.specs.Places.{prefixes}
use Rattle.acl_model.specs.Select.{select}
use Rattle.acl_model.specs.declared.document.Doc.{Doc}
use Rattle.acl_model.specs.declared.rule.Rule.{Rule}
use Rattle.acl_model.specs.declared.rule.Sign.{Sign}
use Rattle.acl_model.specs.declared.rule.Sign.TheVariants.{Grant, Deny}

-- The sign denies.
abbrev pub is_deny : Sign → Bool
is_deny Grant = false
is_deny Deny = true

-- At least one rule selects the place.
abbrev pub is_selected : Doc → List Rule → List ℕ → Bool
is_selected d rules place = list_any (λ r. select d r.path place) rules

-- A rule that denies selects the place.
abbrev pub is_denied : Doc → List Rule → List ℕ → Bool
is_denied d rules place = list_any (λ r. is_deny r.sign && select d r.path place) rules

-- the place of the nearest ancestor-or-self that a rule selects: the longest prefix of the place
abbrev pub decider : Doc → List Rule → List ℕ → Option (List ℕ)
decider d rules place = find (is_selected d rules) (prefixes place)

-- The sign is Deny where there is no decider, or where a rule that denies selects the decider; else it is Grant.
abbrev pub sign_by : Doc → List Rule → Option (List ℕ) → Sign
sign_by d rules None = Deny
sign_by d rules (Some place) = if is_denied d rules place then Deny else Grant

-- the sign of a place, given by its decider
unfoldable pub sign : Doc → List Rule → List ℕ → Sign
sign d rules place = sign_by d rules (decider d rules place)
