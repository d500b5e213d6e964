-- What `explain` writes: for an element, its sign and the rule that decides it (VLDB 2004, conflict resolution), as a
-- line. The format of the lines is defined by this project.
use Rattle.std.specs.Prelude.{ℕ, Option, Some, None, Bool, true, false, ◌&&◌, ◌||◌, List, [], ◌∷◌, ◌++◌, map, codes, decimal}
use Rattle.std.specs.List.{filter, position, slice_get, concat}
use Rattle.std.specs.Option.{option_and_then, option_map_or}
use Rattle.acl_model.specs.Ascii.{space, plus, hyphen, slash}
use Rattle.acl_model.specs.Lines.{as_line}
use Rattle.acl_model.specs.Places.{places}
use Rattle.acl_model.specs.Select.{select}
use Rattle.acl_model.specs.Decide.{is_selected, decider, sign}
use Rattle.acl_model.specs.declared.document.Doc.{Doc}
use Rattle.acl_model.specs.declared.path.Path.{Path}
use Rattle.acl_model.specs.declared.rule.Rule.{Rule}
use Rattle.acl_model.specs.declared.rule.Sign.{Sign}
use Rattle.acl_model.specs.declared.rule.Sign.TheVariants.{Grant, Deny}

-- the places that a path selects in a document, in document order
abbrev pub selected : Doc → Path → List (List ℕ)
selected d path = filter (select d path) (places d)

-- Both grant, or both deny.
abbrev pub is_same_sign : Sign → Sign → Bool
is_same_sign Grant Grant = true
is_same_sign Grant Deny = false
is_same_sign Deny Grant = false
is_same_sign Deny Deny = true

-- the number, from 0, of the first rule of this sign that selects the place
abbrev pub first_rule : Doc → List Rule → Sign → List ℕ → Option ℕ
first_rule d rules own place = position (λ r. is_same_sign r.sign own && select d r.path place) rules

-- An explanation of an element: its place, its sign, and the number of the rule that the sign comes from.
pub record Explanation : Type 0 where
  pub place : List ℕ
  pub sign : Sign
  pub rule : Option ℕ

-- the explanation of the element at a place. The rule is the first rule of the element's sign that selects its decider,
-- and None where there is no decider.
abbrev pub explanation_of : Doc → List Rule → List ℕ → Explanation
explanation_of d rules place = record {
  place = place;
  sign = sign d rules place;
  rule = option_and_then (first_rule d rules (sign d rules place)) (decider d rules place);
}

-- The place is that of the root.
abbrev pub is_root : List ℕ → Bool
is_root [] = true
is_root (k ∷ place) = false

-- The root is explained, and each element that some rule selects.
abbrev pub is_explained : Doc → List Rule → List ℕ → Bool
is_explained d rules place = is_root place || is_selected d rules place

-- the explanations of a document, in document order
abbrev pub explain : Doc → List Rule → List Explanation
explain d rules = map (explanation_of d rules) (filter (is_explained d rules) (places d))

-- ---- its lines

-- '+' grants, and '-' denies.
abbrev pub sign_byte : Sign → ℕ
sign_byte Grant = plus
sign_byte Deny = hyphen

-- the id of the rule of this number, or 'closed' where no rule decides
abbrev pub rule_word : List Rule → Option ℕ → List ℕ
rule_word rules None = codes "closed"
rule_word rules (Some number) = option_map_or (λ r. r.id) (slice_get rules number) []

-- A place is written as '/' and a child number in decimal, for each level below the root. That of the root is '/'.
abbrev pub place_text : List ℕ → List ℕ
place_text [] = slash ∷ []
place_text (k ∷ place) = concat (map (λ number. slash ∷ decimal number) (k ∷ place))

-- A line is the sign, a space, the rule's id or 'closed', a space, the place, and a line feed.
abbrev pub explanation_line : List Rule → Explanation → List ℕ
explanation_line rules told = as_line (sign_byte told.sign ∷ space ∷ (rule_word rules told.rule ++ (space ∷ place_text told.place)))

-- the lines of explanations, in order
abbrev pub explanation_lines : List Rule → List Explanation → List ℕ
explanation_lines rules told = concat (map (explanation_line rules) told)

-- what `explain` writes: a line for the root, and one for each element that a rule selects
abbrev pub explain_text : Doc → List Rule → List ℕ
explain_text d rules = explanation_lines rules (explain d rules)
