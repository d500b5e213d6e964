-- How a body is read, line by line: the licence that it says, or its first fault. The code implements these
-- definitions. The laws in `laws.rt` say that they are equivalent to `Says` and `IsRefused`. Defined by this project.
use Rattle.std.specs.Prelude.{◌≡◌, ℕ, ◌+◌, nat_eq, nat_le, Bool, List, [], ◌∷◌, ◌++◌, length, codes, Option, Some, None, ok_or, Result, Ok, Err, if◌then◌else◌}
use Rattle.std.specs.Option.{option_and_then}
use Rattle.std.specs.Cmp.Lexicographic.{pointwise}
use Rattle.acl_model.specs.Limits.{most_rules}
use Rattle.acl_model.specs.Ascii.{space, plus, hyphen}
use Rattle.acl_model.specs.Lines.{cut_at, lines}
use Rattle.acl_model.specs.declared.path.Path.{Path}
use Rattle.acl_model.specs.declared.rule.Rule.{Rule}
use Rattle.acl_model.specs.declared.rule.Sign.{Sign}
use Rattle.acl_model.specs.declared.rule.Sign.TheVariants.{Grant, Deny}
use Rattle.xpath_rules.specs.PathMachine.{read_path_of}
use Rattle.licence.specs.Forms.{Lines, ◌>>=◌, text_after, bytes_after, line_of_form}
use Rattle.licence.specs.BodyText.{title, root_word, last_line, is_user, is_id, is_known_id, are_within_limits}
use Rattle.licence.specs.BodyRefusals.{begins_rule}
use Rattle.licence.specs.declared.fault.LicenceFault.{LicenceFault}
use Rattle.licence.specs.declared.fault.LicenceFault.TheVariants.{BadSeal, BadRule, BadLicence, TooManyRules, TooManyStates, NoMemory}
use Rattle.licence.specs.declared.terms.Licence.{Licence}

-- ---- the first three lines

-- the first line, `licence 1`
abbrev pub title_line : List ℕ → Option Unit
title_line line = if pointwise nat_eq line title then Some tt else None

-- the root in the root's line, or None where the line is not of its form
abbrev pub root_line : List ℕ → Option (List ℕ)
root_line line = bytes_after root_word 32 line

-- the user in the user's line, or None where the line is not of its form
abbrev pub user_line : List ℕ → Option (List ℕ)
user_line line = option_and_then (λ user. if is_user user then Some user else None) (text_after (codes "user ") line)

-- ---- a rule line

-- '+' grants, '-' denies, and no other byte is a sign.
abbrev pub sign_of : ℕ → Option Sign
sign_of b = if nat_eq b plus then Some Grant else if nat_eq b hyphen then Some Deny else None

-- the parts of a rule line: its sign, its id, and the bytes of its path
pub record RuleParts : Type 0 where
  pub sign : Sign
  pub id : List ℕ
  pub path : List ℕ

-- The parts of a rule line, from its sign and what is before and after the space. None where there is no sign, no
-- space, or no id of the right form.
abbrev pub parts_with_id : Option Sign → Option (List ℕ × List ℕ) → Option RuleParts
parts_with_id (Some sign) (Some parts) = if is_id parts.0 then Some (record { sign = sign; id = parts.0; path = parts.1 }) else None
parts_with_id (Some sign) None = None
parts_with_id None parts = None

-- The parts of a rule line, or None where it is not of the form. The id ends at the first space after it.
abbrev pub rule_line : List ℕ → Option RuleParts
rule_line (b ∷ c ∷ bytes) = if nat_eq c space then parts_with_id (sign_of b) (cut_at space bytes) else None
rule_line (b ∷ []) = None
rule_line [] = None

-- The rule with these parts and the path that was read, or BadRule with the byte offset at which the path is refused.
abbrev pub rule_or_fault : ℕ → RuleParts → Result Path ℕ → Result Rule LicenceFault
rule_or_fault n parts (Ok path) = Ok (record { id = parts.id; sign = parts.sign; path = path })
rule_or_fault n parts (Err at) = Err (BadRule n at)

-- The rule of line n, from the line's parts. Its id is looked up first, and then its path is read.
abbrev pub rule_of_parts : List ℕ → ℕ → List Rule → RuleParts → Result Rule LicenceFault
rule_of_parts user n earlier parts =
    if is_known_id parts.id earlier then Err (BadLicence n) else rule_or_fault n parts (read_path_of parts.path user)

-- ---- all rules, and the end

-- The fault of line n after 64 rules: TooManyRules where it begins as a rule's line, and BadLicence otherwise.
abbrev pub rule_too_many : ℕ → List ℕ → LicenceFault
rule_too_many n line = if begins_rule line then TooManyRules else BadLicence n

-- The next rule after earlier ones, from line n.
abbrev pub next_rule : List ℕ → ℕ → List Rule → List ℕ → Result Rule LicenceFault
next_rule user n earlier line =
    if nat_le most_rules (length earlier) then Err (rule_too_many n line)
    else (ok_or (rule_line line) (BadLicence n) >>= rule_of_parts user n earlier)

-- The line `end` ends the rules.
abbrev pub is_end : List ℕ → Bool
is_end line = pointwise nat_eq line last_line

-- The rules, where no line follows `end`, which is line n, and the rules are within the limits. A line after `end` is
-- refused before the limits are checked.
abbrev pub rules_at_end : ℕ → List Rule → Lines → Result (List Rule) LicenceFault
rules_at_end n rules (line ∷ rest) = Err (BadLicence (n + 1))
rules_at_end n rules [] = if are_within_limits rules then Ok rules else Err TooManyStates

-- All rules of a body: the earlier ones, and those in these lines up to `end`. The first of the lines has the number n.
unfoldable pub rules_from : List ℕ → ℕ → List Rule → Lines → Result (List Rule) LicenceFault
rules_from user n earlier [] = Err (BadLicence n)
rules_from user n earlier (line ∷ rest) =
    if is_end line then rules_at_end n earlier rest
    else (next_rule user n earlier line >>= λ rule. rules_from user (n + 1) (earlier ++ rule ∷ []) rest)

-- ---- the body

-- The licence that a body says, or its first fault, where its first line has the number n.
unfoldable pub read_body_from : ℕ → List ℕ → Result Licence LicenceFault
read_body_from n bytes =
    line_of_form (BadLicence n) title_line (lines bytes) >>= λ first.
    line_of_form (BadLicence (n + 1)) root_line first.1 >>= λ root.
    line_of_form (BadLicence (n + 2)) user_line root.1 >>= λ user.
    rules_from user.0 (n + 3) [] user.1 >>= λ rules.
    Ok (record { root = root.0; user = user.0; rules = rules })

-- How a body without a seal line is read: `licence 1` is line 1.
abbrev pub read_body_of : List ℕ → Result Licence LicenceFault
read_body_of bytes = read_body_from 1 bytes

-- The code may answer the wanted value or fault, or NoMemory.
abbrev pub Reads : {A : Type 0} → Result A LicenceFault → Result A LicenceFault → Type 0
Reads wanted (Ok a) = wanted ≡ Ok a
Reads wanted (Err (BadSeal given made)) = wanted ≡ Err (BadSeal given made)
Reads wanted (Err (BadRule line at)) = wanted ≡ Err (BadRule line at)
Reads wanted (Err (BadLicence line)) = wanted ≡ Err (BadLicence line)
Reads wanted (Err TooManyRules) = wanted ≡ Err TooManyRules
Reads wanted (Err TooManyStates) = wanted ≡ Err TooManyStates
Reads wanted (Err NoMemory) = Unit {0}
