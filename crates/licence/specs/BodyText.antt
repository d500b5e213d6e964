-- The body of a licence, a text of lines: its format, and which bytes say which licence. Bytes *say* a licence where
-- they are a body of the right form with the licence's root, user and rules. Defined by this project.
use Rattle.std.specs.Prelude.{◌≡◌, ℕ, ◌≤◌, nat_eq, nat_le, nat_lt, Bool, false, not, ◌&&◌, ◌||◌, List, [], ◌∷◌, ◌++◌, map, length, sum_by, codes, IsTrue}
use Rattle.std.specs.Char.{is_ascii_alphabetic, is_ascii_digit}
use Rattle.std.specs.List.{list_all, list_any, concat}
use Rattle.std.specs.Cmp.Lexicographic.{pointwise}
use Rattle.hex.specs.Hex.{encode_lower}
use Rattle.acl_model.specs.Limits.{most_path_bytes, most_steps, most_pred_steps, most_preds, most_id_bytes, most_user_bytes}
pub use Rattle.acl_model.specs.Limits.{most_rules}
use Rattle.acl_model.specs.Ascii.{is_byte, are_bytes, space, plus, hyphen, full_stop, underscore, delete}
use Rattle.acl_model.specs.Lines.{as_line, lines}
use Rattle.acl_model.specs.declared.rule.Rule.{Rule}
use Rattle.acl_model.specs.declared.rule.Sign.{Sign}
use Rattle.acl_model.specs.declared.rule.Sign.TheVariants.{Grant, Deny}
use Rattle.xpath_rules.specs.PathReading.{Spells}
use Rattle.xpath_rules.specs.Canonical.{canonical_text}
use Rattle.xpath_rules.specs.Counting.{step_count, pred_step_count, pred_count}
use Rattle.xpath_rules.specs.PathAnswers.{CanBeRead}
use Rattle.licence.specs.Forms.{Lines, HasDigits}
use Rattle.licence.specs.declared.terms.Licence.{Licence}

-- ---- the lines of a body

-- The first line is `licence 1`.
abbrev pub title : List ℕ
title = codes "licence 1"

-- The second begins with `root `, and 64 digits follow.
abbrev pub root_word : List ℕ
root_word = codes "root "

-- The third is `user ` and the user.
abbrev pub user_text : List ℕ → List ℕ
user_text user = codes "user " ++ user

-- '+' is a grant, and '-' is a denial.
abbrev pub sign_byte : Sign → ℕ
sign_byte Grant = plus
sign_byte Deny = hyphen

-- A rule line is its sign, a space, its id, a space, and the bytes of its path.
abbrev pub rule_text : Sign → List ℕ → List ℕ → List ℕ
rule_text sign id path = sign_byte sign ∷ space ∷ (id ++ (space ∷ path))

-- The last is `end`.
abbrev pub last_line : List ℕ
last_line = codes "end"

-- a rule, and the bytes of the path in its line
pub record WrittenRule : Type 0 where
  pub rule : Rule
  pub path : List ℕ

-- the line of a written rule
abbrev pub line_of_rule : WrittenRule → List ℕ
line_of_rule written = rule_text written.rule.sign written.rule.id written.path

-- the rule of a written rule
abbrev pub rule_of_line : WrittenRule → Rule
rule_of_line written = written.rule

-- ---- what the lines may contain

-- A byte may be in a user where it is no control character of ASCII.
abbrev pub is_user_byte : ℕ → Bool
is_user_byte b = nat_le space b && not (nat_eq b delete) && is_byte b

-- A user is 1 to 255 such bytes.
abbrev pub is_user : List ℕ → Bool
is_user user =
    nat_lt 0 (length user) && nat_le (length user) most_user_bytes && list_all is_user_byte user

-- A byte may be in an id where it is a letter or a digit of ASCII, '_', '-' or '.'.
abbrev pub is_id_byte : ℕ → Bool
is_id_byte b = is_ascii_alphabetic b || is_ascii_digit b || nat_eq b underscore || nat_eq b hyphen || nat_eq b full_stop

-- An id is 1 to 32 such bytes.
abbrev pub is_id : List ℕ → Bool
is_id id = nat_lt 0 (length id) && nat_le (length id) most_id_bytes && list_all is_id_byte id

-- The rule has this id.
abbrev pub has_id : List ℕ → Rule → Bool
has_id id rule = pointwise nat_eq rule.id id

-- Some rule has this id.
abbrev pub is_known_id : List ℕ → List Rule → Bool
is_known_id id rules = list_any (has_id id) rules

-- All rules together have at most 256 steps, at most 256 predicate steps, and at most 64 predicates.
abbrev pub are_within_limits : List Rule → Bool
are_within_limits rules =
    nat_le (sum_by (λ rule. step_count rule.path) rules) most_steps
    && nat_le (sum_by (λ rule. pred_step_count rule.path) rules) most_pred_steps
    && nat_le (sum_by (λ rule. pred_count rule.path) rules) most_preds

-- ---- which bytes say a licence

-- The line is that of its rule, after these earlier rules. Its id is of the right form, and no earlier rule has it. The
-- bytes of its path, at most 1,024, spell the rule's path for the user.
pub record IsRuleLine (user : List ℕ) (earlier : List Rule) (written : WrittenRule) : Type 0 where
  pub id : IsTrue (is_id written.rule.id)
  pub is_new : is_known_id written.rule.id earlier ≡ false
  pub path : Spells user written.path written.rule.path
  pub within : length written.path ≤ most_path_bytes

-- Each line is that of its rule, after the earlier rules and those of the lines before it.
abbrev pub AreRuleLines : List ℕ → List Rule → List WrittenRule → Type 0
AreRuleLines user earlier [] = Unit {0}
AreRuleLines user earlier (written ∷ more) = IsRuleLine user earlier written × AreRuleLines user (earlier ++ written.rule ∷ []) more

-- The lines begin a body: `licence 1`, the root, the user, and a line for each of the rules, at most 64. `rest` are the
-- lines that follow.
pub record Begins (ls : Lines) (root user : List ℕ) (rules : List Rule) (rest : Lines) : Type 0 where
  pub root_line : List ℕ
  pub digits : HasDigits root_word 32 root_line root
  pub is_user : IsTrue (is_user user)
  pub written : List WrittenRule
  pub each : AreRuleLines user [] written
  pub all : rules ≡ map rule_of_line written
  pub few : length rules ≤ most_rules
  pub text : ls ≡ title ∷ root_line ∷ user_text user ∷ (map line_of_rule written ++ rest)

-- The bytes say this licence: their lines begin its body, `end` and nothing else follows the rules, and the rules are
-- within the limits. The last line feed may be missing.
pub record Says (bytes : List ℕ) (licence : Licence) : Type 0 where
  pub begins : Begins (lines bytes) licence.root licence.user licence.rules (last_line ∷ [])
  pub limits : IsTrue (are_within_limits licence.rules)

-- ---- the text of a licence

-- The canonical line of a rule has its sign, its id, and the canonical spelling of its path.
abbrev pub canonical_line : Rule → List ℕ
canonical_line rule = rule_text rule.sign rule.id (canonical_text rule.path)

-- The lines that are written for a licence. The root's digits are in lower case, and each rule has its canonical line.
abbrev pub body_lines : Licence → Lines
body_lines licence =
    title ∷ (root_word ++ encode_lower licence.root) ∷ user_text licence.user ∷ (map canonical_line licence.rules ++ (last_line ∷ []))

-- The text of a licence's body is these lines, each with its line feed.
abbrev pub body_text : Licence → List ℕ
body_text licence = concat (map as_line (body_lines licence))

-- The rule may follow these earlier rules: its id is of the right form and none of them has it, and its path can be
-- read for the user.
pub record MayStand (user : List ℕ) (earlier : List Rule) (rule : Rule) : Type 0 where
  pub id : IsTrue (is_id rule.id)
  pub is_new : is_known_id rule.id earlier ≡ false
  pub path : CanBeRead user rule.path

-- Each of the rules may follow the earlier ones and those before it.
abbrev pub EachMayStand : List ℕ → List Rule → List Rule → Type 0
EachMayStand user earlier [] = Unit {0}
EachMayStand user earlier (rule ∷ more) = MayStand user earlier rule × EachMayStand user (earlier ++ rule ∷ []) more

-- A licence can be written where its parts are valid: a root of 32 bytes, a user, and at most 64 rules within the
-- limits, each of which may follow those before it.
pub record CanBeWritten (licence : Licence) : Type 0 where
  pub root : length licence.root ≡ 32
  pub root_bytes : IsTrue (are_bytes licence.root)
  pub user : IsTrue (is_user licence.user)
  pub rules : EachMayStand licence.user [] licence.rules
  pub few : length licence.rules ≤ most_rules
  pub limits : IsTrue (are_within_limits licence.rules)
