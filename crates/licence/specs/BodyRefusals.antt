-- Why the lines of a body are refused. The cause is always the first line that may not follow those before it. The
-- limits over all rules are a cause only where no line is refused. Defined by this project.
use Rattle.std.specs.Prelude.{◌≡◌, ℕ, ◌+◌, ◌<◌, ◌⊎◌, nat_eq, Bool, false, ◌||◌, List, [], ◌∷◌, length, Err, IsTrue}
use Rattle.acl_model.specs.Limits.{most_rules}
use Rattle.acl_model.specs.Ascii.{plus, hyphen}
use Rattle.acl_model.specs.declared.rule.Rule.{Rule}
use Rattle.acl_model.specs.declared.rule.Sign.{Sign}
use Rattle.xpath_rules.specs.PathMachine.{read_path_of}
use Rattle.licence.specs.Forms.{Lines, HasDigits, NoneFirst}
use Rattle.licence.specs.BodyText.{title, root_word, user_text, rule_text, last_line, is_user, is_id, is_known_id, are_within_limits, Begins}
use Rattle.licence.specs.declared.fault.LicenceFault.{LicenceFault}
use Rattle.licence.specs.declared.fault.LicenceFault.TheVariants.{BadSeal, BadRule, BadLicence, TooManyRules, TooManyStates, NoMemory}

-- ---- the form of each line

-- The line is `licence 1`.
abbrev pub IsTitle : List ℕ → Type 0
IsTitle line = line ≡ title

-- The line is `root ` and the digits of 32 bytes.
abbrev pub IsRootLine : List ℕ → Type 0
IsRootLine line = (root : List ℕ) × HasDigits root_word 32 line root

-- The line is `user ` and a user.
abbrev pub IsUserLine : List ℕ → Type 0
IsUserLine line = (user : List ℕ) × (line ≡ user_text user) × IsTrue (is_user user)

-- The line is `end`.
abbrev pub IsLastLine : List ℕ → Type 0
IsLastLine line = line ≡ last_line

-- The line is that of a rule, except that its path may be any bytes: it has a sign, and an id of the right form that no
-- earlier rule has.
pub record IsRuleBut (rules : List Rule) (line id path : List ℕ) : Type 0 where
  pub sign : Sign
  pub text : line ≡ rule_text sign id path
  pub is_right : IsTrue (is_id id)
  pub is_new : is_known_id id rules ≡ false

-- There are fewer than 64 rules, and the line is that of a next one, whatever its path.
abbrev pub IsNextRule : List Rule → List ℕ → Type 0
IsNextRule rules line = (length rules < most_rules) × ((id : List ℕ) × (path : List ℕ) × IsRuleBut rules line id path)

-- The line begins as that of a rule, with '+' or '-'.
abbrev pub begins_rule : List ℕ → Bool
begins_rule [] = false
begins_rule (b ∷ bytes) = nat_eq b plus || nat_eq b hyphen

-- There are 64 rules, and the line begins as that of a rule, whatever follows. It is one rule too many.
abbrev pub IsOneTooMany : List Rule → List ℕ → Type 0
IsOneTooMany rules line = (length rules ≡ most_rules) × IsTrue (begins_rule line)

-- ---- after the user and some rules

-- The next line is missing, or it is none of these: `end`, a next rule, or one rule too many.
pub record IsNoLine (rules : List Rule) (rest : Lines) : Type 0 where
  pub no_end : NoneFirst IsLastLine rest
  pub no_rule : NoneFirst (IsNextRule rules) rest
  pub no_more : NoneFirst (IsOneTooMany rules) rest

-- The next line is `end`, and another line follows it.
abbrev pub HasLineAfterEnd : Lines → Type 0
HasLineAfterEnd rest = (line : List ℕ) × (more : Lines) × (rest ≡ last_line ∷ line ∷ more)

-- The next line is that of a rule, and its path is refused at this byte offset.
pub record IsBadPath (user : List ℕ) (rules : List Rule) (rest : Lines) (at : ℕ) : Type 0 where
  pub line : List ℕ
  pub more : Lines
  pub next : rest ≡ line ∷ more
  pub room : length rules < most_rules
  pub id : List ℕ
  pub path : List ℕ
  pub form : IsRuleBut rules line id path
  pub refused : read_path_of path user ≡ Err at

-- The next line is one rule too many.
abbrev pub HasOneTooMany : List Rule → Lines → Type 0
HasOneTooMany rules rest = (line : List ℕ) × (more : Lines) × (rest ≡ line ∷ more) × IsOneTooMany rules line

-- The last line is `end`, and the rules are past a limit.
abbrev pub ArePastLimits : List Rule → Lines → Type 0
ArePastLimits rules rest = (rest ≡ last_line ∷ []) × (are_within_limits rules ≡ false)

-- After these rules the lines are refused with this fault. The next line has the number n.
abbrev pub IsRefusedAfter : List ℕ → ℕ → List Rule → Lines → LicenceFault → Type 0
IsRefusedAfter user n rules rest (BadLicence line) =
    ((line ≡ n) × IsNoLine rules rest) ⊎ ((line ≡ n + 1) × HasLineAfterEnd rest)
IsRefusedAfter user n rules rest (BadRule line at) = (line ≡ n) × IsBadPath user rules rest at
IsRefusedAfter user n rules rest TooManyRules = HasOneTooMany rules rest
IsRefusedAfter user n rules rest TooManyStates = ArePastLimits rules rest
IsRefusedAfter user n rules rest (BadSeal given made) = ⊥
IsRefusedAfter user n rules rest NoMemory = ⊥

-- ---- the body

-- The lines of a body, of which the first has the number n, are refused with this fault. The refused line should be
-- `licence 1`, the root's line or the user's line, or it comes after the user and some rules.
pub data IsRefused (n : ℕ) (ls : Lines) (fault : LicenceFault) : Type 0 where
  NoTitle : fault ≡ BadLicence n → NoneFirst IsTitle ls → IsRefused n ls fault
  NoRoot : (rest : Lines) → fault ≡ BadLicence (n + 1) → ls ≡ title ∷ rest → NoneFirst IsRootLine rest → IsRefused n ls fault
  NoUser : (line : List ℕ) → (rest : Lines) → fault ≡ BadLicence (n + 2) → ls ≡ title ∷ line ∷ rest → IsRootLine line
      → NoneFirst IsUserLine rest → IsRefused n ls fault
  After : (root : List ℕ) → (user : List ℕ) → (rules : List Rule) → (rest : Lines) → Begins ls root user rules rest
      → IsRefusedAfter user (n + 3 + length rules) rules rest fault → IsRefused n ls fault
