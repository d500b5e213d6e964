-- How the lines of a body are read one by one, and what a reader may answer.
use Rattle.std.proofs.Common.{◌≡◌, ℕ, ◌+◌, List, [], ◌∷◌, ◌++◌, true, false, Result, Ok, Err, refl, ap, sym, subst, ◌∙◌}
use Rattle.acl_model.specs.Lines.{lines}
use Rattle.acl_model.specs.declared.rule.Rule.{Rule}
use Rattle.licence.specs.Forms.{Lines, ◌>>=◌, line_of_form}
use Rattle.licence.specs.Body.{title_line, root_line, user_line, next_rule, is_end, rules_at_end, rules_from, read_body_from, Reads}
use Rattle.licence.specs.declared.fault.LicenceFault.{LicenceFault}
use Rattle.licence.specs.declared.fault.LicenceFault.TheVariants.{BadSeal, BadRule, BadLicence, TooManyRules, TooManyStates, NoMemory}

-- ---- what a reader may answer

-- an answer to the same
pub Reads-along : {A : Type 0} (wanted other : Result A LicenceFault) (answer : Result A LicenceFault) → wanted ≡ other → Reads other answer → Reads wanted answer
Reads-along wanted other answer same reads = let P : Result _ LicenceFault → Type 0 = λ w. Reads w answer in subst P (sym same) reads

-- an answer without a value, where one fault is another's
pub Reads-refused : {A B : Type 0} (first : Result A LicenceFault) (whole : Result B LicenceFault) (fault : LicenceFault)
    → ((other : LicenceFault) → first ≡ Err other → whole ≡ Err other) → Reads first (Err fault) → Reads whole (Err fault)
Reads-refused first whole (BadSeal given made) passes reads = passes (BadSeal given made) reads
Reads-refused first whole (BadRule line at) passes reads = passes (BadRule line at) reads
Reads-refused first whole (BadLicence line) passes reads = passes (BadLicence line) reads
Reads-refused first whole TooManyRules passes reads = passes TooManyRules reads
Reads-refused first whole TooManyStates passes reads = passes TooManyStates reads
Reads-refused first whole NoMemory passes reads = tt

-- the fault that is wanted
pub Reads-fault : {A : Type 0} (wanted : Result A LicenceFault) (fault : LicenceFault) → wanted ≡ Err fault → Reads wanted (Err fault)
Reads-fault wanted (BadSeal given made) is = is
Reads-fault wanted (BadRule line at) is = is
Reads-fault wanted (BadLicence line) is = is
Reads-fault wanted TooManyRules is = is
Reads-fault wanted TooManyStates is = is
Reads-fault wanted NoMemory is = tt

-- ---- the lines of the rules

-- `end` is missing
pub rules_from-none : (user : List ℕ) (n : ℕ) (rules : List Rule) (ls : Lines) → ls ≡ [] → rules_from user n rules ls ≡ Err (BadLicence n)
unfolding rules_from
rules_from-none user n rules ls none = ap (λ (ls : Lines). rules_from user n rules ls) none

-- the line is `end`
pub rules_from-end : (user : List ℕ) (n : ℕ) (rules : List Rule) (ls rest : Lines) (line : List ℕ) → ls ≡ line ∷ rest → is_end line ≡ true
    → rules_from user n rules ls ≡ rules_at_end n rules rest
unfolding rules_from
rules_from-end user n rules ls rest line first end = ap (λ (ls : Lines). rules_from user n rules ls) first ∙ rw end refl

-- The line is no next rule.
pub rules_from-refused : (user : List ℕ) (n : ℕ) (rules : List Rule) (ls rest : Lines) (line : List ℕ) → ls ≡ line ∷ rest → is_end line ≡ false
    → (fault : LicenceFault) → next_rule user n rules line ≡ Err fault → rules_from user n rules ls ≡ Err fault
unfolding rules_from
rules_from-refused user n rules ls rest line first other fault refused =
    ap (λ (ls : Lines). rules_from user n rules ls) first ∙ rw (other, refused) refl

-- The line is the next rule.
pub rules_from-next : (user : List ℕ) (n : ℕ) (rules : List Rule) (rule : Rule) (ls rest : Lines) (line : List ℕ) → ls ≡ line ∷ rest → is_end line ≡ false
    → next_rule user n rules line ≡ Ok rule → rules_from user n rules ls ≡ rules_from user (n + 1) (rules ++ rule ∷ []) rest
unfolding rules_from
rules_from-next user n rules rule ls rest line first other next =
    ap (λ (ls : Lines). rules_from user n rules ls) first ∙ rw (other, next) refl

-- ---- the body, at each line that may be refused

pub read_body_from-title : (n : ℕ) (bytes : List ℕ) (fault : LicenceFault) → line_of_form (BadLicence n) title_line (lines bytes) ≡ Err fault → read_body_from n bytes ≡ Err fault
unfolding read_body_from
read_body_from-title n bytes fault first = rw first refl

pub read_body_from-root : (n : ℕ) (bytes : List ℕ) (more : Lines) (fault : LicenceFault) → line_of_form (BadLicence n) title_line (lines bytes) ≡ Ok (tt, more)
    → line_of_form (BadLicence (n + 1)) root_line more ≡ Err fault → read_body_from n bytes ≡ Err fault
unfolding read_body_from
read_body_from-root n bytes more fault first root = rw (first, root) refl

pub read_body_from-user : (n : ℕ) (bytes : List ℕ) (more still_more : Lines) (root_bytes : List ℕ) (fault : LicenceFault)
    → line_of_form (BadLicence n) title_line (lines bytes) ≡ Ok (tt, more) → line_of_form (BadLicence (n + 1)) root_line more ≡ Ok (root_bytes, still_more)
    → line_of_form (BadLicence (n + 2)) user_line still_more ≡ Err fault → read_body_from n bytes ≡ Err fault
unfolding read_body_from
read_body_from-user n bytes more still_more root_bytes fault first root user = rw (first, root, user) refl

-- After the first three lines the rules decide.
pub read_body_from-rules : (n : ℕ) (bytes : List ℕ) (more still_more rest : Lines) (root_bytes user_bytes : List ℕ)
    → line_of_form (BadLicence n) title_line (lines bytes) ≡ Ok (tt, more) → line_of_form (BadLicence (n + 1)) root_line more ≡ Ok (root_bytes, still_more)
    → line_of_form (BadLicence (n + 2)) user_line still_more ≡ Ok (user_bytes, rest)
    → read_body_from n bytes ≡ (rules_from user_bytes (n + 3) [] rest >>= λ rules. Ok (record { root = root_bytes; user = user_bytes; rules = rules }))
unfolding read_body_from
read_body_from-rules n bytes more still_more rest root_bytes user_bytes first root user = rw (first, root, user) refl
