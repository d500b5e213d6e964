-- A whole body: what follows from the answer that it was read or refused, and how it is read where bytes say a licence.
use Rattle.std.proofs.Common.{◌≡◌, ℕ, ◌+◌, inl, inr, List, [], ◌∷◌, ◌++◌, map, length, cond, Some, None, Result, Ok, Err, IsTrue, codes, refl, ap, sym, subst, ◌∙◌, arith}
use Rattle.std.proofs.lemmas.Option.{option_and_then_some, cond_some}
use Rattle.std.proofs.lemmas.List.{length-map}
use Rattle.acl_model.specs.Lines.{lines}
use Rattle.acl_model.specs.declared.rule.Rule.{Rule}
use Rattle.licence.specs.Forms.{Lines, HasDigits, ◌>>=◌, text_after, line_of_form}
use Rattle.licence.specs.BodyText.{title, root_word, user_text, last_line, is_user, are_within_limits, rule_of_line, Begins, Says}
use Rattle.licence.specs.BodyRefusals.{IsTitle, IsRootLine, IsUserLine, IsRefusedAfter, IsRefused}
use Rattle.licence.specs.BodyRefusals.IsRefused.{NoTitle, NoRoot, NoUser, After}
use Rattle.licence.specs.Body.{title_line, root_line, user_line, rules_from, read_body_from}
use Rattle.licence.specs.declared.fault.LicenceFault.{LicenceFault}
use Rattle.licence.specs.declared.fault.LicenceFault.TheVariants.{BadLicence}
use Rattle.licence.specs.declared.terms.Licence.{Licence}
use Rattle.licence.proofs.FormLaws.{same_value, not_both, bind-ok, bind-err, pointwise-same, text_after-some, bytes_after-some, bytes_after-digits, line_of_form-ok, line_of_form-err, line_of_form-none}
use Rattle.licence.proofs.RuleRuns.{Comes, rules_from-comes, rules_from-written, rules_from-whole, rules_from-cause}
use Rattle.licence.proofs.Steps.{read_body_from-title, read_body_from-root, read_body_from-user, read_body_from-rules}

-- ---- the first three lines, by their forms

title_shows : (line : List ℕ) (u : Unit {0}) → title_line line ≡ Some u → IsTitle line
title_shows line u h = pointwise-same line title (cond_some _ tt u h).0

title_takes : (line : List ℕ) → IsTitle line → (u : Unit {0}) × (title_line line ≡ Some u)
title_takes line is = (tt, ap title_line is)

root_after : (rest : List ℕ) → text_after root_word (root_word ++ rest) ≡ Some rest
root_after rest = refl

root_shows : (line root : List ℕ) → root_line line ≡ Some root → IsRootLine line
root_shows line root h = (root, bytes_after-some root_word 32 line root h)

root_takes : (line : List ℕ) → IsRootLine line → (root : List ℕ) × (root_line line ≡ Some root)
root_takes line is = (is.0, bytes_after-digits root_word root_after 32 line is.0 is.1)

user_shows : (line user : List ℕ) → user_line line ≡ Some user → (line ≡ user_text user) × IsTrue (is_user user)
user_shows line user h =
    option_and_then_some (λ u. cond (is_user u) (Some u) None) (text_after (codes "user ") line) user h
    (λ u after good.
    let found = cond_some (is_user u) u user good in
    (text_after-some (codes "user ") line u after ∙ ap (λ (v : List ℕ). user_text v) found.1, ap is_user (sym found.1) ∙ found.0))

user_reads : (line user : List ℕ) → line ≡ user_text user → IsTrue (is_user user) → user_line line ≡ Some user
user_reads line user text good = ap user_line text ∙ rw good refl

user_takes : (line : List ℕ) → IsUserLine line → (user : List ℕ) × (user_line line ≡ Some user)
user_takes line is = (is.0, user_reads line is.0 is.1 is.2)

-- ---- what an answer shows

-- The first three lines were read, and the rules decide.
record Head (n : ℕ) (bytes : List ℕ) (answer : Result Licence LicenceFault) : Type 0 where
  root : List ℕ
  user : List ℕ
  line : List ℕ
  rest : Lines
  digits : HasDigits root_word 32 line root
  good : IsTrue (is_user user)
  text : lines bytes ≡ title ∷ line ∷ user_text user ∷ rest
  rules : (rules_from user (n + 3) [] rest >>= λ rules. Ok (record { root = root; user = user; rules = rules })) ≡ answer

abbrev after_user : ℕ → List ℕ → List ℕ × Lines → Result Licence LicenceFault
after_user n root user = rules_from user.0 (n + 3) [] user.1 >>= λ rules. Ok (record { root = root; user = user.0; rules = rules })

abbrev after_root : ℕ → List ℕ × Lines → Result Licence LicenceFault
after_root n root = line_of_form (BadLicence (n + 2)) user_line root.1 >>= after_user n root.0

abbrev after_title : ℕ → Unit {0} × Lines → Result Licence LicenceFault
after_title n first = line_of_form (BadLicence (n + 1)) root_line first.1 >>= after_root n

in_parts : (n : ℕ) (bytes : List ℕ) → read_body_from n bytes ≡ (line_of_form (BadLicence n) title_line (lines bytes) >>= after_title n)
unfolding read_body_from
in_parts n bytes = refl

head_of : (n : ℕ) (bytes : List ℕ) (first : Unit {0} × Lines) (root user : List ℕ × Lines) (answer : Result Licence LicenceFault)
    → line_of_form (BadLicence n) title_line (lines bytes) ≡ Ok first → line_of_form (BadLicence (n + 1)) root_line first.1 ≡ Ok root
    → line_of_form (BadLicence (n + 2)) user_line root.1 ≡ Ok user → after_user n root.0 user ≡ answer → Head n bytes answer
head_of n bytes first root user answer one two three four =
    let a = line_of_form-ok (BadLicence n) title_line (lines bytes) first one in
    let b = line_of_form-ok (BadLicence (n + 1)) root_line first.1 root two in
    let d = line_of_form-ok (BadLicence (n + 2)) user_line root.1 user three in
    let name = user_shows d.0 user.0 d.2 in
    record {
      root = root.0;
      user = user.0;
      line = b.0;
      rest = user.1;
      digits = bytes_after-some root_word 32 b.0 root.0 b.2;
      good = name.1;
      text = a.1 ∙ ap (λ (l : List ℕ). l ∷ first.1) (title_shows a.0 first.0 a.2)
          ∙ ap (λ (ls : Lines). title ∷ ls) (b.1 ∙ ap (λ (ls : Lines). b.0 ∷ ls) (d.1 ∙ ap (λ (l : List ℕ). l ∷ user.1) name.0));
      rules = four;
    }

-- The lines begin a body, where the rules' lines are as the answer says.
begins_of : (n : ℕ) (bytes : List ℕ) (answer : Result Licence LicenceFault) (h : Head n bytes answer) (r : Result (List Rule) LicenceFault) (k : Comes h.user (n + 3) [] h.rest r)
    → Begins (lines bytes) h.root h.user (map rule_of_line k.written) k.rest
begins_of n bytes answer h r k =
    let few = k.few in
    record {
      root_line = h.line;
      digits = h.digits;
      is_user = h.good;
      written = k.written;
      each = k.each;
      all = refl;
      few = omega (arith, few, length-map k.written rule_of_line);
      text = h.text ∙ ap (λ (ls : Lines). title ∷ h.line ∷ user_text h.user ∷ ls) k.text;
    }

comes_of : (n : ℕ) (bytes : List ℕ) (answer : Result Licence LicenceFault) (h : Head n bytes answer) (r : Result (List Rule) LicenceFault) → rules_from h.user (n + 3) [] h.rest ≡ r
    → Comes h.user (n + 3) [] h.rest r
comes_of n bytes answer h r is = subst (Comes h.user (n + 3) [] h.rest) is (rules_from-comes h.rest h.user (n + 3) [] (omega arith))

says_of : (n : ℕ) (bytes : List ℕ) (licence : Licence) → Head n bytes (Ok licence) → Says bytes licence
says_of n bytes licence h =
    let done = bind-ok (rules_from h.user (n + 3) [] h.rest) (λ rules. Ok (record { root = h.root; user = h.user; rules = rules })) licence h.rules in
    let k = comes_of n bytes (Ok licence) h (Ok done.0) done.1 in
    let b = begins_of n bytes (Ok licence) h (Ok done.0) k in
    let ends : (k.rest ≡ last_line ∷ []) × IsTrue (are_within_limits (map rule_of_line k.written)) × (done.0 ≡ map rule_of_line k.written) = k.ends in
    let same : ◌≡◌ {A = Licence} (record { root = h.root; user = h.user; rules = map rule_of_line k.written }) licence =
    ap (λ (rs : List Rule). record { root = h.root; user = h.user; rules = rs }) (sym ends.2) ∙ same_value _ licence done.2 in
    subst (Says bytes) same (record {
      begins = subst (Begins (lines bytes) h.root h.user (map rule_of_line k.written)) ends.0 b;
      limits = ends.1;
    })

-- Bytes that are read as a licence say this licence.
pub read_body_from-says : (n : ℕ) (bytes : List ℕ) (licence : Licence) → read_body_from n bytes ≡ Ok licence → Says bytes licence
read_body_from-says n bytes licence h =
    let one = bind-ok (line_of_form (BadLicence n) title_line (lines bytes)) (after_title n) licence (sym (in_parts n bytes) ∙ h) in
    let two = bind-ok (line_of_form (BadLicence (n + 1)) root_line one.0.1) (after_root n) licence one.2 in
    let three = bind-ok (line_of_form (BadLicence (n + 2)) user_line two.0.1) (after_user n two.0.0) licence two.2 in
    says_of n bytes licence (head_of n bytes one.0 two.0 three.0 (Ok licence) one.1 two.1 three.1 three.2)

refused_of : (n : ℕ) (bytes : List ℕ) (fault : LicenceFault) → Head n bytes (Err fault) → IsRefused n (lines bytes) fault
refused_of n bytes fault h =
    elim (bind-err (rules_from h.user (n + 3) [] h.rest) (λ rules. Ok (record { root = h.root; user = h.user; rules = rules })) fault h.rules) [
      | inl refused ↦
          let k = comes_of n bytes (Err fault) h (Err fault) refused in
          let number : (n + 3) + length k.written ≡ n + 3 + length (map rule_of_line k.written) = omega (arith, length-map k.written rule_of_line) in
          After h.root h.user (map rule_of_line k.written) k.rest (begins_of n bytes (Err fault) h (Err fault) k)
          (subst (λ (m : ℕ). IsRefusedAfter h.user m (map rule_of_line k.written) k.rest fault) number k.ends)
      | inr made ↦ absurd (not_both _ fault made.2)
    ]

-- What is refused is refused for its cause.
pub read_body_from-refused : (n : ℕ) (bytes : List ℕ) (fault : LicenceFault) → read_body_from n bytes ≡ Err fault → IsRefused n (lines bytes) fault
read_body_from-refused n bytes fault h =
    elim (bind-err (line_of_form (BadLicence n) title_line (lines bytes)) (after_title n) fault (sym (in_parts n bytes) ∙ h)) [
      | inl none ↦ let found = line_of_form-err (BadLicence n) title_line IsTitle title_takes (lines bytes) fault none in NoTitle found.0 found.1
      | inr one ↦ elim (bind-err (line_of_form (BadLicence (n + 1)) root_line one.0.1) (after_root n) fault one.2) [
        | inl none ↦
            let found = line_of_form-err (BadLicence (n + 1)) root_line IsRootLine root_takes one.0.1 fault none in
            let a = line_of_form-ok (BadLicence n) title_line (lines bytes) one.0 one.1 in
            NoRoot one.0.1 found.0 (a.1 ∙ ap (λ (l : List ℕ). l ∷ one.0.1) (title_shows a.0 one.0.0 a.2)) found.1
        | inr two ↦ elim (bind-err (line_of_form (BadLicence (n + 2)) user_line two.0.1) (after_user n two.0.0) fault two.2) [
          | inl none ↦
              let found = line_of_form-err (BadLicence (n + 2)) user_line IsUserLine user_takes two.0.1 fault none in
              let a = line_of_form-ok (BadLicence n) title_line (lines bytes) one.0 one.1 in
              let b = line_of_form-ok (BadLicence (n + 1)) root_line one.0.1 two.0 two.1 in
              NoUser b.0 two.0.1 found.0 (a.1 ∙ ap (λ (l : List ℕ). l ∷ one.0.1) (title_shows a.0 one.0.0 a.2) ∙ ap (λ (ls : Lines). title ∷ ls) b.1)
              (root_shows b.0 two.0.0 b.2) found.1
          | inr three ↦ refused_of n bytes fault (head_of n bytes one.0 two.0 three.0 (Err fault) one.1 two.1 three.1 three.2)
        ]
      ]
    ]

-- ---- how a body is read where bytes say a licence

title_read : (n : ℕ) (ls rest : Lines) → ls ≡ title ∷ rest → line_of_form (BadLicence n) title_line ls ≡ Ok (tt, rest)
title_read n ls rest text = ap (λ (l : Lines). line_of_form (BadLicence n) title_line l) text

root_read : (n : ℕ) (line : List ℕ) (rest : Lines) (root : List ℕ) → HasDigits root_word 32 line root → line_of_form (BadLicence n) root_line (line ∷ rest) ≡ Ok (root, rest)
root_read n line rest root has = rw (bytes_after-digits root_word root_after 32 line root has) refl

user_read : (n : ℕ) (user : List ℕ) (rest : Lines) → IsTrue (is_user user) → line_of_form (BadLicence n) user_line (user_text user ∷ rest) ≡ Ok (user, rest)
user_read n user rest good = rw (user_reads (user_text user) user refl good) refl

-- Where lines begin a body, the rest decides.
read_body_from-begins : (n : ℕ) (bytes root user : List ℕ) (rules : List Rule) (rest : Lines) → Begins (lines bytes) root user rules rest
    → read_body_from n bytes ≡ (rules_from user (n + 3 + length rules) rules rest >>= λ rs. Ok (record { root = root; user = user; rules = rs }))
read_body_from-begins n bytes root user rules rest b =
    let few = b.few in
    let size = ap (length {A = Rule}) b.all in
    let count : length b.written ≡ length rules = omega (arith, size, length-map b.written rule_of_line) in
    let more : Result (List Rule) LicenceFault → Result Licence LicenceFault = λ r. r >>= λ rs. Ok (record { root = root; user = user; rules = rs }) in
    read_body_from-rules n bytes _ _ _ root user (title_read n (lines bytes) _ b.text) (root_read (n + 1) b.root_line _ root b.digits) (user_read (n + 2) user _ b.is_user)
    ∙ ap more (rules_from-written b.written user (n + 3) [] rest b.each (omega (arith, few, count))
    ∙ ap (λ (m : ℕ). rules_from user (n + 3 + m) (map rule_of_line b.written) rest) count
    ∙ ap (λ (rs : List Rule). rules_from user (n + 3 + length rules) rs rest) (sym b.all))

-- Bytes that say a licence are read as this licence.
pub read_body_from-said : (n : ℕ) (bytes : List ℕ) (licence : Licence) → Says bytes licence → read_body_from n bytes ≡ Ok licence
read_body_from-said n bytes licence says =
    let more : Result (List Rule) LicenceFault → Result Licence LicenceFault = λ r. r >>= λ rs. Ok (record { root = licence.root; user = licence.user; rules = rs }) in
    read_body_from-begins n bytes licence.root licence.user licence.rules (last_line ∷ []) says.begins
    ∙ ap more (rules_from-whole licence.user (n + 3 + length licence.rules) licence.rules says.limits)

-- Where there is a cause, this is the answer.
pub read_body_from-cause : (n : ℕ) (bytes : List ℕ) (fault : LicenceFault) → IsRefused n (lines bytes) fault → read_body_from n bytes ≡ Err fault
read_body_from-cause n bytes fault (NoTitle is none) =
    read_body_from-title n bytes fault (line_of_form-none (BadLicence n) title_line IsTitle title_shows (lines bytes) none ∙ ap Err (sym is))
read_body_from-cause n bytes fault (NoRoot rest is text none) =
    read_body_from-root n bytes rest fault (title_read n (lines bytes) rest text)
    (line_of_form-none (BadLicence (n + 1)) root_line IsRootLine root_shows rest none ∙ ap Err (sym is))
read_body_from-cause n bytes fault (NoUser line rest is text root none) =
    read_body_from-user n bytes (line ∷ rest) rest root.0 fault (title_read n (lines bytes) (line ∷ rest) text) (root_read (n + 1) line rest root.0 root.1)
    (line_of_form-none (BadLicence (n + 2)) user_line IsUserLine (λ l u h. let p = user_shows l u h in (u, p.0, p.1)) rest none ∙ ap Err (sym is))
read_body_from-cause n bytes fault (After root user rules rest begins cause) =
    let more : Result (List Rule) LicenceFault → Result Licence LicenceFault = λ r. r >>= λ rs. Ok (record { root = root; user = user; rules = rs }) in
    read_body_from-begins n bytes root user rules rest begins
    ∙ ap more (rules_from-cause user (n + 3 + length rules) rules rest fault begins.few cause)
