-- All lines of the rules: what follows from the answer that they were read or refused, and how they are read.
use Rattle.std.proofs.Common.{◌≡◌, ℕ, ◌+◌, ◌<◌, ◌≤◌, inl, inr, List, [], ◌∷◌, ◌++◌, map, length, true, false, cond, Result, Ok, Err, IsTrue, refl, ap, sym, subst, ◌∙◌, append_assoc, length-append, arith}
use Rattle.std.proofs.lemmas.List.{append-nil}
use Rattle.acl_model.specs.declared.rule.Rule.{Rule}
use Rattle.licence.specs.Forms.{Lines, ◌>>=◌}
use Rattle.licence.specs.BodyText.{last_line, are_within_limits, WrittenRule, line_of_rule, rule_of_line, AreRuleLines}
use Rattle.licence.specs.BodyRefusals.{IsNoLine, IsBadPath, HasLineAfterEnd, HasOneTooMany, ArePastLimits, IsRefusedAfter}
use Rattle.licence.specs.Body.{next_rule, is_end, rules_at_end, rules_from}
use Rattle.licence.specs.declared.fault.LicenceFault.{LicenceFault}
use Rattle.licence.specs.declared.fault.LicenceFault.TheVariants.{BadSeal, BadRule, BadLicence, TooManyRules, TooManyStates, NoMemory}
use Rattle.licence.proofs.FormLaws.{pointwise-same, not_so, none_of_none}
use Rattle.licence.proofs.RuleLaws.{IsNext, next_rule-ok, next_rule-err, next_rule-written, next_rule-bad_path, next_rule-full, next_rule-no_line, is_end-rule_text, is_end-begins_rule}
use Rattle.licence.proofs.Steps.{rules_from-refused, rules_from-next}

-- ---- what an answer shows

-- The lines after some rules end so: by `end` and within the limits, or they are refused.
abbrev EndsAs : List ℕ → ℕ → List Rule → Lines → Result (List Rule) LicenceFault → Type 0
EndsAs user n rules rest (Ok all) = (rest ≡ last_line ∷ []) × IsTrue (are_within_limits rules) × (all ≡ rules)
EndsAs user n rules rest (Err fault) = IsRefusedAfter user n rules rest fault

-- The lines are those of rules after earlier ones, and the lines after them end so.
pub record Comes (user : List ℕ) (n : ℕ) (earlier : List Rule) (ls : Lines) (answer : Result (List Rule) LicenceFault) : Type 0 where
  pub written : List WrittenRule
  pub rest : Lines
  pub each : AreRuleLines user earlier written
  pub few : length earlier + length written ≤ 64
  pub text : ls ≡ map line_of_rule written ++ rest
  pub ends : EndsAs user (n + length written) (earlier ++ map rule_of_line written) rest answer

here : (user : List ℕ) (n : ℕ) (earlier : List Rule) (ls : Lines) (answer : Result (List Rule) LicenceFault) → length earlier ≤ 64 → EndsAs user n earlier ls answer → Comes user n earlier ls answer
here user n earlier ls answer few ends =
    let number : n ≡ n + 0 = omega arith in
    let step : EndsAs user (n + 0) earlier ls answer = subst (λ (m : ℕ). EndsAs user m earlier ls answer) number ends in
    record {
      written = [];
      rest = ls;
      each = tt;
      few = omega arith;
      text = refl;
      ends = subst (λ (rules : List Rule). EndsAs user (n + 0) rules ls answer) (sym (append-nil earlier)) step;
    }

after : (user : List ℕ) (n : ℕ) (earlier : List Rule) (line : List ℕ) (ls : Lines) (rule : Rule) (answer : Result (List Rule) LicenceFault) → IsNext user earlier line rule
    → Comes user (n + 1) (earlier ++ rule ∷ []) ls answer → Comes user n earlier (line ∷ ls) answer
after user n earlier line ls rule answer next comes =
    let first : WrittenRule = record { rule = rule; path = next.path } in
    let number : (n + 1) + length comes.written ≡ n + length (first ∷ comes.written) = omega arith in
    let count : length (earlier ++ rule ∷ []) ≡ length earlier + 1 = length-append earlier (rule ∷ []) in
    let step : EndsAs user (n + length (first ∷ comes.written)) ((earlier ++ rule ∷ []) ++ map rule_of_line comes.written) comes.rest answer =
    subst (λ (m : ℕ). EndsAs user m ((earlier ++ rule ∷ []) ++ map rule_of_line comes.written) comes.rest answer) number comes.ends in
    let all = comes.few in
    record {
      written = first ∷ comes.written;
      rest = comes.rest;
      each = (next.stands, comes.each);
      few = omega (arith, all, count);
      text = ap (λ (l : List ℕ). l ∷ ls) next.text ∙ ap (λ (more : Lines). line_of_rule first ∷ more) comes.text;
      ends = subst (λ (rules : List Rule). EndsAs user (n + length (first ∷ comes.written)) rules comes.rest answer) (append_assoc earlier (rule ∷ []) (map rule_of_line comes.written)) step;
    }

at_end : (user : List ℕ) (n : ℕ) (earlier : List Rule) (line : List ℕ) (ls : Lines) → is_end line ≡ true → EndsAs user n earlier (line ∷ ls) (rules_at_end n earlier ls)
at_end user n earlier line (other ∷ ls) end =
    inr (refl, (other, ls, ap (λ (l : List ℕ). l ∷ other ∷ ls) (pointwise-same line last_line end)))
at_end user n earlier line [] end =
    let alone : ◌≡◌ {A = Lines} (line ∷ []) (last_line ∷ []) = ap (λ (l : List ℕ). l ∷ []) (pointwise-same line last_line end) in
    elim (are_within_limits earlier) as (λ v. are_within_limits earlier ≡ v → EndsAs user n earlier (line ∷ []) (cond v (Ok earlier) (Err TooManyStates)))
    [ true ↦ λ within. (alone, within, refl) | false ↦ λ past. (alone, past) ] refl

-- What is known of all lines, whatever the answer.
pub rules_from-comes : (ls : Lines) (user : List ℕ) (n : ℕ) (earlier : List Rule) → length earlier ≤ 64 → Comes user n earlier ls (rules_from user n earlier ls)
unfolding rules_from
rules_from-comes [] user n earlier few =
    here user n earlier [] (Err (BadLicence n)) few (inl (refl, record { no_end = none_of_none _; no_rule = none_of_none _; no_more = none_of_none _ }))
rules_from-comes (line ∷ ls) user n earlier few =
    elim (is_end line)
    as (λ v. is_end line ≡ v → Comes user n earlier (line ∷ ls) (cond v (rules_at_end n earlier ls) (next_rule user n earlier line >>= λ rule. rules_from user (n + 1) (earlier ++ rule ∷ []) ls))) [
      | true ↦ λ end. here user n earlier (line ∷ ls) (rules_at_end n earlier ls) few (at_end user n earlier line ls end)
      | false ↦ λ other.
          elim (next_rule user n earlier line)
          as (λ r. next_rule user n earlier line ≡ r → Comes user n earlier (line ∷ ls) (r >>= λ rule. rules_from user (n + 1) (earlier ++ rule ∷ []) ls)) [
            | Ok rule ↦ λ read.
                let next = next_rule-ok user n earlier line rule read in
                let room = next.room in
                after user n earlier line ls rule (rules_from user (n + 1) (earlier ++ rule ∷ []) ls) next
                (rules_from-comes ls user (n + 1) (earlier ++ rule ∷ []) (omega (arith, room, length-append earlier (rule ∷ []))))
            | Err fault ↦ λ refused. here user n earlier (line ∷ ls) (Err fault) few (next_rule-err user n earlier line ls fault few other refused)
          ] refl
    ] refl

-- ---- how lines are read

-- The lines of rules are read as these rules, and then the rest.
pub rules_from-written : (written : List WrittenRule) (user : List ℕ) (n : ℕ) (earlier : List Rule) (rest : Lines) → AreRuleLines user earlier written → length earlier + length written ≤ 64
    → rules_from user n earlier (map line_of_rule written ++ rest) ≡ rules_from user (n + length written) (earlier ++ map rule_of_line written) rest
rules_from-written [] user n earlier rest each few =
    let number : n ≡ n + 0 = omega arith in
    ap (λ (m : ℕ). rules_from user m earlier rest) number ∙ ap (λ (rules : List Rule). rules_from user (n + 0) rules rest) (sym (append-nil earlier))
rules_from-written (first ∷ more) user n earlier rest each few =
    let joined = earlier ++ first.rule ∷ [] in
    let count : length joined ≡ length earlier + 1 = length-append earlier (first.rule ∷ []) in
    let number : (n + 1) + length more ≡ n + length (first ∷ more) = omega arith in
    let room : length earlier < 64 = omega arith in
    rules_from-next user n earlier first.rule (map line_of_rule (first ∷ more) ++ rest) (map line_of_rule more ++ rest) (line_of_rule first) refl
    (is_end-rule_text (line_of_rule first) first.rule.sign first.rule.id first.path refl) (next_rule-written user n earlier first each.0 room)
    ∙ rules_from-written more user (n + 1) joined rest each.1 (omega (arith, count))
    ∙ ap (λ (m : ℕ). rules_from user m (joined ++ map rule_of_line more) rest) number
    ∙ ap (λ (rules : List Rule). rules_from user (n + length (first ∷ more)) rules rest) (append_assoc earlier (first.rule ∷ []) (map rule_of_line more))

-- `end` alone ends rules within the limits.
pub rules_from-whole : (user : List ℕ) (n : ℕ) (rules : List Rule) → are_within_limits rules ≡ true → rules_from user n rules (last_line ∷ []) ≡ Ok rules
unfolding rules_from
rules_from-whole user n rules within = rw within refl

no_line_refused : (user : List ℕ) (n : ℕ) (rules : List Rule) (rest : Lines) → length rules ≤ 64 → IsNoLine rules rest → rules_from user n rules rest ≡ Err (BadLicence n)
unfolding rules_from
no_line_refused user n rules [] few none = refl
no_line_refused user n rules (line ∷ rest) few none =
    let other : is_end line ≡ false = not_so (is_end line) (λ end. none.no_end line rest refl (pointwise-same line last_line end)) in
    rules_from-refused user n rules (line ∷ rest) rest line refl other (BadLicence n)
    (next_rule-no_line user n rules line few (λ next. none.no_rule line rest refl next) (λ more. none.no_more line rest refl more))

after_end_refused : (user : List ℕ) (n : ℕ) (rules : List Rule) (rest : Lines) → HasLineAfterEnd rest → rules_from user n rules rest ≡ Err (BadLicence (n + 1))
unfolding rules_from
after_end_refused user n rules rest has = ap (λ (ls : Lines). rules_from user n rules ls) has.2

past_limits_refused : (user : List ℕ) (n : ℕ) (rules : List Rule) (rest : Lines) → ArePastLimits rules rest → rules_from user n rules rest ≡ Err TooManyStates
unfolding rules_from
past_limits_refused user n rules rest past = ap (λ (ls : Lines). rules_from user n rules ls) past.0 ∙ rw past.1 refl

bad_path_refused : (user : List ℕ) (n : ℕ) (rules : List Rule) (rest : Lines) (at : ℕ) → IsBadPath user rules rest at → rules_from user n rules rest ≡ Err (BadRule n at)
bad_path_refused user n rules rest at bad =
    rules_from-refused user n rules rest bad.more bad.line bad.next (is_end-rule_text bad.line bad.form.sign bad.id bad.path bad.form.text) (BadRule n at)
    (next_rule-bad_path user n rules bad.line bad.id bad.path at bad.form bad.room bad.refused)

too_many_refused : (user : List ℕ) (n : ℕ) (rules : List Rule) (rest : Lines) → HasOneTooMany rules rest → rules_from user n rules rest ≡ Err TooManyRules
too_many_refused user n rules rest many =
    rules_from-refused user n rules rest many.1 many.0 many.2 (is_end-begins_rule many.0 many.3.1) TooManyRules (next_rule-full user n rules many.0 many.3)

-- Lines that are refused for a cause are refused so.
pub rules_from-cause : (user : List ℕ) (n : ℕ) (rules : List Rule) (rest : Lines) (fault : LicenceFault) → length rules ≤ 64 → IsRefusedAfter user n rules rest fault
    → rules_from user n rules rest ≡ Err fault
rules_from-cause user n rules rest (BadLicence line) few cause = elim cause [
  | inl none ↦ no_line_refused user n rules rest few none.1 ∙ ap (λ (m : ℕ). Err (BadLicence m)) (sym none.0)
  | inr end ↦ after_end_refused user n rules rest end.1 ∙ ap (λ (m : ℕ). Err (BadLicence m)) (sym end.0)
]
rules_from-cause user n rules rest (BadRule line at) few cause =
    bad_path_refused user n rules rest at cause.1 ∙ ap (λ (m : ℕ). Err (BadRule m at)) (sym cause.0)
rules_from-cause user n rules rest TooManyRules few cause = too_many_refused user n rules rest cause
rules_from-cause user n rules rest TooManyStates few cause = past_limits_refused user n rules rest cause
rules_from-cause user n rules rest (BadSeal given made) few cause = absurd cause
rules_from-cause user n rules rest NoMemory few cause = absurd cause
