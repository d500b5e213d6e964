-- One rule line: its parts, and what follows from the answer that it was read or refused.
use Rattle.std.proofs.Common.{◌≡◌, ℕ, ◌<◌, ◌≤◌, inl, List, [], ◌∷◌, ◌++◌, length, nat_eq, nat_le, nat_lt, true, false, ◌&&◌, ◌||◌, cond, Option, Some, None, Result, Ok, Err, ok_or, refl, ap, sym, subst, ◌∙◌, arith}
use Rattle.std.specs.List.{list_all}
use Rattle.std.specs.Option.{option_map}
use Rattle.std.specs.Cmp.{second_so}
use Rattle.std.proofs.lemmas.Bool.{true≢false, eqb-true}
use Rattle.std.proofs.lemmas.Bool.Decides.{nat_tests}
use Rattle.std.proofs.lemmas.Option.{none-some, cond_some}
use Rattle.acl_model.specs.Limits.{most_rules}
use Rattle.acl_model.specs.Ascii.{space, plus, hyphen}
use Rattle.acl_model.specs.Lines.{cut_at}
use Rattle.acl_model.specs.declared.path.Path.{Path}
use Rattle.acl_model.specs.declared.rule.Rule.{Rule}
use Rattle.acl_model.specs.declared.rule.Sign.{Sign}
use Rattle.acl_model.specs.declared.rule.Sign.TheVariants.{Grant, Deny}
use Rattle.acl_model.proofs.LineLaws.{cut_at-append, lacks-list_all}
use Rattle.xpath_rules.specs.PathMachine.{read_path_of}
use Rattle.xpath_rules.proofs.Places.{spelled_read, read_within, read_spelled}
use Rattle.licence.specs.Forms.{Lines, ◌>>=◌}
use Rattle.licence.specs.BodyText.{sign_byte, rule_text, is_id_byte, is_id, is_known_id, WrittenRule, line_of_rule, IsRuleLine}
use Rattle.licence.specs.BodyRefusals.{IsLastLine, IsRuleBut, IsNextRule, IsOneTooMany, begins_rule, IsRefusedAfter}
use Rattle.licence.specs.Body.{sign_of, RuleParts, parts_with_id, rule_line, rule_or_fault, rule_of_parts, rule_too_many, next_rule, is_end}
use Rattle.licence.specs.declared.fault.LicenceFault.{LicenceFault}
use Rattle.licence.specs.declared.fault.LicenceFault.TheVariants.{BadRule, BadLicence, TooManyRules}
use Rattle.licence.proofs.FormLaws.{same_within, same_value, same_fault, not_both, not_err, option_map-some, cond-some, not_so, none_first}

-- ---- the parts of a rule line

sign_of-sign_byte : (sign : Sign) → sign_of (sign_byte sign) ≡ Some sign
sign_of-sign_byte Grant = refl
sign_of-sign_byte Deny = refl

sign_of-some : (b : ℕ) (sign : Sign) → sign_of b ≡ Some sign → b ≡ sign_byte sign
sign_of-some b sign h =
    elim (nat_eq b plus) as (λ v. nat_eq b plus ≡ v → cond v (Some Grant) (cond (nat_eq b hyphen) (Some Deny) None) ≡ Some sign → b ≡ sign_byte sign) [
      | true ↦ λ here is. eqb-true b plus here ∙ ap sign_byte (same_within Grant sign is)
      | false ↦ λ other is. let found = cond_some (nat_eq b hyphen) Deny sign is in eqb-true b hyphen found.0 ∙ ap sign_byte found.1
    ] refl h

-- A cut at a byte gives what comes before and after it.
pub cut_at-some : (c : ℕ) (bytes part rest : List ℕ) → cut_at c bytes ≡ Some (part, rest) → bytes ≡ part ++ (c ∷ rest)
cut_at-some c [] part rest h = absurd (none-some (part, rest) h)
cut_at-some c (b ∷ bytes) part rest h =
    elim (nat_eq b c) as (λ v. nat_eq b c ≡ v → cond {A = Option (List ℕ × List ℕ)} v (Some ([], bytes)) (option_map (λ p. (b ∷ p.0, p.1)) (cut_at c bytes)) ≡ Some (part, rest) → b ∷ bytes ≡ part ++ (c ∷ rest)) [
      | true ↦ λ here cut.
          let same = same_within ([], bytes) (part, rest) cut in
          ap (λ (x : ℕ). x ∷ bytes) (eqb-true b c here) ∙ ap (λ (p : List ℕ × List ℕ). p.0 ++ (c ∷ p.1)) same
      | false ↦ λ other cut.
          let found = option_map-some (λ (p : List ℕ × List ℕ). (b ∷ p.0, p.1)) (cut_at c bytes) (part, rest) cut in
          ap (λ (bs : List ℕ). b ∷ bs) (cut_at-some c bytes found.0.0 found.0.1 found.1)
          ∙ ap (λ (p : List ℕ × List ℕ). p.0 ++ (c ∷ p.1)) found.2
    ] refl h

parts_with_id-some : (s : Option Sign) (o : Option (List ℕ × List ℕ)) (parts : RuleParts) → parts_with_id s o ≡ Some parts
    → (s ≡ Some parts.sign) × (o ≡ Some (parts.id, parts.path)) × (is_id parts.id ≡ true)
parts_with_id-some None o parts h = absurd (none-some parts h)
parts_with_id-some (Some sign) None parts h = absurd (none-some parts h)
parts_with_id-some (Some sign) (Some p) parts h =
    let made : RuleParts = record { sign = sign; id = p.0; path = p.1 } in
    let found = cond_some (is_id p.0) made parts h in
    (ap (λ (q : RuleParts). Some q.sign) found.1, ap (λ (q : RuleParts). Some (q.id, q.path)) found.1, ap (λ (q : RuleParts). is_id q.id) (sym found.1) ∙ found.0)

-- A line that has the parts of a rule is the text of these parts.
pub rule_line-some : (line : List ℕ) (parts : RuleParts) → rule_line line ≡ Some parts → (line ≡ rule_text parts.sign parts.id parts.path) × (is_id parts.id ≡ true)
rule_line-some [] parts h = absurd (none-some parts h)
rule_line-some (b ∷ []) parts h = absurd (none-some parts h)
rule_line-some (b ∷ c ∷ bytes) parts h =
    let spaced = cond-some (nat_eq c space) (parts_with_id (sign_of b) (cut_at space bytes)) parts h in
    let found = parts_with_id-some (sign_of b) (cut_at space bytes) parts spaced.1 in (
      ap (λ (x : ℕ). x ∷ c ∷ bytes) (sign_of-some b parts.sign found.0)
          ∙ ap (λ (x : ℕ). sign_byte parts.sign ∷ x ∷ bytes) (eqb-true c space spaced.0)
          ∙ ap (λ (bs : List ℕ). sign_byte parts.sign ∷ space ∷ bs) (cut_at-some space bytes parts.id parts.path found.1),
      found.2,
    )

pub id_bytes : (id : List ℕ) → is_id id ≡ true → list_all is_id_byte id ≡ true
id_bytes id good = second_so (nat_lt 0 (length id) && nat_le (length id) 32) (list_all is_id_byte id) good

-- The text of a sign, an id and a path has these parts.
pub rule_line-rule_text : (sign : Sign) (id path : List ℕ) → is_id id ≡ true → rule_line (rule_text sign id path) ≡ Some (record { sign = sign; id = id; path = path })
rule_line-rule_text sign id path good =
    let cut : cut_at space (id ++ (space ∷ path)) ≡ Some (id, path) =
    cut_at-append space id path (lacks-list_all is_id_byte space refl id (id_bytes id good)) in
    rw (sign_of-sign_byte sign, cut, good) refl

is_end-rule : (sign : Sign) (bytes : List ℕ) → is_end (sign_byte sign ∷ bytes) ≡ false
is_end-rule Grant bytes = refl
is_end-rule Deny bytes = refl

pub is_end-rule_text : (line : List ℕ) (sign : Sign) (id path : List ℕ) → line ≡ rule_text sign id path → is_end line ≡ false
is_end-rule_text line sign id path text = ap is_end text ∙ is_end-rule sign (space ∷ (id ++ (space ∷ path)))

-- A line that begins as that of a rule is not `end`.
pub is_end-begins_rule : (line : List ℕ) → begins_rule line ≡ true → is_end line ≡ false
is_end-begins_rule [] begins = absurd (true≢false (sym begins))
is_end-begins_rule (b ∷ bytes) begins =
    elim (nat_eq b plus) as (λ v. nat_eq b plus ≡ v → (v || nat_eq b hyphen) ≡ true → is_end (b ∷ bytes) ≡ false) [
      | true ↦ λ is any. ap (λ (x : ℕ). is_end (x ∷ bytes)) (eqb-true b plus is) ∙ is_end-rule Grant bytes
      | false ↦ λ is any. ap (λ (x : ℕ). is_end (x ∷ bytes)) (eqb-true b hyphen any) ∙ is_end-rule Deny bytes
    ] refl begins

-- ---- a rule that is read

rule_or_fault-ok : (n : ℕ) (parts : RuleParts) (r : Result Path ℕ) (rule : Rule) → rule_or_fault n parts r ≡ Ok rule
    → (r ≡ Ok rule.path) × (rule.id ≡ parts.id) × (rule.sign ≡ parts.sign)
rule_or_fault-ok n parts (Ok path) rule h =
    let made : Rule = record { id = parts.id; sign = parts.sign; path = path } in
    let same = same_value made rule h in
    (ap (λ (r : Rule). Ok r.path) same, ap (λ (r : Rule). r.id) (sym same), ap (λ (r : Rule). r.sign) (sym same))
rule_or_fault-ok n parts (Err at) rule h = absurd (not_err rule (BadRule n at) h)

-- the rule with the bytes of its path
abbrev with_path : Rule → List ℕ → WrittenRule
with_path rule path = record { rule = rule; path = path }

-- a rule as its line says it, after earlier ones
pub record IsNext (user : List ℕ) (earlier : List Rule) (line : List ℕ) (rule : Rule) : Type 0 where
  pub room : length earlier < 64
  pub path : List ℕ
  pub stands : IsRuleLine user earlier (record { rule = rule; path = path })
  pub text : line ≡ rule_text rule.sign rule.id path

next_of_parts : (user : List ℕ) (n : ℕ) (earlier : List Rule) (line : List ℕ) (parts : RuleParts) (rule : Rule) → length earlier < 64 → rule_line line ≡ Some parts
    → is_known_id parts.id earlier ≡ false → rule_or_fault n parts (read_path_of parts.path user) ≡ Ok rule → IsNext user earlier line rule
next_of_parts user n earlier line parts rule room form fresh read =
    let says = rule_line-some line parts form in
    let made = rule_or_fault-ok n parts (read_path_of parts.path user) rule read in
    record {
      room = room;
      path = parts.path;
      stands = record {
        id = ap is_id made.1 ∙ says.1;
        is_new = ap (λ (id : List ℕ). is_known_id id earlier) made.1 ∙ fresh;
        path = read_spelled user parts.path rule.path made.0;
        within = read_within user parts.path rule.path made.0;
      };
      text = says.0 ∙ ap (λ (id : List ℕ). rule_text parts.sign id parts.path) (sym made.1) ∙ ap (λ s. rule_text s rule.id parts.path) (sym made.2);
    }

pub next_rule-ok : (user : List ℕ) (n : ℕ) (earlier : List Rule) (line : List ℕ) (rule : Rule) → next_rule user n earlier line ≡ Ok rule → IsNext user earlier line rule
next_rule-ok user n earlier line rule h =
    elim (nat_le most_rules (length earlier))
    as (λ v. nat_le most_rules (length earlier) ≡ v → cond v (Err (rule_too_many n line)) (ok_or (rule_line line) (BadLicence n) >>= rule_of_parts user n earlier) ≡ Ok rule → IsNext user earlier line rule) [
      | true ↦ λ full is. absurd (not_err rule (rule_too_many n line) is)
      | false ↦ λ room is.
          let free : length earlier < 64 = grind (arith, nat_tests) in
          elim (rule_line line)
          as (λ o. rule_line line ≡ o → (ok_or o (BadLicence n) >>= rule_of_parts user n earlier) ≡ Ok rule → IsNext user earlier line rule) [
            | None ↦ λ form read. absurd (not_err rule (BadLicence n) read)
            | Some parts ↦ λ form read.
                elim (is_known_id parts.id earlier)
                as (λ v. is_known_id parts.id earlier ≡ v → cond v (Err (BadLicence n)) (rule_or_fault n parts (read_path_of parts.path user)) ≡ Ok rule → IsNext user earlier line rule) [
                  | true ↦ λ known refused. absurd (not_err rule (BadLicence n) refused)
                  | false ↦ λ fresh yes. next_of_parts user n earlier line parts rule free form fresh yes
                ] refl read
          ] refl is
    ] refl h

-- ---- a rule that is refused

full_refused : (user : List ℕ) (n : ℕ) (earlier : List Rule) (line : List ℕ) (ls : Lines) → length earlier ≡ 64 → is_end line ≡ false
    → IsRefusedAfter user n earlier (line ∷ ls) (rule_too_many n line)
full_refused user n earlier line ls full other =
    elim (begins_rule line) as (λ v. begins_rule line ≡ v → IsRefusedAfter user n earlier (line ∷ ls) (cond v TooManyRules (BadLicence n))) [
      | true ↦ λ begins. (line, ls, refl, (full, begins))
      | false ↦ λ begins. inl (
        refl,
        record {
          no_end = none_first IsLastLine line ls (λ end. true≢false (sym (ap is_end end) ∙ other));
          no_rule = none_first (IsNextRule earlier) line ls (λ next. let room : length earlier < 64 = next.0 in absurd (omega arith));
          no_more = none_first (IsOneTooMany earlier) line ls (λ more. true≢false (sym more.1 ∙ begins));
        },
      )
    ] refl

-- A line that is not that of a rule, or has a known id, is refused.
no_line : (user : List ℕ) (n : ℕ) (earlier : List Rule) (line : List ℕ) (ls : Lines) → length earlier < 64 → is_end line ≡ false
    → ((id path : List ℕ) → IsRuleBut earlier line id path → ⊥) → IsRefusedAfter user n earlier (line ∷ ls) (BadLicence n)
no_line user n earlier line ls room other never = inl (
  refl,
  record {
    no_end = none_first IsLastLine line ls (λ end. true≢false (sym (ap is_end end) ∙ other));
    no_rule = none_first (IsNextRule earlier) line ls (λ next. never next.1.0 next.1.1 next.1.2);
    no_more = none_first (IsOneTooMany earlier) line ls (λ more. let full : length earlier ≡ 64 = more.0 in absurd (omega arith));
  },
)

-- The parts of a rule's line are those that its text has.
parts_of : (earlier : List Rule) (line id path : List ℕ) (b : IsRuleBut earlier line id path) → rule_line line ≡ Some (record { sign = b.sign; id = id; path = path })
parts_of earlier line id path b = ap rule_line b.text ∙ rule_line-rule_text b.sign id path b.is_right

bad_path : (user : List ℕ) (n : ℕ) (earlier : List Rule) (line : List ℕ) (ls : Lines) (parts : RuleParts) (at : ℕ) → length earlier < 64 → rule_line line ≡ Some parts
    → is_known_id parts.id earlier ≡ false → read_path_of parts.path user ≡ Err at → IsRefusedAfter user n earlier (line ∷ ls) (BadRule n at)
bad_path user n earlier line ls parts at room form fresh refused =
    let says = rule_line-some line parts form in (
      refl,
      record {
        line = line;
        more = ls;
        next = refl;
        room = room;
        id = parts.id;
        path = parts.path;
        form = record { sign = parts.sign; text = says.0; is_right = says.1; is_new = fresh };
        refused = refused;
      },
    )

pub next_rule-err : (user : List ℕ) (n : ℕ) (earlier : List Rule) (line : List ℕ) (ls : Lines) (fault : LicenceFault) → length earlier ≤ 64 → is_end line ≡ false
    → next_rule user n earlier line ≡ Err fault → IsRefusedAfter user n earlier (line ∷ ls) fault
next_rule-err user n earlier line ls fault few other h =
    elim (nat_le most_rules (length earlier))
    as (λ v. nat_le most_rules (length earlier) ≡ v → cond v (Err (rule_too_many n line)) (ok_or (rule_line line) (BadLicence n) >>= rule_of_parts user n earlier) ≡ Err fault → IsRefusedAfter user n earlier (line ∷ ls) fault) [
      | true ↦ λ full is.
          let all : length earlier ≡ 64 = grind (arith, nat_tests) in
          subst (IsRefusedAfter user n earlier (line ∷ ls)) (same_fault {A = Rule} (rule_too_many n line) fault is) (full_refused user n earlier line ls all other)
      | false ↦ λ room is.
          let free : length earlier < 64 = grind (arith, nat_tests) in
          elim (rule_line line)
          as (λ o. rule_line line ≡ o → (ok_or o (BadLicence n) >>= rule_of_parts user n earlier) ≡ Err fault → IsRefusedAfter user n earlier (line ∷ ls) fault) [
            | None ↦ λ form read.
                subst (IsRefusedAfter user n earlier (line ∷ ls)) (same_fault {A = Rule} (BadLicence n) fault read)
                (no_line user n earlier line ls free other (λ id path b. none-some _ (sym form ∙ parts_of earlier line id path b)))
            | Some parts ↦ λ form read.
                elim (is_known_id parts.id earlier)
                as (λ v. is_known_id parts.id earlier ≡ v → cond v (Err (BadLicence n)) (rule_or_fault n parts (read_path_of parts.path user)) ≡ Err fault → IsRefusedAfter user n earlier (line ∷ ls) fault) [
                  | true ↦ λ known told.
                      subst (IsRefusedAfter user n earlier (line ∷ ls)) (same_fault {A = Rule} (BadLicence n) fault told)
                      (no_line user n earlier line ls free other
                      (λ id path b. true≢false (sym known ∙ ap (λ (p : RuleParts). is_known_id p.id earlier) (same_within _ _ (sym form ∙ parts_of earlier line id path b)) ∙ b.is_new)))
                  | false ↦ λ fresh yes.
                      elim (read_path_of parts.path user)
                      as (λ r. read_path_of parts.path user ≡ r → rule_or_fault n parts r ≡ Err fault → IsRefusedAfter user n earlier (line ∷ ls) fault) [
                        | Ok path ↦ λ good made. absurd (not_both (record { id = parts.id; sign = parts.sign; path = path }) fault made)
                        | Err at ↦ λ refused made.
                            subst (IsRefusedAfter user n earlier (line ∷ ls)) (same_fault {A = Rule} (BadRule n at) fault made)
                            (bad_path user n earlier line ls parts at free form fresh refused)
                      ] refl yes
                ] refl read
          ] refl is
    ] refl h

-- ---- how the next line is read, from what it is

-- A written rule is the next one, where there is room.
pub next_rule-written : (user : List ℕ) (n : ℕ) (earlier : List Rule) (written : WrittenRule) → IsRuleLine user earlier written → length earlier < 64
    → next_rule user n earlier (line_of_rule written) ≡ Ok written.rule
next_rule-written user n earlier written stands room =
    let full : nat_le 64 (length earlier) ≡ false = grind (arith, nat_tests) in
    let parts = rule_line-rule_text written.rule.sign written.rule.id written.path stands.id in
    let read = spelled_read user written.path written.rule.path stands.path stands.within in
    rw (full, parts, stands.is_new, read) refl

pub next_rule-bad_path : (user : List ℕ) (n : ℕ) (earlier : List Rule) (line id path : List ℕ) (at : ℕ) → IsRuleBut earlier line id path → length earlier < 64
    → read_path_of path user ≡ Err at → next_rule user n earlier line ≡ Err (BadRule n at)
next_rule-bad_path user n earlier line id path at b room refused =
    let full : nat_le 64 (length earlier) ≡ false = grind (arith, nat_tests) in
    rw (full, parts_of earlier line id path b, b.is_new, refused) refl

pub next_rule-full : (user : List ℕ) (n : ℕ) (earlier : List Rule) (line : List ℕ) → IsOneTooMany earlier line → next_rule user n earlier line ≡ Err TooManyRules
next_rule-full user n earlier line more =
    let size : length earlier ≡ 64 = more.0 in
    let full : nat_le 64 (length earlier) ≡ true = grind (arith, nat_tests) in
    rw (full, more.1) refl

pub next_rule-no_line : (user : List ℕ) (n : ℕ) (earlier : List Rule) (line : List ℕ) → length earlier ≤ 64 → (IsNextRule earlier line → ⊥)
    → (IsOneTooMany earlier line → ⊥) → next_rule user n earlier line ≡ Err (BadLicence n)
next_rule-no_line user n earlier line few no_rule no_more =
    elim (nat_le most_rules (length earlier))
    as (λ v. nat_le most_rules (length earlier) ≡ v → cond v (Err (rule_too_many n line)) (ok_or (rule_line line) (BadLicence n) >>= rule_of_parts user n earlier) ≡ Err (BadLicence n)) [
      | true ↦ λ full.
          let all : length earlier ≡ 64 = grind (arith, nat_tests) in
          ap (λ v. Err (cond v TooManyRules (BadLicence n))) (not_so (begins_rule line) (λ begins. no_more (all, begins)))
      | false ↦ λ room.
          let free : length earlier < 64 = grind (arith, nat_tests) in
          elim (rule_line line)
          as (λ o. rule_line line ≡ o → (ok_or o (BadLicence n) >>= rule_of_parts user n earlier) ≡ Err (BadLicence n)) [
            | None ↦ λ form. refl
            | Some parts ↦ λ form.
                let says = rule_line-some line parts form in
                elim (is_known_id parts.id earlier)
                as (λ v. is_known_id parts.id earlier ≡ v → cond v (Err (BadLicence n)) (rule_or_fault n parts (read_path_of parts.path user)) ≡ Err (BadLicence n)) [
                  | true ↦ λ known. refl
                  | false ↦ λ fresh. absurd (no_rule (free, (parts.id, parts.path, record { sign = parts.sign; text = says.0; is_right = says.1; is_new = fresh })))
                ] refl
          ] refl
    ] refl
