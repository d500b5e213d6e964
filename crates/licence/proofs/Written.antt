-- A body that is written from valid parts is read as these parts.
use Rattle.std.proofs.Common.{◌≡◌, ℕ, ◌/◌, ◌%◌, ◌<◌, List, [], ◌∷◌, ◌++◌, map, length, nat_eq, nat_le, nat_lt, true, false, not, ◌&&◌, Some, None, Ok, codes, refl, ap, sym, ◌∙◌, arith, suc}
use Rattle.std.specs.Prelude.{slice_index}
use Rattle.std.specs.List.{list_all}
use Rattle.std.specs.Option.{option_and_then}
use Rattle.std.specs.Cmp.{first_so, second_so}
use Rattle.std.proofs.lemmas.Bool.{ne_eqb, leb-true}
use Rattle.std.proofs.lemmas.Option.{none-some}
use Rattle.hex.specs.Hex.{encode_with, encode_lower, lower_digits, hex_digit_value}
use Rattle.hex.proofs.HexLemmas.{IsDigits-lower_digits, decode_sized-encode_lower}
use Rattle.acl_model.specs.Ascii.{is_byte, are_bytes, line_feed, space}
use Rattle.acl_model.specs.Lines.{lacks}
use Rattle.acl_model.proofs.LineLaws.{lacks-list_all, lacks-append, lines-written}
use Rattle.acl_model.specs.declared.path.Path.{Path}
use Rattle.acl_model.specs.declared.rule.Rule.{Rule}
use Rattle.acl_model.specs.declared.rule.Sign.{Sign}
use Rattle.acl_model.specs.declared.rule.Sign.TheVariants.{Grant, Deny}
use Rattle.xpath_rules.specs.declared.quote.Quote.TheVariants.{Double, Single}
use Rattle.xpath_rules.specs.declared.state.State.{State}
use Rattle.xpath_rules.specs.declared.state.Inside.{Inside}
use Rattle.xpath_rules.specs.PathMachine.{choose, inside_rows, step, run}
use Rattle.xpath_rules.specs.Canonical.{canonical_text}
use Rattle.xpath_rules.specs.PathAnswers.{CanBeRead}
use Rattle.xpath_rules.proofs.PathRuns.{path_run}
use Rattle.xpath_rules.proofs.Places.{read_within, read_spelled}
use Rattle.xpath_rules.proofs.RoundTrip.{canonical_spells, canonical_shorter}
use Rattle.licence.specs.Forms.{Lines}
use Rattle.licence.specs.BodyText.{title, root_word, user_text, sign_byte, last_line, is_user_byte, is_user, is_id_byte, WrittenRule, line_of_rule, rule_of_line, AreRuleLines, Says, canonical_line, body_lines, body_text, EachMayStand, CanBeWritten}
use Rattle.licence.specs.Body.{read_body_of}
use Rattle.licence.specs.declared.terms.Licence.{Licence}
use Rattle.licence.proofs.RuleLaws.{id_bytes}
use Rattle.licence.proofs.BodyLaws.{read_body_from-said}
use Rattle.licence.proofs.Digests.{IsBytes-are_bytes}

-- ---- no path that is read has a line feed

inside_refuses : (user : List ℕ) (inside : Inside) → choose (inside_rows user inside) line_feed ≡ None
inside_refuses user Inside.Open = refl
inside_refuses user Inside.Dot = refl
inside_refuses user Inside.DotSlash = refl
inside_refuses user (Inside.InWay level) = refl
inside_refuses user (Inside.WaySlash way) = refl
inside_refuses user (Inside.WaySlashes way) = refl
inside_refuses user (Inside.AfterAt way) = refl
inside_refuses user (Inside.InAttribute way name) = refl
inside_refuses user (Inside.AfterBody body) = refl
inside_refuses user (Inside.Exclamation body) = refl
inside_refuses user (Inside.Less body) = refl
inside_refuses user (Inside.Greater body) = refl
inside_refuses user (Inside.AfterSign c) = refl
inside_refuses user (Inside.InLiteral c Double bytes) = refl
inside_refuses user (Inside.InLiteral c Single bytes) = refl
inside_refuses user (Inside.Minus c) = refl
inside_refuses user (Inside.InNumber c digits) = refl
inside_refuses user (Inside.LetterU c) = refl
inside_refuses user (Inside.LettersUs c) = refl
inside_refuses user (Inside.LettersUse c) = refl
inside_refuses user (Inside.AfterOperand pred) = refl

refuses : (user : List ℕ) (s : State) → step user s line_feed ≡ None
refuses user State.Start = refl
refuses user (State.AfterSlash done) = refl
refuses user (State.AfterSlashes done) = refl
refuses user (State.InStep level) = refl
refuses user (State.InPredicate level inside) = rw (inside_refuses user inside) refl

run_lacks : (user bytes : List ℕ) (s t : State) → run user bytes s ≡ Some t → lacks line_feed bytes ≡ true
unfolding run
run_lacks user [] s t ran = refl
run_lacks user (b ∷ bytes) s t ran =
    elim (step user s b) as (λ o. step user s b ≡ o → option_and_then (run user bytes) o ≡ Some t → lacks line_feed (b ∷ bytes) ≡ true) [
      | None ↦ λ none is. absurd (none-some t is)
      | Some next ↦ λ some is.
          let other : nat_eq b line_feed ≡ false = ne_eqb b line_feed (λ same. none-some next (sym (refuses user s) ∙ ap (step user s) (sym same) ∙ some)) in
          rw (other, run_lacks user bytes next t is) refl
    ] refl ran

path_lacks : (user : List ℕ) (path : Path) → CanBeRead user path → lacks line_feed (canonical_text path) ≡ true
path_lacks user path can =
    let spelled = canonical_spells user can.0 path (read_spelled user can.0 path can.1) in
    run_lacks user (canonical_text path) State.Start _ (ap (λ (t : List ℕ). run user t State.Start) spelled.text ∙ path_run user spelled.written spelled.in_form)

-- ---- nor has any line

digit_lacks : (d : ℕ) → d < 16 → not (nat_eq (slice_index lower_digits d) line_feed) ≡ true
digit_lacks d below =
    ap not (ne_eqb (slice_index lower_digits d) line_feed (λ (e : slice_index lower_digits d ≡ line_feed).
    none-some d (ap hex_digit_value (sym e) ∙ IsDigits-lower_digits d below)))

encode_lower-lacks : (bytes : List ℕ) → are_bytes bytes ≡ true → lacks line_feed (encode_lower bytes) ≡ true
unfolding encode_with
encode_lower-lacks [] fit = refl
encode_lower-lacks (b ∷ bytes) fit =
    let below : b < 256 = leb-true (suc b) 256 (first_so (is_byte b) (are_bytes bytes) fit) in
    rw (digit_lacks (b / 16) (omega arith), digit_lacks (b % 16) (omega arith), encode_lower-lacks bytes (second_so (is_byte b) (are_bytes bytes) fit)) refl

user_lacks : (user : List ℕ) → is_user user ≡ true → lacks line_feed (user_text user) ≡ true
user_lacks user good =
    lacks-append line_feed (codes "user ") user refl
    (lacks-list_all is_user_byte line_feed refl user (second_so (nat_lt 0 (length user) && nat_le (length user) 255) (list_all is_user_byte user) good))

sign_lacks : (sign : Sign) (bytes : List ℕ) → lacks line_feed bytes ≡ true → lacks line_feed (sign_byte sign ∷ bytes) ≡ true
sign_lacks Grant bytes rest = rest
sign_lacks Deny bytes rest = rest

rules_lack : (user : List ℕ) (rules earlier : List Rule) → EachMayStand user earlier rules → list_all (lacks line_feed) (map canonical_line rules ++ (last_line ∷ [])) ≡ true
rules_lack user [] earlier each = refl
rules_lack user (rule ∷ rules) earlier each =
    let id = lacks-list_all is_id_byte line_feed refl rule.id (id_bytes rule.id each.0.id) in
    let line = sign_lacks rule.sign (space ∷ (rule.id ++ (space ∷ canonical_text rule.path))) (lacks-append line_feed rule.id (space ∷ canonical_text rule.path) id (path_lacks user rule.path each.0.path)) in
    rw (line, rules_lack user rules (earlier ++ rule ∷ []) each.1) refl

-- ---- the body

-- the rule with its canonical spelling
abbrev canonical : Rule → WrittenRule
canonical rule = record { rule = rule; path = canonical_text rule.path }

canonical_lines : (rules : List Rule) → map line_of_rule (map canonical rules) ≡ map canonical_line rules
canonical_lines [] = refl
canonical_lines (rule ∷ rules) = ap (λ (ls : Lines). canonical_line rule ∷ ls) (canonical_lines rules)

canonical_rules : (rules : List Rule) → rules ≡ map rule_of_line (map canonical rules)
canonical_rules [] = refl
canonical_rules (rule ∷ rules) = ap (λ (rs : List Rule). rule ∷ rs) (canonical_rules rules)

canonical_stand : (user : List ℕ) (rules earlier : List Rule) → EachMayStand user earlier rules → AreRuleLines user earlier (map canonical rules)
canonical_stand user [] earlier each = tt
canonical_stand user (rule ∷ rules) earlier each =
    let can = each.0.path in
    let spelled = read_spelled user can.0 rule.path can.1 in
    let short = canonical_shorter user can.0 rule.path spelled in
    let few = read_within user can.0 rule.path can.1 in (
      record {
        id = each.0.id;
        is_new = each.0.is_new;
        path = canonical_spells user can.0 rule.path spelled;
        within = omega (arith, short, few);
      },
      canonical_stand user rules (earlier ++ rule ∷ []) each.1,
    )

-- The text of valid parts says them.
body_text-says : (licence : Licence) → CanBeWritten licence → Says (body_text licence) licence
body_text-says licence can =
    let root = root_word ++ encode_lower licence.root in
    let root_lacks = lacks-append line_feed root_word (encode_lower licence.root) refl (encode_lower-lacks licence.root can.root_bytes) in
    let all : list_all (lacks line_feed) (body_lines licence) ≡ true = rw (root_lacks, user_lacks licence.user can.user, rules_lack licence.user licence.rules [] can.rules) refl in
    record {
      begins = record {
        root_line = root;
        digits = (encode_lower licence.root, refl, decode_sized-encode_lower licence.root 32 can.root (IsBytes-are_bytes licence.root can.root_bytes));
        is_user = can.user;
        written = map canonical licence.rules;
        each = canonical_stand licence.user licence.rules [] can.rules;
        all = canonical_rules licence.rules;
        few = can.few;
        text = lines-written (body_lines licence) all
            ∙ ap (λ (ls : Lines). title ∷ root ∷ user_text licence.user ∷ (ls ++ (last_line ∷ []))) (sym (canonical_lines licence.rules));
      };
      limits = can.limits;
    }

pub read_body_of-written : (licence : Licence) → CanBeWritten licence → read_body_of (body_text licence) ≡ Ok licence
read_body_of-written licence can = read_body_from-said 1 (body_text licence) licence (body_text-says licence can)
