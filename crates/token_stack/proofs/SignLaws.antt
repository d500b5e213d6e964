-- Rows that stand for the open elements give the sign of the innermost one.
use Rattle.std.proofs.Common.{◌≡◌, ◌<◌, ◌≤◌, ℕ, Bool, true, false, ◌||◌, Option, Some, None, is_some, List, [], ◌∷◌, ◌++◌, length, map, refl, ap, sym, subst, ◌∙◌, append_assoc, arith}
use Rattle.std.specs.Bool.{MatchBool}
use Rattle.std.proofs.lemmas.Bool.{true≢false}
use Rattle.std.proofs.lemmas.Option.{same_Some}
use Rattle.acl_bits.specs.Row.{row_of, is_member}
use Rattle.acl_bits.specs.inside.RowLaws.{row_of-same}
use Rattle.acl_model.specs.Decide.{sign}
use Rattle.acl_model.specs.Dictionary.{are_distinct}
use Rattle.acl_model.specs.Explain.{explanation_of}
use Rattle.acl_model.specs.RuleNumbers.{numbers_of, numbers_of_sign}
use Rattle.acl_model.specs.declared.document.Doc.{Doc}
use Rattle.acl_model.specs.declared.rule.Rule.{Rule}
use Rattle.acl_model.specs.declared.rule.Sign.{Sign}
use Rattle.acl_model.specs.declared.rule.Sign.TheVariants.{Grant, Deny}
use Rattle.acl_walk.specs.Open.{OpenPlace, open_at, places_of}
use Rattle.acl_walk.specs.inside.OpenLaws.{places_of-prefixes}
use Rattle.acl_walk.specs.Spelling.{Spells}
use Rattle.acl_walk.specs.declared.event.Event.{Event}
use Rattle.rule_automata.specs.Compile.{automata_of, have_no_predicates}
use Rattle.sign_stack.specs.SignLevels.{has_rule_of, sign_of_levels, rule_of_levels}
use Rattle.sign_stack.specs.RuleRows.{selecting_row, settled_level, settled_levels, AreOutcomes, AreSettledToDecider, IsSettledToDecider}
use Rattle.sign_stack.specs.declared.level.Level.{Level}
use Rattle.sign_stack.proofs.OutcomeLaws.{within, sign_holds, settled_is_given, rule_settled}
use Rattle.sign_stack.proofs.RuleLaws.{sign_is, rule_is}
use Rattle.token_stack.specs.Invariant.{does_rule_select, Stands, row_at}
use Rattle.token_stack.specs.SignRows.{level_rows, open_rows, StandInside, IsInOrder, RowsStandInside}
use Rattle.token_stack.specs.Stack.{TokenStack}
use Rattle.token_stack.specs.TokensStand.{TokensStandAt}
use Rattle.token_stack.proofs.FeedLaws.{open_elements-standing, standing_rows}
use Rattle.token_stack.proofs.InvariantLaws.{member_passes, passes_member, selects_within}

-- the row of the rules that select a place, by the test of their numbers
selecting_row_is : (rules : List Rule) (d : Doc) (place : List ℕ) → selecting_row d rules place ≡ row_of (λ n. does_rule_select rules d n place)
unfolding row_of numbers_of
selecting_row_is rules d place = refl

-- ---- standing tokens

-- the rows of open elements, from one of them on outwards, are those of their places
rows_outwards : (names : List (List ℕ)) (rules : List Rule) (d : Doc) (list : List Event) (place : ℕ) (tokens : TokenStack) → are_distinct names ≡ true → length names ≤ 256
    → have_no_predicates rules ≡ true → Spells names (Some d) list → TokensStandAt (automata_of names rules).states list place tokens
    → (elements inner : List OpenPlace) → open_at list place ≡ inner ++ elements
    → level_rows (row_at tokens) (row_at tokens) (length elements) ≡ map (λ p. settled_level (selecting_row d rules p)) (places_of elements)
rows_outwards names rules d list place tokens distinct few plain spells stand [] inner is = refl
rows_outwards names rules d list place tokens distinct few plain spells stand (element ∷ up) inner is =
    ap (λ row. settled_level row ∷ level_rows (row_at tokens) (row_at tokens) (length up))
    (standing_rows names rules d list place tokens inner element up distinct few plain spells stand is ∙ sym (selecting_row_is rules d element.place))
    ∙ ap (λ levels. settled_level (selecting_row d rules element.place) ∷ levels)
    (rows_outwards names rules d list place tokens distinct few plain spells stand up (inner ++ (element ∷ []))
    (is ∙ sym (append_assoc inner (element ∷ []) up)))

-- The rows of all open levels are those of the innermost element and its ancestors.
pub open_rows_are : (names : List (List ℕ)) (rules : List Rule) (d : Doc) (list : List Event) (place : ℕ) (tokens : TokenStack) (element : OpenPlace)
    → StandInside names rules d list place tokens element → open_rows tokens ≡ settled_levels d rules element.place
open_rows_are names rules d list place tokens element stand =
    ap (level_rows (row_at tokens) (row_at tokens)) (open_elements-standing (automata_of names rules).states list place tokens stand.standing ∙ ap length stand.innermost)
    ∙ rows_outwards names rules d list place tokens stand.distinct stand.few_names stand.plain stand.spelled stand.standing (element ∷ stand.around) [] stand.innermost
    ∙ ap (map (λ p. settled_level (selecting_row d rules p))) (places_of-prefixes list place element stand.around stand.innermost)

-- So they give its sign,
pub open_sign : (names : List (List ℕ)) (rules : List Rule) (d : Doc) (list : List Event) (place : ℕ) (tokens : TokenStack) (element : OpenPlace)
    → StandInside names rules d list place tokens element
    → sign_of_levels (automata_of names rules).grants (automata_of names rules).denies (open_rows tokens) ≡ Some (sign d rules element.place)
open_sign names rules d list place tokens element stand =
    ap (sign_of_levels (automata_of names rules).grants (automata_of names rules).denies) (open_rows_are names rules d list place tokens element stand)
    ∙ sign_is d rules element.place stand.few_rules

-- and the rule that an explanation tells.
pub open_rule : (names : List (List ℕ)) (rules : List Rule) (d : Doc) (list : List Event) (place : ℕ) (tokens : TokenStack) (element : OpenPlace)
    → StandInside names rules d list place tokens element
    → rule_of_levels (automata_of names rules).grants (automata_of names rules).denies (open_rows tokens) ≡ (explanation_of d rules element.place).rule
open_rule names rules d list place tokens element stand =
    ap (rule_of_levels (automata_of names rules).grants (automata_of names rules).denies) (open_rows_are names rules d list place tokens element stand)
    ∙ rule_is d rules element.place stand.few_rules

-- ---- rows that may be unsettled

same_bits : (a b : Bool) → (a ≡ true → b ≡ true) → (b ≡ true → a ≡ true) → a ≡ b
same_bits true b there back = sym (there refl)
same_bits false true there back = back refl
same_bits false false there back = refl

-- a row that is made of rows is one row after the other
rows_made : (f : List ℕ → List ℕ) (places : List (List ℕ)) → map settled_level (map f places) ≡ map (λ p. settled_level (f p)) places
rows_made f [] = refl
rows_made f (p ∷ places) = ap (λ levels. settled_level (f p) ∷ levels) (rows_made f places)

module _ (rules : List Rule) (d : Doc) (whole : List OpenPlace) (surely possibly : ℕ → List ℕ) (few : length rules ≤ 256) (stands : Stands rules d whole surely possibly) where
  -- Each row may come to that of the rules that select the element.
  outcomes : (elements inner : List OpenPlace) → whole ≡ inner ++ elements
      → AreOutcomes (level_rows surely possibly (length elements)) (map (selecting_row d rules) (places_of elements))
  outcomes [] inner is = tt
  outcomes (element ∷ up) inner is = (
    record {
      sure = λ n member.
          let selects : does_rule_select rules d n element.place ≡ true = stands.sure inner element up n is member in
          let within : n < length rules = selects_within rules d n element.place selects in
          passes_member (λ k. does_rule_select rules d k element.place) (selecting_row d rules element.place) n (selecting_row_is rules d element.place) (omega (arith, within, few)) selects;
      may = λ n member.
          stands.may inner element up n is
          (member_passes (λ k. does_rule_select rules d k element.place) (selecting_row d rules element.place) n (selecting_row_is rules d element.place) member);
    },
    outcomes up (inner ++ (element ∷ [])) (is ∙ sym (append_assoc inner (element ∷ []) up)),
  )

  -- Where what may select surely does, the row is that of the rules that select the element.
  sure_row : (inner : List OpenPlace) (element : OpenPlace) (up : List OpenPlace) → whole ≡ inner ++ (element ∷ up) → IsInOrder (surely (length (element ∷ up)))
      → surely (length (element ∷ up)) ≡ possibly (length (element ∷ up)) → surely (length (element ∷ up)) ≡ selecting_row d rules element.place
  sure_row inner element up is ordered settled =
      ordered
      ∙ row_of-same (is_member (surely (length (element ∷ up)))) (λ k. does_rule_select rules d k element.place)
      (λ k small. same_bits (is_member (surely (length (element ∷ up))) k) (does_rule_select rules d k element.place)
      (stands.sure inner element up k is)
      (λ selects. ap (λ row. is_member row k) settled ∙ stands.may inner element up k is selects))
      ∙ sym (selecting_row_is rules d element.place)

  -- So are the rows up to the decider, where these are settled.
  settled_to : (grants denies : List ℕ) → ((level : ℕ) → IsInOrder (surely level)) → (elements inner : List OpenPlace) → whole ≡ inner ++ elements
      → IsSettledToDecider grants denies (level_rows surely possibly (length elements))
      → AreSettledToDecider grants denies (level_rows surely possibly (length elements)) (map (selecting_row d rules) (places_of elements))
  settled_to grants denies ordered [] inner is settled = tt
  settled_to grants denies ordered (element ∷ up) inner is settled =
      let levels : List Level = level_rows surely possibly (length up) in
      let rows : List (List ℕ) = map (selecting_row d rules) (places_of up) in
      let same : surely (length (element ∷ up)) ≡ selecting_row d rules element.place = sure_row inner element up is (ordered (length (element ∷ up))) settled.0 in
      let may : possibly (length (element ∷ up)) ≡ selecting_row d rules element.place = sym settled.0 ∙ same in (
        same,
        may,
        subst (λ row. MatchBool (has_rule_of denies row || has_rule_of grants row) (Unit {0}) (AreSettledToDecider grants denies levels rows)) may
            (within (has_rule_of denies (possibly (length (element ∷ up))) || has_rule_of grants (possibly (length (element ∷ up))))
            (IsSettledToDecider grants denies levels) (AreSettledToDecider grants denies levels rows)
            (settled_to grants denies ordered up (inner ++ (element ∷ [])) (is ∙ sym (append_assoc inner (element ∷ []) up))) settled.1),
      )

module _ (rules : List Rule) (d : Doc) (list : List Event) (place : ℕ) (surely possibly : ℕ → List ℕ) (element : OpenPlace)
    (r : RowsStandInside rules d list place surely possibly element) where
  -- the rows of the rules that select the open elements, once settled
  settled_places : map settled_level (map (selecting_row d rules) (places_of (open_at list place))) ≡ settled_levels d rules element.place
  settled_places =
      rows_made (selecting_row d rules) (places_of (open_at list place))
      ∙ ap (λ elements. map (λ p. settled_level (selecting_row d rules p)) (places_of elements)) r.innermost
      ∙ ap (map (λ p. settled_level (selecting_row d rules p))) (places_of-prefixes list place element r.around r.innermost)

  -- A sign that is given is the element's.
  pub rows_sign_holds : (s : Sign) → sign_of_levels (numbers_of_sign Grant rules) (numbers_of_sign Deny rules) (level_rows surely possibly (length (open_at list place))) ≡ Some s → s ≡ sign d rules element.place
  rows_sign_holds s given =
      same_Some s (sign d rules element.place)
      (sym (sign_holds (numbers_of_sign Grant rules) (numbers_of_sign Deny rules) (level_rows surely possibly (length (open_at list place))) (map (selecting_row d rules) (places_of (open_at list place))) s
      (outcomes rules d (open_at list place) surely possibly r.few_rules r.standing (open_at list place) [] refl) given)
      ∙ ap (sign_of_levels (numbers_of_sign Grant rules) (numbers_of_sign Deny rules)) settled_places
      ∙ sign_is d rules element.place r.few_rules)

  given_sign : (o : Option Sign) → is_some o ≡ true → ((s : Sign) → o ≡ Some s → s ≡ sign d rules element.place) → o ≡ Some (sign d rules element.place)
  given_sign None none holds = absurd (true≢false (sym none))
  given_sign (Some s) some holds = ap Some (holds s refl)

  -- One is given once the levels up to the decider are settled,
  pub rows_sign : IsSettledToDecider (numbers_of_sign Grant rules) (numbers_of_sign Deny rules) (level_rows surely possibly (length (open_at list place)))
      → sign_of_levels (numbers_of_sign Grant rules) (numbers_of_sign Deny rules) (level_rows surely possibly (length (open_at list place))) ≡ Some (sign d rules element.place)
  rows_sign settled =
      given_sign (sign_of_levels (numbers_of_sign Grant rules) (numbers_of_sign Deny rules) (level_rows surely possibly (length (open_at list place))))
      (settled_is_given (numbers_of_sign Grant rules) (numbers_of_sign Deny rules) (level_rows surely possibly (length (open_at list place))) settled)
      rows_sign_holds

  -- and then the rule is that of an explanation.
  pub rows_rule : IsSettledToDecider (numbers_of_sign Grant rules) (numbers_of_sign Deny rules) (level_rows surely possibly (length (open_at list place)))
      → rule_of_levels (numbers_of_sign Grant rules) (numbers_of_sign Deny rules) (level_rows surely possibly (length (open_at list place))) ≡ (explanation_of d rules element.place).rule
  rows_rule settled =
      rule_settled (numbers_of_sign Grant rules) (numbers_of_sign Deny rules) (level_rows surely possibly (length (open_at list place))) (map (selecting_row d rules) (places_of (open_at list place)))
      (settled_to rules d (open_at list place) surely possibly r.few_rules r.standing (numbers_of_sign Grant rules) (numbers_of_sign Deny rules) r.in_order (open_at list place) [] refl settled)
      ∙ ap (rule_of_levels (numbers_of_sign Grant rules) (numbers_of_sign Deny rules)) settled_places
      ∙ rule_is d rules element.place r.few_rules
