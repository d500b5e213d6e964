-- The rows of standing tokens stand for the open elements.
use Rattle.std.proofs.Common.{◌≡◌, ◌≤◌, ◌<◌, ℕ, zero, suc, Bool, true, Some, List, [], ◌∷◌, length, inl, inr, ap, sym, ◌∙◌, arith}
use Rattle.std.proofs.lemmas.Bool.{cases_lt, true≢false}
use Rattle.acl_bits.specs.Row.{row_of, is_member}
use Rattle.acl_bits.specs.inside.RowLaws.{is_member-row_of, is_member-row_of_past}
use Rattle.acl_model.specs.Dictionary.{are_distinct}
use Rattle.acl_model.specs.declared.document.Doc.{Doc}
use Rattle.acl_model.specs.declared.rule.Rule.{Rule}
use Rattle.acl_walk.specs.Open.{open_at}
use Rattle.acl_walk.specs.Spelling.{Spells}
use Rattle.acl_walk.specs.declared.event.Event.{Event}
use Rattle.rule_automata.specs.Compile.{automata_of, have_no_predicates}
use Rattle.token_stack.specs.Invariant.{does_rule_select, Stands, row_at}
use Rattle.token_stack.specs.Stack.{TokenStack}
use Rattle.token_stack.specs.TokensStand.{TokensStandAt}
use Rattle.token_stack.proofs.FeedLaws.{standing_rows}

-- a number in the set of a test passes it
pub member_passes : (p : ℕ → Bool) (row : List ℕ) (n : ℕ) → row ≡ row_of p → is_member row n ≡ true → p n ≡ true
member_passes p row n is member = elim (cases_lt n 256) [
  | inl small ↦ sym (is_member-row_of p n small) ∙ ap (λ xs. is_member xs n) (sym is) ∙ member
  | inr past ↦ absurd (true≢false (sym member ∙ ap (λ xs. is_member xs n) is ∙ is_member-row_of_past p n past))
]

-- a number below 256 that passes is in the set
pub passes_member : (p : ℕ → Bool) (row : List ℕ) (n : ℕ) → row ≡ row_of p → n < 256 → p n ≡ true → is_member row n ≡ true
passes_member p row n is small passed = ap (λ xs. is_member xs n) is ∙ is_member-row_of p n small ∙ passed

-- a rule that selects is one of the rules
pub selects_within : (rules : List Rule) (d : Doc) (n : ℕ) (place : List ℕ) → does_rule_select rules d n place ≡ true → n < length rules
selects_within [] d n place selects = absurd (true≢false (sym selects))
selects_within (r ∷ rules) d zero place selects = omega arith
selects_within (r ∷ rules) d (suc n) place selects = let inside : n < length rules = selects_within rules d n place selects in omega (arith, inside)

-- The rows of standing tokens have just the rules that select.
pub standing_stands : (names : List (List ℕ)) (rules : List Rule) (d : Doc) (list : List Event) (place : ℕ) (tokens : TokenStack) → are_distinct names ≡ true → length names ≤ 256
    → length rules ≤ 256 → have_no_predicates rules ≡ true → Spells names (Some d) list → TokensStandAt (automata_of names rules).states list place tokens
    → Stands rules d (open_at list place) (row_at tokens) (row_at tokens)
standing_stands names rules d list place tokens distinct few_names few_rules plain spells stand = record {
  sure = λ inner element up n is member.
      member_passes (λ k. does_rule_select rules d k element.place) (row_at tokens (length (element ∷ up))) n
      (standing_rows names rules d list place tokens inner element up distinct few_names plain spells stand is) member;
  may = λ inner element up n is selects.
      passes_member (λ k. does_rule_select rules d k element.place) (row_at tokens (length (element ∷ up))) n
      (standing_rows names rules d list place tokens inner element up distinct few_names plain spells stand is)
      (let within : n < length rules = selects_within rules d n element.place selects in omega (arith, within, few_rules)) selects;
}
