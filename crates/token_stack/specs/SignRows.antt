-- The sets from which the sign of the innermost open element is computed. Defined by this project.
use Rattle.std.specs.Prelude.{◌≡◌, ◌≤◌, ℕ, zero, suc, true, Some, List, [], ◌∷◌, length}
use Rattle.acl_bits.specs.Row.{row_of, is_member}
use Rattle.acl_model.specs.Limits.{most_names}
use Rattle.acl_model.specs.Dictionary.{are_distinct}
use Rattle.acl_model.specs.declared.document.Doc.{Doc}
use Rattle.acl_model.specs.declared.rule.Rule.{Rule}
use Rattle.acl_walk.specs.Open.{OpenPlace, open_at}
use Rattle.acl_walk.specs.Spelling.{Spells}
use Rattle.acl_walk.specs.declared.event.Event.{Event}
use Rattle.rule_automata.specs.Compile.{automata_of, have_no_predicates}
use Rattle.sign_stack.specs.declared.level.Level.{Level}
use Rattle.token_stack.specs.Invariant.{Stands, row_at}
use Rattle.token_stack.specs.Stack.{TokenStack, open_elements}
use Rattle.token_stack.specs.TokensStand.{TokensStandAt}

-- the sets of so many levels, from the last of them to the root's: the rules that surely select
-- there, and those that may
abbrev pub level_rows : (ℕ → List ℕ) → (ℕ → List ℕ) → ℕ → List Level
level_rows surely possibly zero = []
level_rows surely possibly (suc n) =
    record { sure = surely (suc n); may = possibly (suc n) } ∷ level_rows surely possibly n

-- the sets of all open levels, from the innermost to the root's, all of them settled
abbrev pub open_rows : TokenStack → List Level
open_rows tokens = level_rows (row_at tokens) (row_at tokens) (open_elements tokens)

-- The set is the list of its members in order, numbers from 0 to 255.
abbrev pub IsInOrder : List ℕ → Type 0
IsInOrder row = row ≡ row_of (is_member row)

-- Sets of rules stand inside an element of a document: they are right for the elements that are
-- open at an index of a list, of which this is the innermost one and `around` are the others. There
-- are at most 256 rules, and each sure set is in order.
pub record RowsStandInside (rules : List Rule) (d : Doc) (list : List Event) (place : ℕ)
    (surely possibly : ℕ → List ℕ) (element : OpenPlace) : Type 0 where
  pub few_rules : length rules ≤ 256
  pub standing : Stands rules d (open_at list place) surely possibly
  pub in_order : (level : ℕ) → IsInOrder (surely level)
  pub around : List OpenPlace
  pub innermost : open_at list place ≡ element ∷ around

-- Tokens stand inside an element of a document: at an index of a list that spells the document,
-- where this is the innermost open element and `around` are the others. They are tokens of these
-- rules, compiled with these names. No two names are the same, the rules have no predicates, and
-- there are at most 256 rules and 256 names.
pub record StandInside (names : List (List ℕ)) (rules : List Rule) (d : Doc) (list : List Event)
    (place : ℕ) (tokens : TokenStack) (element : OpenPlace) : Type 0 where
  pub distinct : are_distinct names ≡ true
  pub few_names : length names ≤ most_names
  pub few_rules : length rules ≤ 256
  pub plain : have_no_predicates rules ≡ true
  pub spelled : Spells names (Some d) list
  pub standing : TokensStandAt (automata_of names rules).states list place tokens
  pub around : List OpenPlace
  pub innermost : open_at list place ≡ element ∷ around
