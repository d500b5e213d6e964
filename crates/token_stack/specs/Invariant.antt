-- What sets of rules say about the open elements, however tokens compute them. Defined by this
-- project.
use Rattle.std.specs.Prelude.{◌≡◌, ℕ, Bool, true, false, List, ◌∷◌, ◌++◌, length}
use Rattle.std.specs.List.{slice_get}
use Rattle.std.specs.Option.{option_map_or}
use Rattle.acl_bits.specs.Row.{is_member}
use Rattle.acl_model.specs.Select.{select}
use Rattle.acl_model.specs.declared.document.Doc.{Doc}
use Rattle.acl_model.specs.declared.rule.Rule.{Rule}
use Rattle.acl_walk.specs.Open.{OpenPlace}
use Rattle.token_stack.specs.Entries.{rules_of}
use Rattle.token_stack.specs.Stack.{TokenStack, entries_at}

-- The rule of this number is one of the rules, and its path selects the place.
abbrev pub does_rule_select : List Rule → Doc → ℕ → List ℕ → Bool
does_rule_select rules d n place =
    option_map_or (λ r. select d r.path place) (slice_get rules n) false

-- Sets of sure and of possible rules for each level, from 1 at the root, are right for these open
-- elements, the innermost first. Each rule in the sure set of a level selects its element, and each
-- rule that selects it is in the possible set. The level of an element is how many elements are
-- open from it outwards.
pub record Stands (rules : List Rule) (d : Doc) (elements : List OpenPlace)
    (surely possibly : ℕ → List ℕ) : Type 0 where
  pub sure : (inner : List OpenPlace) (element : OpenPlace) (up : List OpenPlace) (n : ℕ)
      → elements ≡ inner ++ (element ∷ up)
      → is_member (surely (length (element ∷ up))) n ≡ true
      → does_rule_select rules d n element.place ≡ true
  pub may : (inner : List OpenPlace) (element : OpenPlace) (up : List OpenPlace) (n : ℕ)
      → elements ≡ inner ++ (element ∷ up)
      → does_rule_select rules d n element.place ≡ true
      → is_member (possibly (length (element ∷ up))) n ≡ true

-- the rules that tokens have at a level
abbrev pub row_at : TokenStack → ℕ → List ℕ
row_at tokens level = rules_of (entries_at tokens.levels level)
