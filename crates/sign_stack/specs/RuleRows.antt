-- The sets of rules that select the elements of a document, and what a level that isn't settled can
-- settle to. Defined by this project.
use Rattle.std.specs.Prelude.{◌≡◌, ◌⊎◌, ℕ, true, false, ◌||◌, List, [], ◌∷◌, map}
use Rattle.std.specs.Bool.{MatchBool}
use Rattle.acl_bits.specs.Row.{is_member}
use Rattle.acl_model.specs.Places.{prefixes}
use Rattle.acl_model.specs.Select.{select}
use Rattle.acl_model.specs.RuleNumbers.{numbers_of}
use Rattle.acl_model.specs.declared.document.Doc.{Doc}
use Rattle.acl_model.specs.declared.rule.Rule.{Rule}
use Rattle.sign_stack.specs.declared.level.Level.{Level}
use Rattle.sign_stack.specs.SignLevels.{has_rule_of}

-- the numbers of the rules that select a place
abbrev pub selecting_row : Doc → List Rule → List ℕ → List ℕ
selecting_row d rules place = numbers_of (λ r. select d r.path place) rules

-- the level at which the rules of the set surely select and no others may
abbrev pub settled_level : List ℕ → Level
settled_level row = record { sure = row; may = row }

-- the levels of the element at a place, of its parent, and so on to the root
abbrev pub settled_levels : Doc → List Rule → List ℕ → List Level
settled_levels d rules place =
    map (λ prefix. settled_level (selecting_row d rules prefix)) (prefixes place)

-- A level can settle to this set: the set contains each rule that surely selects, and only rules that
-- may select.
pub record IsOutcome (level : Level) (row : List ℕ) : Type 0 where
  pub sure : (rule : ℕ) → is_member level.sure rule ≡ true → is_member row rule ≡ true
  pub may : (rule : ℕ) → is_member row rule ≡ true → is_member level.may rule ≡ true

-- There is one set for each level, and each level can settle to its set.
abbrev pub AreOutcomes : List Level → List (List ℕ) → Type 0
AreOutcomes [] [] = Unit {0}
AreOutcomes [] (row ∷ rows) = ⊥
AreOutcomes (level ∷ levels) [] = ⊥
AreOutcomes (level ∷ levels) (row ∷ rows) = IsOutcome level row × AreOutcomes levels rows

-- Some rule may select at the level and doesn't surely.
abbrev pub IsUnsettled : Level → Type 0
IsUnsettled level =
    (rule : ℕ) × (is_member level.may rule ≡ true) × (is_member level.sure rule ≡ false)

-- Some rule of these may select at the level and doesn't surely.
abbrev pub IsUnsettledBy : List ℕ → Level → Type 0
IsUnsettledBy rules level =
    (rule : ℕ) × (is_member rules rule ≡ true)
    × (is_member level.may rule ≡ true) × (is_member level.sure rule ≡ false)

-- There is a level at which some of these rules may select, and at the innermost such level some of
-- them may select and doesn't surely.
abbrev pub IsUndecided : List ℕ → List ℕ → List Level → Type 0
IsUndecided grants denies [] = ⊥
IsUndecided grants denies (level ∷ levels) =
    MatchBool (has_rule_of denies level.may || has_rule_of grants level.may)
    (IsUnsettledBy denies level ⊎ IsUnsettledBy grants level)
    (IsUndecided grants denies levels)

-- There is one set for each level up to the first at which one of these rules selects, counted from the
-- innermost level. Each of these levels has settled to its set.
abbrev pub AreSettledToDecider : List ℕ → List ℕ → List Level → List (List ℕ) → Type 0
AreSettledToDecider grants denies [] [] = Unit {0}
AreSettledToDecider grants denies [] (row ∷ rows) = ⊥
AreSettledToDecider grants denies (level ∷ levels) [] = ⊥
AreSettledToDecider grants denies (level ∷ levels) (row ∷ rows) =
    (level.sure ≡ row) × (level.may ≡ row)
    × MatchBool (has_rule_of denies row || has_rule_of grants row)
    (Unit {0})
    (AreSettledToDecider grants denies levels rows)

-- From the innermost level up to the first at which one of these rules may select, each rule that
-- may select surely does. The levels around that one may be unsettled.
abbrev pub IsSettledToDecider : List ℕ → List ℕ → List Level → Type 0
IsSettledToDecider grants denies [] = Unit {0}
IsSettledToDecider grants denies (level ∷ levels) =
    (level.sure ≡ level.may)
    × MatchBool (has_rule_of denies level.may || has_rule_of grants level.may)
    (Unit {0})
    (IsSettledToDecider grants denies levels)
