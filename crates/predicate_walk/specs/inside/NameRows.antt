-- The tables of a walk. For each name in a step, its row says which states have a step that passes
-- the name. Defined by this project.
use Rattle.std.specs.Prelude.{◌≡◌, ℕ, Bool, nat_eq, Option, Some, None, is_some, Vec, List, if◌then◌else◌}
use Rattle.std.specs.Cmp.Lexicographic.{pointwise}
use Rattle.std.specs.HashMap.{HashMap, get_by}
use Rattle.std.specs.Option.{unwrap_or}
use Rattle.acl_model.specs.declared.path.Pred.{Pred}
use Rattle.predicate_walk.specs.inside.States.{tests_of, deep_of, is_named_in}
use Rattle.predicate_walk.specs.inside.KeptTexts.{needs_texts}

-- the row that the map has for a name, if it has one
abbrev pub row_in : {A H : Type 0} → HashMap (Vec ℕ A) (List Bool) H → List ℕ
    → Option (List Bool)
row_in rows name = get_by (λ key. pointwise nat_eq name key.items) rows

-- Each row in the map is that of its name.
pub record AreRows {A H : Type 0} (preds : List Pred) (rows : HashMap (Vec ℕ A) (List Bool) H)
    : Type 0 where
  pub right : (name : List ℕ) → row_in rows name
      ≡ (if is_some (row_in rows name) then Some (tests_of name preds) else None)

-- From `old` to `new`: each name that passes `is_named` has its row, and each other name has what it
-- had.
pub record AddsRows {A H : Type 0} (preds : List Pred) (is_named : List ℕ → Bool)
    (old new : HashMap (Vec ℕ A) (List Bool) H) : Type 0 where
  pub added : (name : List ℕ) → row_in new name
      ≡ (if is_named name then Some (tests_of name preds) else row_in old name)

-- The names in steps of the predicates have their rows, and no other name has one.
pub record AreAllRows {A H : Type 0} (preds : List Pred) (rows : HashMap (Vec ℕ A) (List Bool) H)
    : Type 0 where
  pub all : (name : List ℕ) → row_in rows name
      ≡ (if is_named_in preds name then Some (tests_of name preds) else None)

-- The tables of a walk. `deep` says which states have a step to the descendants. `named` has the rows
-- of names, and `others` is the row of each name that is not in `named`. `texts` says whether texts
-- are needed.
pub record IsMachine {A H : Type 0} (preds : List Pred) (deep : List Bool)
    (named : HashMap (Vec ℕ A) (List Bool) H) (others : List Bool) (texts : Bool) : Type 0 where
  pub deep_is : deep ≡ deep_of preds
  pub tests_are : (name : List ℕ) → unwrap_or (row_in named name) others ≡ tests_of name preds
  pub texts_are : texts ≡ needs_texts preds
