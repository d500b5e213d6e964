-- The map from names to numbers that a dictionary keeps beside its list of names. Defined by this project.
use Rattle.std.specs.Prelude.{◌≡◌, ℕ, ◌≤◌, nat_eq, true, Option, Vec, List, length}
use Rattle.std.specs.Cmp.Lexicographic.{pointwise}
use Rattle.std.specs.List.{list_all}
use Rattle.std.specs.HashMap.{HashMap, get_by}
use Rattle.acl_model.specs.Limits.{most_names}
use Rattle.acl_model.specs.Names.{is_name}
use Rattle.acl_model.specs.Dictionary.{name_number, are_distinct}

-- the number that the map has for a name, if any
abbrev pub number_in : {A H : Type 0} → HashMap (Vec ℕ A) ℕ H → List ℕ → Option ℕ
number_in numbers name = get_by (λ key. pointwise nat_eq name key.items) numbers

-- The map has the number of each name, and no other entry. There are at most 256 names, all have the form of a name, and
-- no two are equal.
pub record IsIndex {A H : Type 0} (numbers : HashMap (Vec ℕ A) ℕ H) (names : List (List ℕ)) : Type 0 where
  pub numbered : (name : List ℕ) → number_in numbers name ≡ name_number names name
  pub few : length names ≤ most_names
  pub apart : are_distinct names ≡ true
  pub named : list_all is_name names ≡ true
