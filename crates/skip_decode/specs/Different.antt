-- How many different numbers a list has. Defined by this project.
use Rattle.std.specs.Prelude.{ℕ, suc, nat_eq, if◌then◌else◌, List, [], ◌∷◌}
use Rattle.std.specs.List.{list_any}

-- How many different numbers a list has: each number counts, unless it stands in the list once more after it.
unfoldable pub different : List ℕ → ℕ
different [] = 0
different (n ∷ more) = if list_any (nat_eq n) more then different more else suc (different more)
