-- The model of tokens: the entries of each level, the virtual root's first. Defined by this
-- project.
use Rattle.std.specs.Prelude.{ℕ, zero, suc, ◌+◌, ◌-◌, Bool, nat_eq, nat_le, ◌&&◌, List, [], ◌∷◌, length, unwrap_or, slice_index}
use Rattle.std.specs.List.{list_all, slice_get, slice_range}
use Rattle.token_stack.specs.declared.entry.Entry.{Entry}
use Rattle.token_stack.specs.Entries.{are_states_from}

-- The number of states of the tables, the number of elements that may be open, and the entries at
-- the virtual root, at the document's root, and so on to the innermost open element.
pub record TokenStack : Type 0 where
  pub states : ℕ
  pub depth : ℕ
  pub levels : List (List Entry)

-- how many elements are open
abbrev pub open_elements : TokenStack → ℕ
open_elements tokens = length tokens.levels - 1

-- The entries of a level: at the root, level 1, and so on inward. There are none past the innermost.
abbrev pub entries_at : List (List Entry) → ℕ → List Entry
entries_at levels zero = []
entries_at levels (suc k) = unwrap_or (slice_get levels (suc k)) []

-- the entries at the innermost open element, or at the virtual root
abbrev pub innermost : List (List Entry) → List Entry
innermost levels = unwrap_or (slice_get levels (length levels - 1)) []

-- how many entries there are
abbrev pub entry_count : List (List Entry) → ℕ
entry_count [] = 0
entry_count (es ∷ levels) = length es + entry_count levels

-- No two entries of a level have the same state, and each state is one of the tables'.
abbrev pub are_levels : ℕ → List (List Entry) → Bool
are_levels states levels = list_all (are_states_from 0 states) levels

-- ---- entries in one piece of memory

-- the levels, where the first begins at `start` and each ends where the next begins
abbrev pub levels_cut : ℕ → List ℕ → List Entry → List (List Entry)
levels_cut start [] es = []
levels_cut start (end ∷ ends) es = slice_range es start end ∷ levels_cut end ends es

-- Each level ends after its start, and the last where the entries do.
abbrev pub are_ends : ℕ → List ℕ → ℕ → Bool
are_ends start [] total = nat_eq start total
are_ends start (end ∷ ends) total = nat_le start end && are_ends end ends total

-- where a level begins
abbrev pub start_of : List ℕ → ℕ → ℕ
start_of ends zero = 0
start_of ends (suc k) = slice_index ends k
