-- The invariant of tokens in memory. Defined by this project.
use Rattle.std.specs.Prelude.{◌≡◌, ℕ, ◌+◌, ◌*◌, ◌^◌, ◌<◌, ◌≤◌, true, List, length}
use Rattle.token_stack.specs.declared.entry.Entry.{Entry}
use Rattle.token_stack.specs.Stack.{are_ends, are_levels, levels_cut}

-- The entries of each level follow those of the level before, with each state at most once. There
-- is room for all states at `depth` open elements and at the virtual root.
pub record AreTokens (states depth : ℕ) (ends : List ℕ) (entries : List Entry)
    (ends_room entries_room : ℕ) : Type 0 where
  pub few : states ≤ 256
  pub short : depth < 2 ^ 16
  pub some : 1 ≤ length ends
  pub within : length ends ≤ depth + 1
  pub cut : are_ends 0 ends (length entries) ≡ true
  pub rising : are_levels states (levels_cut 0 ends entries) ≡ true
  pub for_ends : depth + 1 ≤ ends_room
  pub for_entries : (depth + 1) * states ≤ entries_room
