-- When tokens stand for the tags of the open elements.
use Rattle.std.specs.Prelude.{ℕ, ◌+◌, is_some, ◌||◌, List, [], ◌∷◌, ◌++◌, if◌then◌else◌}
use Rattle.rule_automata.specs.Run.{Standing, run}
use Rattle.rule_automata.specs.declared.state.State.{State}
use Rattle.token_stack.specs.declared.entry.Entry.{Entry}
use Rattle.token_stack.specs.Entries.{rules_of}
use Rattle.token_stack.specs.Stack.{entries_at}

-- The entries of states, where the first state has this number: one for each state that waits or
-- with which a rule selects.
abbrev pub entries_from : ℕ → List Standing → List Entry
entries_from n [] = []
entries_from n (m ∷ row) =
    if m.waits || is_some m.selects
    then record { state = n; waits = m.waits; selects = m.selects } ∷ entries_from (n + 1) row
    else entries_from (n + 1) row

-- the entries at an element, from its tag, its parent's tag, and so on to the root's; with no tag,
-- those at the virtual root
abbrev pub entries_after : List State → List ℕ → List Entry
entries_after states tags = entries_from 0 (run states tags)

-- the entries of each level, the virtual root's first, by the tags of the open elements, the
-- innermost first
abbrev pub levels_after : List State → List ℕ → List (List Entry)
levels_after states [] = entries_after states [] ∷ []
levels_after states (tag ∷ up) = levels_after states up ++ (entries_after states (tag ∷ up) ∷ [])

-- the rules that select the open element of a level, by the tags of all open elements
abbrev pub row_after : List State → List ℕ → ℕ → List ℕ
row_after states tags level = rules_of (entries_at (levels_after states tags) level)
