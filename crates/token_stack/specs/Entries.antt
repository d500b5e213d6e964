-- The entries at an element: its active states, each once and in order, and how they change at a
-- child (VLDB 2004: tokens). Defined by this project.
use Rattle.std.specs.Prelude.{ℕ, ◌+◌, Bool, true, false, is_some, nat_eq, nat_le, nat_lt, ◌&&◌, ◌||◌, Option, Some, None, List, [], ◌∷◌, ◌++◌, option_to_list, if◌then◌else◌}
use Rattle.std.specs.List.{list_any, slice_get}
use Rattle.std.specs.Option.{option_map, option_map_or}
use Rattle.acl_bits.specs.Row.{row_of}
use Rattle.rule_automata.specs.Run.{waits_below, is_taken, selected_rule, goes_on, is_rule}
use Rattle.rule_automata.specs.declared.state.State.{State}
use Rattle.token_stack.specs.declared.entry.Entry.{Entry}

-- The numbers of the states rise: each is from `low` on, and below `top`.
abbrev pub are_states_from : ℕ → ℕ → List Entry → Bool
are_states_from low top [] = true
are_states_from low top (e ∷ es) =
    nat_le low e.state && nat_lt e.state top && are_states_from (e.state + 1) top es

-- ---- from an element to a child

-- a state that waits, and by which no rule selects
abbrev pub waiting_entry : ℕ → Entry
waiting_entry state = record { state = state; waits = true; selects = None }

-- The next state is this one.
abbrev pub is_next : Option ℕ → ℕ → Bool
is_next next state = option_map_or (λ n. nat_eq n state) next false

-- the entry of the next state, if that waits and isn't this one
abbrev pub passed_entry : Option ℕ → ℕ → Option Entry
passed_entry next state = if is_next next state then None else option_map waiting_entry next

-- the entry of a state, if it waits or a rule selects with it
abbrev pub entry_made : ℕ → Bool → Option ℕ → Option Entry
entry_made state waits selects =
    if waits || is_some selects
    then Some (record { state = state; waits = waits; selects = selects })
    else None

-- the entry of a state at a child with this tag, from its entry at the parent
abbrev pub own_entry : Option State → ℕ → Option ℕ → Entry → Option Entry
own_entry None tag next e = None
own_entry (Some s) tag next e =
    entry_made e.state
    (waits_below s.axis (is_next next e.state) e.waits)
    (selected_rule s (is_taken s e.waits tag))

-- the state after it, where its step is taken there and doesn't end its rule
abbrev pub next_state : Option State → ℕ → Entry → Option ℕ
next_state None tag e = None
next_state (Some s) tag e =
    if goes_on s.ends (is_taken s e.waits tag) then Some (e.state + 1) else None

-- The entries at a child with this tag, from those at its parent. `next` is the state whose step
-- before was just taken.
abbrev pub entries_below : List State → ℕ → Option ℕ → List Entry → List Entry
entries_below states tag next [] = option_to_list (option_map waiting_entry next)
entries_below states tag next (e ∷ es) =
    option_to_list (passed_entry next e.state)
    ++ (option_to_list (own_entry (slice_get states e.state) tag next e)
    ++ entries_below states tag (next_state (slice_get states e.state) tag e) es)

-- ---- what entries say

-- the rules that select the element, from its entries
abbrev pub rules_of : List Entry → List ℕ
rules_of es = row_of (λ rule. list_any (λ e. is_rule rule e.selects) es)
