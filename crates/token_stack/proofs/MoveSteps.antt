-- Entries move to a child one after another.
use Rattle.std.proofs.Common.{◌≡◌, ℕ, zero, suc, ◌+◌, ◌-◌, ◌*◌, ◌<◌, ◌≤◌, Bool, true, false, cond, ◌&&◌, ◌||◌, Option, Some, None, List, [], ◌∷◌, ◌++◌, length, length-append, length-drop, get_or, take, drop, drop-cons, add-one, option_to_list, refl, ap, sym, ◌∙◌, arith}
use Rattle.std.specs.List.{slice_get}
use Rattle.std.specs.Option.{option_map, is_some}
use Rattle.std.proofs.lemmas.List.{drop_all, append-nil, append_assoc, take-append-le, get_or-take}
use Rattle.rule_automata.specs.declared.state.State.{State}
use Rattle.token_stack.specs.declared.entry.Entry.{Entry}
use Rattle.rule_automata.specs.Run.{begun}
use Rattle.token_stack.specs.Stand.{entries_from}
use Rattle.token_stack.specs.Entries.{waiting_entry, entry_made, passed_entry, own_entry, next_state, entries_below}

-- the entries from place i on, by the one there and those after it
pub below-drop : (states : List State) (tag : ℕ) (next : Option ℕ) (es : List Entry) (i : ℕ) (e : Entry) → i < length es → e ≡ get_or es i e
    → entries_below states tag next (drop i es)
    ≡ option_to_list (passed_entry next e.state) ++ (option_to_list (own_entry (slice_get states e.state) tag next e) ++ entries_below states tag (next_state (slice_get states e.state) tag e) (drop (i + 1) es))
below-drop states tag next es i e inside is =
    ap (entries_below states tag next) (drop-cons es i e inside)
    ∙ ap (λ x. entries_below states tag next (x ∷ drop (suc i) es)) (sym is)
    ∙ ap (λ n. entries_below states tag next (e ∷ drop n es)) (sym (add-one i))

pub below-drop_all : (states : List State) (tag : ℕ) (next : Option ℕ) (es : List Entry) (i : ℕ) → length es ≤ i → entries_below states tag next (drop i es) ≡ option_to_list (option_map waiting_entry next)
below-drop_all states tag next es i past = ap (entries_below states tag next) (drop_all i es past)

-- ---- one turn of the loop, where `items` begin with `old`

abbrev passed : List State → Option ℕ → Entry → List Entry
passed states next e = option_to_list (passed_entry next e.state)

abbrev own : List State → ℕ → Option ℕ → Entry → List Entry
own states tag next e = option_to_list (own_entry (slice_get states e.state) tag next e)

-- the entry that is read is one of the old ones
read_old : (old items : List Entry) (i : ℕ) (e : Entry) → take (length old) items ≡ old → i < length old → e ≡ get_or items i e → e ≡ get_or old i e
read_old old items i e kept inside is = is ∙ sym (get_or-take (length old) items i e inside) ∙ ap (λ xs. get_or xs i e) kept

-- what was added, by this entry and what is left
pub turn_way : (states : List State) (tag : ℕ) (next : Option ℕ) (old items all : List Entry) (i : ℕ) (e : Entry)
    → take (length old) items ≡ old → i < length old → e ≡ get_or items i e → items ++ entries_below states tag next (drop i old) ≡ all
    → ((items ++ passed states next e) ++ own states tag next e) ++ entries_below states tag (next_state (slice_get states e.state) tag e) (drop (i + 1) old) ≡ all
turn_way states tag next old items all i e kept inside is way =
    append_assoc (items ++ passed states next e) (own states tag next e) (entries_below states tag (next_state (slice_get states e.state) tag e) (drop (i + 1) old))
    ∙ append_assoc items (passed states next e) (own states tag next e ++ entries_below states tag (next_state (slice_get states e.state) tag e) (drop (i + 1) old))
    ∙ ap (λ rest. items ++ rest) (sym (below-drop states tag next old i e inside (read_old old items i e kept inside is)))
    ∙ way

-- the same for what the code has put: `first` with the next state's entry, `second` with this state's
pub turn_done : (states : List State) (tag : ℕ) (next after : Option ℕ) (old items first second all : List Entry) (i : ℕ) (e : Entry) (p o : Option Entry)
    → take (length old) items ≡ old → i < length old → e ≡ get_or items i e
    → p ≡ passed_entry next e.state → first ≡ items ++ option_to_list p
    → o ≡ own_entry (slice_get states e.state) tag next e → second ≡ first ++ option_to_list o
    → after ≡ next_state (slice_get states e.state) tag e
    → items ++ entries_below states tag next (drop i old) ≡ all → second ++ entries_below states tag after (drop (i + 1) old) ≡ all
turn_done states tag next after old items first second all i e p o kept inside is passed_is first_is own_is second_is after_is way =
    ap (λ n. second ++ entries_below states tag n (drop (i + 1) old)) after_is
    ∙ ap (λ xs. xs ++ entries_below states tag (next_state (slice_get states e.state) tag e) (drop (i + 1) old))
    (second_is ∙ ap (λ x. first ++ option_to_list x) own_is ∙ ap (λ xs. xs ++ own states tag next e) (first_is ∙ ap (λ x. items ++ option_to_list x) passed_is))
    ∙ turn_way states tag next old items all i e kept inside is way

-- there is room for the second
pub turn_room : (first xs rest all : List Entry) (n : ℕ) → (first ++ xs) ++ rest ≡ all → length all ≤ n → length first + length xs ≤ n
turn_room first xs rest all n way room =
    let whole : length ((first ++ xs) ++ rest) ≡ length all = ap length way in
    let outer : length ((first ++ xs) ++ rest) ≡ length (first ++ xs) + length rest = length-append (first ++ xs) rest in
    let inner : length (first ++ xs) ≡ length first + length xs = length-append first xs in
    omega arith

-- the old ones stay in prefix
pub prefix_kept : (old items more : List Entry) → length old ≤ length items → take (length old) items ≡ old → take (length old) (items ++ more) ≡ old
prefix_kept old items more long kept = take-append-le (length old) items more long ∙ kept

pub ruleset move_steps = (below-drop, below-drop_all, append_assoc, append-nil, length-append)

-- ---- at the virtual root

made_first : (b : Bool) (e : Entry) (es : List Entry) → cond b (e ∷ es) es ≡ option_to_list (cond b (Some e) None) ++ es
made_first true e es = refl
made_first false e es = refl

-- the entries from state i on, by that of state i and those after it
pub begun-drop : (is_first : Bool) (states : List State) (i : ℕ) (s : State) → i < length states → s ≡ get_or states i s
    → entries_from i (begun is_first (drop i states)) ≡ option_to_list (entry_made i is_first None) ++ entries_from (i + 1) (begun (is_some s.ends) (drop (i + 1) states))
begun-drop is_first states i s inside is =
    ap (λ rest. entries_from i (begun is_first rest)) (drop-cons states i s inside)
    ∙ ap (λ t. entries_from i (begun is_first (t ∷ drop (suc i) states))) (sym is)
    ∙ ap (λ n. entries_from i (begun is_first (s ∷ drop n states))) (sym (add-one i))
    ∙ made_first (is_first || false) (record { state = i; waits = is_first; selects = None }) (entries_from (i + 1) (begun (is_some s.ends) (drop (i + 1) states)))

pub begun-drop_all : (is_first : Bool) (states : List State) (i : ℕ) → length states ≤ i → entries_from i (begun is_first (drop i states)) ≡ []
begun-drop_all is_first states i past = ap (λ rest. entries_from i (begun is_first rest)) (drop_all i states past)

-- no more entries than states
pub begun-length : (is_first : Bool) (states : List State) (n : ℕ) → length (entries_from n (begun is_first states)) ≤ length states
begun-length is_first [] n = omega arith
begun-length is_first (s ∷ states) n =
    let rest : length (entries_from (n + 1) (begun (is_some s.ends) states)) ≤ length states = begun-length (is_some s.ends) states (n + 1) in
    elim (is_first || false) as (λ b. length (cond b (record { state = n; waits = is_first; selects = None } ∷ entries_from (n + 1) (begun (is_some s.ends) states)) (entries_from (n + 1) (begun (is_some s.ends) states))) ≤ suc (length states)) [
      | true ↦ omega arith
      | false ↦ omega arith
    ]

own_length : (is_first : Bool) (states : List State) (i : ℕ) → 0 < length states → length (option_to_list (entry_made i is_first None)) ≤ length (entries_from i (begun is_first states))
own_length is_first [] i some = absurd (omega arith)
own_length true (s ∷ states) i some = omega arith
own_length false (s ∷ states) i some = omega arith

-- there is room for what comes
pub begun-room : (states : List State) (is_first : Bool) (old items : List Entry) (i room : ℕ) → i < length states
    → items ++ entries_from i (begun is_first (drop i states)) ≡ old ++ entries_from 0 (begun true states) → length old + length states ≤ room
    → length items + length (option_to_list (entry_made i is_first None)) ≤ room
begun-room states is_first old items i room inside way fits =
    let rest : List Entry = entries_from i (begun is_first (drop i states)) in
    let left : length (drop i states) ≡ length states - i = length-drop i states in
    let own : length (option_to_list (entry_made i is_first None)) ≤ length rest = own_length is_first (drop i states) i (omega arith) in
    let so_far : length (items ++ rest) ≡ length items + length rest = length-append items rest in
    let all : length (old ++ entries_from 0 (begun true states)) ≡ length old + length (entries_from 0 (begun true states)) = length-append old (entries_from 0 (begun true states)) in
    let same : length (items ++ rest) ≡ length (old ++ entries_from 0 (begun true states)) = ap length way in
    let few : length (entries_from 0 (begun true states)) ≤ length states = begun-length true states 0 in
    omega arith

pub ruleset begun_steps = (begun-drop, begun-drop_all, begun-length, append_assoc, append-nil, length-append)
