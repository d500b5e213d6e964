-- The entries at a child have rising states, as those at its parent do.
use Rattle.std.proofs.Common.{◌≡◌, ℕ, zero, suc, ◌+◌, ◌<◌, ◌≤◌, Bool, true, false, cond, not, ◌&&◌, Option, Some, None, List, [], ◌∷◌, ◌++◌, length, refl, ap, sym, ◌∙◌, arith, nat_eq, nat_le, nat_lt, option_to_list}
use Rattle.std.specs.Cmp.{first_so, second_so}
use Rattle.std.specs.List.{slice_get}
use Rattle.std.specs.Option.{is_none, option_map}
use Rattle.std.proofs.lemmas.Bool.{true≢false, leb-true, ltb-true, le-leb, lt-ltb}
use Rattle.std.proofs.lemmas.Bool.Decides.{nat_tests}
use Rattle.std.proofs.lemmas.Option.{same_Some}
use Rattle.rule_automata.specs.declared.state.State.{State}
use Rattle.rule_automata.specs.Compile.{is_closed}
use Rattle.rule_automata.specs.Run.{waits_below, is_taken, selected_rule, goes_on}
use Rattle.token_stack.specs.declared.entry.Entry.{Entry}
use Rattle.token_stack.specs.Entries.{are_states_from, waiting_entry, is_next, passed_entry, entry_made, own_entry, next_state, entries_below}
use Rattle.token_stack.proofs.CutLaws.{none_is_not_some, both}

-- a state that doesn't end its rule has one after it
pub goes_further : (states : List State) (begun : Bool) (k : ℕ) (s : State) → is_closed begun states ≡ true → slice_get states k ≡ Some s → s.ends ≡ None → k + 1 < length states
goes_further [] begun k s closed found goes = absurd (none_is_not_some s found)
goes_further (x ∷ []) begun zero s closed found goes =
    absurd (true≢false (sym closed ∙ ap (λ t. not (is_none t.ends)) (same_Some x s found) ∙ ap (λ o. not (is_none o)) goes))
goes_further (x ∷ y ∷ states) begun zero s closed found goes = omega arith
goes_further (x ∷ states) begun (suc k) s closed found goes = let rest : k + 1 < length states = goes_further states (is_none x.ends) k s closed found goes in omega arith

-- The next state, if there is one, is the lowest that may come.
abbrev pub NextFits : ℕ → ℕ → Option ℕ → Type 0
NextFits low top None = Unit {0}
NextFits low top (Some n) = (n ≡ low) × (low < top)

next_by : (low top : ℕ) (ends : Option ℕ) (taken : Bool) → (ends ≡ None → low < top) → NextFits low top (cond (goes_on ends taken) (Some low) None)
next_by low top None true below = (refl, below refl)
next_by low top None false below = tt
next_by low top (Some rule) taken below = tt

next_fits : (states : List State) (tag : ℕ) (e : Entry) (o : Option State) → is_closed false states ≡ true → slice_get states e.state ≡ o → NextFits (e.state + 1) (length states) (next_state o tag e)
next_fits states tag e None closed found = tt
next_fits states tag e (Some s) closed found = next_by (e.state + 1) (length states) s.ends (is_taken s e.waits tag) (λ goes. goes_further states false e.state s closed found goes)

-- states that rise from a number on rise from a lower one
pub lower : (a b top : ℕ) (es : List Entry) → b ≤ a → are_states_from a top es ≡ true → are_states_from b top es ≡ true
lower a b top [] less rising = refl
lower a b top (e ∷ es) less rising =
    let prefix : (nat_le a e.state && nat_lt e.state top) ≡ true = first_so (nat_le a e.state && nat_lt e.state top) (are_states_from (e.state + 1) top es) rising in
    both (nat_le b e.state && nat_lt e.state top) (are_states_from (e.state + 1) top es)
    (both (nat_le b e.state) (nat_lt e.state top) (le-leb b e.state (omega (arith, leb-true a e.state (first_so (nat_le a e.state) (nat_lt e.state top) prefix)))) (second_so (nat_le a e.state) (nat_lt e.state top) prefix))
    (second_so (nat_le a e.state && nat_lt e.state top) (are_states_from (e.state + 1) top es) rising)

-- one entry before those that rise after it
pub put_before : (low top : ℕ) (e : Entry) (es : List Entry) → low ≤ e.state → e.state < top → are_states_from (e.state + 1) top es ≡ true → are_states_from low top (e ∷ es) ≡ true
put_before low top e es from below rising =
    both (nat_le low e.state && nat_lt e.state top) (are_states_from (e.state + 1) top es) (both (nat_le low e.state) (nat_lt e.state top) (le-leb low e.state from) (lt-ltb e.state top below)) rising

made_rises : (k top : ℕ) (waits : Bool) (selects : Option ℕ) (es : List Entry) → k < top → are_states_from (k + 1) top es ≡ true → are_states_from k top (option_to_list (entry_made k waits selects) ++ es) ≡ true
made_rises k top true selects es below rising = put_before k top (record { state = k; waits = true; selects = selects }) es (omega arith) below rising
made_rises k top false None es below rising = lower (k + 1) k top es (omega arith) rising
made_rises k top false (Some rule) es below rising = put_before k top (record { state = k; waits = false; selects = Some rule }) es (omega arith) below rising

own_rises : (o : Option State) (tag : ℕ) (next : Option ℕ) (e : Entry) (top : ℕ) (es : List Entry) → e.state < top → are_states_from (e.state + 1) top es ≡ true
    → are_states_from e.state top (option_to_list (own_entry o tag next e) ++ es) ≡ true
own_rises None tag next e top es below rising = lower (e.state + 1) e.state top es (omega arith) rising
own_rises (Some s) tag next e top es below rising = made_rises e.state top (waits_below s.axis (is_next next e.state) e.waits) (selected_rule s (is_taken s e.waits tag)) es below rising

passed_rises : (next : Option ℕ) (low top k : ℕ) (es : List Entry) → NextFits low top next → low ≤ k → are_states_from k top es ≡ true → are_states_from low top (option_to_list (passed_entry next k) ++ es) ≡ true
passed_rises None low top k es fits from rising = lower k low top es from rising
passed_rises (Some n) low top k es fits from rising =
    elim (nat_eq n k) as (λ b. nat_eq n k ≡ b → are_states_from low top (option_to_list (cond b None (Some (waiting_entry n))) ++ es) ≡ true) [
      | true ↦ λ same. lower k low top es from rising
      | false ↦ λ other.
          let before : n + 1 ≤ k = grind (arith, nat_tests, fits.0) in
          put_before low top (waiting_entry n) es (omega (arith, fits.0)) (omega (arith, fits.0, fits.1)) (lower k (n + 1) top es before rising)
    ] refl

last_rises : (next : Option ℕ) (low top : ℕ) → NextFits low top next → are_states_from low top (option_to_list (option_map waiting_entry next)) ≡ true
last_rises None low top fits = refl
last_rises (Some n) low top fits = put_before low top (waiting_entry n) [] (omega (arith, fits.0)) (omega (arith, fits.0, fits.1)) refl

pub rising-below : (states : List State) (tag : ℕ) (es : List Entry) (next : Option ℕ) (low : ℕ) → is_closed false states ≡ true → NextFits low (length states) next → are_states_from low (length states) es ≡ true
    → are_states_from low (length states) (entries_below states tag next es) ≡ true
rising-below states tag [] next low closed fits rising = last_rises next low (length states) fits
rising-below states tag (e ∷ es) next low closed fits rising =
    let prefix : (nat_le low e.state && nat_lt e.state (length states)) ≡ true = first_so (nat_le low e.state && nat_lt e.state (length states)) (are_states_from (e.state + 1) (length states) es) rising in
    let from : low ≤ e.state = leb-true low e.state (first_so (nat_le low e.state) (nat_lt e.state (length states)) prefix) in
    let below : e.state < length states = ltb-true e.state (length states) (second_so (nat_le low e.state) (nat_lt e.state (length states)) prefix) in
    let o : Option State = slice_get states e.state in
    let rest : List Entry = entries_below states tag (next_state o tag e) es in
    let after : are_states_from (e.state + 1) (length states) rest ≡ true =
    rising-below states tag es (next_state o tag e) (e.state + 1) closed (next_fits states tag e o closed refl)
    (second_so (nat_le low e.state && nat_lt e.state (length states)) (are_states_from (e.state + 1) (length states) es) rising) in
    passed_rises next low (length states) e.state (option_to_list (own_entry o tag next e) ++ rest) fits from (own_rises o tag next e (length states) rest below after)
