-- Entries that move stay those of the states that move.
use Rattle.std.proofs.Common.{◌≡◌, ℕ, zero, suc, ◌+◌, ◌-◌, ◌<◌, ◌≤◌, Bool, true, false, cond, not, ◌||◌, Option, Some, None, List, [], ◌∷◌, ◌++◌, length, length-append, map, take, refl, ap, sym, ◌∙◌, arith, eq-eqb, nat_eq, option_to_list, unwrap_or}
use Rattle.std.specs.List.{slice_get, list_any}
use Rattle.std.specs.Option.{is_none, is_some, option_map, option_map_or}
use Rattle.std.proofs.Math.Seq.{take-append_seam}
use Rattle.std.proofs.lemmas.Bool.{true≢false}
use Rattle.std.proofs.lemmas.Bool.Decides.{nat_tests}
use Rattle.acl_bits.specs.Row.{row_of}
use Rattle.acl_bits.specs.inside.RowLaws.{row_of-same}
use Rattle.acl_model.specs.Chain.{Chain, chain_at, selects}
use Rattle.acl_model.specs.Dictionary.{are_distinct}
use Rattle.acl_model.specs.Select.{select}
use Rattle.acl_model.specs.declared.document.Doc.{Doc}
use Rattle.acl_model.specs.declared.document.Element.{Element}
use Rattle.acl_model.specs.declared.path.Axis.{Axis}
use Rattle.acl_model.specs.declared.path.Axis.TheVariants.{Child, Descendant}
use Rattle.acl_model.specs.declared.rule.Rule.{Rule}
use Rattle.rule_automata.specs.declared.state.State.{State}
use Rattle.rule_automata.specs.Compile.{is_closed, states_from, have_no_predicates}
use Rattle.rule_automata.specs.Meaning.{AreTagsOf, selecting_rules}
use Rattle.acl_model.specs.RuleNumbers.{numbers_of}
use Rattle.rule_automata.specs.Run.{Standing, waits_below, is_taken, selected_rule, goes_on, begun, moved, run, is_rule}
use Rattle.rule_automata.proofs.RunLaws.{selected_is, selected_at}
use Rattle.token_stack.specs.declared.entry.Entry.{Entry}
use Rattle.token_stack.specs.Entries.{waiting_entry, is_next, passed_entry, entry_made, own_entry, next_state, entries_below, rules_of}
use Rattle.token_stack.specs.Stack.{entries_at, innermost}
use Rattle.token_stack.specs.Stand.{entries_from, entries_after, levels_after}

-- ---- the states stay

abbrev states_of : List Standing → List State
states_of row = map (λ m. m.state) row

begun-states : (is_first : Bool) (states : List State) → states_of (begun is_first states) ≡ states
begun-states is_first [] = refl
begun-states is_first (s ∷ states) = ap (λ more. s ∷ more) (begun-states (is_some s.ends) states)

moved-states : (tag : ℕ) (before : Bool) (row : List Standing) → states_of (moved tag before row) ≡ states_of row
moved-states tag before [] = refl
moved-states tag before (m ∷ row) = ap (λ more. m.state ∷ more) (moved-states tag (goes_on m.state.ends (is_taken m.state m.waits tag)) row)

run-states : (states : List State) (tags : List ℕ) → states_of (run states tags) ≡ states
run-states states [] = begun-states true states
run-states states (tag ∷ up) = moved-states tag false (run states up) ∙ run-states states up

get-states : (row : List Standing) (k : ℕ) → slice_get (states_of row) k ≡ option_map (λ m. m.state) (slice_get row k)
get-states [] k = refl
get-states (m ∷ row) zero = refl
get-states (m ∷ row) (suc k) = get-states row k

-- ---- one element further down

-- The first entry, if there is one, is not of this state.
abbrev HeadApart : ℕ → List Entry → Type 0
HeadApart n [] = Unit {0}
HeadApart n (e ∷ es) = nat_eq n e.state ≡ false

head_of : (n k : ℕ) (waits : Bool) (selects : Option ℕ) (es : List Entry) → n < k → HeadApart n es → HeadApart n (cond (waits || is_some selects) (record { state = k; waits = waits; selects = selects } ∷ es) es)
head_of n k true selects es less rest = grind (arith, nat_tests)
head_of n k false None es less rest = rest
head_of n k false (Some rule) es less rest = grind (arith, nat_tests)

head_apart : (n k : ℕ) (row : List Standing) → n < k → HeadApart n (entries_from k row)
head_apart n k [] less = tt
head_apart n k (m ∷ row) less = head_of n k m.waits m.selects (entries_from (k + 1) row) less (head_apart n (k + 1) row (omega arith))

own_without : (o : Option State) (tag n : ℕ) (e : Entry) → nat_eq n e.state ≡ false → own_entry o tag (Some n) e ≡ own_entry o tag None e
own_without None tag n e apart = refl
own_without (Some s) tag n e apart = ap (λ b. entry_made e.state (waits_below s.axis b e.waits) (selected_rule s (is_taken s e.waits tag))) apart

-- a next state that is none of the entries has an entry before them
put_first : (states : List State) (tag n : ℕ) (es : List Entry) → HeadApart n es → entries_below states tag (Some n) es ≡ waiting_entry n ∷ entries_below states tag None es
put_first states tag n [] apart = refl
put_first states tag n (e ∷ es) apart =
    let o : Option State = slice_get states e.state in
    ap (λ b. option_to_list (cond b None (Some (waiting_entry n))) ++ (option_to_list (own_entry o tag (Some n) e) ++ entries_below states tag (next_state o tag e) es)) apart
    ∙ ap (λ own. waiting_entry n ∷ (option_to_list own ++ entries_below states tag (next_state o tag e) es)) (own_without o tag n e apart)

-- the state itself is not passed by
passed_none : (b : Bool) (n : ℕ) → passed_entry (cond b (Some n) None) n ≡ None
passed_none true n = ap (λ v. cond v None (Some (waiting_entry n))) (eq-eqb n n refl)
passed_none false n = refl

next_is : (b : Bool) (n : ℕ) → is_next (cond b (Some n) None) n ≡ b
next_is true n = eq-eqb n n refl
next_is false n = refl

made_list : (b : Bool) (e : Entry) (es : List Entry) → option_to_list (cond b (Some e) None) ++ es ≡ cond b (e ∷ es) es
made_list true e es = refl
made_list false e es = refl

waits_before : (axis : Axis) (b : Bool) → waits_below axis b false ≡ b
waits_before Child b = refl
waits_before Descendant true = refl
waits_before Descendant false = refl

goes_none : (ends : Option ℕ) → goes_on ends false ≡ false
goes_none None = refl
goes_none (Some rule) = refl

goes_is_none : (ends : Option ℕ) (taken : Bool) → goes_on ends taken ≡ true → is_none ends ≡ true
goes_is_none None taken goes = refl
goes_is_none (Some rule) taken goes = absurd (true≢false (sym goes))

-- what the entries after a state do
abbrev After : List State → ℕ → List Standing → ℕ → State → Type 0
After states tag row n s =
    (b : Bool) → (b ≡ true → is_none s.ends ≡ true) → entries_below states tag (cond b (Some n) None) (entries_from n row) ≡ entries_from n (moved tag b row)

-- a state that has an entry
active : (states : List State) (tag : ℕ) (s : State) (waits : Bool) (selects : Option ℕ) (row : List Standing) (n : ℕ) (b : Bool) → slice_get states n ≡ Some s → After states tag row (n + 1) s
    → entries_below states tag (cond b (Some n) None) (record { state = n; waits = waits; selects = selects } ∷ entries_from (n + 1) row)
    ≡ entries_from n (moved tag b (record { state = s; waits = waits; selects = selects } ∷ row))
active states tag s waits selects row n b found after =
    let e : Entry = record { state = n; waits = waits; selects = selects } in
    let taken : Bool = is_taken s waits tag in
    let rest : List Entry = entries_from (n + 1) (moved tag (goes_on s.ends taken) row) in
    ap (λ o. option_to_list o ++ (option_to_list (own_entry (slice_get states n) tag (cond b (Some n) None) e) ++ entries_below states tag (next_state (slice_get states n) tag e) (entries_from (n + 1) row))) (passed_none b n)
    ∙ ap (λ o. option_to_list (own_entry o tag (cond b (Some n) None) e) ++ entries_below states tag (next_state o tag e) (entries_from (n + 1) row)) found
    ∙ ap (λ es. option_to_list (own_entry (Some s) tag (cond b (Some n) None) e) ++ es) (after (goes_on s.ends taken) (goes_is_none s.ends taken))
    ∙ ap (λ v. option_to_list (entry_made n (waits_below s.axis v waits) (selected_rule s taken)) ++ rest) (next_is b n)
    ∙ made_list (waits_below s.axis b waits || is_some (selected_rule s taken)) (record { state = n; waits = waits_below s.axis b waits; selects = selected_rule s taken }) rest

-- a state that has none
idle : (states : List State) (tag : ℕ) (s : State) (row : List Standing) (n : ℕ) (b : Bool) → After states tag row (n + 1) s
    → entries_below states tag (cond b (Some n) None) (entries_from (n + 1) row) ≡ entries_from n (moved tag b (record { state = s; waits = false; selects = None } ∷ row))
idle states tag s row n b after =
    idle_by b
    ∙ ap (λ v. cond (b || false) (record { state = n; waits = b; selects = None } ∷ entries_from (n + 1) (moved tag v row)) (entries_from (n + 1) (moved tag v row))) (sym (goes_none s.ends))
    ∙ ap (λ v. cond (v || false) (record { state = n; waits = v; selects = None } ∷ entries_from (n + 1) (moved tag (goes_on s.ends false) row)) (entries_from (n + 1) (moved tag (goes_on s.ends false) row))) (sym (waits_before s.axis b))
  where
    idle_by : (b : Bool) → entries_below states tag (cond b (Some n) None) (entries_from (n + 1) row)
        ≡ cond (b || false) (record { state = n; waits = b; selects = None } ∷ entries_from (n + 1) (moved tag false row)) (entries_from (n + 1) (moved tag false row))
    idle_by true =
        put_first states tag n (entries_from (n + 1) row) (head_apart n (n + 1) row (omega arith))
        ∙ ap (λ es. waiting_entry n ∷ es) (after false (λ is. absurd (true≢false (sym is))))
    idle_by false = after false (λ is. absurd (true≢false (sym is)))

one_state : (states : List State) (tag : ℕ) (s : State) (waits : Bool) (selects : Option ℕ) (row : List Standing) (n : ℕ) (b : Bool) → slice_get states n ≡ Some s → After states tag row (n + 1) s
    → entries_below states tag (cond b (Some n) None) (entries_from n (record { state = s; waits = waits; selects = selects } ∷ row))
    ≡ entries_from n (moved tag b (record { state = s; waits = waits; selects = selects } ∷ row))
one_state states tag s true selects row n b found after = active states tag s true selects row n b found after
one_state states tag s false (Some rule) row n b found after = active states tag s false (Some rule) row n b found after
one_state states tag s false None row n b found after = idle states tag s row n b after

-- The entries at a child are those of the states there.
entries_move : (states : List State) (tag : ℕ) (row : List Standing) (n : ℕ) (b is_begun : Bool) → ((k : ℕ) → slice_get states (n + k) ≡ option_map (λ m. m.state) (slice_get row k))
    → is_closed is_begun (states_of row) ≡ true → (b ≡ true → is_begun ≡ true) → entries_below states tag (cond b (Some n) None) (entries_from n row) ≡ entries_from n (moved tag b row)
entries_move states tag [] n true is_begun aligned closed before = absurd (true≢false (sym closed ∙ ap not (before refl)))
entries_move states tag [] n false is_begun aligned closed before = refl
entries_move states tag (m ∷ row) n b is_begun aligned closed before =
    let here : n ≡ n + 0 = omega arith in
    one_state states tag m.state m.waits m.selects row n b (ap (slice_get states) here ∙ aligned 0)
    (λ v goes. entries_move states tag row (n + 1) v (is_none m.state.ends) (λ k. let next : n + 1 + k ≡ n + suc k = omega arith in ap (slice_get states) next ∙ aligned (suc k)) closed goes)

pub below-after : (states : List State) (tags : List ℕ) (tag : ℕ) → is_closed false states ≡ true → entries_below states tag None (entries_after states tags) ≡ entries_after states (tag ∷ tags)
below-after states tags tag closed =
    entries_move states tag (run states tags) 0 false false
    (λ k. let same : 0 + k ≡ k = omega arith in ap (slice_get states) same ∙ ap (λ xs. slice_get xs k) (sym (run-states states tags)) ∙ get-states (run states tags) k)
    (ap (is_closed false) (run-states states tags) ∙ closed) (λ is. is)

-- ---- levels

module _ {X : Type 0} where
  get_last : (xs : List X) (y : X) → slice_get (xs ++ (y ∷ [])) (length xs) ≡ Some y
  get_last [] y = refl
  get_last (x ∷ xs) y = get_last xs y

  get_before : (xs ys : List X) (k : ℕ) → k < length xs → slice_get (xs ++ ys) k ≡ slice_get xs k
  get_before [] ys k inside = absurd (omega arith)
  get_before (x ∷ xs) ys zero inside = refl
  get_before (x ∷ xs) ys (suc k) inside = get_before xs ys k (omega arith)

pub length-levels : (states : List State) (tags : List ℕ) → length (levels_after states tags) ≡ suc (length tags)
length-levels states [] = refl
length-levels states (tag ∷ up) =
    let one : length (levels_after states up ++ (entries_after states (tag ∷ up) ∷ [])) ≡ length (levels_after states up) + 1 = length-append (levels_after states up) (entries_after states (tag ∷ up) ∷ []) in
    let rest : length (levels_after states up) ≡ suc (length up) = length-levels states up in
    omega arith

-- the last of some levels is the innermost
last_level : (levels : List (List Entry)) (es : List Entry) → innermost (levels ++ (es ∷ [])) ≡ es
last_level levels es =
    let joined : length (levels ++ (es ∷ [])) ≡ length levels + 1 = length-append levels (es ∷ []) in
    let last : length (levels ++ (es ∷ [])) - 1 ≡ length levels = omega arith in
    ap (λ n. unwrap_or (slice_get (levels ++ (es ∷ [])) n) []) last ∙ ap (λ o. unwrap_or o []) (get_last levels es)

pub innermost-after : (states : List State) (tags : List ℕ) → innermost (levels_after states tags) ≡ entries_after states tags
innermost-after states [] = last_level [] (entries_after states [])
innermost-after states (tag ∷ up) = last_level (levels_after states up) (entries_after states (tag ∷ up))

pub levels_begin : (states : List State) (tags : List ℕ) (tag : ℕ) → is_closed false states ≡ true
    → levels_after states tags ++ (entries_below states tag None (innermost (levels_after states tags)) ∷ []) ≡ levels_after states (tag ∷ tags)
levels_begin states tags tag closed =
    ap (λ es. levels_after states tags ++ (entries_below states tag None es ∷ [])) (innermost-after states tags)
    ∙ ap (λ es. levels_after states tags ++ (es ∷ [])) (below-after states tags tag closed)

pub levels_finish : (states : List State) (tags : List ℕ) (tag : ℕ) → take (length (levels_after states (tag ∷ tags)) - 1) (levels_after states (tag ∷ tags)) ≡ levels_after states tags
levels_finish states tags tag =
    let joined : length (levels_after states (tag ∷ tags)) ≡ length (levels_after states tags) + 1 = length-append (levels_after states tags) (entries_after states (tag ∷ tags) ∷ []) in
    let prefix : length (levels_after states (tag ∷ tags)) - 1 ≡ length (levels_after states tags) = omega arith in
    ap (λ n. take n (levels_after states (tag ∷ tags))) prefix ∙ take-append_seam (levels_after states tags) (entries_after states (tag ∷ tags) ∷ [])

-- the entries of an open element stand at its level
level_of : (states : List State) (inner : List ℕ) (tag : ℕ) (up : List ℕ) → slice_get (levels_after states (inner ++ (tag ∷ up))) (suc (length up)) ≡ Some (entries_after states (tag ∷ up))
level_of states [] tag up =
    ap (slice_get (levels_after states (tag ∷ up))) (sym (length-levels states up)) ∙ get_last (levels_after states up) (entries_after states (tag ∷ up))
level_of states (t ∷ inner) tag up =
    let long : length (levels_after states (inner ++ (tag ∷ up))) ≡ suc (length (inner ++ (tag ∷ up))) = length-levels states (inner ++ (tag ∷ up)) in
    let joined : length (inner ++ (tag ∷ up)) ≡ length inner + suc (length up) = length-append inner (tag ∷ up) in
    get_before (levels_after states (inner ++ (tag ∷ up))) (entries_after states (t ∷ (inner ++ (tag ∷ up))) ∷ []) (suc (length up)) (omega arith)
    ∙ level_of states inner tag up

pub entries_at-after : (states : List State) (inner : List ℕ) (tag : ℕ) (up : List ℕ) → entries_at (levels_after states (inner ++ (tag ∷ up))) (length (tag ∷ up)) ≡ entries_after states (tag ∷ up)
entries_at-after states inner tag up = ap (λ o. unwrap_or o []) (level_of states inner tag up)

-- ---- rules

any_of : (rule : ℕ) (n : ℕ) (waits : Bool) (selects : Option ℕ) (es : List Entry) (more : Bool) → list_any (λ e. is_rule rule e.selects) es ≡ more
    → list_any (λ e. is_rule rule e.selects) (cond (waits || is_some selects) (record { state = n; waits = waits; selects = selects } ∷ es) es) ≡ (is_rule rule selects || more)
any_of rule n true selects es more is = ap (λ b. is_rule rule selects || b) is
any_of rule n false None es more is = is
any_of rule n false (Some r) es more is = ap (λ b. is_rule rule (Some r) || b) is

any_entry : (rule : ℕ) (row : List Standing) (n : ℕ) → list_any (λ e. is_rule rule e.selects) (entries_from n row) ≡ list_any (λ m. is_rule rule m.selects) row
any_entry rule [] n = refl
any_entry rule (m ∷ row) n = any_of rule n m.waits m.selects (entries_from (n + 1) row) (list_any (λ x. is_rule rule x.selects) row) (any_entry rule row (n + 1))

-- The row of an open element has just the rules whose paths select it.
pub rules_are : (names : List (List ℕ)) (rules : List Rule) (inner : List ℕ) (tag : ℕ) (tags : List ℕ) (e : Element) (up : Chain)
    → are_distinct names ≡ true → length names ≤ 256 → have_no_predicates rules ≡ true → AreTagsOf names (tag ∷ tags) (e ∷ up)
    → rules_of (entries_at (levels_after (states_from names 0 rules) (inner ++ (tag ∷ tags))) (length (tag ∷ tags))) ≡ selecting_rules rules (e ∷ up)
unfolding row_of numbers_of
rules_are names rules inner tag tags e up distinct few plain tagged =
    ap rules_of (entries_at-after (states_from names 0 rules) inner tag tags)
    ∙ row_of-same (λ rule. list_any (λ x. is_rule rule x.selects) (entries_after (states_from names 0 rules) (tag ∷ tags))) (λ n. option_map_or (λ r. selects r.path (e ∷ up)) (slice_get rules n) false)
    (λ rule small. any_entry rule (run (states_from names 0 rules) (tag ∷ tags)) 0 ∙ selected_is names rules (tag ∷ tags) e up rule distinct few plain tagged)

-- The same by its place in a document.
pub rules_at_place : (names : List (List ℕ)) (rules : List Rule) (inner : List ℕ) (tag : ℕ) (tags : List ℕ) (d : Doc) (place : List ℕ) (e : Element) (up : Chain)
    → are_distinct names ≡ true → length names ≤ 256 → have_no_predicates rules ≡ true → AreTagsOf names (tag ∷ tags) (e ∷ up) → chain_at d.root [] place ≡ Some (e ∷ up)
    → rules_of (entries_at (levels_after (states_from names 0 rules) (inner ++ (tag ∷ tags))) (length (tag ∷ tags))) ≡ row_of (λ n. option_map_or (λ r. select d r.path place) (slice_get rules n) false)
rules_at_place names rules inner tag tags d place e up distinct few plain tagged at =
    ap rules_of (entries_at-after (states_from names 0 rules) inner tag tags)
    ∙ row_of-same (λ rule. list_any (λ x. is_rule rule x.selects) (entries_after (states_from names 0 rules) (tag ∷ tags))) (λ n. option_map_or (λ r. select d r.path place) (slice_get rules n) false)
    (λ rule small. any_entry rule (run (states_from names 0 rules) (tag ∷ tags)) 0 ∙ selected_at names rules (tag ∷ tags) d place e up rule distinct few plain tagged at)
