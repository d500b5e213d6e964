-- The rows of its children decide all states of an element but the first of each predicate. A predicate holds where its
-- last state is set.
use Rattle.std.proofs.Common.{◌≡◌, suc, Bool, true, false, ◌&&◌, ◌||◌, Some, None, List, [], ◌∷◌, ◌++◌, map, reverse, length, get_or, refl, ap, sym, ◌∙◌, arith}
use Rattle.std.specs.List.{list_any, flat_map, fold, cons_option}
use Rattle.std.specs.Option.{option_map_or}
use Rattle.std.proofs.lemmas.List.{length-map, reverse-append, reverse-reverse, length-reverse}
use Rattle.std.proofs.lemmas.List.Folds.{list_any-append}
use Rattle.acl_bits.specs.Flags.{risen}
use Rattle.acl_model.specs.NameTests.{passes}
use Rattle.acl_model.specs.Places.{element_of, children}
use Rattle.acl_model.specs.Predicates.{descendants, below_item, on_axis, holds}
use Rattle.acl_model.proofs.ValueEquations.{below_item-Text, below_item-Child, descendants_is}
use Rattle.acl_model.proofs.ViewEquations.{element_of-Text, element_of-Child, item_cases}
use Rattle.acl_model.specs.declared.document.Element.{Element}
use Rattle.acl_model.specs.declared.document.Item.{Item}
use Rattle.acl_model.specs.declared.path.Axis.TheVariants.{Child, Descendant}
use Rattle.acl_model.specs.declared.path.Pred.{Pred}
use Rattle.acl_model.specs.declared.path.PredStep.{PredStep}
use Rattle.predicate_walk.specs.inside.Met.{is_enough_at, is_met}
use Rattle.predicate_walk.specs.inside.States.{is_set_by, set_by_steps, later_states, states_at, row_at, inner_states_at, inner_row_at, is_descendant, answers_of, answers, clear_row, with_child, with_item, with_items}
use Rattle.predicate_walk.proofs.PredicateLaws.{held_where_met}

-- ---- Booleans

or_false : (b : Bool) → (b || false) ≡ b
or_false true = refl
or_false false = refl

or_assoc : (a b c : Bool) → ((a || b) || c) ≡ (a || (b || c))
or_assoc true b c = refl
or_assoc false b c = refl

any_false : (es : List Element) → list_any (λ e. false) es ≡ false
any_false [] = refl
any_false (e ∷ es) = any_false es

any_same : (f g : Element → Bool) (es : List Element) → ((e : Element) → f e ≡ g e) → list_any f es ≡ list_any g es
any_same f g [] same = refl
any_same f g (e ∷ es) same = ap (λ b. b || list_any f es) (same e) ∙ ap (λ b. g e || b) (any_same f g es same)

cons_same : (a b : Bool) (xs ys : List Bool) → a ≡ b → xs ≡ ys → a ∷ xs ≡ b ∷ ys
cons_same a b xs ys one more = ap (λ x. x ∷ xs) one ∙ ap (λ s. b ∷ s) more

-- ---- all states in one list

-- a state of a predicate: the first, that of its targets, or one by a step of its path
data State : Type 0 where
  target : Pred → State
  step : PredStep → State

abbrev is_set_at : State → (Element → Bool) → Element → Bool
is_set_at (target pred) before e = is_enough_at pred e
is_set_at (step s) before e = is_set_by s before e

abbrev set_from : (Element → Bool) → List State → Element → List Bool
set_from before [] e = []
set_from before (s ∷ states) e = is_set_at s before e ∷ set_from (is_set_at s before) states e

abbrev states_of : Pred → List State
states_of pred = target pred ∷ map step (reverse pred.way)

abbrev all_states : List Pred → List State
all_states preds = flat_map states_of preds

abbrev state_answers : (PredStep → Bool) → State → Bool
state_answers ask (target pred) = false
state_answers ask (step s) = ask s

-- the last of the states by steps, or the state before them where there is no step
abbrev last_from : (Element → Bool) → List PredStep → Element → Bool
last_from before [] = before
last_from before (s ∷ steps) = last_from (is_set_by s before) steps

steps_set : (before : Element → Bool) (steps : List PredStep) (states : List State) (e : Element)
    → set_from before (map step steps ++ states) e
    ≡ set_by_steps before steps e ++ set_from (last_from before steps) states e
steps_set before [] states e = refl
steps_set before (s ∷ steps) states e =
    ap (λ r. is_set_by s before e ∷ r) (steps_set (is_set_by s before) steps states e)

all_set : (before : Element → Bool) (preds : List Pred) (e : Element) → set_from before (all_states preds) e
    ≡ flat_map (states_at e) preds
all_set before [] e = refl
all_set before (pred ∷ preds) e =
    ap (λ r. is_enough_at pred e ∷ r)
    (steps_set (is_enough_at pred) (reverse pred.way) (all_states preds) e ∙ ap (λ r. later_states pred e ++ r) (all_set (last_from (is_enough_at pred) (reverse pred.way)) preds e))

steps_answer : (ask : PredStep → Bool) (steps : List PredStep) (states : List State)
    → map (state_answers ask) (map step steps ++ states) ≡ map ask steps ++ map (state_answers ask) states
steps_answer ask [] states = refl
steps_answer ask (s ∷ steps) states = ap (λ r. ask s ∷ r) (steps_answer ask steps states)

all_answer : (ask : PredStep → Bool) (preds : List Pred) → map (state_answers ask) (all_states preds)
    ≡ flat_map (answers_of ask) preds
all_answer ask [] = refl
all_answer ask (pred ∷ preds) =
    ap (λ r. false ∷ r)
    (steps_answer ask (reverse pred.way) (all_states preds) ∙ ap (λ r. map ask (reverse pred.way) ++ r) (all_answer ask preds))

-- ---- one child

-- what a child adds to a state of its parent
abbrev adds : State → (Element → Bool) → Element → Bool
adds s before c = (state_answers (λ p. passes p.test c.name) s && before c) || (state_answers (λ p. is_descendant p.axis) s && is_set_at s before c)

any_descendants : (t : Element → Bool) (items : List Item) → list_any t (flat_map below_item items)
    ≡ list_any (λ c. t c || (true && list_any t (descendants c))) (children items)
any_descendants t [] = refl
any_descendants t (x ∷ items) =
    item_cases (λ y. list_any t (below_item y ++ flat_map below_item items) ≡ list_any (λ c. t c || (true && list_any t (descendants c))) (cons_option (element_of y) (children items)))
    (λ bytes.
    ap (λ es. list_any t (es ++ flat_map below_item items)) (below_item-Text bytes)
    ∙ any_descendants t items
    ∙ sym (ap (λ o. list_any (λ c. t c || (true && list_any t (descendants c))) (cons_option o (children items))) (element_of-Text bytes)))
    (λ e.
    ap (λ es. list_any t (es ++ flat_map below_item items)) (below_item-Child e)
    ∙ list_any-append t (e ∷ descendants e) (flat_map below_item items)
    ∙ ap (λ b. (t e || list_any t (descendants e)) || b) (any_descendants t items)
    ∙ sym (ap (λ o. list_any (λ c. t c || (true && list_any t (descendants c))) (cons_option o (children items))) (element_of-Child e)))
    x

-- What the children add is the state by a step.
added_is : (s : PredStep) (before : Element → Bool) (e : Element) → list_any (adds (step s) before) (children e.items)
    ≡ is_set_by s before e
added_is s before e =
    elim s.axis as (λ a. list_any (λ c. (passes s.test c.name && before c) || (is_descendant a && list_any (λ x. passes s.test x.name && before x) (on_axis a c))) (children e.items) ≡ list_any (λ x. passes s.test x.name && before x) (on_axis a e)) [
      | Child ↦ any_same _ _ (children e.items) (λ c. or_false (passes s.test c.name && before c))
      | Descendant ↦ sym (any_descendants (λ x. passes s.test x.name && before x) e.items) ∙ sym (ap (list_any (λ x. passes s.test x.name && before x)) (descendants_is e))
    ]

-- ---- all children

-- what these elements add to a row, state by state
abbrev gathered : (Element → Bool) → List State → List Bool → List Element → List Bool
gathered before [] own cs = []
gathered before (s ∷ states) [] cs = []
gathered before (s ∷ states) (o ∷ own) cs =
    (o || list_any (adds s before) cs) ∷ gathered (is_set_at s before) states own cs

gathered-none : (before : Element → Bool) (states : List State) (own : List Bool) → length own ≡ length states
    → gathered before states own [] ≡ own
gathered-none before [] [] long = refl
gathered-none before [] (o ∷ own) long = absurd (omega (arith, long))
gathered-none before (s ∷ states) [] long = absurd (omega (arith, long))
gathered-none before (s ∷ states) (o ∷ own) long =
    cons_same _ _ _ _ (or_false o) (gathered-none (is_set_at s before) states own (omega (arith, long)))

-- a row after one more element
abbrev with_one : (Element → Bool) → List State → List Bool → Element → List Bool
with_one before states own c =
    risen (before c) (map (state_answers (λ p. passes p.test c.name)) states)
    (map (state_answers (λ p. is_descendant p.axis)) states) (set_from before states c) own

gathered-more : (before : Element → Bool) (states : List State) (own : List Bool) (c : Element) (cs : List Element)
    → gathered before states (with_one before states own c) cs ≡ gathered before states own (c ∷ cs)
unfolding risen
gathered-more before [] own c cs = refl
gathered-more before (s ∷ states) [] c cs = refl
gathered-more before (s ∷ states) (o ∷ own) c cs =
    cons_same _ _ _ _ (or_assoc o (adds s before c) (list_any (adds s before) cs))
    (gathered-more (is_set_at s before) states own c cs)

length-with_one : (before : Element → Bool) (states : List State) (own : List Bool) (c : Element) → length own
    ≡ length states → length (with_one before states own c) ≡ length states
unfolding risen
length-with_one before [] own c long = refl
length-with_one before (s ∷ states) [] c long = absurd (omega (arith, long))
length-with_one before (s ∷ states) (o ∷ own) c long =
    ap (λ n. suc n) (length-with_one (is_set_at s before) states own c (omega (arith, long)))

all_gathered : (before : Element → Bool) (states : List State) (own : List Bool) (cs : List Element) → length own
    ≡ length states → fold (with_one before states) own cs ≡ gathered before states own cs
all_gathered before states own [] long = sym (gathered-none before states own long)
all_gathered before states own (c ∷ cs) long =
    all_gathered before states (with_one before states own c) cs (length-with_one before states own c long)
    ∙ gathered-more before states own c cs

-- ---- from a clear row

steps_gathered : (before : Element → Bool) (steps : List PredStep) (states : List State) (e : Element)
    → gathered before (map step steps ++ states) (map (λ s. false) steps ++ map (λ s. false) states) (children e.items)
    ≡ set_by_steps before steps e ++ gathered (last_from before steps) states (map (λ s. false) states)
    (children e.items)
steps_gathered before [] states e = refl
steps_gathered before (s ∷ steps) states e =
    cons_same _ _ _ _ (added_is s before e) (steps_gathered (is_set_by s before) steps states e)

states_gathered : (before : Element → Bool) (preds : List Pred) (e : Element)
    → gathered before (all_states preds) (map (λ s. false) (all_states preds)) (children e.items)
    ≡ flat_map (inner_states_at e) preds
states_gathered before [] e = refl
states_gathered before (pred ∷ preds) e =
    cons_same _ _ _ _ (any_false (children e.items))
    (ap (λ own. gathered (is_enough_at pred) (map step (reverse pred.way) ++ all_states preds) own (children e.items)) (all_clear (reverse pred.way) (all_states preds))
    ∙ steps_gathered (is_enough_at pred) (reverse pred.way) (all_states preds) e
    ∙ ap (λ r. later_states pred e ++ r) (states_gathered (last_from (is_enough_at pred) (reverse pred.way)) preds e))
  where
    all_clear : (steps : List PredStep) (states : List State) → map (λ s. false) (map step steps ++ states)
        ≡ map (λ s. false) steps ++ map (λ s. false) states
    all_clear [] states = refl
    all_clear (s ∷ steps) states = ap (λ r. false ∷ r) (all_clear steps states)

same_clear : (states : List State) → map (state_answers (λ s. false)) states ≡ map (λ s. false) states
same_clear [] = refl
same_clear (target pred ∷ states) = ap (λ r. false ∷ r) (same_clear states)
same_clear (step s ∷ states) = ap (λ r. false ∷ r) (same_clear states)

-- ---- items

child_is : (preds : List Pred) (row : List Bool) (c : Element) → with_child preds row c
    ≡ with_one (λ e. false) (all_states preds) row c
unfolding with_child row_at answers
child_is preds row c =
    ap (λ t. risen false t (flat_map (answers_of (λ p. is_descendant p.axis)) preds) (flat_map (states_at c) preds) row) (sym (all_answer (λ p. passes p.test c.name) preds))
    ∙ ap (λ d. risen false (map (state_answers (λ p. passes p.test c.name)) (all_states preds)) d (flat_map (states_at c) preds) row) (sym (all_answer (λ p. is_descendant p.axis) preds))
    ∙ ap (λ b. risen false (map (state_answers (λ p. passes p.test c.name)) (all_states preds)) (map (state_answers (λ p. is_descendant p.axis)) (all_states preds)) b row) (sym (all_set (λ e. false) preds c))

items_are : (preds : List Pred) (row : List Bool) (items : List Item) → with_items preds row items
    ≡ fold (with_one (λ e. false) (all_states preds)) row (children items)
unfolding with_item
items_are preds row [] = refl
items_are preds row (item ∷ items) =
    items_are preds (with_item preds row item) items
    ∙ elim (element_of item) as (λ o. fold (with_one (λ e. false) (all_states preds)) (option_map_or (with_child preds row) o row) (children items) ≡ fold (with_one (λ e. false) (all_states preds)) row (cons_option o (children items)))
    [ None ↦ refl | Some c ↦ ap (λ r. fold (with_one (λ e. false) (all_states preds)) r (children items)) (child_is preds row c) ]

-- After all children the row is that of what is inside the element.
pub inner_row : (preds : List Pred) (e : Element) → with_items preds (clear_row preds) e.items ≡ inner_row_at preds e
unfolding inner_row_at answers
inner_row preds e =
    items_are preds (flat_map (answers_of (λ s. false)) preds) e.items
    ∙ ap (λ row. fold (with_one (λ x. false) (all_states preds)) row (children e.items))
    (sym (all_answer (λ s. false) preds) ∙ same_clear (all_states preds))
    ∙ all_gathered (λ x. false) (all_states preds) (map (λ s. false) (all_states preds)) (children e.items)
    (length-map (all_states preds) (λ s. false))
    ∙ states_gathered (λ x. false) preds e

-- ---- the last state

met_push : (test : Element → Bool) (s : PredStep) (way : List PredStep) → is_met test (way ++ s ∷ [])
    ≡ is_met (is_set_by s test) way
met_push test s [] = refl
met_push test s (t ∷ way) =
    ap {B = Element → Bool} (λ f e. list_any (λ c. passes t.test c.name && f c) (on_axis t.axis e))
    (met_push test s way)

last_met : (test : Element → Bool) (steps : List PredStep) → last_from test steps ≡ is_met test (reverse steps)
last_met test [] = refl
last_met test (s ∷ steps) =
    last_met (is_set_by s test) steps ∙ sym (met_push test s (reverse steps))
    ∙ ap (is_met test) (sym (reverse-append (s ∷ []) steps))

last_read : (test : Element → Bool) (steps : List PredStep) (e : Element)
    → get_or (test e ∷ set_by_steps test steps e) (length steps) false ≡ last_from test steps e
last_read test [] e = refl
last_read test (s ∷ steps) e = last_read (is_set_by s test) steps e

-- A predicate holds where its last state is set.
pub last_holds : (pred : Pred) (e : Element) → get_or (states_at e pred) (length pred.way) false ≡ holds pred e
last_holds pred e =
    ap (λ n. get_or (states_at e pred) n false) (sym (length-reverse pred.way))
    ∙ last_read (is_enough_at pred) (reverse pred.way) e
    ∙ ap {A = Element → Bool} (λ f. f e) (last_met (is_enough_at pred) (reverse pred.way))
    ∙ ap (λ way. is_met (is_enough_at pred) way e) (reverse-reverse pred.way)
    ∙ held_where_met pred e

-- ---- lengths

length-set_by_steps : (before : Element → Bool) (steps : List PredStep) (e : Element)
    → length (set_by_steps before steps e) ≡ length steps
length-set_by_steps before [] e = refl
length-set_by_steps before (s ∷ steps) e = ap (λ n. suc n) (length-set_by_steps (is_set_by s before) steps e)

pub length-later_states : (pred : Pred) (e : Element) → length (later_states pred e) ≡ length pred.way
length-later_states pred e = length-set_by_steps (is_enough_at pred) (reverse pred.way) e ∙ length-reverse pred.way
