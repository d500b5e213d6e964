-- What //a[b] surely selects and may select in a small document, computed from the document's parts.
use Rattle.std.proofs.Common.{◌≡◌, ℕ, Bool, true, false, nat_lt, not, ◌&&◌, ◌||◌, Some, None, List, [], ◌∷◌, refl, ap, ◌∙◌, codes}
use Rattle.std.specs.List.{list_any, slice_get}
use Rattle.std.specs.Option.{option_and_then, option_map_or}
use Rattle.acl_model.specs.Places.{at, below, numbered, places, places_of_item}
use Rattle.acl_model.specs.Select.{is_kept}
use Rattle.acl_model.specs.Targets.{path_leads, step_of}
use Rattle.acl_model.specs.declared.document.Item.TheVariants as item
use Rattle.acl_model.specs.declared.path.Test.TheVariants as test
use Rattle.acl_model.proofs.GrantLaws.{children-Child}
use Rattle.acl_model.proofs.PlaceLaws.{places_below_is, places_of_item-Child}
use Rattle.acl_walk.specs.Begun.{begins_at}
use Rattle.acl_walk.specs.Closes.{counted, meets, is_met_at}
use Rattle.acl_walk.specs.inside.CloseExamples.{to_child, nested_b, nested_a, empty_a, nested, nested_events, has_b}
use Rattle.acl_walk.proofs.CloseExamples.{close-nested_begin, close-own_finish}
use Rattle.token_stack.specs.Bounds.{PredicateTruth, first_events, is_met, is_settled, sure_truth, may_truth, selects_by, is_kept_by}
use Rattle.token_stack.specs.inside.BoundExamples.{step_a_with_b, a_with_b}

any_same : (p q : ℕ → Bool) (xs : List ℕ) → ((x : ℕ) → p x ≡ q x) → list_any p xs ≡ list_any q xs
any_same p q [] same = refl
any_same p q (x ∷ xs) same = ap (λ b. b || list_any p xs) (same x) ∙ ap (λ b. q x || b) (any_same p q xs same)

and_true : (b : Bool) → (b && true) ≡ b
and_true true = refl
and_true false = refl

-- ---- the document

b_places : places_of_item (item.Child nested_b) ≡ Some ([] ∷ [])
b_places = places_of_item-Child nested_b ∙ ap Some (places_below_is nested_b)

a_places : places_of_item (item.Child nested_a) ≡ Some ([] ∷ (1 ∷ []) ∷ [])
a_places = places_of_item-Child nested_a ∙ ap Some (places_below_is nested_a ∙ ap (λ o. [] ∷ numbered (o ∷ []) 1) b_places)

empty_a_places : places_of_item (item.Child empty_a) ≡ Some ([] ∷ [])
empty_a_places = places_of_item-Child empty_a ∙ ap Some (places_below_is empty_a)

nested_places : places nested ≡ [] ∷ (1 ∷ []) ∷ (1 ∷ 1 ∷ []) ∷ (2 ∷ []) ∷ []
nested_places =
    places_below_is nested.root
    ∙ ap (λ o. [] ∷ numbered (o ∷ places_of_item (item.Child empty_a) ∷ []) 1) a_places
    ∙ ap (λ o. [] ∷ numbered (Some ([] ∷ (1 ∷ []) ∷ []) ∷ o ∷ []) 1) empty_a_places

first_at : at nested (1 ∷ []) ≡ Some nested_a
first_at = ap (λ es. option_and_then (λ c. below c []) (slice_get es 0)) (children-Child nested_a (item.Child empty_a ∷ []))

second_at : at nested (2 ∷ []) ≡ Some empty_a
second_at =
    ap (λ es. option_and_then (λ c. below c []) (slice_get es 1)) (children-Child nested_a (item.Child empty_a ∷ []))
    ∙ ap (λ es. option_and_then (λ c. below c []) (slice_get es 0)) (children-Child empty_a [])

b_at : at nested (1 ∷ 1 ∷ []) ≡ Some nested_b
b_at =
    ap (λ es. option_and_then (λ c. below c (1 ∷ [])) (slice_get es 0)) (children-Child nested_a (item.Child empty_a ∷ []))
    ∙ ap (λ es. option_and_then (λ c. below c []) (slice_get es 0)) (children-Child nested_b [])

-- ---- events that meet [b]

met_along : (bearer : List ℕ) (i : ℕ) → is_met_at nested nested_events bearer has_b i
    ≡ list_any (λ place. path_leads nested has_b.way bearer place && option_map_or (meets nested_events None None place i) (at nested place) false) ([] ∷ (1 ∷ []) ∷ (1 ∷ 1 ∷ []) ∷ (2 ∷ []) ∷ [])
met_along bearer i = ap (list_any (λ place. path_leads nested has_b.way bearer place && option_map_or (meets nested_events None None place i) (at nested place) false)) nested_places

-- At the first a, it is the Begin of b.
first_met : (i : ℕ) → is_met_at nested nested_events (1 ∷ []) has_b i ≡ (begins_at nested_events (1 ∷ 1 ∷ []) i || false)
first_met i = met_along (1 ∷ []) i ∙ ap (λ o. (is_kept (step_of (to_child (test.Named (codes "b")))) o && option_map_or (meets nested_events None None (1 ∷ 1 ∷ []) i) o false) || false) b_at

-- At the second a, no event meets it.
second_met : (i : ℕ) → is_met_at nested nested_events (2 ∷ []) has_b i ≡ false
second_met i = met_along (2 ∷ []) i

first_is_met : (i : ℕ) → is_met nested nested_events i (1 ∷ []) has_b ≡ list_any (λ j. begins_at nested_events (1 ∷ 1 ∷ []) j || false) (counted i)
first_is_met i = any_same (is_met_at nested nested_events (1 ∷ []) has_b) (λ j. begins_at nested_events (1 ∷ 1 ∷ []) j || false) (counted i) first_met

second_is_met : (i : ℕ) → is_met nested nested_events i (2 ∷ []) has_b ≡ list_any (λ j. false) (counted i)
second_is_met i = any_same (is_met_at nested nested_events (2 ∷ []) has_b) (λ j. false) (counted i) second_met

-- ---- the bounds of //a[b]

first_selected : (truth : PredicateTruth) → selects_by nested truth a_with_b (1 ∷ []) ≡ truth (1 ∷ []) has_b
unfolding selects_by
first_selected truth = ap (is_kept_by truth step_a_with_b (1 ∷ [])) first_at ∙ and_true (truth (1 ∷ []) has_b)

second_selected : (truth : PredicateTruth) → selects_by nested truth a_with_b (2 ∷ []) ≡ truth (2 ∷ []) has_b
unfolding selects_by
second_selected truth = ap (is_kept_by truth step_a_with_b (2 ∷ [])) second_at ∙ and_true (truth (2 ∷ []) has_b)

pub open_sure : selects_by nested (sure_truth nested nested_events (first_events 4)) a_with_b (1 ∷ []) ≡ false
open_sure = first_selected (sure_truth nested nested_events (first_events 4)) ∙ first_is_met 4

pub open_may : selects_by nested (may_truth nested nested_events (first_events 4)) a_with_b (1 ∷ []) ≡ true
open_may =
    first_selected (may_truth nested nested_events (first_events 4))
    ∙ ap (λ b. b || not (is_settled nested nested_events 4 (1 ∷ []) has_b)) (first_is_met 4)
    ∙ ap (λ o. not (option_map_or (λ index. nat_lt index 4) o false)) close-nested_begin

pub met_sure : selects_by nested (sure_truth nested nested_events (first_events 5)) a_with_b (1 ∷ []) ≡ true
met_sure = first_selected (sure_truth nested nested_events (first_events 5)) ∙ first_is_met 5

pub unmet_sure : selects_by nested (sure_truth nested nested_events (first_events 10)) a_with_b (2 ∷ []) ≡ false
unmet_sure = second_selected (sure_truth nested nested_events (first_events 10)) ∙ second_is_met 10

pub unmet_may : selects_by nested (may_truth nested nested_events (first_events 10)) a_with_b (2 ∷ []) ≡ true
unmet_may =
    second_selected (may_truth nested nested_events (first_events 10))
    ∙ ap (λ b. b || not (is_settled nested nested_events 10 (2 ∷ []) has_b)) (second_is_met 10)
    ∙ ap (λ o. not (option_map_or (λ index. nat_lt index 10) o false)) close-own_finish

pub failed_may : selects_by nested (may_truth nested nested_events (first_events 11)) a_with_b (2 ∷ []) ≡ false
failed_may =
    second_selected (may_truth nested nested_events (first_events 11))
    ∙ ap (λ b. b || not (is_settled nested nested_events 11 (2 ∷ []) has_b)) (second_is_met 11)
    ∙ ap (λ o. not (option_map_or (λ index. nat_lt index 11) o false)) close-own_finish
