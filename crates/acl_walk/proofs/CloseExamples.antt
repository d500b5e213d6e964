-- Where some predicates close in small documents, computed from the documents' parts.
use Rattle.std.proofs.Common.{◌≡◌, ℕ, Bool, true, false, ◌&&◌, ◌||◌, Option, Some, None, is_some, List, [], ◌∷◌, ◌++◌, length, map, refl, ap, ◌∙◌, arith, append_assoc, cond, find, flat_map, codes}
use Rattle.std.specs.List.{list_any, slice_get, range_with_len}
use Rattle.std.specs.Option.{option_and_then, option_map_or, option_or}
use Rattle.acl_model.specs.Comparisons.{satisfies}
use Rattle.acl_model.specs.Places.{at, below, children, numbered, places, places_of_item}
use Rattle.acl_model.specs.Select.{is_kept}
use Rattle.acl_model.specs.Targets.{step_of, path_leads}
use Rattle.acl_model.specs.Values.{string_value}
use Rattle.acl_model.specs.declared.document.Doc.{Doc}
use Rattle.acl_model.specs.declared.document.Element.{Element}
use Rattle.acl_model.specs.declared.document.Item.TheVariants as item
use Rattle.acl_model.specs.declared.path.Cmp.{Cmp}
use Rattle.acl_model.specs.declared.path.Op.TheVariants.{Eq}
use Rattle.acl_model.specs.declared.path.Operand.TheVariants as operand
use Rattle.acl_model.specs.declared.path.Pred.{Pred}
use Rattle.acl_model.specs.declared.path.PredStep.{PredStep}
use Rattle.acl_model.specs.declared.path.Test.{Test}
use Rattle.acl_model.specs.declared.path.Test.TheVariants as test
use Rattle.acl_model.proofs.GrantLaws.{children-Child}
use Rattle.acl_model.proofs.PlaceLaws.{places_below_is, places_of_item-Text, places_of_item-Child}
use Rattle.acl_model.proofs.ValueEquations.{string_value_is, value_of_item-Text}
use Rattle.acl_model.proofs.ViewEquations.{element_of-Text, element_of-Child}
use Rattle.acl_walk.specs.Begun.{finishes_at}
use Rattle.acl_walk.specs.Closes.{counted, meets, is_met_at, close}
use Rattle.acl_walk.specs.inside.CloseExamples.{small_names, small_p, small_x, small_with, small, small_with_id, small_events_with, small_events, small_events_with_id, to_child, has_p, has_child, x_is, has_id, letters, long, long_events, attribute_is, nested_names, nested_b, nested_a, empty_a, nested, nested_events, has_b}
use Rattle.acl_walk.specs.inside.EventEquations.{element_events_is, item_events-Text, item_events-Child}
use Rattle.acl_walk.specs.inside.PieceLaws.{pieces-short}
use Rattle.acl_walk.specs.Pieces.{piece_of, pieces, cut_after}
use Rattle.acl_walk.specs.Spelling.{tag_of}
use Rattle.acl_walk.specs.TreeEvents.{attribute_events, document_events, element_events, item_events, tag_number, told_below}
use Rattle.acl_walk.specs.declared.event.Event.{Event}
use Rattle.acl_walk.specs.declared.event.Event.TheVariants.{Begin, Attr, HeadEnd, Text, Finish, End}

-- ---- the events

p_events : element_events small_names small_p ≡ Begin 1 [] ∷ HeadEnd ∷ Finish 1 ∷ []
unfolding tag_number tag_of told_below
p_events = element_events_is small_names small_p

x_text : item_events small_names (item.Text (codes "z")) ≡ Text (piece_of (codes "z") true) ∷ []
x_text = item_events-Text small_names (codes "z") ∙ ap (map Text) (pieces-short (codes "z") (omega arith))

x_events : element_events small_names small_x ≡ Begin 2 [] ∷ HeadEnd ∷ Text (piece_of (codes "z") true) ∷ Finish 2 ∷ []
unfolding tag_number tag_of told_below
x_events =
    element_events_is small_names small_x
    ∙ ap (λ o. Begin 2 (cond (is_some o) (range_with_len 0 3) []) ∷ HeadEnd ∷ ((item_events small_names (item.Text (codes "z")) ++ []) ++ (Finish 2 ∷ []))) (element_of-Text (codes "z"))
    ∙ ap (λ es. Begin 2 [] ∷ HeadEnd ∷ ((es ++ []) ++ (Finish 2 ∷ []))) x_text

-- the events of the root after its attributes
abbrev after_attributes : List Event
after_attributes =
    HeadEnd ∷ Begin 1 [] ∷ HeadEnd ∷ Finish 1 ∷ Begin 2 [] ∷ HeadEnd ∷ Text (piece_of (codes "z") true) ∷ Finish 2 ∷ Finish 0 ∷ []

-- the events of the whole document, from those of the root's attributes
small_events_are : (attributes : List (List ℕ)) (heads : List Event) → flat_map attribute_events attributes ≡ heads → document_events small_names (small_with attributes) ≡ small_events_with heads
unfolding tag_number tag_of told_below
small_events_are attributes heads attribute_is =
    ap (λ es. es ++ (End ∷ [])) (element_events_is small_names (small_with attributes).root
    ∙ ap (λ es. Begin 0 (0 ∷ 1 ∷ 2 ∷ []) ∷ (flat_map attribute_events attributes ++ (HeadEnd ∷ ((es ++ (item_events small_names (item.Child small_x) ++ [])) ++ (Finish 0 ∷ []))))) (item_events-Child small_names small_p ∙ p_events)
    ∙ ap (λ es. Begin 0 (0 ∷ 1 ∷ 2 ∷ []) ∷ (flat_map attribute_events attributes ++ (HeadEnd ∷ (((Begin 1 [] ∷ HeadEnd ∷ Finish 1 ∷ []) ++ (es ++ [])) ++ (Finish 0 ∷ []))))) (item_events-Child small_names small_x ∙ x_events)
    ∙ ap (λ hs. Begin 0 (0 ∷ 1 ∷ 2 ∷ []) ∷ (hs ++ after_attributes)) attribute_is)
    ∙ ap (λ es. Begin 0 (0 ∷ 1 ∷ 2 ∷ []) ∷ es) (append_assoc heads after_attributes (End ∷ []))

pub small-events : document_events small_names small ≡ small_events
small-events = small_events_are [] [] refl

pub small-events_with_id : document_events small_names small_with_id ≡ small_events_with_id
small-events_with_id = small_events_are (codes "Id CDATA f1" ∷ []) (Attr (piece_of (codes "Id CDATA f1") true) ∷ []) (ap (λ ps. map Attr ps ++ []) (pieces-short (codes "Id CDATA f1") (omega arith)))

-- ---- the parts of the document

p_places : places_of_item (item.Child small_p) ≡ Some ([] ∷ [])
p_places = places_of_item-Child small_p ∙ ap Some (places_below_is small_p)

x_places : places_of_item (item.Child small_x) ≡ Some ([] ∷ [])
x_places = places_of_item-Child small_x ∙ ap Some (places_below_is small_x ∙ ap (λ o. [] ∷ numbered (o ∷ []) 1) (places_of_item-Text (codes "z")))

small_places : (attributes : List (List ℕ)) → places (small_with attributes) ≡ [] ∷ (1 ∷ []) ∷ (2 ∷ []) ∷ []
small_places attributes =
    places_below_is (small_with attributes).root
    ∙ ap (λ o. [] ∷ numbered (o ∷ places_of_item (item.Child small_x) ∷ []) 1) p_places
    ∙ ap (λ o. [] ∷ numbered (Some ([] ∷ []) ∷ o ∷ []) 1) x_places

small_children : (attributes : List (List ℕ)) → children (small_with attributes).root.items ≡ small_p ∷ small_x ∷ []
small_children attributes = children-Child small_p (item.Child small_x ∷ []) ∙ ap (λ es. small_p ∷ es) (children-Child small_x [])

p_at : (attributes : List (List ℕ)) → at (small_with attributes) (1 ∷ []) ≡ Some small_p
p_at attributes = ap (λ es. option_and_then (λ c. below c []) (slice_get es 0)) (small_children attributes)

x_at : (attributes : List (List ℕ)) → at (small_with attributes) (2 ∷ []) ≡ Some small_x
x_at attributes = ap (λ es. option_and_then (λ c. below c []) (slice_get es 1)) (small_children attributes)

x_value : string_value small_x ≡ codes "z"
x_value = string_value_is small_x ∙ ap (λ bytes. bytes ++ []) (value_of_item-Text (codes "z"))

-- ---- the closes

find_same : (f g : ℕ → Bool) (xs : List ℕ) → ((i : ℕ) → f i ≡ g i) → find f xs ≡ find g xs
find_same f g [] same = refl
find_same f g (x ∷ xs) same = ap (λ b. cond b (Some x) (find f xs)) (same x) ∙ ap (cond (g x) (Some x)) (find_same f g xs same)

-- the index of the first event that passes, or else that of the context node's Finish
abbrev first_or_finish : List Event → List ℕ → (ℕ → Bool) → Option ℕ
first_or_finish list bearer test = option_or (find test (counted (length list))) (find (finishes_at list bearer) (counted (length list)))

close_by : (d : Doc) (list : List Event) (bearer : List ℕ) (pred : Pred) (test : ℕ → Bool) → ((i : ℕ) → is_met_at d list bearer pred i ≡ test i) → close d list bearer pred ≡ first_or_finish list bearer test
close_by d list bearer pred test same = ap (λ o. option_or o (find (finishes_at list bearer) (counted (length list)))) (find_same (is_met_at d list bearer pred) test (counted (length list)) same)

-- an element passes the step and meets the predicate
abbrev kept_and_meets : PredStep → Option Cmp → List Event → List ℕ → ℕ → Option Element → Bool
kept_and_meets s cmp list place i o = is_kept (step_of s) o && option_map_or (meets list None cmp place i) o false

-- which event meets a predicate with a step to children, for each of the two children
met_at_children : (test : Test) (cmp : Option Cmp) (i : ℕ) → is_met_at small small_events [] (record { way = to_child test ∷ []; attribute = None; cmp = cmp }) i
    ≡ (kept_and_meets (to_child test) cmp small_events (1 ∷ []) i (Some small_p) || (kept_and_meets (to_child test) cmp small_events (2 ∷ []) i (Some small_x) || false))
met_at_children test cmp i =
    ap (list_any (λ place. path_leads small (to_child test ∷ []) [] place && option_map_or (meets small_events None cmp place i) (at small place) false)) (small_places [])
    ∙ ap (λ o. kept_and_meets (to_child test) cmp small_events (1 ∷ []) i o || (kept_and_meets (to_child test) cmp small_events (2 ∷ []) i (at small (2 ∷ [])) || false)) (p_at [])
    ∙ ap (λ o. kept_and_meets (to_child test) cmp small_events (1 ∷ []) i (Some small_p) || (kept_and_meets (to_child test) cmp small_events (2 ∷ []) i o || false)) (x_at [])

close_of_child : (test : Test) (cmp : Option Cmp) → close small small_events [] (record { way = to_child test ∷ []; attribute = None; cmp = cmp })
    ≡ first_or_finish small_events [] (λ i. kept_and_meets (to_child test) cmp small_events (1 ∷ []) i (Some small_p) || (kept_and_meets (to_child test) cmp small_events (2 ∷ []) i (Some small_x) || false))
close_of_child test cmp =
    close_by small small_events [] (record { way = to_child test ∷ []; attribute = None; cmp = cmp })
    (λ i. kept_and_meets (to_child test) cmp small_events (1 ∷ []) i (Some small_p) || (kept_and_meets (to_child test) cmp small_events (2 ∷ []) i (Some small_x) || false))
    (met_at_children test cmp)

pub close-begin : close small small_events [] has_p ≡ Some 2
close-begin = close_of_child (test.Named (codes "p")) None

pub close-first : close small small_events [] has_child ≡ Some 2
close-first = close_of_child test.Any None

-- the event at which the text of x is compared
close_of_text : (text : List ℕ) → close small small_events [] (x_is text)
    ≡ first_or_finish small_events [] (λ i. (satisfies Eq (operand.Text text) (codes "z") && finishes_at small_events (2 ∷ []) i) || false)
close_of_text text =
    close_of_child (test.Named (codes "x")) (x_is text).cmp
    ∙ ap (λ value. first_or_finish small_events [] (λ i. (satisfies Eq (operand.Text text) value && finishes_at small_events (2 ∷ []) i) || false)) x_value

pub close-finish : close small small_events [] (x_is (codes "z")) ≡ Some 8
close-finish = close_of_text (codes "z")

pub close-unmet : close small small_events [] (x_is (codes "y")) ≡ Some 9
close-unmet = close_of_text (codes "y")

pub close-attribute : close small_with_id small_events_with_id [] has_id ≡ Some 1
close-attribute =
    close_by small_with_id small_events_with_id [] has_id (λ i. meets small_events_with_id has_id.attribute None [] i small_with_id.root || false)
    (λ i. ap (list_any (λ place. path_leads small_with_id [] [] place && option_map_or (meets small_events_with_id has_id.attribute None place i) (at small_with_id place) false)) (small_places small_with_id.root.attributes))

-- ---- an attribute in two pieces

pub long-events : document_events small_names long ≡ long_events
unfolding tag_number tag_of told_below pieces cut_after
long-events = ap (λ es. es ++ (End ∷ [])) (element_events_is small_names long.root)

long_places : places long ≡ [] ∷ []
long_places = places_below_is long.root

close_of_long : (text : List ℕ) → close long long_events [] (attribute_is text) ≡ first_or_finish long_events [] (λ i. meets long_events (Some (codes "x")) (attribute_is text).cmp [] i long.root || false)
close_of_long text =
    close_by long long_events [] (attribute_is text) (λ i. meets long_events (Some (codes "x")) (attribute_is text).cmp [] i long.root || false)
    (λ i. ap (list_any (λ place. path_leads long [] [] place && option_map_or (meets long_events (Some (codes "x")) (attribute_is text).cmp place i) (at long place) false)) long_places)

pub close-last_piece : close long long_events [] (attribute_is (letters 257)) ≡ Some 2
close-last_piece = close_of_long (letters 257)

pub close-other_value : close long long_events [] (attribute_is (letters 256)) ≡ Some 4
close-other_value = close_of_long (letters 256)

-- ---- bearers below the root

b_events : element_events nested_names nested_b ≡ Begin 2 [] ∷ HeadEnd ∷ Finish 2 ∷ []
unfolding tag_number tag_of told_below
b_events = element_events_is nested_names nested_b

empty_a_events : element_events nested_names empty_a ≡ Begin 1 [] ∷ HeadEnd ∷ Finish 1 ∷ []
unfolding tag_number tag_of told_below
empty_a_events = element_events_is nested_names empty_a

a_events : element_events nested_names nested_a ≡ Begin 1 (0 ∷ 1 ∷ 2 ∷ []) ∷ HeadEnd ∷ Begin 2 [] ∷ HeadEnd ∷ Finish 2 ∷ Finish 1 ∷ []
unfolding tag_number tag_of told_below
a_events =
    element_events_is nested_names nested_a
    ∙ ap (λ o. Begin 1 (cond (is_some o) (range_with_len 0 3) []) ∷ HeadEnd ∷ ((item_events nested_names (item.Child nested_b) ++ []) ++ (Finish 1 ∷ []))) (element_of-Child nested_b)
    ∙ ap (λ es. Begin 1 (0 ∷ 1 ∷ 2 ∷ []) ∷ HeadEnd ∷ ((es ++ []) ++ (Finish 1 ∷ []))) (item_events-Child nested_names nested_b ∙ b_events)

pub nested-events : document_events nested_names nested ≡ nested_events
unfolding tag_number tag_of told_below
nested-events =
    ap (λ es. es ++ (End ∷ [])) (element_events_is nested_names nested.root
    ∙ ap (λ es. Begin 0 (0 ∷ 1 ∷ 2 ∷ []) ∷ HeadEnd ∷ ((es ++ (item_events nested_names (item.Child empty_a) ++ [])) ++ (Finish 0 ∷ []))) (item_events-Child nested_names nested_a ∙ a_events)
    ∙ ap (λ es. Begin 0 (0 ∷ 1 ∷ 2 ∷ []) ∷ HeadEnd ∷ (((Begin 1 (0 ∷ 1 ∷ 2 ∷ []) ∷ HeadEnd ∷ Begin 2 [] ∷ HeadEnd ∷ Finish 2 ∷ Finish 1 ∷ []) ++ (es ++ [])) ++ (Finish 0 ∷ []))) (item_events-Child nested_names empty_a ∙ empty_a_events))

b_places : places_of_item (item.Child nested_b) ≡ Some ([] ∷ [])
b_places = places_of_item-Child nested_b ∙ ap Some (places_below_is nested_b)

a_places : places_of_item (item.Child nested_a) ≡ Some ([] ∷ (1 ∷ []) ∷ [])
a_places = places_of_item-Child nested_a ∙ ap Some (places_below_is nested_a ∙ ap (λ o. [] ∷ numbered (o ∷ []) 1) b_places)

empty_a_places : places_of_item (item.Child empty_a) ≡ Some ([] ∷ [])
empty_a_places = places_of_item-Child empty_a ∙ ap Some (places_below_is empty_a)

nested_places : places nested ≡ [] ∷ (1 ∷ []) ∷ (1 ∷ 1 ∷ []) ∷ (2 ∷ []) ∷ []
nested_places =
    places_below_is nested.root
    ∙ ap (λ o. [] ∷ numbered (o ∷ places_of_item (item.Child empty_a) ∷ []) 1) a_places
    ∙ ap (λ o. [] ∷ numbered (Some ([] ∷ (1 ∷ []) ∷ []) ∷ o ∷ []) 1) empty_a_places

b_at : at nested (1 ∷ 1 ∷ []) ≡ Some nested_b
b_at =
    ap (λ es. option_and_then (λ c. below c (1 ∷ [])) (slice_get es 0)) (children-Child nested_a (item.Child empty_a ∷ []))
    ∙ ap (λ es. option_and_then (λ c. below c []) (slice_get es 0)) (children-Child nested_b [])

-- which event meets [b] at a context node, place by place
met_along : (bearer : List ℕ) (i : ℕ) → is_met_at nested nested_events bearer has_b i
    ≡ list_any (λ place. path_leads nested has_b.way bearer place && option_map_or (meets nested_events None None place i) (at nested place) false) ([] ∷ (1 ∷ []) ∷ (1 ∷ 1 ∷ []) ∷ (2 ∷ []) ∷ [])
met_along bearer i = ap (list_any (λ place. path_leads nested has_b.way bearer place && option_map_or (meets nested_events None None place i) (at nested place) false)) nested_places

pub close-nested_begin : close nested nested_events (1 ∷ []) has_b ≡ Some 4
close-nested_begin =
    close_by nested nested_events (1 ∷ []) has_b (λ i. kept_and_meets (to_child (test.Named (codes "b"))) None nested_events (1 ∷ 1 ∷ []) i (Some nested_b) || false)
    (λ i. met_along (1 ∷ []) i ∙ ap (λ o. kept_and_meets (to_child (test.Named (codes "b"))) None nested_events (1 ∷ 1 ∷ []) i o || false) b_at)

pub close-own_finish : close nested nested_events (2 ∷ []) has_b ≡ Some 10
close-own_finish = close_by nested nested_events (2 ∷ []) has_b (λ i. false) (met_along (2 ∷ []))
