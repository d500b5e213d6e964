-- A predicate closes with one event of a list, from the Begin of its context node (bearer) to its
-- Finish.
use Rattle.std.proofs.Common.{◌≡◌, ℕ, zero, suc, ◌+◌, ◌-◌, ◌<◌, ◌≤◌, true, false, nat_eq, ◌&&◌, Option, Some, None, is_some, List, [], ◌∷◌, ◌++◌, length, map, take, drop, refl, ap, sym, subst, ◌∙◌, inl, inr, ◌⊎◌, arith, append_assoc, add-one, find}
use Rattle.std.proofs.lemmas.Bool.{true≢false, cases_lt}
use Rattle.std.proofs.lemmas.Option.{same_Some, none-some}
use Rattle.std.specs.Cmp.{first_so, second_so}
use Rattle.std.specs.Cmp.Lexicographic.{pointwise, same_text}
use Rattle.std.specs.List.{slice_get}
use Rattle.std.specs.Option.{option_map_or, option_or}
use Rattle.acl_model.specs.Places.{at, prefixes}
use Rattle.acl_model.specs.Predicates.{is_enough}
use Rattle.acl_model.specs.Values.{string_value}
use Rattle.acl_model.specs.Select.{NodeSet, ancestors, leads, is_kept, step, steps}
use Rattle.acl_model.specs.Targets.{step_of, only, path_leads}
use Rattle.acl_model.specs.declared.document.Doc.{Doc}
use Rattle.acl_model.specs.declared.document.Element.{Element}
use Rattle.acl_model.specs.declared.path.Axis.{Axis}
use Rattle.acl_model.specs.declared.path.Axis.TheVariants.{Child, Descendant}
use Rattle.acl_model.specs.declared.path.Cmp.{Cmp}
use Rattle.acl_model.specs.declared.path.Pred.{Pred}
use Rattle.acl_model.specs.declared.path.PredStep.{PredStep}
use Rattle.acl_model.proofs.ChainLaws.{proper}
use Rattle.acl_model.proofs.Members.{Has, has_none, has_later, has_cases, has_left, has_right, has_append_cases}
use Rattle.acl_walk.specs.Begun.{is_begin, is_finish, innermost_is_at, begins_at, finishes_at}
use Rattle.acl_walk.specs.Closes.{is_last_of_attribute, attributes_at, ends_attribute_at, counted, has_enough, meets, is_met_at, close}
use Rattle.acl_walk.specs.Open.{OpenPlace, next_place, with_child, open_after, open_after_events, open_at, places_of}
use Rattle.acl_walk.specs.inside.OpenLaws.{places_of-with_child, places_of-prefixes}
use Rattle.acl_walk.specs.Spelling.{Spells}
use Rattle.acl_walk.specs.declared.event.Event.{Event}
use Rattle.acl_walk.specs.declared.event.Event.TheVariants.{Begin, Attr, HeadEnd, Text, Finish, End}
use Rattle.acl_walk.proofs.MeetLaws.{same_place, some_found, any_found, any_so, find_has, find_any, has_map, has_map_cases, has_counted, counted_within, event_within, met_so}
use Rattle.acl_walk.proofs.BegunLaws.{stands_in_list}
use Rattle.acl_walk.proofs.OnceLaws.{begins_once}

-- ---- a predicate closes

or_some : {X : Type 0} (o p : Option X) → is_some p ≡ true → is_some (option_or o p) ≡ true
or_some None p so = so
or_some (Some x) p so = refl

-- A predicate closes.
pub close-some : (names : List (List ℕ)) (d : Doc) (list : List Event) (bearer : List ℕ) (e : Element) (pred : Pred) → Spells names (Some d) list → at d bearer ≡ Some e
    → is_some (close d list bearer pred) ≡ true
close-some names d list bearer e pred spells there =
    let s = stands_in_list names d list bearer e spells there in
    let i : ℕ = length s.prefix + length s.own - 1 in
    or_some (find (is_met_at d list bearer pred) (counted (length list))) (find (finishes_at list bearer) (counted (length list)))
    (find_any (finishes_at list bearer) (counted (length list))
    (any_so (finishes_at list bearer) (counted (length list)) i
    (has_counted (length list) i (event_within list is_finish (innermost_is_at bearer (open_at list i)) i s.finishes)) s.finishes))

or_cases : {X : Type 0} (o p : Option X) (x : X) → option_or o p ≡ Some x → (o ≡ Some x) ⊎ (p ≡ Some x)
or_cases None p x so = inr so
or_cases (Some y) p x so = inl so

-- It closes with an event of the list that meets it, or with the Finish of its context node.
close_cases : (d : Doc) (list : List Event) (bearer : List ℕ) (pred : Pred) (i : ℕ) → close d list bearer pred ≡ Some i
    → (i < length list) × ((is_met_at d list bearer pred i ≡ true) ⊎ (finishes_at list bearer i ≡ true))
close_cases d list bearer pred i so = elim (or_cases (find (is_met_at d list bearer pred) (counted (length list))) (find (finishes_at list bearer) (counted (length list))) i so) [
  | inl met ↦ let found = find_has (is_met_at d list bearer pred) (counted (length list)) i met in (counted_within (length list) i found.0, inl found.1)
  | inr unmet ↦ let found = find_has (finishes_at list bearer) (counted (length list)) i unmet in (counted_within (length list) i found.0, inr found.1)
]

-- The event is in the list.
pub close-within : (d : Doc) (list : List Event) (bearer : List ℕ) (pred : Pred) (i : ℕ) → close d list bearer pred ≡ Some i → i < length list
close-within d list bearer pred i so = (close_cases d list bearer pred i so).0

-- ---- prefixes of places

prefixes_are : (place : List ℕ) → prefixes place ≡ place ∷ proper place
prefixes_are [] = refl
prefixes_are (k ∷ place) = ap (λ ps. map (λ prefix. k ∷ prefix) ps ++ ([] ∷ [])) (prefixes_are place)

-- a place is a prefix of itself
own_prefix : (place : List ℕ) → Has (prefixes place) place
own_prefix place = subst (λ ps. Has ps place) (sym (prefixes_are place)) (0, refl)

-- its other prefixes are shorter
proper_shorter : (place p : List ℕ) → Has (proper place) p → length p < length place
proper_shorter [] p h = absurd (has_none p h)
proper_shorter (k ∷ place) p h = elim (has_append_cases (map (λ prefix. k ∷ prefix) (proper place)) ([] ∷ []) p h) [
  | inl longer ↦
      let found = has_map_cases (λ prefix. k ∷ prefix) (proper place) p longer in
      let less = proper_shorter place found.0 found.1 in
      let long : length (k ∷ found.0) ≡ length p = ap length found.2 in
      omega (arith, less, long)
  | inr last ↦ elim (has_cases [] p [] last) [ inl same ↦ let none : length {A = ℕ} [] ≡ length p = ap length same in omega (arith, none) | inr later ↦ absurd (has_none p later) ]
]

prefix_begins : (place p : List ℕ) → Has (prefixes place) p → (rest : List ℕ) × (place ≡ p ++ rest)
prefix_begins [] p h = elim (has_cases [] p [] h) [ inl same ↦ ([], ap (λ q. q ++ []) same) | inr later ↦ absurd (has_none p later) ]
prefix_begins (k ∷ place) p h = elim (has_append_cases (map (λ prefix. k ∷ prefix) (prefixes place)) ([] ∷ []) p h) [
  | inl longer ↦
      let found = has_map_cases (λ prefix. k ∷ prefix) (prefixes place) p longer in
      let rest = prefix_begins place found.0 found.1 in
      (rest.0, ap (λ q. k ∷ q) rest.1 ∙ ap (λ q. q ++ rest.0) found.2)
  | inr last ↦ elim (has_cases [] p [] last) [ inl same ↦ (k ∷ place, ap (λ q. q ++ (k ∷ place)) same) | inr later ↦ absurd (has_none p later) ]
]

prefix_has : (p rest : List ℕ) → Has (prefixes (p ++ rest)) p
prefix_has [] [] = (0, refl)
prefix_has [] (k ∷ rest) = has_right (map (λ prefix. k ∷ prefix) (prefixes rest)) ([] ∷ []) [] (0, refl)
prefix_has (k ∷ p) rest = has_left (map (λ prefix. k ∷ prefix) (prefixes (p ++ rest))) ([] ∷ []) (k ∷ p) (has_map (λ prefix. k ∷ prefix) (prefixes (p ++ rest)) p (prefix_has p rest))

-- a prefix of a prefix is a prefix
prefix_further : (place p q : List ℕ) → Has (prefixes place) p → Has (prefixes p) q → Has (prefixes place) q
prefix_further place p q h g =
    let outer = prefix_begins place p h in
    let inner = prefix_begins p q g in
    let whole : q ++ (inner.0 ++ outer.0) ≡ place = sym (outer.1 ∙ ap (λ r. r ++ outer.0) inner.1 ∙ append_assoc q inner.0 outer.0) in
    subst (λ r. Has (prefixes r) q) whole (prefix_has q (inner.0 ++ outer.0))

-- ---- a path leads down from its context node

has_of_drop : {X : Type 0} (xs : List X) (x : X) → Has (drop 1 xs) x → Has xs x
has_of_drop [] x h = h
has_of_drop (y ∷ xs) x h = has_later y x xs h

has_of_take : {X : Type 0} (xs : List X) (x : X) → Has (take 1 xs) x → Has xs x
has_of_take [] x h = h
has_of_take (y ∷ xs) x h = elim (has_cases y x [] h) [ inl same ↦ (0, ap Some same) | inr later ↦ absurd (has_none x later) ]

-- a member of a set of places is a prefix of the place
abbrev MemberAbove : NodeSet → List ℕ → Type 0
MemberAbove set place = (m : List ℕ) × (set (Some m) ≡ true) × Has (prefixes place) m

among_ancestors : (set : NodeSet) (place : List ℕ) (node : Option (List ℕ)) → set None ≡ false → set node ≡ true → Has (ancestors place) node → MemberAbove set place
among_ancestors set place node outside so h = elim (has_append_cases (map Some (drop 1 (prefixes place))) (None ∷ []) node h) [
  | inl near ↦
      let found = has_map_cases Some (drop 1 (prefixes place)) node near in
      (found.0, ap set found.2 ∙ so, has_of_drop (prefixes place) found.0 found.1)
  | inr far ↦ elim (has_cases None node [] far) [ inl same ↦ absurd (true≢false (sym so ∙ sym (ap set same) ∙ outside)) | inr later ↦ absurd (has_none node later) ]
]

led_from : (axis : Axis) (set : NodeSet) (place : List ℕ) → set None ≡ false → leads axis set place ≡ true → MemberAbove set place
led_from Child set place outside so =
    let found = any_found set (take 1 (ancestors place)) so in
    among_ancestors set place found.0 outside found.2 (has_of_take (ancestors place) found.0 found.1)
led_from Descendant set place outside so =
    let found = any_found set (ancestors place) so in
    among_ancestors set place found.0 outside found.2 found.1

steps_from : (d : Doc) (way : List PredStep) (set : NodeSet) (place : List ℕ) → set None ≡ false → steps d (map step_of way) set (Some place) ≡ true → MemberAbove set place
steps_from d [] set place outside so = (place, so, own_prefix place)
steps_from d (s ∷ way) set place outside so =
    let last = steps_from d way (step d (step_of s) set) place refl so in
    let first = led_from s.axis set last.0 outside (first_so (leads s.axis set last.0) (is_kept (step_of s) (at d last.0)) last.1) in
    (first.0, first.1, prefix_further place last.0 first.0 last.2 first.2)

-- The context node's place is a prefix of each place to which the path leads from it.
way_below : (d : Doc) (way : List PredStep) (bearer place : List ℕ) → path_leads d way bearer place ≡ true → Has (prefixes place) bearer
way_below d way bearer place led =
    let found = steps_from d way (only bearer) place refl led in
    subst (Has (prefixes place)) (same_text found.0 bearer (sym found.1)) found.2

-- ---- elements that are open

innermost : (elements : List OpenPlace) (place : List ℕ) → innermost_is_at place elements ≡ true → (element : OpenPlace) × (up : List OpenPlace) × (elements ≡ element ∷ up) × (element.place ≡ place)
innermost [] place so = absurd (true≢false (sym so))
innermost (element ∷ up) place so = (element, up, refl, same_text element.place place (sym so))

-- Where the innermost open element is at a place, the element at each prefix of it is open.
open_above : (list : List Event) (m : ℕ) (place p : List ℕ) → innermost_is_at place (open_at list m) ≡ true → Has (prefixes place) p → Has (places_of (open_at list m)) p
open_above list m place p so h =
    let i = innermost (open_at list m) place so in
    let chain : places_of (open_at list m) ≡ prefixes place = ap places_of i.2 ∙ places_of-prefixes list m i.0 i.1 i.2 ∙ ap prefixes i.3 in
    subst (λ ps. Has ps p) (sym chain) h

-- After its Finish an element isn't open.
abbrev after : List OpenPlace → List (List ℕ)
after elements = places_of (drop 1 elements)

not_after : (list : List Event) (m : ℕ) (place : List ℕ) → innermost_is_at place (open_at list m) ≡ true → Has (after (open_at list m)) place → ⊥
not_after list m place so h =
    let i = innermost (open_at list m) place so in
    let chain : i.0.place ∷ places_of i.1 ≡ place ∷ proper place = places_of-prefixes list m i.0 i.1 i.2 ∙ ap prefixes i.3 ∙ prefixes_are place in
    let others : places_of i.1 ≡ proper place = ap (drop 1) chain in
    let above : Has (proper place) place = subst (λ ps. Has ps place) (ap after i.2 ∙ others) h in
    let less = proper_shorter place place above in
    omega (arith, less)

open-next : (elements : List OpenPlace) (list : List Event) (i : ℕ) (event : Event) → slice_get list i ≡ Some event
    → open_after_events elements (take (suc i) list) ≡ open_after (open_after_events elements (take i list)) event
open-next elements [] i event is = absurd (none-some event is)
open-next elements (e ∷ list) zero event is = ap (open_after elements) (same_Some e event is)
open-next elements (e ∷ list) (suc i) event is = open-next (open_after elements e) list i event is

open-past : (elements : List OpenPlace) (list : List Event) (i : ℕ) → slice_get list i ≡ None → open_after_events elements (take (suc i) list) ≡ open_after_events elements (take i list)
open-past elements [] zero is = refl
open-past elements [] (suc i) is = refl
open-past elements (e ∷ list) zero is = absurd (none-some e (sym is))
open-past elements (e ∷ list) (suc i) is = open-past (open_after elements e) list i is

after_finish : (elements : List OpenPlace) (event : Event) → is_finish event ≡ true → open_after elements event ≡ drop 1 elements
after_finish elements (Begin tag below) so = absurd (true≢false (sym so))
after_finish elements (Attr piece) so = absurd (true≢false (sym so))
after_finish elements HeadEnd so = absurd (true≢false (sym so))
after_finish elements (Text piece) so = absurd (true≢false (sym so))
after_finish elements (Finish tag) so = refl
after_finish elements End so = absurd (true≢false (sym so))

not_open_after : (list : List Event) (place : List ℕ) (i : ℕ) → finishes_at list place i ≡ true → Has (places_of (open_at list (suc i))) place → ⊥
not_open_after list place i so h =
    let event = some_found is_finish (slice_get list i) (first_so (option_map_or is_finish (slice_get list i) false) (innermost_is_at place (open_at list i)) so) in
    let closed : open_at list (suc i) ≡ drop 1 (open_at list i) = open-next [] list i event.0 event.1 ∙ after_finish (open_at list i) event.0 event.2 in
    not_after list i place (second_so (option_map_or is_finish (slice_get list i) false) (innermost_is_at place (open_at list i)) so) (subst (λ es. Has (places_of es) place) closed h)

-- An element that is open after an event was open before it, or begins with it.
opened : (elements : List OpenPlace) (event : Event) (place : List ℕ) → Has (places_of (open_after elements event)) place
    → Has (places_of elements) place ⊎ ((is_begin event ≡ true) × (innermost_is_at place (open_after elements event) ≡ true))
opened elements (Begin tag below) place h = elim (has_cases (next_place elements) place (places_of (with_child elements)) h) [
  | inl same ↦ inr (refl, ap (λ p. pointwise nat_eq p place) same ∙ same_place place)
  | inr later ↦ inl (subst (λ ps. Has ps place) (places_of-with_child elements) later)
]
opened elements (Attr piece) place h = inl h
opened elements HeadEnd place h = inl h
opened elements (Text piece) place h = inl h
opened [] (Finish tag) place h = inl h
opened (element ∷ up) (Finish tag) place h = inl (has_later element.place place (places_of up) h)
opened elements End place h = inl h

-- the element at this place of the document begins at an index from s on and before i
abbrev BeginsBetween : List Event → List ℕ → ℕ → ℕ → Type 0
BeginsBetween list place s i = (b : ℕ) × (s ≤ b) × (b < i) × (begins_at list place b ≡ true)

begins_here : (list : List Event) (place : List ℕ) (s i : ℕ) (event : Event) → slice_get list i ≡ Some event → s ≤ i → is_begin event ≡ true
    → innermost_is_at place (open_at list (suc i)) ≡ true → BeginsBetween list place s (suc i)
begins_here list place s i event is late begin so = (
  i,
  late,
  omega arith,
  ap (λ o. option_map_or is_begin o false && innermost_is_at place (open_at list (i + 1))) is
      ∙ ap (λ b. b && innermost_is_at place (open_at list (i + 1))) begin
      ∙ ap (λ k. innermost_is_at place (open_at list k)) (add-one i)
      ∙ so,
)

later_end : (list : List Event) (place : List ℕ) (s i : ℕ) → BeginsBetween list place s i → BeginsBetween list place s (suc i)
later_end list place s i b = (b.0, b.1, omega (arith, b.2), b.3)

-- An element that is open after the event at an index was open before it, or begins there.
begun_step : (list : List Event) (place : List ℕ) (s i : ℕ) (o : Option Event) → s ≤ i → slice_get list i ≡ o → Has (places_of (open_at list (suc i))) place
    → Has (places_of (open_at list i)) place ⊎ BeginsBetween list place s (suc i)
begun_step list place s i None late is h = inl (subst (λ es. Has (places_of es) place) (open-past [] list i is) h)
begun_step list place s i (Some event) late is h =
    let next : open_at list (suc i) ≡ open_after (open_at list i) event = open-next [] list i event is in
    elim (opened (open_at list i) event place (subst (λ es. Has (places_of es) place) next h)) [
      | inl before ↦ inl before
      | inr begins ↦ inr (begins_here list place s i event is late begins.0 (ap (innermost_is_at place) next ∙ begins.1))
    ]

at_or_before : (s i : ℕ) → s ≤ suc i → (suc i ≡ s) ⊎ (s ≤ i)
at_or_before s i late = elim (cases_lt i s) [ inl more ↦ inl (omega (arith, late, more)) | inr less ↦ inr less ]

-- An element that is open at an index was open at the earlier index s, or has begun since.
begun_since : (list : List Event) (place : List ℕ) (s i : ℕ) → s ≤ i → Has (places_of (open_at list i)) place → Has (places_of (open_at list s)) place ⊎ BeginsBetween list place s i
begun_since list place s zero late h = let same : zero ≡ s = omega (arith, late) in inl (subst (λ k. Has (places_of (open_at list k)) place) same h)
begun_since list place s (suc i) late h = elim (at_or_before s i late) [
  | inl same ↦ inl (subst (λ k. Has (places_of (open_at list k)) place) same h)
  | inr before ↦ elim (begun_step list place s i (slice_get list i) before refl h) [
    | inl still ↦ elim (begun_since list place s i before still) [ inl first ↦ inl first | inr begins ↦ inr (later_end list place s i begins) ]
    | inr begins ↦ inr begins
  ]
]

-- ---- where it closes

module _ (names : List (List ℕ)) (d : Doc) (list : List Event) (spells : Spells names (Some d) list) where
  begun_before : (place : List ℕ) (m : ℕ) → Has (places_of (open_at list m)) place → BeginsBetween list place 0 m
  begun_before place m h = elim (begun_since list place 0 m (omega arith) h) [ inl none ↦ absurd (has_none place none) | inr begins ↦ begins ]

  -- Where an element is open, its Begin comes before, and its Finish doesn't.
  between : (place : List ℕ) (begin m finish : ℕ) → Has (places_of (open_at list m)) place → begins_at list place begin ≡ true → finishes_at list place finish ≡ true → (begin < m) × (m ≤ finish)
  between place begin m finish h begins finishes =
      let first = begun_before place m h in
      let same : begin ≡ first.0 = begins_once names d list place begin first.0 spells begins first.3 in
      let over : (finish < m) → ⊥ = λ less.
      let around = begun_before place finish (open_above list finish place place (second_so (option_map_or is_finish (slice_get list finish) false) (innermost_is_at place (open_at list finish)) finishes) (own_prefix place)) in
      elim (begun_since list place (suc finish) m (omega (arith, less)) h) [
        | inl still ↦ not_open_after list place finish finishes still
        | inr again ↦ let twice : again.0 ≡ around.0 = begins_once names d list place again.0 around.0 spells again.3 around.3 in omega (arith, again.1, around.2, twice)
      ] in
      (omega (arith, same, first.2), elim (cases_lt finish m) [ inl less ↦ absurd (over less) | inr more ↦ more ])

  -- Where an event shows that an element meets a predicate, the element is open.
  open_where_met : (attribute : Option (List ℕ)) (cmp : Option Cmp) (place : List ℕ) (i : ℕ) (x : Element) → meets list attribute cmp place i x ≡ true
      → (m : ℕ) × (i ≤ m) × (m ≤ i + 1) × (innermost_is_at place (open_at list m) ≡ true)
  open_where_met None None place i x met = (i + 1, omega arith, omega arith, second_so (option_map_or is_begin (slice_get list i) false) (innermost_is_at place (open_at list (i + 1))) met)
  open_where_met None (Some cmp) place i x met =
      let finishes : finishes_at list place i ≡ true = second_so (is_enough (Some cmp) (string_value x)) (finishes_at list place i) met in
      (i, omega arith, omega arith, second_so (option_map_or is_finish (slice_get list i) false) (innermost_is_at place (open_at list i)) finishes)
  open_where_met (Some name) cmp place i x met =
      let found = any_found (λ k. option_map_or (has_enough name cmp) (slice_get x.attributes k) false && ends_attribute_at list place k i) (counted (length x.attributes)) met in
      let ends = second_so (option_map_or (has_enough name cmp) (slice_get x.attributes found.0) false) (ends_attribute_at list place found.0 i) found.2 in
      let inner = second_so (option_map_or is_last_of_attribute (slice_get list i) false) (innermost_is_at place (open_at list i) && nat_eq (attributes_at list i) found.0) ends in
      (i, omega arith, omega arith, first_so (innermost_is_at place (open_at list i)) (nat_eq (attributes_at list i) found.0) inner)

  -- A predicate closes from the Begin of its context node to its Finish.
  pub close-inside : (bearer : List ℕ) (pred : Pred) (begin i finish : ℕ) → close d list bearer pred ≡ Some i → begins_at list bearer begin ≡ true → finishes_at list bearer finish ≡ true
      → (begin ≤ i) × (i ≤ finish)
  close-inside bearer pred begin i finish so begins finishes = elim (close_cases d list bearer pred i so).1 [
    | inl met ↦
        let tells = met_so d list bearer pred i met in
        let where_open = open_where_met pred.attribute pred.cmp tells.place i tells.x tells.met in
        let within = between bearer begin where_open.0 finish (open_above list where_open.0 tells.place bearer where_open.3 (way_below d pred.way bearer tells.place tells.led)) begins finishes in
        (omega (arith, within.0, where_open.2), omega (arith, within.1, where_open.1))
    | inr unmet ↦
        let within = between bearer begin i finish (open_above list i bearer bearer (second_so (option_map_or is_finish (slice_get list i) false) (innermost_is_at bearer (open_at list i)) unmet) (own_prefix bearer)) begins finishes in
        (omega (arith, within.0), within.1)
  ]
