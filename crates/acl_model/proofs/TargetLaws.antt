-- The targets of a predicate are the elements at the places to which the predicate's path leads from the context node.
use Rattle.std.proofs.Common.{◌≡◌, ℕ, zero, suc, Bool, true, false, ◌&&◌, ◌||◌, nat_eq, Some, None, List, [], ◌∷◌, ◌++◌, map, ap, sym, subst, ◌∙◌, refl, inl, inr, ◌⊎◌}
use Rattle.std.proofs.lemmas.Bool.{true≢false}
use Rattle.std.proofs.lemmas.Option.{option_and_then_some, same_Some}
use Rattle.std.specs.List.{flat_map, filter, slice_get, Contains}
use Rattle.std.specs.Option.{option_and_then}
use Rattle.std.specs.Cmp.Lexicographic.{pointwise, same_text}
use Rattle.acl_model.specs.Places.{children, child, below, at}
use Rattle.acl_model.specs.NameTests.{passes}
use Rattle.acl_model.specs.Predicates.{descendants, below_item, on_axis, targets}
use Rattle.acl_model.specs.Select.{NodeSet, leads, is_kept, step, steps}
use Rattle.acl_model.specs.Targets.{step_of, only, path_leads}
use Rattle.acl_model.proofs.Members.{Has, Contains-has, has-Contains, has_none, has_cases, has_filter, has_filter_cases, has_flat_map, has_flat_map_cases}
use Rattle.acl_model.proofs.ByChildren.{by_children}
use Rattle.acl_model.proofs.ValueEquations.{below_item-Text, below_item-Child, descendants_is}
use Rattle.acl_model.proofs.ViewEquations.{item_cases}
use Rattle.acl_model.proofs.PlaceLaws.{same_number}
use Rattle.acl_model.proofs.GrantLaws.{none_is_not_some, or_right, either, children-Text, children-Child}
use Rattle.acl_model.proofs.ChainLaws.{any_of, any_of-one, any_of-joined, joined_answer, proper, leads_is, map-snoc}
use Rattle.acl_model.specs.declared.document.Doc.{Doc}
use Rattle.acl_model.specs.declared.document.Item.{Item}
use Rattle.acl_model.specs.declared.document.Element.{Element}
use Rattle.acl_model.specs.declared.path.Axis.{Axis}
use Rattle.acl_model.specs.declared.path.Axis.TheVariants.{Child, Descendant}
use Rattle.acl_model.specs.declared.path.PredStep.{PredStep}

-- ---- an axis, down from an element

-- a place along the axis, relative to an element
abbrev OnAxis : Axis → List ℕ → Type 0
OnAxis Child place = (k : ℕ) × (place ≡ k ∷ [])
OnAxis Descendant place = (k : ℕ) × (rest : List ℕ) × (place ≡ k ∷ rest)

-- a child, with what is inside it
abbrev with_inside : Element → List Element
with_inside c = c ∷ descendants c

below_items-are : (items : List Item) → flat_map below_item items ≡ flat_map with_inside (children items)
below_items-are [] = refl
below_items-are (item ∷ items) =
    item_cases (λ x. flat_map below_item (x ∷ items) ≡ flat_map with_inside (children (x ∷ items)))
    (λ bytes.
    ap (λ es. es ++ flat_map below_item items) (below_item-Text bytes)
    ∙ below_items-are items
    ∙ ap (flat_map with_inside) (sym (children-Text bytes items)))
    (λ e.
    ap (λ es. es ++ flat_map below_item items) (below_item-Child e)
    ∙ ap (λ es. (e ∷ descendants e) ++ es) (below_items-are items)
    ∙ ap (flat_map with_inside) (sym (children-Child e items)))
    item

-- The descendants of an element are its children, each with what is inside it.
descendants-are : (e : Element) → descendants e ≡ flat_map with_inside (children e.items)
descendants-are e = descendants_is e ∙ below_items-are e.items

-- x is a descendant, at some place
abbrev FoundBelow : Element → Element → Type 0
FoundBelow e x = (k : ℕ) × (rest : List ℕ) × (below e (k ∷ rest) ≡ Some x)

descendant_found : (e x : Element) → Has (descendants e) x → FoundBelow e x
descendant_found = by_children (λ e. (x : Element) → Has (descendants e) x → FoundBelow e x) (λ e inside x h.
    let found = has_flat_map_cases with_inside (children e.items) x (subst (λ es. Has es x) (descendants-are e) h) in
    elim (has_cases found.0 x (descendants found.0) found.2) [
      | inl same ↦ (suc found.1.0, [], ap (option_and_then (λ c. below c [])) found.1.1 ∙ ap Some same)
      | inr deeper ↦
          let further = inside found.0 found.1 x deeper in
          (suc found.1.0, further.0 ∷ further.1, ap (option_and_then (λ c. below c (further.0 ∷ further.1))) found.1.1 ∙ further.2)
    ])

descendant_has : (rest : List ℕ) (k : ℕ) (e x : Element) → below e (k ∷ rest) ≡ Some x → Has (descendants e) x
descendant_has rest zero e x found = absurd (none_is_not_some x found)
descendant_has [] (suc n) e x found = option_and_then_some (λ c. below c []) (slice_get (children e.items) n) x found (λ c is there.
    subst (λ es. Has es x) (sym (descendants-are e)) (has_flat_map with_inside (children e.items) c x (n, is) (0, there)))
descendant_has (k ∷ rest) (suc n) e x found = option_and_then_some (λ c. below c (k ∷ rest)) (slice_get (children e.items) n) x found (λ c is there.
    let deeper = descendant_has rest k c x there in
    subst (λ es. Has es x) (sym (descendants-are e)) (has_flat_map with_inside (children e.items) c x (n, is) (suc deeper.0, deeper.1)))

child_has : (k : ℕ) (e x : Element) → below e (k ∷ []) ≡ Some x → Has (children e.items) x
child_has zero e x found = absurd (none_is_not_some x found)
child_has (suc n) e x found = option_and_then_some (λ c. below c []) (slice_get (children e.items) n) x found (λ c is there. (n, is ∙ there))

-- an element on the axis has a place along it
axis_found : (axis : Axis) (e x : Element) → Has (on_axis axis e) x → (place : List ℕ) × OnAxis axis place × (below e place ≡ Some x)
axis_found Child e x h = (suc h.0 ∷ [], (suc h.0, refl), ap (option_and_then (λ c. below c [])) h.1)
axis_found Descendant e x h = let found = descendant_found e x h in (found.0 ∷ found.1, (found.0, found.1, refl), found.2)

-- an element at a place along the axis is on it
axis_has : (axis : Axis) (e x : Element) (place : List ℕ) → OnAxis axis place → below e place ≡ Some x → Has (on_axis axis e) x
axis_has Child e x place along found = child_has along.0 e x (ap (below e) (sym along.1) ∙ found)
axis_has Descendant e x place along found = descendant_has along.1 along.0 e x (ap (below e) (sym along.2) ∙ found)

-- ---- an axis, up from a place

-- the set, relative to the k-th child; the virtual root represents all nodes above it
abbrev seen_in : Axis → NodeSet → ℕ → NodeSet
seen_in axis set k None = joined_answer axis (set (Some [])) (set None)
seen_in axis set k (Some place) = set (Some (k ∷ place))

leads-root : (axis : Axis) (set : NodeSet) → leads axis set [] ≡ set None
leads-root axis set = leads_is axis set [] ∙ any_of-one axis (set None)

leads-in : (axis : Axis) (set : NodeSet) (k : ℕ) (place : List ℕ) → leads axis set (k ∷ place) ≡ leads axis (seen_in axis set k) place
leads-in axis set k place =
    leads_is axis set (k ∷ place)
    ∙ ap (λ answers. any_of axis (answers ++ set None ∷ [])) (map-snoc (λ m. set (Some m)) k (proper place))
    ∙ any_of-joined axis (map (λ m. set (Some (k ∷ m))) (proper place)) (set (Some [])) (set None)
    ∙ sym (leads_is axis (seen_in axis set k) place)

from_above : (place : List ℕ) (set : NodeSet) → set None ≡ true → leads Descendant set place ≡ true
from_above [] set above = leads-root Descendant set ∙ above
from_above (k ∷ place) set above = leads-in Descendant set k place ∙ from_above place (seen_in Descendant set k) (or_right (set (Some [])) (set None) above)

-- an axis leads from a member to the places along it
from_member : (axis : Axis) (set : NodeSet) (place along : List ℕ) → set (Some place) ≡ true → OnAxis axis along → leads axis set (place ++ along) ≡ true
from_member Child set [] along member is = ap (leads Child set) is.1 ∙ leads-in Child set is.0 [] ∙ leads-root Child (seen_in Child set is.0) ∙ member
from_member Descendant set [] along member is =
    ap (leads Descendant set) is.2 ∙ leads-in Descendant set is.0 is.1
    ∙ from_above is.1 (seen_in Descendant set is.0) (ap (λ b. b || set None) member)
from_member axis set (k ∷ place) along member is = leads-in axis set k (place ++ along) ∙ from_member axis (seen_in axis set k) place along member is

-- a member of the set from which the axis leads to the place
abbrev Origin : Axis → NodeSet → List ℕ → Type 0
Origin axis set place = (start : List ℕ) × (along : List ℕ) × (place ≡ start ++ along) × OnAxis axis along × (set (Some start) ≡ true)

parent_found : (place : List ℕ) (k : ℕ) (set : NodeSet) → leads Child set (k ∷ place) ≡ true → Origin Child set (k ∷ place)
parent_found [] k set so = ([], k ∷ [], refl, (k, refl), sym (leads-in Child set k [] ∙ leads-root Child (seen_in Child set k)) ∙ so)
parent_found (j ∷ place) k set so =
    let found = parent_found place j (seen_in Child set k) (sym (leads-in Child set k (j ∷ place)) ∙ so) in
    (k ∷ found.0, found.1, ap (λ p. k ∷ p) found.2, found.3, found.4)

ancestor_found : (place : List ℕ) (set : NodeSet) → leads Descendant set place ≡ true → (set None ≡ true) ⊎ Origin Descendant set place
ancestor_found [] set so = inl (sym (leads-root Descendant set) ∙ so)
ancestor_found (k ∷ place) set so = elim (ancestor_found place (seen_in Descendant set k) (sym (leads-in Descendant set k place) ∙ so)) [
  | inl above ↦ elim (either (set (Some [])) (set None) above) [ inl here ↦ inr ([], k ∷ place, refl, (k, place, refl), here) | inr far ↦ inl far ]
  | inr found ↦ inr (k ∷ found.0, found.1, ap (λ p. k ∷ p) found.2, found.3, found.4)
]

origin_found : (axis : Axis) (set : NodeSet) (place : List ℕ) → set None ≡ false → leads axis set place ≡ true → Origin axis set place
origin_found Child set [] outside so = absurd (true≢false (sym so ∙ leads-root Child set ∙ outside))
origin_found Child set (k ∷ place) outside so = parent_found place k set so
origin_found Descendant set place outside so = elim (ancestor_found place set so) [ inl above ↦ absurd (true≢false (sym above ∙ outside)) | inr found ↦ found ]

-- ---- places that follow one another

below-join : (place along : List ℕ) (e c : Element) → below e place ≡ Some c → below e (place ++ along) ≡ below c along
below-join [] along e c found = ap (λ x. below x along) (same_Some e c found)
below-join (k ∷ place) along e c found = option_and_then_some (λ x. below x place) (child e.items k) c found (λ x is there.
    ap (option_and_then (λ y. below y (place ++ along))) is ∙ below-join place along x c there)

below-cut : (place along : List ℕ) (e x : Element) → below e (place ++ along) ≡ Some x → (c : Element) × (below e place ≡ Some c) × (below c along ≡ Some x)
below-cut [] along e x found = (e, refl, found)
below-cut (k ∷ place) along e x found = option_and_then_some (λ y. below y (place ++ along)) (child e.items k) x found (λ y is there.
    let cut = below-cut place along y x there in
    (cut.0, ap (option_and_then (λ z. below z place)) is ∙ cut.1, cut.2))

-- ---- the predicate's path

both : (a b : Bool) → a ≡ true → b ≡ true → (a && b) ≡ true
both a b x y = ap (λ v. v && b) x ∙ y

first_of_both : (a b : Bool) → (a && b) ≡ true → a ≡ true
first_of_both true b so = refl
first_of_both false b so = so

second_of_both : (a b : Bool) → (a && b) ≡ true → b ≡ true
second_of_both true b so = so
second_of_both false b so = absurd (true≢false (sym so))

-- A target of a member is at a place to which the path leads from the set.
target_reached : (d : Doc) (way : List PredStep) (set : NodeSet) (start : List ℕ) (e x : Element) → at d start ≡ Some e → set (Some start) ≡ true → Has (targets way e) x
    → (place : List ℕ) × (steps d (map step_of way) set (Some place) ≡ true) × (at d place ≡ Some x)
target_reached d [] set start e x there member h = elim (has_cases e x [] h) [ inl same ↦ (start, member, there ∙ ap Some same) | inr later ↦ absurd (has_none x later) ]
target_reached d (s ∷ way) set start e x there member h =
    let found = has_flat_map_cases (targets way) (filter (λ c. passes s.test c.name) (on_axis s.axis e)) x h in
    let kept = has_filter_cases (λ c. passes s.test c.name) (on_axis s.axis e) found.0 found.1 in
    let along = axis_found s.axis e found.0 kept.1 in
    let here : at d (start ++ along.0) ≡ Some found.0 = below-join start along.0 d.root e there ∙ along.2 in
    target_reached d way (step d (step_of s) set) (start ++ along.0) found.0 x here
    (both (leads s.axis set (start ++ along.0)) (is_kept (step_of s) (at d (start ++ along.0)))
    (from_member s.axis set start along.0 member along.1)
    (ap (is_kept (step_of s)) here ∙ both (passes s.test found.0.name) true kept.0 refl))
    found.2

-- An element to which the path leads from the set is a target of a member.
target_has : (d : Doc) (way : List PredStep) (set : NodeSet) (place : List ℕ) (x : Element) → set None ≡ false → steps d (map step_of way) set (Some place) ≡ true → at d place ≡ Some x
    → (start : List ℕ) × (e : Element) × (set (Some start) ≡ true) × (at d start ≡ Some e) × Has (targets way e) x
target_has d [] set place x outside so there = (place, x, so, there, (0, refl))
target_has d (s ∷ way) set place x outside so there =
    let last = target_has d way (step d (step_of s) set) place x refl so there in
    let origin = origin_found s.axis set last.0 outside (first_of_both (leads s.axis set last.0) (is_kept (step_of s) (at d last.0)) last.2) in
    let cut = below-cut origin.0 origin.1 d.root last.1 (ap (at d) (sym origin.2) ∙ last.3) in
    let named = first_of_both (passes s.test last.1.name) true (sym (ap (is_kept (step_of s)) last.3) ∙ second_of_both (leads s.axis set last.0) (is_kept (step_of s) (at d last.0)) last.2) in (
      origin.0,
      cut.0,
      origin.4,
      cut.1,
      has_flat_map (targets way) (filter (λ c. passes s.test c.name) (on_axis s.axis cut.0)) last.1 x
          (has_filter (λ c. passes s.test c.name) (on_axis s.axis cut.0) last.1 named (axis_has s.axis cut.0 last.1 origin.1 origin.3 cut.2))
          last.4,
    )

place_is_itself : (start : List ℕ) → pointwise nat_eq start start ≡ true
place_is_itself [] = refl
place_is_itself (k ∷ start) = both (nat_eq k k) (pointwise nat_eq start start) (same_number k) (place_is_itself start)

-- Each target of a predicate is at a place to which the predicate's path leads from the context node.
pub targets_reached : (d : Doc) (start : List ℕ) (e x : Element) (way : List PredStep) → at d start ≡ Some e → Contains (targets way e) x
    → (place : List ℕ) × (path_leads d way start place ≡ true) × (at d place ≡ Some x)
targets_reached d start e x way there h = target_reached d way (only start) start e x there (place_is_itself start) (has-Contains (targets way e) x h)

-- Each element at such a place is a target.
pub targets_all : (d : Doc) (start place : List ℕ) (e x : Element) (way : List PredStep) → at d start ≡ Some e → path_leads d way start place ≡ true → at d place ≡ Some x
    → Contains (targets way e) x
targets_all d start place e x way there leads_there found =
    let origin = target_has d way (only start) place x refl leads_there found in
    let same : origin.1 ≡ e = same_Some origin.1 e (sym origin.3 ∙ ap (at d) (same_text origin.0 start (sym origin.2)) ∙ there) in
    Contains-has (targets way e) x (subst (λ y. Has (targets way y) x) same origin.4)
