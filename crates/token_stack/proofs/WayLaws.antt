-- The steps of a predicate's path lead where the names along the way say.
use Rattle.std.proofs.Common.{◌≡◌, ℕ, Bool, true, false, ◌&&◌, ◌||◌, nat_eq, Some, None, List, [], ◌∷◌, ◌++◌, map, take, refl, ap, sym, ◌∙◌}
use Rattle.std.proofs.lemmas.Option.{option_and_then_some, same_Some}
use Rattle.std.specs.Cmp.Lexicographic.{pointwise}
use Rattle.std.specs.List.{list_any}
use Rattle.std.specs.Option.{option_and_then, option_map_or}
use Rattle.acl_model.specs.NameTests.{passes}
use Rattle.acl_model.specs.Places.{child, below, at}
use Rattle.acl_model.specs.Select.{Node, NodeSet, virtual_root, ancestors, leads, keeps, is_kept, step, steps}
use Rattle.acl_model.specs.Targets.{step_of, only, path_leads}
use Rattle.acl_model.specs.declared.document.Doc.{Doc}
use Rattle.acl_model.specs.declared.document.Element.{Element}
use Rattle.acl_model.specs.declared.path.Axis.{Axis}
use Rattle.acl_model.specs.declared.path.Axis.TheVariants.{Child, Descendant}
use Rattle.acl_model.specs.declared.path.PredStep.{PredStep}
use Rattle.acl_model.specs.declared.path.Step.{Step}
use Rattle.acl_model.proofs.ChainLaws.{any_of, any_of-one, any_of-joined, joined_answer, proper, leads_is, map-snoc}
use Rattle.acl_model.proofs.PlaceLaws.{same_number}
use Rattle.token_stack.specs.WayNames.{is_deep, led, names_along, names_from}

-- ---- tests

or_swap : (a b c d : Bool) → ((a || b) || (c || d)) ≡ ((a || c) || (b || d))
or_swap true b c d = refl
or_swap false true true d = refl
or_swap false true false d = refl
or_swap false false c d = refl

pub and_or : (a b k : Bool) → ((a || b) && k) ≡ ((a && k) || (b && k))
and_or true b true = refl
and_or true true false = refl
and_or true false false = refl
and_or false b k = refl

pub or_false : (a : Bool) → (a || false) ≡ a
or_false true = refl
or_false false = refl

last_or : (a b : Bool) → a ≡ (a || (b && false))
last_or true b = refl
last_or false true = refl
last_or false false = refl

none_or : (a b : Bool) → false ≡ ((a && false) || (b && false))
none_or true true = refl
none_or true false = refl
none_or false true = refl
none_or false false = refl

regroup : (a d l k : Bool) → ((d && l) && k) ≡ ((a && false) || (d && (l && k)))
regroup true true l k = refl
regroup true false l k = refl
regroup false true l k = refl
regroup false false l k = refl

module _ {X : Type 0} where
  any_same : (p q : X → Bool) (xs : List X) → ((x : X) → p x ≡ q x) → list_any p xs ≡ list_any q xs
  any_same p q [] same = refl
  any_same p q (x ∷ xs) same = ap (λ b. b || list_any p xs) (same x) ∙ ap (λ b. q x || b) (any_same p q xs same)

  any_or : (p q r : X → Bool) (xs : List X) → ((x : X) → p x ≡ (q x || r x)) → list_any p xs ≡ (list_any q xs || list_any r xs)
  any_or p q r [] same = refl
  any_or p q r (x ∷ xs) same =
      ap (λ b. b || list_any p xs) (same x) ∙ ap (λ b. (q x || r x) || b) (any_or p q r xs same)
      ∙ or_swap (q x) (r x) (list_any q xs) (list_any r xs)

  any_none : (xs : List X) → list_any (λ (x : X). false) xs ≡ false
  any_none [] = refl
  any_none (x ∷ xs) = any_none xs

-- ---- steps from sets of nodes

leads_same : (axis : Axis) (S T : NodeSet) (place : List ℕ) → ((node : Node) → S node ≡ T node) → leads axis S place ≡ leads axis T place
leads_same Child S T place same = any_same S T (take 1 (ancestors place)) same
leads_same Descendant S T place same = any_same S T (ancestors place) same

leads_or : (axis : Axis) (S A B : NodeSet) (place : List ℕ) → ((node : Node) → S node ≡ (A node || B node)) → leads axis S place ≡ (leads axis A place || leads axis B place)
leads_or Child S A B place same = any_or S A B (take 1 (ancestors place)) same
leads_or Descendant S A B place same = any_or S A B (ancestors place) same

leads_none : (axis : Axis) (place : List ℕ) → leads axis (λ node. false) place ≡ false
leads_none Child place = any_none (take 1 (ancestors place))
leads_none Descendant place = any_none (ancestors place)

step_same : (d : Doc) (s : Step) (S T : NodeSet) → ((node : Node) → S node ≡ T node) → (node : Node) → step d s S node ≡ step d s T node
step_same d s S T same None = refl
step_same d s S T same (Some p) = ap (λ b. b && is_kept s (at d p)) (leads_same s.axis S T p same)

-- Sets with the same members lead to the same nodes.
pub steps_same : (d : Doc) (path : List Step) (S T : NodeSet) → ((node : Node) → S node ≡ T node) → (node : Node) → steps d path S node ≡ steps d path T node
steps_same d [] S T same node = same node
steps_same d (s ∷ path) S T same node = steps_same d path (step d s S) (step d s T) (step_same d s S T same) node

step_or : (d : Doc) (s : Step) (S A B : NodeSet) → ((node : Node) → S node ≡ (A node || B node)) → (node : Node) → step d s S node ≡ (step d s A node || step d s B node)
step_or d s S A B same None = refl
step_or d s S A B same (Some p) =
    ap (λ b. b && is_kept s (at d p)) (leads_or s.axis S A B p same) ∙ and_or (leads s.axis A p) (leads s.axis B p) (is_kept s (at d p))

-- From two sets together the steps lead where they lead from one of them.
steps_or : (d : Doc) (path : List Step) (S A B : NodeSet) → ((node : Node) → S node ≡ (A node || B node)) → (node : Node) → steps d path S node ≡ (steps d path A node || steps d path B node)
steps_or d [] S A B same node = same node
steps_or d (s ∷ path) S A B same node = steps_or d path (step d s S) (step d s A) (step d s B) (step_or d s S A B same) node

step_none : (d : Doc) (s : Step) (node : Node) → step d s (λ n. false) node ≡ false
step_none d s None = refl
step_none d s (Some p) = ap (λ b. b && is_kept s (at d p)) (leads_none s.axis p)

-- From no node they lead nowhere.
steps_none : (d : Doc) (path : List Step) (m : Node) → steps d path (λ n. false) m ≡ false
steps_none d [] m = refl
steps_none d (s ∷ path) m = steps_same d path (step d s (λ n. false)) (λ n. false) (step_none d s) m ∙ steps_none d path m

pub steps_if : (d : Doc) (path : List Step) (b : Bool) (S : NodeSet) (m : Node) → steps d path (λ n. b && S n) m ≡ (b && steps d path S m)
steps_if d path true S m = refl
steps_if d path false S m = steps_none d path m

-- ---- steps inside a child

-- the set, relative to the k-th child; the virtual root represents all nodes above it
abbrev seen_in : Axis → NodeSet → ℕ → NodeSet
seen_in axis set k None = joined_answer axis (set (Some [])) (set None)
seen_in axis set k (Some place) = set (Some (k ∷ place))

leads-root : (axis : Axis) (set : NodeSet) → leads axis set [] ≡ set None
leads-root axis set = leads_is axis set [] ∙ any_of-one axis (set None)

leads-in : (axis : Axis) (set : NodeSet) (k : ℕ) (place : List ℕ) → leads axis set (k ∷ place) ≡ leads axis (seen_in axis set k) place
leads-in axis set k place =
    leads_is axis set (k ∷ place)
    ∙ ap (λ answers. any_of axis (answers ++ set None ∷ [])) (map-snoc (λ m. set (Some m)) k (proper place))
    ∙ any_of-joined axis (map (λ m. set (Some (k ∷ m))) (proper place)) (set (Some [])) (set None)
    ∙ sym (leads_is axis (seen_in axis set k) place)

-- the same where the virtual root isn't in the set, so that above the child only its parent may be
abbrev pub inner : NodeSet → ℕ → NodeSet
inner set k None = set (Some [])
inner set k (Some place) = set (Some (k ∷ place))

seen-inner : (axis : Axis) (set : NodeSet) (k : ℕ) → set None ≡ false → (node : Node) → seen_in axis set k node ≡ inner set k node
seen-inner Child set k none None = refl
seen-inner Descendant set k none None = ap (λ b. set (Some []) || b) none ∙ or_false (set (Some []))
seen-inner axis set k none (Some place) = refl

-- the document of which this element is the root
abbrev pub rooted : Element → Doc
rooted e = record { root = e }

step-in : (e c : Element) (k : ℕ) (s : Step) (set : NodeSet) → child e.items k ≡ Some c → set None ≡ false
    → (node : Node) → inner (step (rooted e) s set) k node ≡ step (rooted c) s (inner set k) node
step-in e c k s set there none None = ap (λ b. b && keeps s e) (leads-root s.axis set ∙ none)
step-in e c k s set there none (Some p) =
    ap (λ b. b && is_kept s (below e (k ∷ p))) (leads-in s.axis set k p ∙ leads_same s.axis (seen_in s.axis set k) (inner set k) p (seen-inner s.axis set k none))
    ∙ ap (λ o. leads s.axis (inner set k) p && is_kept s (option_and_then (λ x. below x p) o)) there

-- Steps lead to a place in a child as they do in the child alone.
pub steps-in : (e c : Element) (k : ℕ) (path : List Step) (set : NodeSet) (p : List ℕ) → child e.items k ≡ Some c → set None ≡ false
    → steps (rooted e) path set (Some (k ∷ p)) ≡ steps (rooted c) path (inner set k) (Some p)
steps-in e c k [] set p there none = refl
steps-in e c k (s ∷ path) set p there none =
    steps-in e c k path (step (rooted e) s set) p there refl
    ∙ steps_same (rooted c) path (inner (step (rooted e) s set) k) (step (rooted c) s (inner set k)) (step-in e c k s set there none) (Some p)

only-inner : (k : ℕ) (place : List ℕ) (node : Node) → inner (only (k ∷ place)) k node ≡ only place node
only-inner k place None = refl
only-inner k place (Some p) = ap (λ b. b && pointwise nat_eq p place) (same_number k)

-- From an element a predicate's path leads as if the element were the root.
relative : (place more : List ℕ) (way : List PredStep) (e x : Element) → below e place ≡ Some x
    → steps (rooted e) (map step_of way) (only place) (Some (place ++ more)) ≡ steps (rooted x) (map step_of way) (only []) (Some more)
relative [] more way e x found = ap (λ y. steps (rooted y) (map step_of way) (only []) (Some more)) (same_Some e x found)
relative (k ∷ place) more way e x found = option_and_then_some (λ c. below c place) (child e.items k) x found (λ c is there.
    steps-in e c k (map step_of way) (only (k ∷ place)) (place ++ more) is refl
    ∙ steps_same (rooted c) (map step_of way) (inner (only (k ∷ place)) k) (only place) (only-inner k place) (Some (place ++ more))
    ∙ relative place more way c x there)

-- ---- from the virtual root

-- Nothing but what a set contains of the root leads to the root.
pub at_root : (c : Element) (path : List Step) (S : NodeSet) → S None ≡ false → S (Some []) ≡ false → steps (rooted c) path S (Some []) ≡ false
at_root c [] S none root = root
at_root c (s ∷ path) S none root = at_root c path (step (rooted c) s S) refl (ap (λ b. b && keeps s c) (leads-root s.axis S ∙ none))

child_alone : (k : ℕ) (node : Node) → seen_in Child virtual_root k node ≡ false
child_alone k None = refl
child_alone k (Some p) = refl

all_below : (k : ℕ) (node : Node) → seen_in Descendant virtual_root k node ≡ virtual_root node
all_below k None = refl
all_below k (Some p) = refl

first_inner : (k : ℕ) (node : Node) → inner (only []) k node ≡ virtual_root node
first_inner k None = refl
first_inner k (Some p) = refl

leads_deeper : (axis : Axis) (k : ℕ) (p : List ℕ) → leads axis virtual_root (k ∷ p) ≡ (is_deep axis && leads axis virtual_root p)
leads_deeper Child k p = leads-in Child virtual_root k p ∙ leads_same Child (seen_in Child virtual_root k) (λ n. false) p (child_alone k) ∙ leads_none Child p
leads_deeper Descendant k p = leads-in Descendant virtual_root k p ∙ leads_same Descendant (seen_in Descendant virtual_root k) virtual_root p (all_below k)

at_first : (s : PredStep) (way : List PredStep) (c : Element)
    → steps (rooted c) (map step_of way) (step (rooted c) (step_of s) virtual_root) (Some []) ≡ led (s ∷ way) (c.name ∷ [])
at_first s [] c =
    ap (λ b. b && (passes s.test c.name && true)) (leads-root s.axis virtual_root)
    ∙ last_or (passes s.test c.name && true) (is_deep s.axis)
at_first s (t ∷ way) c =
    at_root c (map step_of way) (step (rooted c) (step_of t) (step (rooted c) (step_of s) virtual_root)) refl
    (ap (λ b. b && keeps (step_of t) c) (leads-root t.axis (step (rooted c) (step_of s) virtual_root)))
    ∙ none_or (passes s.test c.name) (is_deep s.axis)

-- What the first step reaches, seen from a child: the child's parent, where its name passes, and on the descendant axis
-- what the step reaches from above the child.
first_cut : (c y : Element) (k : ℕ) (s : PredStep) → child c.items k ≡ Some y → (node : Node)
    → inner (step (rooted c) (step_of s) virtual_root) k node
    ≡ ((passes s.test c.name && virtual_root node) || (is_deep s.axis && step (rooted y) (step_of s) virtual_root node))
first_cut c y k s is None =
    ap (λ b. b && (passes s.test c.name && true)) (leads-root s.axis virtual_root)
    ∙ last_or (passes s.test c.name && true) (is_deep s.axis)
first_cut c y k s is (Some p) =
    ap (λ b. b && is_kept (step_of s) (below c (k ∷ p))) (leads_deeper s.axis k p)
    ∙ ap (λ o. (is_deep s.axis && leads s.axis virtual_root p) && is_kept (step_of s) (option_and_then (λ x. below x p) o)) is
    ∙ regroup (passes s.test c.name) (is_deep s.axis) (leads s.axis virtual_root p) (is_kept (step_of s) (below y p))

-- From above an element a path leads as the names of the element and of those inward say.
reached : (more : List ℕ) (way : List PredStep) (c x : Element) → below c more ≡ Some x
    → steps (rooted c) (map step_of way) virtual_root (Some more) ≡ led way (c.name ∷ names_along c more)
reached [] [] c x found = refl
reached [] (s ∷ way) c x found = at_first s way c
reached (k ∷ more) [] c x found = refl
reached (k ∷ more) (s ∷ way) c x found = option_and_then_some (λ y. below y more) (child c.items k) x found (λ y is there.
    let path : List Step = map step_of way in
    let next : NodeSet = step (rooted y) (step_of s) virtual_root in
    steps-in c y k path (step (rooted c) (step_of s) virtual_root) more is refl
    ∙ steps_or (rooted y) path (inner (step (rooted c) (step_of s) virtual_root) k) (λ n. passes s.test c.name && virtual_root n) (λ n. is_deep s.axis && next n)
    (first_cut c y k s is) (Some more)
    ∙ ap (λ b. b || steps (rooted y) path (λ n. is_deep s.axis && next n) (Some more)) (steps_if (rooted y) path (passes s.test c.name) virtual_root (Some more))
    ∙ ap (λ b. (passes s.test c.name && steps (rooted y) path virtual_root (Some more)) || b) (steps_if (rooted y) path (is_deep s.axis) next (Some more))
    ∙ ap (λ b. (passes s.test c.name && b) || (is_deep s.axis && steps (rooted y) path next (Some more))) (reached more way y x there)
    ∙ ap (λ b. (passes s.test c.name && led way (y.name ∷ names_along y more)) || (is_deep s.axis && b)) (reached more (s ∷ way) y x there)
    ∙ ap (λ o. (passes s.test c.name && led way (option_map_or (λ z. z.name ∷ names_along z more) o []))
    || (is_deep s.axis && led (s ∷ way) (option_map_or (λ z. z.name ∷ names_along z more) o []))) (sym is))

-- ---- from an element

led_below : (more : List ℕ) (way : List PredStep) (e x : Element) → below e more ≡ Some x
    → steps (rooted e) (map step_of way) (only []) (Some more) ≡ led way (names_along e more)
led_below [] [] e x found = refl
led_below [] (s ∷ way) e x found =
    at_root e (map step_of way) (step (rooted e) (step_of s) (only [])) refl (ap (λ b. b && keeps (step_of s) e) (leads-root s.axis (only [])))
led_below (k ∷ more) way e x found = option_and_then_some (λ c. below c more) (child e.items k) x found (λ c is there.
    steps-in e c k (map step_of way) (only []) more is refl
    ∙ steps_same (rooted c) (map step_of way) (inner (only []) k) virtual_root (first_inner k) (Some more)
    ∙ reached more way c x there
    ∙ ap (λ o. led way (option_map_or (λ z. z.name ∷ names_along z more) o [])) (sym is))

-- an element at a place inside another, from that one
pub below-cut : (place along : List ℕ) (e x : Element) → below e (place ++ along) ≡ Some x → (c : Element) × (below e place ≡ Some c) × (below c along ≡ Some x)
below-cut [] along e x found = (e, refl, found)
below-cut (k ∷ place) along e x found = option_and_then_some (λ y. below y (place ++ along)) (child e.items k) x found (λ y is there.
    let cut = below-cut place along y x there in
    (cut.0, ap (option_and_then (λ z. below z place)) is ∙ cut.1, cut.2))

-- The steps of a predicate's path lead to an element inside the context node as the names on the way down say.
pub path_leads-led : (d : Doc) (way : List PredStep) (place more : List ℕ) (x : Element) → at d (place ++ more) ≡ Some x
    → path_leads d way place (place ++ more) ≡ led way (names_from d place more)
path_leads-led d way place more x found =
    let cut = below-cut place more d.root x found in
    relative place more way d.root cut.0 cut.1
    ∙ led_below more way cut.0 x cut.2
    ∙ ap (λ o. led way (option_map_or (λ e. names_along e more) o [])) (sym cut.1)
