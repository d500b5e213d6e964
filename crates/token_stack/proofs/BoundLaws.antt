-- The bounds after the first events of a list contain the model's selection, narrow with each event, and
-- are exact where the predicates are settled.
use Rattle.std.proofs.Common.{◌≡◌, ◌≤◌, ◌<◌, ◌+◌, ℕ, zero, suc, Bool, true, false, nat_eq, nat_lt, not, ◌&&◌, ◌||◌, Option, Some, None, is_some, List, [], ◌∷◌, length, map, take, drop, find, refl, ap, sym, subst, ◌∙◌, inl, inr, ◌⊎◌, arith, cond}
use Rattle.std.proofs.lemmas.Bool.{true≢false, lt-ltb, ltb-true}
use Rattle.std.proofs.lemmas.Option.{same_Some, none-some, slice_get_within, get_or_from_slice_get}
use Rattle.std.proofs.lemmas.List.FromFn.{length-range_with_len, get_or-range_with_len}
use Rattle.std.specs.Cmp.{first_so, second_so}
use Rattle.std.specs.List.{list_any, list_all, range_with_len, slice_get}
use Rattle.std.specs.Option.{option_map_or, option_or}
use Rattle.acl_model.specs.NameTests.{passes}
use Rattle.acl_model.specs.Places.{at, prefixes}
use Rattle.acl_model.specs.Predicates.{holds, is_enough}
use Rattle.acl_model.specs.Values.{string_value}
use Rattle.acl_model.specs.Select.{Node, NodeSet, virtual_root, ancestors, leads, is_kept, step, steps, select}
use Rattle.acl_model.specs.declared.document.Doc.{Doc}
use Rattle.acl_model.specs.declared.document.Element.{Element}
use Rattle.acl_model.specs.declared.path.Axis.{Axis}
use Rattle.acl_model.specs.declared.path.Axis.TheVariants.{Child, Descendant}
use Rattle.acl_model.specs.declared.path.Cmp.{Cmp}
use Rattle.acl_model.specs.declared.path.Path.{Path}
use Rattle.acl_model.specs.declared.path.Pred.{Pred}
use Rattle.acl_model.specs.declared.path.Step.{Step}
use Rattle.acl_model.proofs.Members.{Has, has_none, has_later, has_cases, has_append_cases, has_left, has_right}
use Rattle.acl_walk.specs.Begun.{is_begin, is_finish, innermost_is_at, finishes_at}
use Rattle.acl_walk.specs.Closes.{attributes_at, close, counted, ends_attribute_at, has_enough, is_last_of_attribute, is_met_at, meets}
use Rattle.acl_walk.specs.Open.{open_at}
use Rattle.acl_walk.specs.Spelling.{Spells}
use Rattle.acl_walk.specs.declared.event.Event.{Event}
use Rattle.acl_walk.proofs.BegunLaws.{stands_in_list}
use Rattle.acl_walk.proofs.CloseLaws.{close-some, close-within, close-inside}
use Rattle.acl_walk.proofs.MeetLaws.{both_so, any_found, any_so, find_any, find_has, has_map, has_map_cases, has_counted, counted_within, event_within, met_so, met-is}
use Rattle.rule_automata.specs.Compile.{is_empty_of}
use Rattle.token_stack.specs.Bounds.{is_met, is_settled, PredicateTruth, Knowledge, KnowsNoLess, model_truth, sure_truth, may_truth, IsAtMost, is_kept_by, step_by, steps_by, selects_by, is_step_settled, are_settled}

-- ---- tests

pub same_by : (a b : Bool) → (a ≡ true → b ≡ true) → (b ≡ true → a ≡ true) → a ≡ b
same_by true b to from = sym (to refl)
same_by false true to from = from refl
same_by false false to from = refl

left_so : (a b : Bool) → a ≡ true → (a || b) ≡ true
left_so a b so = ap (λ c. c || b) so

right_so : (a b : Bool) → b ≡ true → (a || b) ≡ true
right_so true b so = refl
right_so false b so = so

or_cases : (a b : Bool) → (a || b) ≡ true → (a ≡ true) ⊎ (b ≡ true)
or_cases true b so = inl refl
or_cases false b so = inr so

not_so : (a : Bool) → not a ≡ true → a ≡ true → ⊥
not_so true so is = true≢false (sym so)
not_so false so is = true≢false (sym is)

-- either it is false, or it is true
either : (a : Bool) → (not a ≡ true) ⊎ (a ≡ true)
either true = inr refl
either false = inl refl

module _ {X : Type 0} where
  pub all_has : (p : X → Bool) (xs : List X) (x : X) → list_all p xs ≡ true → Has xs x → p x ≡ true
  all_has p [] x so h = absurd (has_none x h)
  all_has p (y ∷ xs) x so h = elim (has_cases y x xs h) [
    | inl same ↦ ap p (sym same) ∙ first_so (p y) (list_all p xs) so
    | inr later ↦ all_has p xs x (second_so (p y) (list_all p xs) so) later
  ]

  all_grows : (p q : X → Bool) (xs : List X) → ((x : X) → Has xs x → p x ≡ true → q x ≡ true) → list_all p xs ≡ true → list_all q xs ≡ true
  all_grows p q [] to so = refl
  all_grows p q (x ∷ xs) to so = both_so (q x) (list_all q xs) (to x (0, refl) (first_so (p x) (list_all p xs) so))
      (all_grows p q xs (λ y h. to y (has_later x y xs h)) (second_so (p x) (list_all p xs) so))

  any_grows : (p q : X → Bool) (xs : List X) → ((x : X) → Has xs x → p x ≡ true → q x ≡ true) → list_any p xs ≡ true → list_any q xs ≡ true
  any_grows p q xs to so = let found = any_found p xs so in any_so q xs found.0 found.1 (to found.0 found.1 found.2)

  has_take : (xs : List X) (x : X) → Has (take 1 xs) x → Has xs x
  has_take [] x h = h
  has_take (y ∷ xs) x h = elim (has_cases y x [] h) [ inl same ↦ (0, ap Some same) | inr later ↦ absurd (has_none x later) ]

  has_drop : (xs : List X) (x : X) → Has (drop 1 xs) x → Has xs x
  has_drop [] x h = h
  has_drop (y ∷ xs) x h = has_later y x xs h

-- ---- ancestors

-- A prefix of a prefix is a prefix.
prefix_of_prefix : (place p q : List ℕ) → Has (prefixes place) p → Has (prefixes p) q → Has (prefixes place) q
prefix_of_prefix [] p q h g = elim (has_cases [] p [] h) [
  | inl same ↦ subst (λ r. Has (prefixes r) q) (sym same) g
  | inr later ↦ absurd (has_none p later)
]
prefix_of_prefix (k ∷ place) p q h g = elim (has_append_cases (map (λ r. k ∷ r) (prefixes place)) ([] ∷ []) p h) [
  | inl longer ↦
      let inner = has_map_cases (λ r. k ∷ r) (prefixes place) p longer in
      elim (has_append_cases (map (λ r. k ∷ r) (prefixes inner.0)) ([] ∷ []) q (subst (λ r. Has (prefixes r) q) (sym inner.2) g)) [
        | inl again ↦
            let deep = has_map_cases (λ r. k ∷ r) (prefixes inner.0) q again in
            has_left (map (λ r. k ∷ r) (prefixes place)) ([] ∷ []) q
            (subst (Has (map (λ r. k ∷ r) (prefixes place))) deep.2
            (has_map (λ r. k ∷ r) (prefixes place) deep.0 (prefix_of_prefix place inner.0 deep.0 inner.1 deep.1)))
        | inr root ↦ has_right (map (λ r. k ∷ r) (prefixes place)) ([] ∷ []) q root
      ]
  | inr root ↦ elim (has_cases [] p [] root) [
    | inl same ↦ has_right (map (λ r. k ∷ r) (prefixes place)) ([] ∷ []) q (subst (λ r. Has (prefixes r) q) (sym same) g)
    | inr later ↦ absurd (has_none p later)
  ]
]

-- a place is a prefix of itself
own_prefix : (place : List ℕ) → Has (prefixes place) place
own_prefix [] = (0, refl)
own_prefix (k ∷ place) = has_left (map (λ r. k ∷ r) (prefixes place)) ([] ∷ []) (k ∷ place) (has_map (λ r. k ∷ r) (prefixes place) place (own_prefix place))

leads_grows : (axis : Axis) (low high : NodeSet) (place : List ℕ) → ((node : Node) → Has (ancestors place) node → low node ≡ true → high node ≡ true)
    → leads axis low place ≡ true → leads axis high place ≡ true
leads_grows Child low high place to so = any_grows low high (take 1 (ancestors place)) (λ node h. to node (has_take (ancestors place) node h)) so
leads_grows Descendant low high place to so = any_grows low high (ancestors place) to so

-- ---- selection grows with the truth of predicates

-- Every predicate of these steps that counts as true by the first truth, at an element of one of these places, does so by the
-- second.
abbrev GrowsOn : Doc → PredicateTruth → PredicateTruth → (List ℕ → Type 0) → List Step → Type 0
GrowsOn d low high on path = (s : Step) (pred : Pred) (p : List ℕ) (e : Element) → Has path s → Has s.preds pred → on p → at d p ≡ Some e → passes s.test e.name ≡ true → low p pred ≡ true → high p pred ≡ true

abbrev SetGrows : NodeSet → NodeSet → (List ℕ → Type 0) → Type 0
SetGrows low high on = (low None ≡ true → high None ≡ true) × ((p : List ℕ) → on p → low (Some p) ≡ true → high (Some p) ≡ true)

module _ (d : Doc) (low high : PredicateTruth) (on : List ℕ → Type 0) (up : (p q : List ℕ) → on p → Has (prefixes p) q → on q) where
  ancestor_grows : (S T : NodeSet) → SetGrows S T on → (p : List ℕ) → on p → (node : Node) → Has (ancestors p) node → S node ≡ true → T node ≡ true
  ancestor_grows S T grows p good node h so = elim (has_append_cases (map Some (drop 1 (prefixes p))) (None ∷ []) node h) [
    | inl above ↦
        let found = has_map_cases Some (drop 1 (prefixes p)) node above in
        subst (λ n. T n ≡ true) found.2 (grows.1 found.0 (up p found.0 good (has_drop (prefixes p) found.0 found.1)) (ap S found.2 ∙ so))
    | inr top ↦ elim (has_cases None node [] top) [
      | inl same ↦ subst (λ n. T n ≡ true) same (grows.0 (ap S same ∙ so))
      | inr later ↦ absurd (has_none node later)
    ]
  ]

  kept_grows : (s : Step) (p : List ℕ) (o : Option Element) → on p → at d p ≡ o
      → ((pred : Pred) (e : Element) → Has s.preds pred → at d p ≡ Some e → passes s.test e.name ≡ true → low p pred ≡ true → high p pred ≡ true)
      → is_kept_by low s p o ≡ true → is_kept_by high s p o ≡ true
  kept_grows s p None good is to so = so
  kept_grows s p (Some e) good is to so =
      both_so (passes s.test e.name) (list_all (high p) s.preds) (first_so (passes s.test e.name) (list_all (low p) s.preds) so)
      (all_grows (low p) (high p) s.preds (λ pred h. to pred e h is (first_so (passes s.test e.name) (list_all (low p) s.preds) so)) (second_so (passes s.test e.name) (list_all (low p) s.preds) so))

  step_grows : (s : Step) (S T : NodeSet) → ((pred : Pred) (p : List ℕ) (e : Element) → Has s.preds pred → on p → at d p ≡ Some e → passes s.test e.name ≡ true → low p pred ≡ true → high p pred ≡ true)
      → SetGrows S T on → SetGrows (step_by d low s S) (step_by d high s T) on
  step_grows s S T to grows = (
    (λ so. so),
    (λ p good so.
        both_so (leads s.axis T p) (is_kept_by high s p (at d p))
        (leads_grows s.axis S T p (ancestor_grows S T grows p good) (first_so (leads s.axis S p) (is_kept_by low s p (at d p)) so))
        (kept_grows s p (at d p) good refl (λ pred e h. to pred p e h good) (second_so (leads s.axis S p) (is_kept_by low s p (at d p)) so))),
  )

  steps_grow : (path : List Step) (S T : NodeSet) → GrowsOn d low high on path → SetGrows S T on → SetGrows (steps_by d low path S) (steps_by d high path T) on
  steps_grow [] S T to grows = grows
  steps_grow (s ∷ path) S T to grows =
      steps_grow path (step_by d low s S) (step_by d high s T) (λ t pred p e h. to t pred p e (has_later s t path h))
      (step_grows s S T (λ pred p e. to s pred p e (0, refl)) grows)

  pub selects_grow_on : (path : Path) (place : List ℕ) → GrowsOn d low high on path.steps → on place → selects_by d low path place ≡ true → selects_by d high path place ≡ true
  unfolding selects_by
  selects_grow_on path place to good so = (steps_grow path.steps virtual_root virtual_root to ((λ top. top), (λ p g none. none))).1 place good so

-- Where one truth is at most another, a path selects by the second what it selects by the first.
pub selects_grow : (d : Doc) (low high : PredicateTruth) (path : Path) (place : List ℕ) → IsAtMost d low high → selects_by d low path place ≡ true → selects_by d high path place ≡ true
selects_grow d low high path place most so =
    selects_grow_on d low high (λ p. Unit {0}) (λ p q good h. tt) path place (λ s pred p e has mine good there passed. most p e pred there) tt so

-- It is enough that the truth grows at the element and its ancestors.
pub selects_grow_above : (d : Doc) (low high : PredicateTruth) (path : Path) (place : List ℕ)
    → ((p : List ℕ) (pred : Pred) → Has (prefixes place) p → low p pred ≡ true → high p pred ≡ true)
    → selects_by d low path place ≡ true → selects_by d high path place ≡ true
selects_grow_above d low high path place to so =
    selects_grow_on d low high (λ p. Has (prefixes place) p) (λ p q above h. prefix_of_prefix place p q above h) path place
    (λ s pred p e has mine above there passed. to p pred above) (own_prefix place) so

-- A prefix is no longer than the place.
pub prefix_short : (place p : List ℕ) → Has (prefixes place) p → length p ≤ length place
prefix_short [] p h = elim (has_cases [] p [] h) [
  | inl same ↦ subst (λ (q : List ℕ). length q ≤ 0) same (omega arith)
  | inr later ↦ absurd (has_none p later)
]
prefix_short (k ∷ place) p h = elim (has_append_cases (map (λ r. k ∷ r) (prefixes place)) ([] ∷ []) p h) [
  | inl longer ↦
      let inner = has_map_cases (λ r. k ∷ r) (prefixes place) p longer in
      let short : length inner.0 ≤ length place = prefix_short place inner.0 inner.1 in
      subst (λ (q : List ℕ). length q ≤ length (k ∷ place)) inner.2 (omega (arith, short))
  | inr root ↦ elim (has_cases [] p [] root) [
    | inl same ↦ subst (λ (q : List ℕ). length q ≤ length (k ∷ place)) same (omega arith)
    | inr later ↦ absurd (has_none p later)
  ]
]

-- ---- by the model's truth a path selects what it selects

leads_same : (axis : Axis) (S T : NodeSet) (place : List ℕ) → ((node : Node) → S node ≡ T node) → leads axis S place ≡ leads axis T place
leads_same axis S T place same = same_by (leads axis S place) (leads axis T place)
    (leads_grows axis S T place (λ node h so. sym (same node) ∙ so))
    (leads_grows axis T S place (λ node h so. same node ∙ so))

kept_same : (d : Doc) (s : Step) (p : List ℕ) (o : Option Element) → at d p ≡ o → is_kept s o ≡ is_kept_by (model_truth d) s p o
kept_same d s p None is = refl
kept_same d s p (Some e) is = ap (λ b. passes s.test e.name && b) (same_by (list_all (λ pred. holds pred e) s.preds) (list_all (model_truth d p) s.preds)
    (all_grows (λ pred. holds pred e) (model_truth d p) s.preds (λ pred h so. ap (λ o. option_map_or (holds pred) o false) is ∙ so))
    (all_grows (model_truth d p) (λ pred. holds pred e) s.preds (λ pred h so. sym (ap (λ o. option_map_or (holds pred) o false) is) ∙ so)))

step_same : (d : Doc) (s : Step) (S T : NodeSet) → ((node : Node) → S node ≡ T node) → (node : Node) → step d s S node ≡ step_by d (model_truth d) s T node
step_same d s S T same None = refl
step_same d s S T same (Some p) = ap (λ b. b && is_kept s (at d p)) (leads_same s.axis S T p same) ∙ ap (λ b. leads s.axis T p && b) (kept_same d s p (at d p) refl)

steps_same : (d : Doc) (path : List Step) (S T : NodeSet) → ((node : Node) → S node ≡ T node) → (node : Node) → steps d path S node ≡ steps_by d (model_truth d) path T node
steps_same d [] S T same node = same node
steps_same d (s ∷ path) S T same node = steps_same d path (step d s S) (step_by d (model_truth d) s T) (step_same d s S T same) node

pub selects_by-model : (d : Doc) (path : Path) (place : List ℕ) → selects_by d (model_truth d) path place ≡ select d path place
unfolding selects_by select
selects_by-model d path place = sym (steps_same d path.steps virtual_root virtual_root (λ node. refl) (Some place))

-- ---- what the first events tell

model_holds : (d : Doc) (bearer : List ℕ) (e : Element) (pred : Pred) → at d bearer ≡ Some e → model_truth d bearer pred ≡ holds pred e
model_holds d bearer e pred there = ap (λ o. option_map_or (holds pred) o false) there

-- With more events a predicate stays met.
met_stays : (d : Doc) (list : List Event) (i j : ℕ) (bearer : List ℕ) (pred : Pred) → i ≤ j → is_met d list i bearer pred ≡ true → is_met d list j bearer pred ≡ true
met_stays d list i j bearer pred later so =
    let found = any_found (is_met_at d list bearer pred) (counted i) so in
    let less : found.0 < i = counted_within i found.0 found.1 in
    any_so (is_met_at d list bearer pred) (counted j) found.0 (has_counted j found.0 (omega (arith, less, later))) found.2

settled_cases : (o : Option ℕ) (i : ℕ) → option_map_or (λ index. nat_lt index i) o false ≡ true → (c : ℕ) × (o ≡ Some c) × (nat_lt c i ≡ true)
settled_cases None i so = absurd (true≢false (sym so))
settled_cases (Some c) i so = (c, refl, so)

-- With more events a predicate stays settled.
settled_stays : (d : Doc) (list : List Event) (i j : ℕ) (bearer : List ℕ) (pred : Pred) → i ≤ j → is_settled d list i bearer pred ≡ true → is_settled d list j bearer pred ≡ true
settled_stays d list i j bearer pred later so =
    let c = settled_cases (close d list bearer pred) i so in
    let less : c.0 < i = ltb-true c.0 i c.2 in
    ap (λ o. option_map_or (λ index. nat_lt index j) o false) c.1 ∙ lt-ltb c.0 j (omega (arith, less, later))

module _ {X : Type 0} where
  find_before_by : (p : X → Bool) (z y x : X) (xs : List X) (k : ℕ) (b : Bool) → p z ≡ b → cond b (Some z) (find p xs) ≡ Some y → slice_get (z ∷ xs) k ≡ Some x → p x ≡ true
      → ((l : ℕ) → find p xs ≡ Some y → slice_get xs l ≡ Some x → (j : ℕ) × (j ≤ l) × (slice_get xs j ≡ Some y)) → (j : ℕ) × (j ≤ k) × (slice_get (z ∷ xs) j ≡ Some y)
  find_before_by p z y x xs k true is so there passes rest = (0, omega arith, so)
  find_before_by p z y x xs zero false is so there passes rest = absurd (true≢false (sym passes ∙ ap p (sym (same_Some z x there)) ∙ is))
  find_before_by p z y x xs (suc k) false is so there passes rest = let found = rest k so there in (suc found.0, omega (arith, found.1), found.2)

  -- What is found stands no later than any member that passes.
  find_before : (p : X → Bool) (xs : List X) (y : X) (k : ℕ) (x : X) → find p xs ≡ Some y → slice_get xs k ≡ Some x → p x ≡ true → (j : ℕ) × (j ≤ k) × (slice_get xs j ≡ Some y)
  find_before p [] y k x so there passes = absurd (none-some y so)
  find_before p (z ∷ xs) y k x so there passes = find_before_by p z y x xs k (p z) refl so there passes (λ l found at. find_before p xs y l x found at passes)

-- The number at an index is the index.
number_is : (n j y : ℕ) → slice_get (counted n) j ≡ Some y → j ≡ y
number_is n j y there =
    let long = length-range_with_len 0 n in
    let within = slice_get_within (range_with_len 0 n) j y there in
    let is = get_or_from_slice_get (range_with_len 0 n) j y 0 there in
    let counts = get_or-range_with_len 0 n j 0 (omega (arith, long, within)) in
    omega (arith, is, counts)

-- what is found, where some member passes
found_some : {X : Type 0} (o : Option X) → is_some o ≡ true → (x : X) × (o ≡ Some x)
found_some None so = absurd (true≢false (sym so))
found_some (Some x) so = (x, refl)

-- An event that meets a predicate is one of the list.
meets_within : (list : List Event) (attribute : Option (List ℕ)) (cmp : Option Cmp) (place : List ℕ) (i : ℕ) (x : Element) → meets list attribute cmp place i x ≡ true → i < length list
meets_within list None None place i x met = event_within list is_begin (innermost_is_at place (open_at list (i + 1))) i met
meets_within list None (Some cmp) place i x met =
    event_within list is_finish (innermost_is_at place (open_at list i)) i (second_so (is_enough (Some cmp) (string_value x)) (finishes_at list place i) met)
meets_within list (Some name) cmp place i x met =
    let found = any_found (λ k. option_map_or (has_enough name cmp) (slice_get x.attributes k) false && ends_attribute_at list place k i) (counted (length x.attributes)) met in
    event_within list is_last_of_attribute (innermost_is_at place (open_at list i) && nat_eq (attributes_at list i) found.0) i
    (second_so (option_map_or (has_enough name cmp) (slice_get x.attributes found.0) false) (ends_attribute_at list place found.0 i) found.2)

-- an option found first
first_is : {X : Type 0} (o p : Option X) (x : X) → is_some o ≡ true → option_or o p ≡ Some x → o ≡ Some x
first_is None p x some so = absurd (true≢false (sym some))
first_is (Some y) p x some so = so

by_cases : (settled sense : Bool) → ((settled && sense) || not settled) ≡ (not settled || sense)
by_cases true true = refl
by_cases true false = refl
by_cases false sense = refl

not_grows : (a b : Bool) → (a ≡ true → b ≡ true) → not b ≡ true → not a ≡ true
not_grows true b to so = absurd (not_so b so (to refl))
not_grows false b to so = refl

-- The bounds of a predicate's negation are those of the predicate, swapped.
pub negation_swaps : (d : Doc) (low high : PredicateTruth) → IsAtMost d low high → IsAtMost d (λ bearer pred. not (high bearer pred)) (λ bearer pred. not (low bearer pred))
negation_swaps d low high most bearer e pred there so = not_grows (low bearer pred) (high bearer pred) (most bearer e pred there) so

module _ (names : List (List ℕ)) (d : Doc) (list : List Event) (spells : Spells names (Some d) list) where
  -- What an event meets is true.
  event_holds : (bearer : List ℕ) (e : Element) (pred : Pred) (i : ℕ) → at d bearer ≡ Some e → is_met d list i bearer pred ≡ true → holds pred e ≡ true
  event_holds bearer e pred i there so =
      let found = any_found (is_met_at d list bearer pred) (counted i) so in
      let tells = met_so d list bearer pred found.0 found.2 in
      sym (met-is names d list bearer e pred spells there)
      ∙ any_so (is_met_at d list bearer pred) (counted (length list)) found.0
      (has_counted (length list) found.0 (meets_within list pred.attribute pred.cmp tells.place found.0 tells.x tells.met)) found.2

  -- A predicate that is true and settled is met.
  true_met : (bearer : List ℕ) (e : Element) (pred : Pred) (i : ℕ) → at d bearer ≡ Some e → holds pred e ≡ true → is_settled d list i bearer pred ≡ true → is_met d list i bearer pred ≡ true
  true_met bearer e pred i there so settled =
      let c = settled_cases (close d list bearer pred) i settled in
      let some : is_some (find (is_met_at d list bearer pred) (counted (length list))) ≡ true =
      find_any (is_met_at d list bearer pred) (counted (length list)) (met-is names d list bearer e pred spells there ∙ so) in
      let first = first_is (find (is_met_at d list bearer pred) (counted (length list))) (find (finishes_at list bearer) (counted (length list))) c.0 some c.1 in
      let found = find_has (is_met_at d list bearer pred) (counted (length list)) c.0 first in
      any_so (is_met_at d list bearer pred) (counted i) c.0 (has_counted i c.0 (ltb-true c.0 i c.2)) found.1

  -- A predicate that is met is settled.
  met_settled : (bearer : List ℕ) (pred : Pred) (i : ℕ) → is_met d list i bearer pred ≡ true → is_settled d list i bearer pred ≡ true
  met_settled bearer pred i so =
      let found = any_found (is_met_at d list bearer pred) (counted i) so in
      let less : found.0 < i = counted_within i found.0 found.1 in
      let tells = met_so d list bearer pred found.0 found.2 in
      let own : Has (counted (length list)) found.0 = has_counted (length list) found.0 (meets_within list pred.attribute pred.cmp tells.place found.0 tells.x tells.met) in
      let first = found_some (find (is_met_at d list bearer pred) (counted (length list)))
      (find_any (is_met_at d list bearer pred) (counted (length list)) (any_so (is_met_at d list bearer pred) (counted (length list)) found.0 own found.2)) in
      let before = find_before (is_met_at d list bearer pred) (counted (length list)) first.0 own.0 found.0 first.1 own.1 found.2 in
      let met_index : own.0 ≡ found.0 = number_is (length list) own.0 found.0 own.1 in
      let close_index : before.0 ≡ first.0 = number_is (length list) before.0 first.0 before.2 in
      let order : before.0 ≤ own.0 = before.1 in
      ap (λ o. option_map_or (λ index. nat_lt index i) (option_or o (find (finishes_at list bearer) (counted (length list)))) false) first.1
      ∙ lt-ltb first.0 i (omega (arith, met_index, close_index, order, less))

  -- A predicate is surely true where it is true and settled, and may be true where it is true or not settled.
  met_is : (bearer : List ℕ) (e : Element) (pred : Pred) (i : ℕ) → at d bearer ≡ Some e → is_met d list i bearer pred ≡ (is_settled d list i bearer pred && holds pred e)
  met_is bearer e pred i there = same_by (is_met d list i bearer pred) (is_settled d list i bearer pred && holds pred e)
      (λ met. both_so (is_settled d list i bearer pred) (holds pred e) (met_settled bearer pred i met) (event_holds bearer e pred i there met))
      (λ so. true_met bearer e pred i there (second_so (is_settled d list i bearer pred) (holds pred e) so) (first_so (is_settled d list i bearer pred) (holds pred e) so))

  pub sure_is : (bearer : List ℕ) (e : Element) (pred : Pred) (known : Knowledge) → at d bearer ≡ Some e
      → sure_truth d list known bearer pred ≡ (is_settled d list (known bearer) bearer pred && holds pred e)
  sure_is bearer e pred known there = met_is bearer e pred (known bearer) there

  pub may_is : (bearer : List ℕ) (e : Element) (pred : Pred) (known : Knowledge) → at d bearer ≡ Some e
      → may_truth d list known bearer pred ≡ (not (is_settled d list (known bearer) bearer pred) || holds pred e)
  may_is bearer e pred known there =
      ap (λ b. b || not (is_settled d list (known bearer) bearer pred)) (met_is bearer e pred (known bearer) there)
      ∙ by_cases (is_settled d list (known bearer) bearer pred) (holds pred e)

  -- After its bearer's Finish a predicate is settled, and with all events each is.
  pub settled_after : (bearer : List ℕ) (e : Element) (pred : Pred) (finish i : ℕ) → at d bearer ≡ Some e → finishes_at list bearer finish ≡ true → finish < i → is_settled d list i bearer pred ≡ true
  settled_after bearer e pred finish i there finishes later =
      let c = found_some (close d list bearer pred) (close-some names d list bearer e pred spells there) in
      let s = stands_in_list names d list bearer e spells there in
      let last : c.0 ≤ finish = (close-inside names d list spells bearer pred (length s.prefix) c.0 finish c.1 s.begins finishes).1 in
      ap (λ o. option_map_or (λ index. nat_lt index i) o false) c.1 ∙ lt-ltb c.0 i (omega (arith, last, later))

  pub settled_all : (bearer : List ℕ) (e : Element) (pred : Pred) → at d bearer ≡ Some e → is_settled d list (length list) bearer pred ≡ true
  settled_all bearer e pred there =
      let c = found_some (close d list bearer pred) (close-some names d list bearer e pred spells there) in
      ap (λ o. option_map_or (λ index. nat_lt index (length list)) o false) c.1 ∙ lt-ltb c.0 (length list) (close-within d list bearer pred c.0 c.1)

  -- The sure truth is at most the model's, and that at most what may be true.
  pub sure_at_most : (known : Knowledge) → IsAtMost d (sure_truth d list known) (model_truth d)
  sure_at_most known bearer e pred there so = model_holds d bearer e pred there ∙ event_holds bearer e pred (known bearer) there so

  pub may_at_least : (known : Knowledge) → IsAtMost d (model_truth d) (may_truth d list known)
  may_at_least known bearer e pred there so = elim (either (is_settled d list (known bearer) bearer pred)) [
    | inl un ↦ right_so (is_met d list (known bearer) bearer pred) (not (is_settled d list (known bearer) bearer pred)) un
    | inr settled ↦ left_so (is_met d list (known bearer) bearer pred) (not (is_settled d list (known bearer) bearer pred))
        (true_met bearer e pred (known bearer) there (sym (model_holds d bearer e pred there) ∙ so) settled)
  ]

  -- Where more is known, more is surely true, and less may be.
  pub sure_grows : (known more : Knowledge) → KnowsNoLess known more → IsAtMost d (sure_truth d list known) (sure_truth d list more)
  sure_grows known more later bearer e pred there so = met_stays d list (known bearer) (more bearer) bearer pred (later bearer) so

  pub may_shrinks : (known more : Knowledge) → KnowsNoLess known more → IsAtMost d (may_truth d list more) (may_truth d list known)
  may_shrinks known more later bearer e pred there so = elim (either (is_settled d list (known bearer) bearer pred)) [
    | inl un ↦ right_so (is_met d list (known bearer) bearer pred) (not (is_settled d list (known bearer) bearer pred)) un
    | inr settled ↦ left_so (is_met d list (known bearer) bearer pred) (not (is_settled d list (known bearer) bearer pred))
        (elim (or_cases (is_met d list (more bearer) bearer pred) (not (is_settled d list (more bearer) bearer pred)) so) [
          | inl met ↦ true_met bearer e pred (known bearer) there (event_holds bearer e pred (more bearer) there met) settled
          | inr un ↦ absurd (not_so (is_settled d list (more bearer) bearer pred) un
              (settled_stays d list (known bearer) (more bearer) bearer pred (later bearer) settled))
        ])
  ]

  -- ---- selection

  -- Of these three, each selects at most what the next does: by what is sure, by the model, by what may be.
  pub sure_selected : (known : Knowledge) (path : Path) (place : List ℕ) → selects_by d (sure_truth d list known) path place ≡ true → select d path place ≡ true
  sure_selected known path place so =
      sym (selects_by-model d path place) ∙ selects_grow d (sure_truth d list known) (model_truth d) path place (sure_at_most known) so

  pub selected_may : (known : Knowledge) (path : Path) (place : List ℕ) → select d path place ≡ true → selects_by d (may_truth d list known) path place ≡ true
  selected_may known path place so =
      selects_grow d (model_truth d) (may_truth d list known) path place (may_at_least known) (selects_by-model d path place ∙ so)

  pub sure_selects_more : (known more : Knowledge) (path : Path) (place : List ℕ) → KnowsNoLess known more
      → selects_by d (sure_truth d list known) path place ≡ true → selects_by d (sure_truth d list more) path place ≡ true
  sure_selects_more known more path place later so =
      selects_grow d (sure_truth d list known) (sure_truth d list more) path place (sure_grows known more later) so

  pub may_selects_less : (known more : Knowledge) (path : Path) (place : List ℕ) → KnowsNoLess known more
      → selects_by d (may_truth d list more) path place ≡ true → selects_by d (may_truth d list known) path place ≡ true
  may_selects_less known more path place later so =
      selects_grow d (may_truth d list more) (may_truth d list known) path place (may_shrinks known more later) so

  step_settled : (known : Knowledge) (s : Step) (p : List ℕ) (o : Option Element) (e : Element) → o ≡ Some e → passes s.test e.name ≡ true → is_step_settled d list known p s o ≡ true → list_all (is_settled d list (known p) p) s.preds ≡ true
  step_settled known s p None e is passed so = absurd (none-some e is)
  step_settled known s p (Some x) e is passed so = elim (or_cases (not (passes s.test x.name)) (list_all (is_settled d list (known p) p) s.preds) so) [
    | inl fails ↦ absurd (not_so (passes s.test x.name) fails (ap (λ y. passes s.test y.name) (same_Some x e is) ∙ passed))
    | inr settled ↦ settled
  ]

  -- Where a path's predicates are settled at an element and its ancestors, what may select it does so surely.
  pub may_sure : (known : Knowledge) (path : Path) (place : List ℕ) → are_settled d list known path place ≡ true → selects_by d (may_truth d list known) path place ≡ true → selects_by d (sure_truth d list known) path place ≡ true
  may_sure known path place settled so =
      selects_grow_on d (may_truth d list known) (sure_truth d list known) (λ p. Has (prefixes place) p) (λ p q above h. prefix_of_prefix place p q above h) path place
      (λ s pred p e has mine above there passed may. elim (or_cases (is_met d list (known p) p pred) (not (is_settled d list (known p) p pred)) may) [
        | inl met ↦ met
        | inr un ↦ absurd (not_so (is_settled d list (known p) p pred) un
            (all_has (is_settled d list (known p) p) s.preds pred
            (step_settled known s p (at d p) e there passed
            (all_has (λ t. is_step_settled d list known p t (at d p)) path.steps s
            (all_has (λ b. list_all (λ t. is_step_settled d list known b t (at d b)) path.steps) (prefixes place) p settled above) has)) mine))
      ])
      (own_prefix place) so

  pub settled_sure : (known : Knowledge) (path : Path) (place : List ℕ) → are_settled d list known path place ≡ true → selects_by d (sure_truth d list known) path place ≡ select d path place
  settled_sure known path place settled = same_by (selects_by d (sure_truth d list known) path place) (select d path place)
      (sure_selected known path place) (λ so. may_sure known path place settled (selected_may known path place so))

  pub settled_may : (known : Knowledge) (path : Path) (place : List ℕ) → are_settled d list known path place ≡ true → selects_by d (may_truth d list known) path place ≡ select d path place
  settled_may known path place settled = same_by (selects_by d (may_truth d list known) path place) (select d path place)
      (λ so. sure_selected known path place (may_sure known path place settled so)) (selected_may known path place)

-- ---- paths without predicates

no_member : (preds : List Pred) (pred : Pred) → is_empty_of preds ≡ true → Has preds pred → ⊥
no_member [] pred none h = has_none pred h
no_member (p ∷ preds) pred none h = true≢false (sym none)

-- A path without predicates selects the same by each truth.
pub plain_selects : (d : Doc) (truth : PredicateTruth) (path : Path) (place : List ℕ) → list_all (λ s. is_empty_of s.preds) path.steps ≡ true
    → selects_by d truth path place ≡ select d path place
plain_selects d truth path place plain = same_by (selects_by d truth path place) (select d path place)
    (λ so. sym (selects_by-model d path place)
    ∙ selects_grow_on d truth (model_truth d) (λ p. Unit {0}) (λ p q good h. tt) path place
    (λ s pred p e has mine good there passed t. absurd (no_member s.preds pred (all_has (λ t. is_empty_of t.preds) path.steps s plain has) mine)) tt so)
    (λ so. selects_grow_on d (model_truth d) truth (λ p. Unit {0}) (λ p q good h. tt) path place
    (λ s pred p e has mine good there passed t. absurd (no_member s.preds pred (all_has (λ t. is_empty_of t.preds) path.steps s plain has) mine)) tt
    (selects_by-model d path place ∙ so))
