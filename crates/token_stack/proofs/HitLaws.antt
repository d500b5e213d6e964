-- Which events meet a predicate, by the innermost element at the event.
use Rattle.std.proofs.Common.{◌≡◌, ℕ, zero, suc, ◌+◌, ◌<◌, Bool, true, false, nat_eq, ◌&&◌, Option, Some, None, is_some, List, [], ◌∷◌, ◌++◌, length, map, take, filter, refl, ap, sym, ◌∙◌, add-one, cond, arith}
use Rattle.std.proofs.lemmas.Bool.{true≢false, eqb-true}
use Rattle.std.proofs.lemmas.Option.{option_and_then_some, same_Some, none-some, slice_get_within}
use Rattle.std.specs.Cmp.{first_so, second_so}
use Rattle.std.specs.Cmp.Lexicographic.{pointwise, same_text}
use Rattle.std.specs.List.{list_any, slice_get}
use Rattle.std.specs.Option.{option_map_or}
use Rattle.acl_model.specs.Comparisons.{satisfies}
use Rattle.acl_model.specs.Places.{child, below, at, places, times}
use Rattle.acl_model.specs.Select.{Node, steps}
use Rattle.acl_model.specs.Targets.{step_of, only, path_leads}
use Rattle.acl_model.specs.Values.{string_value}
use Rattle.acl_model.specs.declared.document.Doc.{Doc}
use Rattle.acl_model.specs.declared.document.Element.{Element}
use Rattle.acl_model.specs.declared.path.Cmp.{Cmp}
use Rattle.acl_model.specs.declared.path.Pred.{Pred}
use Rattle.acl_model.specs.declared.path.PredStep.{PredStep}
use Rattle.acl_model.proofs.Members.{Has, has_later}
use Rattle.acl_model.proofs.PlaceLaws.{times_in_places, same_number}
use Rattle.acl_walk.specs.Begun.{is_begin, is_finish, innermost_is_at, finishes_at}
use Rattle.acl_walk.specs.Closes.{attributes_at, counted, has_enough, is_last_of_attribute, meets, is_met_at}
use Rattle.acl_walk.specs.Open.{OpenPlace, open_after, open_after_events, open_at}
use Rattle.acl_walk.specs.declared.event.Event.{Event}
use Rattle.acl_walk.specs.declared.event.Event.TheVariants.{Begin, Attr, HeadEnd, Text, Finish, End}
use Rattle.acl_walk.proofs.MeetLaws.{both_so, some_found, some_so, any_found, any_so, has_counted, met_so}
use Rattle.token_stack.specs.Hits.{open_with, asks_raw, hits, HitsInside}
use Rattle.token_stack.specs.WayNames.{led, names_from}
use Rattle.token_stack.proofs.BoundLaws.{same_by}
use Rattle.token_stack.proofs.WayLaws.{rooted, inner, at_root, steps-in, steps_same, steps_if, path_leads-led}

-- ---- tests

and_false : (a : Bool) → (a && false) ≡ false
and_false true = refl
and_false false = refl

and_true : (a : Bool) → (a && true) ≡ a
and_true true = refl
and_true false = refl

-- one more event
pub open-next : (elements : List OpenPlace) (list : List Event) (i : ℕ) (event : Event) → slice_get list i ≡ Some event
    → open_after_events elements (take (suc i) list) ≡ open_after (open_after_events elements (take i list)) event
open-next elements [] i event is = absurd (none-some event is)
open-next elements (x ∷ list) zero event is = ap (open_after elements) (same_Some x event is)
open-next elements (x ∷ list) (suc i) event is = open-next (open_after elements x) list i event is

-- ---- what the innermost element meets

-- Of the numbers of a list's entries, one test is true for at most one.
any_at : (f : ℕ → Bool) (n m : ℕ) (b : Bool) → (f n ≡ true → n < m) → list_any (λ k. f k && (b && nat_eq n k)) (counted m) ≡ (b && f n)
any_at f n m b within = same_by (list_any (λ k. f k && (b && nat_eq n k)) (counted m)) (b && f n)
    (λ so.
    let found = any_found (λ k. f k && (b && nat_eq n k)) (counted m) so in
    let rest = second_so (f found.0) (b && nat_eq n found.0) found.2 in
    let same : n ≡ found.0 = eqb-true n found.0 (second_so b (nat_eq n found.0) rest) in
    both_so b (f n) (first_so b (nat_eq n found.0) rest) (ap f same ∙ first_so (f found.0) (b && nat_eq n found.0) found.2))
    (λ so.
    let own : f n ≡ true = second_so b (f n) so in
    any_so (λ k. f k && (b && nat_eq n k)) (counted m) n (has_counted m n (within own))
    (both_so (f n) (b && nat_eq n n) own (both_so b (nat_eq n n) (first_so b (f n) so) (same_number n))))

any_attribute : (x : Element) (name : List ℕ) (cmp : Option Cmp) (n : ℕ) (b : Bool)
    → list_any (λ k. option_map_or (has_enough name cmp) (slice_get x.attributes k) false && (b && nat_eq n k)) (counted (length x.attributes))
    ≡ (b && option_map_or (has_enough name cmp) (slice_get x.attributes n) false)
any_attribute x name cmp n b = any_at (λ k. option_map_or (has_enough name cmp) (slice_get x.attributes k) false) n (length x.attributes) b
    (λ so. let raw = some_found (has_enough name cmp) (slice_get x.attributes n) so in slice_get_within x.attributes n raw.0 raw.1)

module _ (list : List Event) (i : ℕ) (place : List ℕ) where
  any_joined : (x : Element) (name : List ℕ) (cmp : Option Cmp) (last here : Bool) (ks : List ℕ)
      → list_any (λ k. option_map_or (has_enough name cmp) (slice_get x.attributes k) false && (last && (here && nat_eq (attributes_at list i) k))) ks
      ≡ list_any (λ k. option_map_or (has_enough name cmp) (slice_get x.attributes k) false && ((last && here) && nat_eq (attributes_at list i) k)) ks
  any_joined x name cmp true here ks = refl
  any_joined x name cmp false here ks = refl

  attribute_meets : (x : Element) (name : List ℕ) (cmp : Option Cmp) → meets list (Some name) cmp place i x
      ≡ ((option_map_or is_last_of_attribute (slice_get list i) false && innermost_is_at place (open_at list i))
      && option_map_or (has_enough name cmp) (slice_get x.attributes (attributes_at list i)) false)
  attribute_meets x name cmp =
      any_joined x name cmp (option_map_or is_last_of_attribute (slice_get list i) false) (innermost_is_at place (open_at list i)) (counted (length x.attributes))
      ∙ any_attribute x name cmp (attributes_at list i) (option_map_or is_last_of_attribute (slice_get list i) false && innermost_is_at place (open_at list i))

  -- what an event meets at the innermost element, from its parts
  abbrev met_by : Event → Bool → Bool → Element → Option (List ℕ) → Option Cmp → Bool
  met_by event began here x None None = is_begin event && began
  met_by event began here x None (Some cmp) = satisfies cmp.op cmp.operand (string_value x) && (is_finish event && here)
  met_by event began here x (Some name) cmp = (is_last_of_attribute event && here) && option_map_or (has_enough name cmp) (slice_get x.attributes (attributes_at list i)) false

  meets-met_by : (event : Event) (x : Element) (attribute : Option (List ℕ)) (cmp : Option Cmp) → slice_get list i ≡ Some event
      → meets list attribute cmp place i x ≡ met_by event (innermost_is_at place (open_at list (i + 1))) (innermost_is_at place (open_at list i)) x attribute cmp
  meets-met_by event x None None is = ap (λ o. option_map_or is_begin o false && innermost_is_at place (open_at list (i + 1))) is
  meets-met_by event x None (Some cmp) is = ap (λ o. satisfies cmp.op cmp.operand (string_value x) && (option_map_or is_finish o false && innermost_is_at place (open_at list i))) is
  meets-met_by event x (Some name) cmp is =
      attribute_meets x name cmp
      ∙ ap (λ o. (option_map_or is_last_of_attribute o false && innermost_is_at place (open_at list i)) && option_map_or (has_enough name cmp) (slice_get x.attributes (attributes_at list i)) false) is

  begin_hits : (tag : ℕ) (below : List ℕ) (here : Bool) (x : Element) (attribute : Option (List ℕ)) (cmp : Option Cmp) → met_by (Begin tag below) true here x attribute cmp ≡ hits (Begin tag below) (attributes_at list i) x attribute cmp
  begin_hits tag below here x None None = refl
  begin_hits tag below here x None (Some cmp) = and_false (satisfies cmp.op cmp.operand (string_value x))
  begin_hits tag below here x (Some name) cmp = refl

  finish_hits : (tag : ℕ) (began : Bool) (x : Element) (attribute : Option (List ℕ)) (cmp : Option Cmp) → met_by (Finish tag) began true x attribute cmp ≡ hits (Finish tag) (attributes_at list i) x attribute cmp
  finish_hits tag began x None None = refl
  finish_hits tag began x None (Some cmp) = and_true (satisfies cmp.op cmp.operand (string_value x))
  finish_hits tag began x (Some name) cmp = refl

  -- an event that is neither of these, and may be the last piece of an attribute
  other_hits : (event : Event) (began : Bool) (x : Element) (attribute : Option (List ℕ)) (cmp : Option Cmp) → is_begin event ≡ false → is_finish event ≡ false
      → met_by event began true x attribute cmp ≡ (is_last_of_attribute event && asks_raw attribute cmp (slice_get x.attributes (attributes_at list i)))
  other_hits event began x None None no_begin no_finish = ap (λ b. b && began) no_begin ∙ sym (and_false (is_last_of_attribute event))
  other_hits event began x None (Some cmp) no_begin no_finish =
      ap (λ b. satisfies cmp.op cmp.operand (string_value x) && (b && true)) no_finish ∙ and_false (satisfies cmp.op cmp.operand (string_value x)) ∙ sym (and_false (is_last_of_attribute event))
  other_hits event began x (Some name) cmp no_begin no_finish =
      ap (λ b. b && option_map_or (has_enough name cmp) (slice_get x.attributes (attributes_at list i)) false) (and_true (is_last_of_attribute event))

  -- By the innermost element at the event, an event meets a predicate exactly where it hits.
  meets-hits : (event : Event) (x : Element) (attribute : Option (List ℕ)) (cmp : Option Cmp) → slice_get list i ≡ Some event
      → innermost_is_at place (open_with (open_at list i) event) ≡ true → meets list attribute cmp place i x ≡ hits event (attributes_at list i) x attribute cmp
  meets-hits (Begin tag below) x attribute cmp is innermost =
      let began : innermost_is_at place (open_at list (i + 1)) ≡ true =
      ap (λ k. innermost_is_at place (open_at list k)) (add-one i) ∙ ap (innermost_is_at place) (open-next [] list i (Begin tag below) is) ∙ innermost in
      meets-met_by (Begin tag below) x attribute cmp is
      ∙ ap (λ b. met_by (Begin tag below) b (innermost_is_at place (open_at list i)) x attribute cmp) began
      ∙ begin_hits tag below (innermost_is_at place (open_at list i)) x attribute cmp
  meets-hits (Attr piece) x attribute cmp is innermost =
      meets-met_by (Attr piece) x attribute cmp is
      ∙ ap (λ b. met_by (Attr piece) (innermost_is_at place (open_at list (i + 1))) b x attribute cmp) innermost
      ∙ other_hits (Attr piece) (innermost_is_at place (open_at list (i + 1))) x attribute cmp refl refl
  meets-hits HeadEnd x attribute cmp is innermost =
      meets-met_by HeadEnd x attribute cmp is
      ∙ ap (λ b. met_by HeadEnd (innermost_is_at place (open_at list (i + 1))) b x attribute cmp) innermost
      ∙ other_hits HeadEnd (innermost_is_at place (open_at list (i + 1))) x attribute cmp refl refl
  meets-hits (Text piece) x attribute cmp is innermost =
      meets-met_by (Text piece) x attribute cmp is
      ∙ ap (λ b. met_by (Text piece) (innermost_is_at place (open_at list (i + 1))) b x attribute cmp) innermost
      ∙ other_hits (Text piece) (innermost_is_at place (open_at list (i + 1))) x attribute cmp refl refl
  meets-hits (Finish tag) x attribute cmp is innermost =
      meets-met_by (Finish tag) x attribute cmp is
      ∙ ap (λ b. met_by (Finish tag) (innermost_is_at place (open_at list (i + 1))) b x attribute cmp) innermost
      ∙ finish_hits tag (innermost_is_at place (open_at list (i + 1))) x attribute cmp
  meets-hits End x attribute cmp is innermost =
      meets-met_by End x attribute cmp is
      ∙ ap (λ b. met_by End (innermost_is_at place (open_at list (i + 1))) b x attribute cmp) innermost
      ∙ other_hits End (innermost_is_at place (open_at list (i + 1))) x attribute cmp refl refl

  -- ---- where an event meets

  -- A Begin, a Finish or a last piece of an attribute is an event of the innermost element.
  begun_innermost : (event : Event) → slice_get list i ≡ Some event → is_begin event ≡ true → innermost_is_at place (open_at list (i + 1)) ≡ true
      → innermost_is_at place (open_with (open_at list i) event) ≡ true
  begun_innermost (Begin tag below) is so here =
      ap (innermost_is_at place) (sym (open-next [] list i (Begin tag below) is)) ∙ ap (λ k. innermost_is_at place (open_at list k)) (sym (add-one i)) ∙ here
  begun_innermost (Attr piece) is so here = absurd (true≢false (sym so))
  begun_innermost HeadEnd is so here = absurd (true≢false (sym so))
  begun_innermost (Text piece) is so here = absurd (true≢false (sym so))
  begun_innermost (Finish tag) is so here = absurd (true≢false (sym so))
  begun_innermost End is so here = absurd (true≢false (sym so))

  open_innermost : (event : Event) → (is_begin event ≡ true → ⊥) → innermost_is_at place (open_at list i) ≡ true → innermost_is_at place (open_with (open_at list i) event) ≡ true
  open_innermost (Begin tag below) other here = absurd (other refl)
  open_innermost (Attr piece) other here = here
  open_innermost HeadEnd other here = here
  open_innermost (Text piece) other here = here
  open_innermost (Finish tag) other here = here
  open_innermost End other here = here

  finish_no_begin : (event : Event) → is_finish event ≡ true → is_begin event ≡ true → ⊥
  finish_no_begin (Begin tag below) so is = true≢false (sym so)
  finish_no_begin (Attr piece) so is = true≢false (sym is)
  finish_no_begin HeadEnd so is = true≢false (sym is)
  finish_no_begin (Text piece) so is = true≢false (sym is)
  finish_no_begin (Finish tag) so is = true≢false (sym is)
  finish_no_begin End so is = true≢false (sym is)

  last_no_begin : (event : Event) → is_last_of_attribute event ≡ true → is_begin event ≡ true → ⊥
  last_no_begin (Begin tag below) so is = true≢false (sym so)
  last_no_begin (Attr piece) so is = true≢false (sym is)
  last_no_begin HeadEnd so is = true≢false (sym is)
  last_no_begin (Text piece) so is = true≢false (sym is)
  last_no_begin (Finish tag) so is = true≢false (sym is)
  last_no_begin End so is = true≢false (sym is)

  -- the event, and that the innermost element at it is at the place
  abbrev EventAt : Type 0
  EventAt = (event : Event) × (slice_get list i ≡ Some event) × (innermost_is_at place (open_with (open_at list i) event) ≡ true)

  meets-where : (x : Element) (attribute : Option (List ℕ)) (cmp : Option Cmp) → meets list attribute cmp place i x ≡ true → EventAt
  meets-where x None None met =
      let event = some_found is_begin (slice_get list i) (first_so (option_map_or is_begin (slice_get list i) false) (innermost_is_at place (open_at list (i + 1))) met) in
      (event.0, event.1, begun_innermost event.0 event.1 event.2 (second_so (option_map_or is_begin (slice_get list i) false) (innermost_is_at place (open_at list (i + 1))) met))
  meets-where x None (Some cmp) met =
      let finishes : finishes_at list place i ≡ true = second_so (satisfies cmp.op cmp.operand (string_value x)) (finishes_at list place i) met in
      let event = some_found is_finish (slice_get list i) (first_so (option_map_or is_finish (slice_get list i) false) (innermost_is_at place (open_at list i)) finishes) in
      (event.0, event.1, open_innermost event.0 (finish_no_begin event.0 event.2) (second_so (option_map_or is_finish (slice_get list i) false) (innermost_is_at place (open_at list i)) finishes))
  meets-where x (Some name) cmp met =
      let last : Bool = option_map_or is_last_of_attribute (slice_get list i) false in
      let both = first_so (last && innermost_is_at place (open_at list i)) (option_map_or (has_enough name cmp) (slice_get x.attributes (attributes_at list i)) false) (sym (attribute_meets x name cmp) ∙ met) in
      let event = some_found is_last_of_attribute (slice_get list i) (first_so last (innermost_is_at place (open_at list i)) both) in
      (event.0, event.1, open_innermost event.0 (last_no_begin event.0 event.2) (second_so last (innermost_is_at place (open_at list i)) both))

-- ---- places

has_place_by : (place p : List ℕ) (ps : List (List ℕ)) (b : Bool) → pointwise nat_eq p place ≡ b → length (cond b (p ∷ filter (λ q. pointwise nat_eq q place) ps) (filter (λ q. pointwise nat_eq q place) ps)) ≡ 1
    → (times place ps ≡ 1 → Has ps place) → Has (p ∷ ps) place
has_place_by place p ps true same is rest = (0, ap Some (same_text p place (sym same)))
has_place_by place p ps false same is rest = has_later p place ps (rest is)

has_place : (place : List ℕ) (ps : List (List ℕ)) → times place ps ≡ 1 → Has ps place
has_place place [] is = absurd (omega (arith, is))
has_place place (p ∷ ps) is = has_place_by place p ps (pointwise nat_eq p place) refl is (has_place place ps)

-- The place of an element is one of the document's places.
has_places : (d : Doc) (place : List ℕ) (e : Element) → at d place ≡ Some e → Has (places d) place
has_places d place e there = has_place place (places d) (times_in_places d place ∙ ap (λ o. cond (is_some o) 1 0) there)

-- a place inside another
abbrev Inside : List ℕ → List ℕ → Type 0
Inside bearer place = (more : List ℕ) × (place ≡ bearer ++ more)

only-other : (j k : ℕ) (b : List ℕ) (node : Node) → inner (only (k ∷ b)) j node ≡ (nat_eq j k && only b node)
only-other j k b None = sym (and_false (nat_eq j k))
only-other j k b (Some p) = refl

-- A predicate's path leads to its context node or inside it.
way_inside : (bearer place : List ℕ) (way : List PredStep) (e x : Element) → below e place ≡ Some x → steps (rooted e) (map step_of way) (only bearer) (Some place) ≡ true → Inside bearer place
way_inside [] place way e x found so = (place, refl)
way_inside (k ∷ b) [] way e x found so = absurd (true≢false (sym so ∙ at_root e (map step_of way) (only (k ∷ b)) refl refl))
way_inside (k ∷ b) (j ∷ p) way e x found so = option_and_then_some (λ c. below c p) (child e.items j) x found (λ c is there.
    let both : (nat_eq j k && steps (rooted c) (map step_of way) (only b) (Some p)) ≡ true =
    sym (steps-in e c j (map step_of way) (only (k ∷ b)) p is refl
    ∙ steps_same (rooted c) (map step_of way) (inner (only (k ∷ b)) j) (λ n. nat_eq j k && only b n) (only-other j k b) (Some p)
    ∙ steps_if (rooted c) (map step_of way) (nat_eq j k) (only b) (Some p)) ∙ so in
    let same : j ≡ k = eqb-true j k (first_so (nat_eq j k) (steps (rooted c) (map step_of way) (only b) (Some p)) both) in
    let rest = way_inside b p way c x there (second_so (nat_eq j k) (steps (rooted c) (map step_of way) (only b) (Some p)) both) in
    (rest.0, ap (λ m. m ∷ p) same ∙ ap (λ q. k ∷ q) rest.1))

innermost_one : (elements : List OpenPlace) (p q : List ℕ) → innermost_is_at p elements ≡ true → innermost_is_at q elements ≡ true → p ≡ q
innermost_one [] p q here there = absurd (true≢false (sym here))
innermost_one (element ∷ up) p q here there = sym (same_text element.place p (sym here)) ∙ same_text element.place q (sym there)

-- ---- the event at an index

module _ (d : Doc) (list : List Event) (bearer : List ℕ) (pred : Pred) (i : ℕ) where
  -- An event meets a predicate at a bearer where its innermost element lies, if the path leads there and the event hits.
  pub met_at-is : (event : Event) (more : List ℕ) (x : Element) → slice_get list i ≡ Some event → innermost_is_at (bearer ++ more) (open_with (open_at list i) event) ≡ true
      → at d (bearer ++ more) ≡ Some x → is_met_at d list bearer pred i ≡ (led pred.way (names_from d bearer more) && hits event (attributes_at list i) x pred.attribute pred.cmp)
  met_at-is event more x is innermost there =
      same_by (is_met_at d list bearer pred i) (led pred.way (names_from d bearer more) && hits event (attributes_at list i) x pred.attribute pred.cmp)
      (λ met.
      let m = met_so d list bearer pred i met in
      let w = meets-where list i m.place m.x pred.attribute pred.cmp m.met in
      let same_event : w.0 ≡ event = same_Some w.0 event (sym w.1 ∙ is) in
      let place : m.place ≡ bearer ++ more =
      innermost_one (open_with (open_at list i) event) m.place (bearer ++ more) (ap (λ e. innermost_is_at m.place (open_with (open_at list i) e)) (sym same_event) ∙ w.2) innermost in
      let own : m.x ≡ x = same_Some m.x x (sym m.there ∙ ap (at d) place ∙ there) in
      both_so (led pred.way (names_from d bearer more)) (hits event (attributes_at list i) x pred.attribute pred.cmp)
      (sym (path_leads-led d pred.way bearer more x there) ∙ ap (path_leads d pred.way bearer) (sym place) ∙ m.led)
      (sym (meets-hits list i (bearer ++ more) event x pred.attribute pred.cmp is innermost)
      ∙ ap (λ p. meets list pred.attribute pred.cmp p i x) (sym place)
      ∙ ap (meets list pred.attribute pred.cmp m.place i) (sym own) ∙ m.met))
      (λ so.
      any_so (λ place. path_leads d pred.way bearer place && option_map_or (meets list pred.attribute pred.cmp place i) (at d place) false) (places d) (bearer ++ more)
      (has_places d (bearer ++ more) x there)
      (both_so (path_leads d pred.way bearer (bearer ++ more)) (option_map_or (meets list pred.attribute pred.cmp (bearer ++ more) i) (at d (bearer ++ more)) false)
      (path_leads-led d pred.way bearer more x there ∙ first_so (led pred.way (names_from d bearer more)) (hits event (attributes_at list i) x pred.attribute pred.cmp) so)
      (some_so (meets list pred.attribute pred.cmp (bearer ++ more) i) (at d (bearer ++ more)) x there
      (meets-hits list i (bearer ++ more) event x pred.attribute pred.cmp is innermost
      ∙ second_so (led pred.way (names_from d bearer more)) (hits event (attributes_at list i) x pred.attribute pred.cmp) so))))

  -- An event that meets a predicate does so at an element that is the bearer or inside it.
  pub met_at-inside : is_met_at d list bearer pred i ≡ true → HitsInside d list bearer pred i
  met_at-inside met =
      let m = met_so d list bearer pred i met in
      let w = meets-where list i m.place m.x pred.attribute pred.cmp m.met in
      let within = way_inside bearer m.place pred.way d.root m.x m.there m.led in
      let innermost : innermost_is_at (bearer ++ within.0) (open_with (open_at list i) w.0) ≡ true =
      ap (λ p. innermost_is_at p (open_with (open_at list i) w.0)) (sym within.1) ∙ w.2 in
      let there : at d (bearer ++ within.0) ≡ Some m.x = ap (at d) (sym within.1) ∙ m.there in
      let both = sym (met_at-is w.0 within.0 m.x w.1 innermost there) ∙ met in record {
        event = w.0;
        more = within.0;
        x = m.x;
        comes = w.1;
        innermost = innermost;
        there = there;
        leads = first_so (led pred.way (names_from d bearer within.0)) (hits w.0 (attributes_at list i) m.x pred.attribute pred.cmp) both;
        hit = second_so (led pred.way (names_from d bearer within.0)) (hits w.0 (attributes_at list i) m.x pred.attribute pred.cmp) both;
      }
