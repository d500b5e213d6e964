-- A predicate is true at an element exactly where some event of the list meets it.
use Rattle.std.proofs.Common.{◌≡◌, ℕ, zero, suc, ◌+◌, ◌-◌, ◌<◌, Bool, true, false, nat_eq, ◌&&◌, ◌||◌, Option, Some, None, is_some, List, [], ◌∷◌, ◌++◌, length, map, take, refl, ap, sym, subst, ◌∙◌, inl, inr, append_assoc, arith, zero-add, cond, find, filter, flat_map}
use Rattle.std.proofs.lemmas.Bool.{true≢false}
use Rattle.std.proofs.lemmas.Option.{same_Some, none-some, slice_get_within, slice_get-get_or, get_or_from_slice_get}
use Rattle.std.proofs.lemmas.List.FromFn.{length-range_with_len, get_or-range_with_len}
use Rattle.std.proofs.lemmas.Map.Keys.{any_passes_from_place}
use Rattle.std.specs.Cmp.{first_so, second_so}
use Rattle.std.specs.Cmp.Lexicographic.{pointwise, same_text}
use Rattle.std.specs.List.{list_any, slice_get, range_with_len}
use Rattle.std.specs.Option.{option_map_or}
use Rattle.acl_bits.specs.declared.piece.Piece.{Piece}
use Rattle.acl_model.specs.Places.{at, places, times}
use Rattle.acl_model.specs.Predicates.{targets, is_enough, holds}
use Rattle.acl_model.specs.Targets.{path_leads}
use Rattle.acl_model.specs.Values.{attribute_value, attribute_values, gives_value, string_value, values_at}
use Rattle.acl_model.specs.Comparisons.{satisfies}
use Rattle.acl_model.specs.declared.document.Doc.{Doc}
use Rattle.acl_model.specs.declared.document.Element.{Element}
use Rattle.acl_model.specs.declared.path.Cmp.{Cmp}
use Rattle.acl_model.specs.declared.path.Pred.{Pred}
use Rattle.acl_model.proofs.Members.{Has, Contains-has, has-Contains, has_none, has_later, has_cases, has_filter, has_filter_cases, has_flat_map, has_flat_map_cases}
use Rattle.acl_model.proofs.PlaceLaws.{times_in_places, same_number}
use Rattle.acl_model.proofs.TargetLaws.{targets_reached, targets_all}
use Rattle.acl_walk.specs.Begun.{innermost_is_at, begins_at, finishes_at, StandsInList}
use Rattle.acl_walk.specs.Closes.{is_last_of_attribute, attributes_after, attributes_after_events, attributes_at, ends_attribute_at, counted, has_enough, meets, is_met_at}
use Rattle.acl_walk.specs.Open.{OpenPlace, open_after, open_after_events, open_at}
use Rattle.acl_walk.specs.Pieces.{piece_of, Joins, alone, onward}
use Rattle.acl_walk.specs.Spelling.{SpellsAttributes, no_attribute, an_attribute, SpellsElement, an_element, Spells}
use Rattle.acl_walk.specs.declared.event.Event.{Event}
use Rattle.acl_walk.specs.declared.event.Event.TheVariants.{Begin, Attr, HeadEnd, Finish}
use Rattle.acl_walk.proofs.BegunLaws.{open_after_events-append, stands_in_list}

-- ---- tests

pub both_so : (a b : Bool) → a ≡ true → b ≡ true → (a && b) ≡ true
both_so a b p q = ap (λ c. c && b) p ∙ q

same_tests : (a b : Bool) → (a ≡ true → b ≡ true) → (b ≡ true → a ≡ true) → a ≡ b
same_tests true b to from = sym (to refl)
same_tests false true to from = from refl
same_tests false false to from = refl

pub same_place : (place : List ℕ) → pointwise nat_eq place place ≡ true
same_place [] = refl
same_place (k ∷ place) = both_so (nat_eq k k) (pointwise nat_eq place place) (same_number k) (same_place place)

module _ {X : Type 0} where
  -- a value for which a test is true
  pub some_found : (f : X → Bool) (o : Option X) → option_map_or f o false ≡ true → (x : X) × (o ≡ Some x) × (f x ≡ true)
  some_found f None so = absurd (true≢false (sym so))
  some_found f (Some x) so = (x, refl, so)

  pub some_so : (f : X → Bool) (o : Option X) (x : X) → o ≡ Some x → f x ≡ true → option_map_or f o false ≡ true
  some_so f o x is so = ap (λ o. option_map_or f o false) is ∙ so

  any_first : (p : X → Bool) (x : X) (xs : List X) (b : Bool) → p x ≡ b → (b || list_any p xs) ≡ true → (list_any p xs ≡ true → (y : X) × Has xs y × (p y ≡ true)) → (y : X) × Has (x ∷ xs) y × (p y ≡ true)
  any_first p x xs true is so rest = (x, (0, refl), is)
  any_first p x xs false is so rest = let found = rest so in (found.0, has_later x found.0 xs found.1, found.2)

  -- a member of the list that passes
  pub any_found : (p : X → Bool) (xs : List X) → list_any p xs ≡ true → (x : X) × Has xs x × (p x ≡ true)
  any_found p [] so = absurd (true≢false (sym so))
  any_found p (x ∷ xs) so = any_first p x xs (p x) refl so (any_found p xs)

  pub any_so : (p : X → Bool) (xs : List X) (x : X) → Has xs x → p x ≡ true → list_any p xs ≡ true
  any_so p xs x h so = any_passes_from_place p xs h.0 x h.1 so

  find_by : (p : X → Bool) (x y : X) (xs : List X) (b : Bool) → p x ≡ b → cond b (Some x) (find p xs) ≡ Some y → (find p xs ≡ Some y → Has xs y × (p y ≡ true)) → Has (x ∷ xs) y × (p y ≡ true)
  find_by p x y xs true is so rest = let same = same_Some x y so in ((0, ap Some same), ap p (sym same) ∙ is)
  find_by p x y xs false is so rest = let found = rest so in (has_later x y xs found.0, found.1)

  -- a member that is found is in the list and passes
  pub find_has : (p : X → Bool) (xs : List X) (y : X) → find p xs ≡ Some y → Has xs y × (p y ≡ true)
  find_has p [] y so = absurd (none-some y so)
  find_has p (x ∷ xs) y so = find_by p x y xs (p x) refl so (find_has p xs y)

  find_first : (p : X → Bool) (x : X) (xs : List X) (b : Bool) → (b || list_any p xs) ≡ true → (list_any p xs ≡ true → is_some (find p xs) ≡ true) → is_some (cond b (Some x) (find p xs)) ≡ true
  find_first p x xs true so rest = refl
  find_first p x xs false so rest = rest so

  -- Where one passes, one is found.
  pub find_any : (p : X → Bool) (xs : List X) → list_any p xs ≡ true → is_some (find p xs) ≡ true
  find_any p [] so = so
  find_any p (x ∷ xs) so = find_first p x xs (p x) so (find_any p xs)

module _ {X Y : Type 0} where
  pub has_map : (f : X → Y) (xs : List X) (x : X) → Has xs x → Has (map f xs) (f x)
  has_map f [] x h = absurd (has_none x h)
  has_map f (y ∷ xs) x h = elim (has_cases y x xs h) [ inl same ↦ (0, ap (λ z. Some (f z)) same) | inr later ↦ has_later (f y) (f x) (map f xs) (has_map f xs x later) ]

  pub has_map_cases : (f : X → Y) (xs : List X) (y : Y) → Has (map f xs) y → (x : X) × Has xs x × (f x ≡ y)
  has_map_cases f [] y h = absurd (has_none y h)
  has_map_cases f (x ∷ xs) y h = elim (has_cases (f x) y (map f xs) h) [
    | inl same ↦ (x, (0, refl), same)
    | inr later ↦ let found = has_map_cases f xs y later in (found.0, has_later x found.0 xs found.1, found.2)
  ]

-- ---- numbers and places

pub has_counted : (n i : ℕ) → i < n → Has (counted n) i
has_counted n i less =
    (i, slice_get-get_or (range_with_len 0 n) i 0 (omega (arith, length-range_with_len 0 n)) ∙ ap Some (get_or-range_with_len 0 n i 0 less ∙ zero-add i))

pub counted_within : (n i : ℕ) → Has (counted n) i → i < n
counted_within n i h =
    let long = length-range_with_len 0 n in
    let within = slice_get_within (range_with_len 0 n) h.0 i h.1 in
    let is = get_or_from_slice_get (range_with_len 0 n) h.0 i 0 h.1 in
    let counts = get_or-range_with_len 0 n h.0 0 (omega (arith, long, within)) in
    omega (arith, long, within, is, counts)

has_place_by : (place p : List ℕ) (ps : List (List ℕ)) (b : Bool) → pointwise nat_eq p place ≡ b → length (cond b (p ∷ filter (λ q. pointwise nat_eq q place) ps) (filter (λ q. pointwise nat_eq q place) ps)) ≡ 1
    → (times place ps ≡ 1 → Has ps place) → Has (p ∷ ps) place
has_place_by place p ps true same is rest = (0, ap Some (same_text p place (sym same)))
has_place_by place p ps false same is rest = has_later p place ps (rest is)

has_place : (place : List ℕ) (ps : List (List ℕ)) → times place ps ≡ 1 → Has ps place
has_place place [] is = absurd (omega (arith, is))
has_place place (p ∷ ps) is = has_place_by place p ps (pointwise nat_eq p place) refl is (has_place place ps)

-- The place of an element is one of the document's places.
has_places : (d : Doc) (place : List ℕ) (e : Element) → at d place ≡ Some e → Has (places d) place
has_places d place e there = has_place place (places d) (times_in_places d place ∙ ap (λ o. cond (is_some o) 1 0) there)

-- ---- how an element meets a predicate

-- How an element meets a predicate. Where an attribute is named, one of its raw attributes
-- satisfies the comparison. Where there is only a comparison, its string-value satisfies it. Where
-- there is neither, each element meets it.
abbrev Gives : Option (List ℕ) → Option Cmp → Element → Type 0
Gives None None x = Unit {0}
Gives None (Some cmp) x = satisfies cmp.op cmp.operand (string_value x) ≡ true
Gives (Some name) cmp x = (k : ℕ) × (raw : List ℕ) × (slice_get x.attributes k ≡ Some raw) × (has_enough name cmp raw ≡ true)

-- Where an element meets a predicate, it is among the values that satisfy it.
gives-so : (attribute : Option (List ℕ)) (cmp : Option Cmp) (elements : List Element) (x : Element) → Has elements x → Gives attribute cmp x
    → list_any (is_enough cmp) (values_at attribute elements) ≡ true
gives-so None None elements x h gives = any_so (is_enough None) (map string_value elements) (string_value x) (has_map string_value elements x h) refl
gives-so None (Some cmp) elements x h gives = any_so (is_enough (Some cmp)) (map string_value elements) (string_value x) (has_map string_value elements x h) gives
gives-so (Some name) cmp elements x h gives =
    let raw : List ℕ = gives.1 in
    any_so (is_enough cmp) (flat_map (attribute_values name) elements) (attribute_value raw)
    (has_flat_map (attribute_values name) elements x (attribute_value raw) h
    (has_map attribute_value (filter (gives_value name) x.attributes) raw
    (has_filter (gives_value name) x.attributes raw (first_so (gives_value name raw) (is_enough cmp (attribute_value raw)) gives.3) (gives.0, gives.2))))
    (second_so (gives_value name raw) (is_enough cmp (attribute_value raw)) gives.3)

-- Where some value satisfies a predicate, an element has it.
so-gives : (attribute : Option (List ℕ)) (cmp : Option Cmp) (elements : List Element) → list_any (is_enough cmp) (values_at attribute elements) ≡ true
    → (x : Element) × Has elements x × Gives attribute cmp x
so-gives None None elements so =
    let value = any_found (is_enough None) (map string_value elements) so in
    let found = has_map_cases string_value elements value.0 value.1 in
    (found.0, found.1, tt)
so-gives None (Some cmp) elements so =
    let value = any_found (is_enough (Some cmp)) (map string_value elements) so in
    let found = has_map_cases string_value elements value.0 value.1 in
    (found.0, found.1, ap (satisfies cmp.op cmp.operand) found.2 ∙ value.2)
so-gives (Some name) cmp elements so =
    let value = any_found (is_enough cmp) (flat_map (attribute_values name) elements) so in
    let found = has_flat_map_cases (attribute_values name) elements value.0 value.1 in
    let from = has_map_cases attribute_value (filter (gives_value name) found.0.attributes) value.0 found.2 in
    let kept = has_filter_cases (gives_value name) found.0.attributes from.0 from.1 in
    (found.0, found.1, (kept.1.0, from.0, kept.1.1, both_so (gives_value name from.0) (is_enough cmp (attribute_value from.0)) kept.0 (ap (is_enough cmp) from.2 ∙ value.2)))

-- Where an event shows that an element meets a predicate, the element does.
meets-gives : (list : List Event) (attribute : Option (List ℕ)) (cmp : Option Cmp) (place : List ℕ) (i : ℕ) (x : Element) → meets list attribute cmp place i x ≡ true → Gives attribute cmp x
meets-gives list None None place i x met = tt
meets-gives list None (Some cmp) place i x met = first_so (satisfies cmp.op cmp.operand (string_value x)) (finishes_at list place i) met
meets-gives list (Some name) cmp place i x met =
    let found = any_found (λ k. option_map_or (has_enough name cmp) (slice_get x.attributes k) false && ends_attribute_at list place k i) (counted (length x.attributes)) met in
    let raw = some_found (has_enough name cmp) (slice_get x.attributes found.0)
    (first_so (option_map_or (has_enough name cmp) (slice_get x.attributes found.0) false) (ends_attribute_at list place found.0 i) found.2) in
    (found.0, raw.0, raw.1, raw.2)

-- ---- the end of an attribute in a list

module _ {X : Type 0} where
  -- an entry after others
  slice_get-after : (prefix ys : List X) (m i : ℕ) → i ≡ length prefix + m → slice_get (prefix ++ ys) i ≡ slice_get ys m
  slice_get-after [] ys m i is = ap (slice_get ys) (is ∙ zero-add m)
  slice_get-after (x ∷ prefix) ys m zero is = absurd (omega (arith, is))
  slice_get-after (x ∷ prefix) ys m (suc i) is = slice_get-after prefix ys m i (omega (arith, is))

  -- the first entries of two lists together
  take-after : (prefix ys : List X) (m i : ℕ) → i ≡ length prefix + m → take i (prefix ++ ys) ≡ prefix ++ take m ys
  take-after [] ys m i is = ap (λ k. take k ys) (is ∙ zero-add m)
  take-after (x ∷ prefix) ys m zero is = absurd (omega (arith, is))
  take-after (x ∷ prefix) ys m (suc i) is = ap (λ zs. x ∷ zs) (take-after prefix ys m i (omega (arith, is)))

attributes_after_events-append : (n : ℕ) (xs ys : List Event) → attributes_after_events n (xs ++ ys) ≡ attributes_after_events (attributes_after_events n xs) ys
attributes_after_events-append n [] ys = refl
attributes_after_events-append n (x ∷ xs) ys = attributes_after_events-append (attributes_after n x) xs ys

-- Among these events, before which n attributes have ended, there is the last piece of an attribute
-- before which k have ended. Up to it the same elements are open.
record Ends (n : ℕ) (events : List Event) (k : ℕ) : Type 0 where
  pub j : ℕ
  pub piece : Piece
  pub there : slice_get events j ≡ Some (Attr piece)
  pub last : piece.last ≡ true
  pub whole : attributes_after_events n (take j events) ≡ k
  pub same : (elements : List OpenPlace) → open_after_events elements (take j events) ≡ elements

-- the same after a piece that isn't the last
ends-onward : (n : ℕ) (prefix : List ℕ) (events : List Event) (k : ℕ) → Ends n events k → Ends n (Attr (piece_of prefix false) ∷ events) k
ends-onward n prefix events k e = record { j = suc e.j; piece = e.piece; there = e.there; last = e.last; whole = e.whole; same = e.same }

-- the same after a last piece
ends-after : (n : ℕ) (bytes : List ℕ) (events : List Event) (k : ℕ) → Ends (n + 1) events k → Ends n (Attr (piece_of bytes true) ∷ events) k
ends-after n bytes events k e = record { j = suc e.j; piece = e.piece; there = e.there; last = e.last; whole = e.whole; same = e.same }

-- the attribute's own last piece
ends-own : (n : ℕ) (bytes : List ℕ) (parts : List Piece) (rest : List Event) → Joins bytes parts → Ends n (map Attr parts ++ rest) n
ends-own n bytes parts rest (alone bs short) = record { j = 0; piece = piece_of bs true; there = refl; last = refl; whole = refl; same = λ elements. refl }
ends-own n bytes parts rest (onward prefix back more some short after joins) = ends-onward n prefix (map Attr more ++ rest) n (ends-own n back more rest joins)

-- the last piece of a later attribute
ends-past : (n k : ℕ) (bytes : List ℕ) (parts : List Piece) (rest : List Event) → Joins bytes parts → Ends (n + 1) rest k → Ends n (map Attr parts ++ rest) k
ends-past n k bytes parts rest (alone bs short) e = ends-after n bs rest k e
ends-past n k bytes parts rest (onward prefix back more some short after joins) e = ends-onward n prefix (map Attr more ++ rest) k (ends-past n k back more rest joins e)

-- Each attribute of a head has a last piece.
ends-attributes : (n k m : ℕ) (raws : List (List ℕ)) (raw : List ℕ) (heads rest : List Event) → SpellsAttributes raws heads → slice_get raws k ≡ Some raw → m ≡ n + k → Ends n (heads ++ rest) m
ends-attributes n k m raws raw heads rest no_attribute found is = absurd (none-some raw found)
ends-attributes n zero m raws raw heads rest (an_attribute own parts more events joins spells) found is =
    let same : n ≡ m = omega (arith, is) in
    subst (λ es. Ends n es m) (sym (append_assoc (map Attr parts) events rest)) (subst (Ends n (map Attr parts ++ (events ++ rest))) same (ends-own n own parts (events ++ rest) joins))
ends-attributes n (suc k) m raws raw heads rest (an_attribute own parts more events joins spells) found is =
    subst (λ es. Ends n es m) (sym (append_assoc (map Attr parts) events rest))
    (ends-past n m own parts (events ++ rest) joins (ends-attributes (n + 1) k m more raw events rest spells found (omega (arith, is))))

-- an event that ends the k-th attribute of the element at the place
abbrev AttributeEnd : List Event → List ℕ → ℕ → Type 0
AttributeEnd list place k = (i : ℕ) × (ends_attribute_at list place k i ≡ true)

end_in_list : (list prefix : List Event) (tag : ℕ) (below : List ℕ) (events : List Event) (place : List ℕ) (k : ℕ) → list ≡ prefix ++ (Begin tag below ∷ events) → begins_at list place (length prefix) ≡ true
    → Ends 0 events k → AttributeEnd list place k
end_in_list list prefix tag below events place k cut begins e =
    let i : ℕ = length prefix + suc e.j in
    let first : take i list ≡ prefix ++ (Begin tag below ∷ take e.j events) = ap (take i) cut ∙ take-after prefix (Begin tag below ∷ events) (suc e.j) i refl in
    let next : take (length prefix + 1) list ≡ prefix ++ (Begin tag below ∷ []) = ap (take (length prefix + 1)) cut ∙ take-after prefix (Begin tag below ∷ events) 1 (length prefix + 1) refl in
    let here : slice_get list i ≡ Some (Attr e.piece) = ap (λ es. slice_get es i) cut ∙ slice_get-after prefix (Begin tag below ∷ events) (suc e.j) i refl ∙ e.there in
    let began : innermost_is_at place (open_after (open_after_events [] prefix) (Begin tag below)) ≡ true =
    ap (innermost_is_at place) (sym (ap (open_after_events []) next ∙ open_after_events-append [] prefix (Begin tag below ∷ [])))
    ∙ second_so (option_map_or _ (slice_get list (length prefix)) false) (innermost_is_at place (open_at list (length prefix + 1))) begins in
    let opened : open_at list i ≡ open_after (open_after_events [] prefix) (Begin tag below) =
    ap (open_after_events []) first ∙ open_after_events-append [] prefix (Begin tag below ∷ take e.j events) ∙ e.same (open_after (open_after_events [] prefix) (Begin tag below)) in
    let counts : attributes_at list i ≡ k = ap (attributes_after_events 0) first ∙ attributes_after_events-append 0 prefix (Begin tag below ∷ take e.j events) ∙ e.whole in (
      i,
      both_so (option_map_or is_last_of_attribute (slice_get list i) false) (innermost_is_at place (open_at list i) && nat_eq (attributes_at list i) k)
          (some_so is_last_of_attribute (slice_get list i) (Attr e.piece) here e.last)
          (both_so (innermost_is_at place (open_at list i)) (nat_eq (attributes_at list i) k)
          (ap (innermost_is_at place) opened ∙ began)
          (ap (λ n. nat_eq n k) counts ∙ same_number k)),
    )

end_of_element : (names : List (List ℕ)) (list prefix own back : List Event) (place : List ℕ) (x : Element) (k : ℕ) (raw : List ℕ) → SpellsElement names x own → list ≡ prefix ++ (own ++ back)
    → begins_at list place (length prefix) ≡ true → slice_get x.attributes k ≡ Some raw → AttributeEnd list place k
end_of_element names list prefix own back place x k raw (an_element ns e tag below heads contents numbered covers attributes items) cut begins found =
    end_in_list list prefix tag below ((heads ++ (HeadEnd ∷ (contents ++ (Finish tag ∷ [])))) ++ back) place k cut begins
    (subst (λ es. Ends 0 es k) (sym (append_assoc heads (HeadEnd ∷ (contents ++ (Finish tag ∷ []))) back))
    (ends-attributes 0 k k e.attributes raw heads ((HeadEnd ∷ (contents ++ (Finish tag ∷ []))) ++ back) attributes found (sym (zero-add k))))

-- ---- an event that meets

-- the event at i is there
pub event_within : (list : List Event) (test : Event → Bool) (rest : Bool) (i : ℕ) → (option_map_or test (slice_get list i) false && rest) ≡ true → i < length list
event_within list test rest i so =
    let found = some_found test (slice_get list i) (first_so (option_map_or test (slice_get list i) false) rest so) in
    slice_get_within list i found.0 found.1

-- Where an element meets a predicate, some event shows it.
gives-meets : (names : List (List ℕ)) (list : List Event) (attribute : Option (List ℕ)) (cmp : Option Cmp) (place : List ℕ) (x : Element) → StandsInList names list place x → Gives attribute cmp x
    → (i : ℕ) × (i < length list) × (meets list attribute cmp place i x ≡ true)
gives-meets names list None None place x s gives =
    (length s.prefix, event_within list _ (innermost_is_at place (open_at list (length s.prefix + 1))) (length s.prefix) s.begins, s.begins)
gives-meets names list None (Some cmp) place x s gives =
    let i : ℕ = length s.prefix + length s.own - 1 in
    (i, event_within list _ (innermost_is_at place (open_at list i)) i s.finishes, both_so (satisfies cmp.op cmp.operand (string_value x)) (finishes_at list place i) gives s.finishes)
gives-meets names list (Some name) cmp place x s gives =
    let end = end_of_element names list s.prefix s.own s.back place x gives.0 gives.1 s.spelled s.cut s.begins gives.2 in (
      end.0,
      event_within list is_last_of_attribute (innermost_is_at place (open_at list end.0) && nat_eq (attributes_at list end.0) gives.0) end.0 end.1,
      any_so (λ k. option_map_or (has_enough name cmp) (slice_get x.attributes k) false && ends_attribute_at list place k end.0) (counted (length x.attributes)) gives.0
          (has_counted (length x.attributes) gives.0 (slice_get_within x.attributes gives.0 gives.1 gives.2))
          (both_so (option_map_or (has_enough name cmp) (slice_get x.attributes gives.0) false) (ends_attribute_at list place gives.0 end.0)
          (some_so (has_enough name cmp) (slice_get x.attributes gives.0) gives.1 gives.2 gives.3) end.1),
    )

-- what follows from an event that meets a predicate
pub record Met (d : Doc) (list : List Event) (bearer : List ℕ) (pred : Pred) (i : ℕ) : Type 0 where
  pub place : List ℕ
  pub x : Element
  pub led : path_leads d pred.way bearer place ≡ true
  pub there : at d place ≡ Some x
  pub met : meets list pred.attribute pred.cmp place i x ≡ true

pub met_so : (d : Doc) (list : List Event) (bearer : List ℕ) (pred : Pred) (i : ℕ) → is_met_at d list bearer pred i ≡ true → Met d list bearer pred i
met_so d list bearer pred i so =
    let found = any_found (λ place. path_leads d pred.way bearer place && option_map_or (meets list pred.attribute pred.cmp place i) (at d place) false) (places d) so in
    let led = first_so (path_leads d pred.way bearer found.0) (option_map_or (meets list pred.attribute pred.cmp found.0 i) (at d found.0) false) found.2 in
    let met = some_found (meets list pred.attribute pred.cmp found.0 i) (at d found.0)
    (second_so (path_leads d pred.way bearer found.0) (option_map_or (meets list pred.attribute pred.cmp found.0 i) (at d found.0) false) found.2) in
    record { place = found.0; x = met.0; led = led; there = met.1; met = met.2 }

met-holds : (d : Doc) (list : List Event) (bearer : List ℕ) (e : Element) (pred : Pred) (i : ℕ) → at d bearer ≡ Some e → is_met_at d list bearer pred i ≡ true → holds pred e ≡ true
unfolding holds
met-holds d list bearer e pred i there so =
    let m = met_so d list bearer pred i so in
    gives-so pred.attribute pred.cmp (targets pred.way e) m.x
    (has-Contains (targets pred.way e) m.x (targets_all d bearer m.place e m.x pred.way there m.led m.there))
    (meets-gives list pred.attribute pred.cmp m.place i m.x m.met)

holds-met : (names : List (List ℕ)) (d : Doc) (list : List Event) (bearer : List ℕ) (e : Element) (pred : Pred) → Spells names (Some d) list → at d bearer ≡ Some e
    → holds pred e ≡ true → list_any (is_met_at d list bearer pred) (counted (length list)) ≡ true
unfolding holds
holds-met names d list bearer e pred spells there so =
    let given = so-gives pred.attribute pred.cmp (targets pred.way e) so in
    let reached = targets_reached d bearer e given.0 pred.way there (Contains-has (targets pred.way e) given.0 given.1) in
    let met = gives-meets names list pred.attribute pred.cmp reached.0 given.0 (stands_in_list names d list reached.0 given.0 spells reached.2) given.2 in
    any_so (is_met_at d list bearer pred) (counted (length list)) met.0 (has_counted (length list) met.0 met.1)
    (any_so (λ place. path_leads d pred.way bearer place && option_map_or (meets list pred.attribute pred.cmp place met.0) (at d place) false) (places d) reached.0
    (has_places d reached.0 given.0 reached.2)
    (both_so (path_leads d pred.way bearer reached.0) (option_map_or (meets list pred.attribute pred.cmp reached.0 met.0) (at d reached.0) false) reached.1
    (some_so (meets list pred.attribute pred.cmp reached.0 met.0) (at d reached.0) given.0 reached.2 met.2)))

-- A predicate is true at an element exactly where some event of the list meets it.
pub met-is : (names : List (List ℕ)) (d : Doc) (list : List Event) (bearer : List ℕ) (e : Element) (pred : Pred) → Spells names (Some d) list → at d bearer ≡ Some e
    → list_any (is_met_at d list bearer pred) (counted (length list)) ≡ holds pred e
met-is names d list bearer e pred spells there =
    same_tests (list_any (is_met_at d list bearer pred) (counted (length list))) (holds pred e)
    (λ so. let found = any_found (is_met_at d list bearer pred) (counted (length list)) so in met-holds d list bearer e pred found.0 there found.2)
    (holds-met names d list bearer e pred spells there)
