-- A pass in a list that spells a document leads to the Finish of the innermost open element.
use Rattle.std.proofs.Common.{◌≡◌, ℕ, zero, suc, ◌+◌, ◌-◌, ◌<◌, ◌≤◌, Some, List, [], ◌∷◌, ◌++◌, length, map, take, drop, refl, ap, sym, subst, ◌∙◌, append_assoc, arith, length-drop}
use Rattle.std.proofs.lemmas.List.{drop-drop}
use Rattle.acl_bits.specs.declared.piece.Piece.{Piece}
use Rattle.acl_model.specs.declared.document.Doc.{Doc}
use Rattle.acl_model.specs.declared.document.Item.{Item}
use Rattle.acl_model.specs.declared.document.Element.{Element}
use Rattle.acl_walk.specs.Nesting.{IsInnermost, tags_after}
use Rattle.acl_walk.specs.Open.{OpenPlace, next_place, with_child, open_after, open_after_events, open_at, tags_of, tags_at, places_of}
use Rattle.acl_walk.specs.inside.OpenLaws.{tags_of-with_child, places_of-with_child, places_of-append, tags_of-open_after, open_after_events-onward}
use Rattle.acl_walk.specs.Passes.{IsPass}
use Rattle.acl_walk.specs.Spelling.{SpellsAttributes, no_attribute, an_attribute, SpellsElement, an_element, SpellsItems, no_item, a_text, a_child, Spells, a_document}
use Rattle.acl_walk.specs.SpotMoves.{from_finish, PassesTo}
use Rattle.acl_walk.specs.declared.event.Event.{Event}
use Rattle.acl_walk.specs.declared.event.Event.TheVariants.{Begin, Attr, HeadEnd, Text, Finish, End}

-- ---- each open element is finished

-- The event fits where elements with these tags are open: a Finish is that of the innermost one,
-- and End comes where none is open.
abbrev pub Fits : List ℕ → Event → Type 0
Fits tags (Begin tag below) = Unit {0}
Fits tags (Attr piece) = Unit {0}
Fits tags HeadEnd = Unit {0}
Fits tags (Text piece) = Unit {0}
Fits tags (Finish tag) = IsInnermost tags tag
Fits tags End = tags ≡ []

-- Each of the events fits after those before it, where elements with these tags are open at first.
-- After all of them no element is open.
abbrev pub Finishes : List ℕ → List Event → Type 0
Finishes tags [] = tags ≡ []
Finishes tags (event ∷ events) = Fits tags event × Finishes (tags_after tags event) events

-- The same is true with pieces of texts before these events.
finishes_texts : (tags : List ℕ) (parts : List Piece) (rest : List Event) → Finishes tags rest → Finishes tags (map Text parts ++ rest)
finishes_texts tags [] rest finishes = finishes
finishes_texts tags (part ∷ parts) rest finishes = (tt, finishes_texts tags parts rest finishes)

-- The same is true with pieces of attributes before them.
finishes_pieces : (tags : List ℕ) (parts : List Piece) (rest : List Event) → Finishes tags rest → Finishes tags (map Attr parts ++ rest)
finishes_pieces tags [] rest finishes = finishes
finishes_pieces tags (part ∷ parts) rest finishes = (tt, finishes_pieces tags parts rest finishes)

-- The same is true with attributes that are spelled before them.
finishes_attributes : (tags : List ℕ) (raws : List (List ℕ)) (heads rest : List Event) → SpellsAttributes raws heads → Finishes tags rest → Finishes tags (heads ++ rest)
finishes_attributes tags raws heads rest no_attribute finishes = finishes
finishes_attributes tags raws heads rest (an_attribute raw parts more events joins spells) finishes =
    subst (Finishes tags) (sym (append_assoc (map Attr parts) events rest))
    (finishes_pieces tags parts (events ++ rest) (finishes_attributes tags more events rest spells finishes))

mutual
  finishes_element : (names : List (List ℕ)) (tags : List ℕ) (e : Element) (own rest : List Event) → SpellsElement names e own → Finishes tags rest → Finishes tags (own ++ rest)
  finishes_element names tags e own rest (an_element ns el tag below heads contents numbered covers attributes items) finishes =
      let grouped : (heads ++ (HeadEnd ∷ (contents ++ (Finish tag ∷ [])))) ++ rest ≡ heads ++ (HeadEnd ∷ (contents ++ (Finish tag ∷ rest))) =
      append_assoc heads (HeadEnd ∷ (contents ++ (Finish tag ∷ []))) rest ∙ ap (λ events. heads ++ (HeadEnd ∷ events)) (append_assoc contents (Finish tag ∷ []) rest) in
      let content : Finishes (tag ∷ tags) (contents ++ (Finish tag ∷ rest)) = finishes_items names (tag ∷ tags) e.items contents (Finish tag ∷ rest) items (refl, finishes) in
      (tt, subst (Finishes (tag ∷ tags)) (sym grouped) (finishes_attributes (tag ∷ tags) e.attributes heads (HeadEnd ∷ (contents ++ (Finish tag ∷ rest))) attributes (tt, content)))

  finishes_items : (names : List (List ℕ)) (tags : List ℕ) (items : List Item) (contents rest : List Event) → SpellsItems names items contents → Finishes tags rest
      → Finishes tags (contents ++ rest)
  finishes_items names tags items contents rest (no_item ns) finishes = finishes
  finishes_items names tags items contents rest (a_text ns bytes parts more events joins spells) finishes =
      subst (Finishes tags) (sym (append_assoc (map Text parts) events rest))
      (finishes_texts tags parts (events ++ rest) (finishes_items names tags more events rest spells finishes))
  finishes_items names tags items contents rest (a_child ns e own more events spelled spells) finishes =
      subst (Finishes tags) (sym (append_assoc own events rest))
      (finishes_element names tags e own (events ++ rest) spelled (finishes_items names tags more events rest spells finishes))

-- In a list that spells a document each element is finished, and End comes after the last Finish.
pub finishes_document : (names : List (List ℕ)) (d : Doc) (list : List Event) → Spells names (Some d) list → Finishes [] list
finishes_document names d list (a_document ns doc own spells) = finishes_element names [] d.root own (End ∷ []) spells (refl, refl)

-- The same is true from each index of a list on.
pub finishes_from : (elements : List OpenPlace) (list : List Event) (place : ℕ) → Finishes (tags_of elements) list
    → Finishes (tags_of (open_after_events elements (take place list))) (drop place list)
finishes_from elements list zero finishes = finishes
finishes_from elements [] (suc place) finishes = finishes
finishes_from elements (event ∷ list) (suc place) finishes =
    finishes_from (open_after elements event) list place (subst (λ ts. Finishes ts list) (sym (tags_of-open_after elements event)) finishes.1)

-- ---- from inside an element to its Finish

-- These places are those of the outermost elements.
abbrev AreAround : List (List ℕ) → List OpenPlace → Type 0
AreAround places elements = (inner : List OpenPlace) × (places_of elements ≡ places_of inner ++ places)

-- After `steps` of the events comes the Finish of the open element inside which n others are open.
-- There it is the innermost one, with this tag, these tags around it, and these places of it and
-- the elements around it. Until then all of these elements stay open.
record Reaches (elements : List OpenPlace) (events : List Event) (n tag : ℕ) (tags : List ℕ) (places : List (List ℕ)) : Type 0 where
  steps : ℕ
  found : from_finish n events ≡ drop steps events
  finish : drop steps events ≡ Finish tag ∷ drop (suc steps) events
  same_tags : tags_of (open_after_events elements (take steps events)) ≡ tag ∷ tags
  same_places : places_of (open_after_events elements (take steps events)) ≡ places
  inside : (k : ℕ) → k ≤ steps → AreAround places (open_after_events elements (take k events))

-- The elements stay open from this event on, if they are open here and stay open from the next
-- event on.
inside_next : (elements : List OpenPlace) (event : Event) (events : List Event) (m tag : ℕ) (tags : List ℕ) (places : List (List ℕ)) → AreAround places elements
    → (r : Reaches (open_after elements event) events m tag tags places) (k : ℕ) → k ≤ suc r.steps → AreAround places (open_after_events elements (take k (event ∷ events)))
inside_next elements event events m tag tags places around r zero few = around
inside_next elements event events m tag tags places around r (suc k) few = r.inside k (omega (arith, few))

-- The Finish is reached from this event on, if it is reached from the next one on.
reaches_next : (elements : List OpenPlace) (event : Event) (events : List Event) (n m tag : ℕ) (tags : List ℕ) (places : List (List ℕ))
    → from_finish n (event ∷ events) ≡ from_finish m events → AreAround places elements → Reaches (open_after elements event) events m tag tags places
    → Reaches elements (event ∷ events) n tag tags places
reaches_next elements event events n m tag tags places same around r = record {
  steps = suc r.steps;
  found = same ∙ r.found;
  finish = r.finish;
  same_tags = r.same_tags;
  same_places = r.same_places;
  inside = inside_next elements event events m tag tags places around r;
}

-- Where there is a tag, some element is open.
some_open : (inner around : List OpenPlace) (tag : ℕ) (tags : List ℕ) → tags_of around ≡ tag ∷ tags → tags_of (inner ++ around) ≡ [] → ⊥
some_open [] around tag tags is none = cc
some_open (i ∷ inner) around tag tags is none = cc

-- The places of these elements are those of the outermost elements, where others are inside.
are_around : (inner around : List OpenPlace) (places : List (List ℕ)) → places_of around ≡ places → AreAround places (inner ++ around)
are_around inner around places are = (inner, places_of-append inner around ∙ ap (λ ps. places_of inner ++ ps) are)

-- The innermost of the tags is the first.
same_tag : (own : List ℕ) (tag t : ℕ) (tags : List ℕ) → own ≡ tag ∷ tags → take 1 own ≡ t ∷ [] → t ≡ tag
same_tag own tag t tags is first =
    let both : tag ∷ [] ≡ t ∷ [] = sym (ap (take 1) is) ∙ first in
    cc

-- Events that fit and finish reach the Finish of each open element.
reaches : (inner around : List OpenPlace) (tag : ℕ) (tags : List ℕ) (places : List (List ℕ)) (events : List Event) → tags_of around ≡ tag ∷ tags → places_of around ≡ places
    → Finishes (tags_of (inner ++ around)) events → Reaches (inner ++ around) events (length inner) tag tags places
reaches inner around tag tags places [] is are finishes = absurd (some_open inner around tag tags is finishes)
reaches [] around tag tags places (Begin t below ∷ events) is are finishes =
    let child : OpenPlace = record { tag = t; place = next_place around; children = 0 } in
    reaches_next around (Begin t below) events 0 1 tag tags places refl (are_around [] around places are)
    (reaches (child ∷ []) (with_child around) tag tags places events (tags_of-with_child around ∙ is) (places_of-with_child around ∙ are)
    (subst (λ ts. Finishes (t ∷ ts) events) (sym (tags_of-with_child around)) finishes.1))
reaches (i ∷ inner) around tag tags places (Begin t below ∷ events) is are finishes =
    let child : OpenPlace = record { tag = t; place = next_place (i ∷ (inner ++ around)); children = 0 } in
    let parent : OpenPlace = record { tag = i.tag; place = i.place; children = i.children + 1 } in
    reaches_next (i ∷ (inner ++ around)) (Begin t below) events (length (i ∷ inner)) (suc (length (i ∷ inner))) tag tags places refl (are_around (i ∷ inner) around places are)
    (reaches (child ∷ parent ∷ inner) around tag tags places events is are finishes.1)
reaches inner around tag tags places (Attr piece ∷ events) is are finishes =
    reaches_next (inner ++ around) (Attr piece) events (length inner) (length inner) tag tags places refl (are_around inner around places are)
    (reaches inner around tag tags places events is are finishes.1)
reaches inner around tag tags places (HeadEnd ∷ events) is are finishes =
    reaches_next (inner ++ around) HeadEnd events (length inner) (length inner) tag tags places refl (are_around inner around places are)
    (reaches inner around tag tags places events is are finishes.1)
reaches inner around tag tags places (Text piece ∷ events) is are finishes =
    reaches_next (inner ++ around) (Text piece) events (length inner) (length inner) tag tags places refl (are_around inner around places are)
    (reaches inner around tag tags places events is are finishes.1)
reaches [] around tag tags places (Finish t ∷ events) is are finishes = record {
  steps = 0;
  found = refl;
  finish = ap (λ x. Finish x ∷ events) (same_tag (tags_of around) tag t tags is finishes.0);
  same_tags = is;
  same_places = are;
  inside = λ k few. let none : k ≡ 0 = omega arith in
      subst (λ j. AreAround places (open_after_events around (take j (Finish t ∷ events)))) (sym none) (are_around [] around places are);
}
reaches (i ∷ inner) around tag tags places (Finish t ∷ events) is are finishes =
    reaches_next (i ∷ (inner ++ around)) (Finish t) events (suc (length inner)) (length inner) tag tags places refl (are_around (i ∷ inner) around places are)
    (reaches inner around tag tags places events is are finishes.1)
reaches inner around tag tags places (End ∷ events) is are finishes = absurd (some_open inner around tag tags is finishes.0)

-- ---- a pass

-- Two indices of a list from which on the list is the same, and not empty, are one index.
same_place : (list : List Event) (j k : ℕ) (event : Event) (rest : List Event) → drop j list ≡ event ∷ rest → drop k list ≡ event ∷ rest → j ≡ k
same_place list j k event rest first second = omega (arith, ap length first, ap length second, length-drop j list, length-drop k list)

-- the Finish is `steps` events further on
finish_there : (list : List Event) (old steps tag : ℕ) → drop steps (drop old list) ≡ Finish tag ∷ drop (suc steps) (drop old list)
    → drop (old + steps) list ≡ Finish tag ∷ drop (old + steps + 1) list
finish_there list old steps tag is =
    let next : old + suc steps ≡ old + steps + 1 = omega arith in
    sym (drop-drop steps old list) ∙ is ∙ ap (λ events. Finish tag ∷ events) (drop-drop (suc steps) old list ∙ ap (λ k. drop k list) next)

-- Where the Finish is reached, a pass leads there.
pass_by : (list : List Event) (old new : ℕ) (element : OpenPlace) (up : List OpenPlace) → open_at list old ≡ element ∷ up
    → (r : Reaches (open_at list old) (drop old list) 0 element.tag (tags_of up) (places_of (element ∷ up))) → new ≡ old + r.steps → IsPass list old new
pass_by list old new element up is r place =
    let after : open_at list new ≡ open_after_events (open_at list old) (take r.steps (drop old list)) = open_after_events-onward [] list old r.steps new place in
    record {
      element = element;
      up = up;
      innermost = is;
      onward = omega (arith, place);
      finish = record {
        there = subst (λ k. drop k list ≡ Finish element.tag ∷ drop (k + 1) list) (sym place) (finish_there list old r.steps element.tag r.finish);
        moved = refl;
      };
      same_tags = ap tags_of after ∙ r.same_tags ∙ sym (ap tags_of is);
      same_places = ap places_of after ∙ r.same_places ∙ sym (ap places_of is);
      inside = λ k from to.
          let steps : k ≡ old + (k - old) = omega (arith, from) in
          let around = r.inside (k - old) (omega (arith, from, to, place)) in
          (around.0, ap places_of (open_after_events-onward [] list old (k - old) k steps) ∙ around.1);
    }

-- the index to which a pass leads
pass_place : (list : List Event) (old new steps tag : ℕ) → drop new list ≡ drop steps (drop old list) → drop steps (drop old list) ≡ Finish tag ∷ drop (suc steps) (drop old list)
    → new ≡ old + steps
pass_place list old new steps tag found is =
    same_place list new (old + steps) (Finish tag) (drop (suc steps) (drop old list)) (found ∙ is) (sym (drop-drop steps old list) ∙ is)

-- A pass leads to the Finish of this element, the innermost open one.
pub is_pass : (names : List (List ℕ)) (d : Doc) (list : List Event) (old new : ℕ) (element : OpenPlace) (up : List OpenPlace) → length names ≤ 256
    → Spells names (Some d) list → open_at list old ≡ element ∷ up → PassesTo (tags_of (element ∷ up)) list old new → IsPass list old new
is_pass names d list old new element up few spells is passes =
    let r : Reaches (open_at list old) (drop old list) 0 element.tag (tags_of up) (places_of (element ∷ up)) =
    reaches [] (open_at list old) element.tag (tags_of up) (places_of (element ∷ up)) (drop old list) (ap tags_of is) (ap places_of is)
    (finishes_from [] list old (finishes_document names d list spells)) in
    pass_by list old new element up is r (pass_place list old new r.steps element.tag (passes ∙ r.found) r.finish)

-- the same, where these elements are open and there is at least one
is_pass_among : (names : List (List ℕ)) (d : Doc) (list : List Event) (old new : ℕ) (elements : List OpenPlace) → length names ≤ 256 → Spells names (Some d) list
    → 0 < length elements → open_at list old ≡ elements → PassesTo (tags_of elements) list old new → IsPass list old new
is_pass_among names d list old new [] few spells some is passes = absurd (omega (arith, some))
is_pass_among names d list old new (element ∷ up) few spells some is passes = is_pass names d list old new element up few spells is passes

-- Where some element is open, a pass leads to the Finish of the innermost one.
pub pass_where_open : (names : List (List ℕ)) (d : Doc) (list : List Event) (old new : ℕ) → length names ≤ 256 → Spells names (Some d) list
    → 0 < length (open_at list old) → PassesTo (tags_at list old) list old new → IsPass list old new
pass_where_open names d list old new few spells some passes = is_pass_among names d list old new (open_at list old) few spells some refl passes

-- Where none is open, a pass keeps the index.
pub pass_where_none : (list : List Event) (old new : ℕ) → open_at list old ≡ [] → PassesTo (tags_at list old) list old new → new ≡ old
pass_where_none list old new none = subst (λ elements. PassesTo (tags_of elements) list old new → new ≡ old) (sym none) (λ stays. stays)
