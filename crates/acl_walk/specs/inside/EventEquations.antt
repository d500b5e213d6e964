-- The events of an element and of each kind of item, as equations. Proofs cite these, since a fold
-- doesn't reduce by itself.
use Rattle.std.proofs.Common.{◌≡◌, ℕ, List, [], ◌∷◌, ◌++◌, length, map, ap, sym, ◌∙◌, refl, append_assoc}
use Rattle.std.proofs.lemmas.List.Folds.{flat_map-map}
use Rattle.std.specs.List.{flat_map}
use Rattle.acl_model.specs.declared.document.Item.{Item}
use Rattle.acl_model.specs.declared.document.Element.{Element, out-Element, roll-out-Element}
use Rattle.acl_model.specs.declared.document.Item.TheVariants.{Text, Child, rolls-Text, rolls-Child}
use Rattle.acl_model.specs.declared.document.Item.TheOpen.{Item-F}
use Rattle.acl_model.specs.declared.document.Item.TheFolds.{para-roll-Item, para-roll-Element}
use Rattle.acl_walk.specs.inside.OpenElements.{items_events}
use Rattle.acl_walk.specs.TreeEvents.{told_below, tag_number, attribute_events, text_events, item_layer, element_layer, element_events, item_events}
use Rattle.acl_walk.specs.declared.event.Event.{Event}
use Rattle.acl_walk.specs.declared.event.Event.TheVariants.{Begin, HeadEnd, Finish}

-- the first parts of the pairs that a fold makes of a list are that list
firsts : (f : Item → List Event) (items : List Item)
    → map (λ (item : Item × List Event). item.0) (map {B = Item × List Event} (λ y. (y, f y)) items) ≡ items
firsts f [] = refl
firsts f (item ∷ items) = ap (λ rest. item ∷ rest) (firsts f items)

-- the events of an element, from its parts
pub element_events_is : (names : List (List ℕ)) (e : Element)
    → element_events names e ≡ Begin (tag_number names e.name) (told_below (length names) e.items)
    ∷ (flat_map attribute_events e.attributes ++ (HeadEnd ∷ (items_events names e.items ++ (Finish (tag_number names e.name) ∷ []))))
unfolding element_events item_events
element_events_is names e =
    let shape = λ (items : List Item) (contents : List Event). Begin (tag_number names e.name) (told_below (length names) items) ∷ (flat_map attribute_events e.attributes ++ (HeadEnd ∷ (contents ++ (Finish (tag_number names e.name) ∷ [])))) in
    let paired : List (Item × List Event) = map {B = Item × List Event} (λ y. (y, item_events names y)) e.items in
    ap (element_events names) (sym (roll-out-Element e)) ∙ para-roll-Element (List Event) (List Event) item_layer (element_layer names) (out-Element e)
    ∙ ap (λ items. shape items (flat_map (λ (item : Item × List Event). item.1) paired)) (firsts (item_events names) e.items)
    ∙ ap (shape e.items) (flat_map-map {A = Item} {B = Item × List Event} {C = Event} (λ item. item.1) (λ y. (y, item_events names y)) e.items)

-- the same with more events after them
pub element_events-append : (names : List (List ℕ)) (e : Element) (rest : List Event)
    → element_events names e ++ rest ≡ Begin (tag_number names e.name) (told_below (length names) e.items)
    ∷ (flat_map attribute_events e.attributes ++ (HeadEnd ∷ (items_events names e.items ++ (Finish (tag_number names e.name) ∷ rest))))
element_events-append names e rest =
    let tag : ℕ = tag_number names e.name in
    let contents : List Event = items_events names e.items in
    ap (λ events. events ++ rest) (element_events_is names e)
    ∙ ap (λ events. Begin tag (told_below (length names) e.items) ∷ events)
    (append_assoc (flat_map attribute_events e.attributes) (HeadEnd ∷ (contents ++ (Finish tag ∷ []))) rest
    ∙ ap (λ events. flat_map attribute_events e.attributes ++ (HeadEnd ∷ events)) (append_assoc contents (Finish tag ∷ []) rest))

-- the events of a text
pub item_events-Text : (names : List (List ℕ)) (bytes : List ℕ) → item_events names (Text bytes) ≡ text_events bytes
unfolding item_events
item_events-Text names bytes = ap (item_events names) (sym (rolls-Text bytes)) ∙ para-roll-Item (List Event) (List Event) item_layer (element_layer names) (Item-F.Text bytes)

-- the events of a child element
pub item_events-Child : (names : List (List ℕ)) (e : Element) → item_events names (Child e) ≡ element_events names e
unfolding element_events item_events
item_events-Child names e = ap (item_events names) (sym (rolls-Child e)) ∙ para-roll-Item (List Event) (List Event) item_layer (element_layer names) (Item-F.Child e)

-- these equations, for tactics
pub ruleset event_equations = (element_events_is, item_events-Text, item_events-Child)
