-- The elements that are open after each event of a list: their tags, and their places, which are
-- inside each other.
use Rattle.std.proofs.Common.{◌≡◌, ℕ, zero, suc, ◌+◌, List, [], ◌∷◌, ◌++◌, map, take, drop, refl, ap, sym, subst, ◌∙◌, arith}
use Rattle.acl_model.specs.Places.{prefixes}
use Rattle.acl_walk.specs.Nesting.{tags_after}
use Rattle.acl_walk.specs.Open.{OpenPlace, next_place, with_child, open_after, open_after_events, open_at, tags_of, tags_at, places_of}
use Rattle.acl_walk.specs.SpotMoves.{StandsAt}
use Rattle.acl_walk.specs.declared.event.Event.{Event}
use Rattle.acl_walk.specs.declared.event.Event.TheVariants.{Begin, Attr, HeadEnd, Text, Finish, End}

-- ---- tags and places

-- One more child doesn't change the tags.
pub tags_of-with_child : (elements : List OpenPlace) → tags_of (with_child elements) ≡ tags_of elements
tags_of-with_child [] = refl
tags_of-with_child (parent ∷ up) = refl

-- It doesn't change the places.
pub places_of-with_child : (elements : List OpenPlace) → places_of (with_child elements) ≡ places_of elements
places_of-with_child [] = refl
places_of-with_child (parent ∷ up) = refl

-- The places of two lists of elements together are those of the first and those of the second.
pub places_of-append : (inner elements : List OpenPlace) → places_of (inner ++ elements) ≡ places_of inner ++ places_of elements
places_of-append [] elements = refl
places_of-append (i ∷ inner) elements = ap (λ ps. i.place ∷ ps) (places_of-append inner elements)

-- The tags without the innermost element are those of the elements around it.
tags_of-drop : (elements : List OpenPlace) → tags_of (drop 1 elements) ≡ drop 1 (tags_of elements)
tags_of-drop [] = refl
tags_of-drop (element ∷ up) = refl

-- The tags after an event are those of the stage after it.
pub tags_of-open_after : (elements : List OpenPlace) (event : Event) → tags_of (open_after elements event) ≡ tags_after (tags_of elements) event
tags_of-open_after elements (Begin tag below) = ap (λ ts. tag ∷ ts) (tags_of-with_child elements)
tags_of-open_after elements (Attr piece) = refl
tags_of-open_after elements HeadEnd = refl
tags_of-open_after elements (Text piece) = refl
tags_of-open_after elements (Finish tag) = tags_of-drop elements
tags_of-open_after elements End = refl

-- ---- from one index of a list to another

-- After no events the same elements are open.
after_nothing : (elements : List OpenPlace) (n : ℕ) → open_after_events elements (take n []) ≡ elements
after_nothing elements zero = refl
after_nothing elements (suc n) = refl

-- The elements that are open at an index follow from those open at an earlier index and the events
-- in between.
pub open_after_events-onward : (elements : List OpenPlace) (list : List Event) (old steps new : ℕ) → new ≡ old + steps
    → open_after_events elements (take new list) ≡ open_after_events (open_after_events elements (take old list)) (take steps (drop old list))
open_after_events-onward elements list zero steps new is =
    let same : new ≡ steps = omega arith in
    ap (λ k. open_after_events elements (take k list)) same
open_after_events-onward elements [] (suc old) steps new is = after_nothing elements new ∙ sym (after_nothing elements steps)
open_after_events-onward elements (event ∷ list) (suc old) steps zero is = absurd (omega (arith, is))
open_after_events-onward elements (event ∷ list) (suc old) steps (suc new) is = open_after_events-onward (open_after elements event) list old steps new (omega (arith, is))

-- The tags after the event at an index are those after it in the list, if the event isn't End.
tags_at-onward : (list : List Event) (old : ℕ) (event : Event)
    → drop old list ≡ event ∷ drop (old + 1) list
    → tags_at list (old + 1) ≡ tags_after (tags_at list old) event
tags_at-onward list old event begins =
    ap tags_of (open_after_events-onward [] list old 1 (old + 1) refl
    ∙ ap (λ events. open_after_events (open_at list old) (take 1 events)) begins)
    ∙ tags_of-open_after (open_at list old) event

-- The tags at the index after an event are the tags at its own index, changed by the event.
pub tags_at-step : (list : List Event) (old : ℕ) (event : Event) (new : ℕ)
    → StandsAt list old event new → tags_at list new ≡ tags_after (tags_at list old) event
tags_at-step list old (Begin tag below) new stands =
    ap (tags_at list) stands.moved ∙ tags_at-onward list old (Begin tag below) stands.there
tags_at-step list old (Attr piece) new stands =
    ap (tags_at list) stands.moved ∙ tags_at-onward list old (Attr piece) stands.there
tags_at-step list old HeadEnd new stands =
    ap (tags_at list) stands.moved ∙ tags_at-onward list old HeadEnd stands.there
tags_at-step list old (Text piece) new stands =
    ap (tags_at list) stands.moved ∙ tags_at-onward list old (Text piece) stands.there
tags_at-step list old (Finish tag) new stands =
    ap (tags_at list) stands.moved ∙ tags_at-onward list old (Finish tag) stands.there
tags_at-step list old End new stands = ap (tags_at list) stands.moved

-- ---- places inside each other

-- The prefixes of a child's place are the place itself and the prefixes of the parent's place.
prefixes-child : (place : List ℕ) (k : ℕ) → prefixes (place ++ (k ∷ [])) ≡ (place ++ (k ∷ [])) ∷ prefixes place
prefixes-child [] k = refl
prefixes-child (n ∷ place) k = ap (λ ps. map (λ prefix. n ∷ prefix) ps ++ ([] ∷ [])) (prefixes-child place k)

-- The places of the elements are the prefixes of the innermost one's, and the same is true of the
-- elements around it.
abbrev AreInEachOther : List OpenPlace → Type 0
AreInEachOther [] = Unit {0}
AreInEachOther (element ∷ up) = (places_of (element ∷ up) ≡ prefixes element.place) × AreInEachOther up

-- One more child keeps elements inside each other.
in_each_other-with_child : (elements : List OpenPlace) → AreInEachOther elements → AreInEachOther (with_child elements)
in_each_other-with_child [] are = tt
in_each_other-with_child (parent ∷ up) are = (are.0, are.1)

-- The next place and the places of the open elements are the prefixes of the next place.
prefixes-next_place : (elements : List OpenPlace) → AreInEachOther elements → next_place elements ∷ places_of elements ≡ prefixes (next_place elements)
prefixes-next_place [] are = refl
prefixes-next_place (parent ∷ up) are =
    ap (λ ps. next_place (parent ∷ up) ∷ ps) are.0 ∙ sym (prefixes-child parent.place (parent.children + 1))

-- Without the innermost one the elements are inside each other, too.
in_each_other-drop : (elements : List OpenPlace) → AreInEachOther elements → AreInEachOther (drop 1 elements)
in_each_other-drop [] are = tt
in_each_other-drop (element ∷ up) are = are.1

-- After an event the open elements are inside each other.
in_each_other-after : (elements : List OpenPlace) (event : Event) → AreInEachOther elements → AreInEachOther (open_after elements event)
in_each_other-after elements (Begin tag below) are =
    (ap (λ ps. next_place elements ∷ ps) (places_of-with_child elements) ∙ prefixes-next_place elements are, in_each_other-with_child elements are)
in_each_other-after elements (Attr piece) are = are
in_each_other-after elements HeadEnd are = are
in_each_other-after elements (Text piece) are = are
in_each_other-after elements (Finish tag) are = in_each_other-drop elements are
in_each_other-after elements End are = are

-- After a list of events the open elements are inside each other.
in_each_other-after_events : (elements : List OpenPlace) (events : List Event) → AreInEachOther elements → AreInEachOther (open_after_events elements events)
in_each_other-after_events elements [] are = are
in_each_other-after_events elements (event ∷ events) are = in_each_other-after_events (open_after elements event) events (in_each_other-after elements event are)

-- The places of the elements that are open at an index of a list are the prefixes of the innermost
-- one's.
pub places_of-prefixes : (list : List Event) (place : ℕ) (element : OpenPlace) (up : List OpenPlace) → open_at list place ≡ element ∷ up
    → places_of (element ∷ up) ≡ prefixes element.place
places_of-prefixes list place element up is = (subst AreInEachOther is (in_each_other-after_events [] (take place list) tt)).0
