-- What a step from each position in a tree does.
use Rattle.std.proofs.Common.{◌≡◌, ℕ, ◌<◌, List, [], ◌∷◌, ◌++◌, length, ap, sym, subst, ◌∙◌, refl, append_assoc, arith, Bor}
use Rattle.std.specs.List.{flat_map}
use Rattle.acl_model.specs.declared.document.Item.{Item}
use Rattle.acl_model.specs.declared.document.Item.TheVariants.{Text, Child}
use Rattle.acl_model.specs.declared.document.Element.{Element}
use Rattle.acl_walk.specs.inside.OpenElements.{OpenElement, with_item, items_events, content_to_come, finish_to_come, tags_of, NothingLeft}
use Rattle.acl_walk.specs.TreeEvents.{told_below, tag_number, attribute_events, text_events, element_events, item_events}
use Rattle.acl_walk.specs.inside.TreeSteps.{head_to_come, Steps}
use Rattle.acl_walk.specs.declared.event.Event.{Event}
use Rattle.acl_walk.specs.declared.event.Event.TheVariants.{Begin, HeadEnd, Finish}
use Rattle.acl_walk.specs.declared.tree_step.Now.{Now}
use Rattle.acl_walk.specs.declared.tree_step.Now.TheVariants as now
use Rattle.acl_walk.specs.inside.EventEquations.{element_events-append, item_events-Text, item_events-Child}

-- The events of an element that is to come are its Begin and then the events to come in its head.
pub begin-element : (names : List (List ℕ)) (e : Element) (levels : List OpenElement) (level : OpenElement)
    → level ≡ record { tag = tag_number names e.name; items = e.items }
    → element_events names e ++ content_to_come names levels
    ≡ Begin (tag_number names e.name) (told_below (length names) e.items) ∷ head_to_come names e.attributes (level ∷ levels)
begin-element names e levels level is =
    element_events-append names e (content_to_come names levels)
    ∙ ap (λ (l : OpenElement). Begin (tag_number names e.name) (told_below (length names) e.items) ∷ head_to_come names e.attributes (l ∷ levels)) (sym is)

-- The events to come with an item before the others are that item's events and the rest.
pub content-with_item : (names : List (List ℕ)) (item : Item) (levels : List OpenElement) → 0 < length levels
    → content_to_come names (with_item item levels) ≡ item_events names item ++ content_to_come names levels
content-with_item names item [] some = absurd (omega arith)
content-with_item names item (level ∷ levels) some = append_assoc (item_events names item) (items_events names level.items) (Finish level.tag ∷ content_to_come names levels)

-- The tags stay the same.
pub tags_of-with_item : (item : Item) (levels : List OpenElement) → tags_of (with_item item levels) ≡ tags_of levels
tags_of-with_item item [] = refl
tags_of-with_item item (level ∷ levels) = refl

-- As many elements are open.
pub length-with_item : (item : Item) (levels : List OpenElement) → length (with_item item levels) ≡ length levels
length-with_item item [] = refl
length-with_item item (level ∷ levels) = refl

-- Where no item is left, the Finish comes next.
pub content-left : (names : List (List ℕ)) (levels : List OpenElement) → NothingLeft levels → content_to_come names levels ≡ finish_to_come names levels
content-left names [] left = refl
content-left names (level ∷ levels) left = ap (λ items. items_events names items ++ (Finish level.tag ∷ content_to_come names levels)) left

-- ---- the steps

-- The same step, from an equal list and equal tags.
pub steps-same : (names : List (List ℕ)) (event : Event) (list list' : List Event) (tags tags' : List ℕ) (place : Now) (levels : List OpenElement)
    → list' ≡ list → tags' ≡ tags → Steps names event list tags place levels → Steps names event list' tags' place levels
steps-same names event list list' tags tags' place levels same-list same-tags h =
    subst (λ l. Steps names event l tags' place levels) (sym same-list) (subst (λ t. Steps names event list t place levels) (sym same-tags) h)

-- the step that begins an element
pub begin-steps : (names : List (List ℕ)) (e : Element) (levels new : List OpenElement) (tag : ℕ) (below : List ℕ) (raws : Bor (List (List ℕ)))
    → tag ≡ tag_number names e.name → below ≡ told_below (length names) e.items → raws.now ≡ e.attributes
    → new ≡ record { tag = tag; items = e.items } ∷ levels
    → Steps names (Begin tag below) (element_events names e ++ content_to_come names levels) (tags_of levels) (now.Head raws) new
begin-steps names e levels new tag below raws is-tag is-below is-raws is-new =
    let level : OpenElement = record { tag = tag; items = e.items } in
    record {
      comes = begin-element names e levels level (ap (λ t. record { tag = t; items = e.items }) is-tag)
          ∙ ap (λ t. Begin t (told_below (length names) e.items) ∷ head_to_come names e.attributes (level ∷ levels)) (sym is-tag)
          ∙ ap (λ b. Begin tag b ∷ head_to_come names e.attributes (level ∷ levels)) (sym is-below)
          ∙ ap (λ r. Begin tag below ∷ head_to_come names r (level ∷ levels)) (sym is-raws)
          ∙ ap (λ l. Begin tag below ∷ head_to_come names raws.now l) (sym is-new);
      open_tags = ap tags_of is-new;
      phase = refl;
      inside = omega (arith, ap length is-new);
    }

-- the step in a content whose next item is a text
pub text-steps : (names : List (List ℕ)) (event : Event) (levels new : List OpenElement) (item : Item) (bytes : List ℕ) (place : Now)
    → levels ≡ with_item item new → 0 < length new → item ≡ Text bytes
    → Steps names event (text_events bytes ++ content_to_come names new) (tags_of new) place new
    → Steps names event (content_to_come names levels) (tags_of levels) place new
text-steps names event levels new item bytes place was some is h =
    steps-same names event _ _ _ _ place new
    (ap (content_to_come names) was ∙ content-with_item names item new some ∙ ap (λ i. item_events names i ++ content_to_come names new) is
    ∙ ap (λ events. events ++ content_to_come names new) (item_events-Text names bytes))
    (ap tags_of was ∙ tags_of-with_item item new) h

-- the step in a content whose next item is an element
pub child-steps : (names : List (List ℕ)) (event : Event) (levels taken new : List OpenElement) (item : Item) (e : Element) (place : Now)
    → levels ≡ with_item item taken → 0 < length taken → item ≡ Child e
    → Steps names event (element_events names e ++ content_to_come names taken) (tags_of taken) place new
    → Steps names event (content_to_come names levels) (tags_of levels) place new
child-steps names event levels taken new item e place was some is h =
    steps-same names event _ _ _ _ place new
    (ap (content_to_come names) was ∙ content-with_item names item taken some ∙ ap (λ i. item_events names i ++ content_to_come names taken) is
    ∙ ap (λ events. events ++ content_to_come names taken) (item_events-Child names e))
    (ap tags_of was ∙ tags_of-with_item item taken) h

-- the step in a content of which no item is left
pub finish-steps : (names : List (List ℕ)) (event : Event) (levels taken new : List OpenElement) (place : Now)
    → NothingLeft levels → taken ≡ levels → Steps names event (finish_to_come names taken) (tags_of taken) place new
    → Steps names event (content_to_come names levels) (tags_of levels) place new
finish-steps names event levels taken new place left same h =
    steps-same names event _ _ _ _ place new (content-left names levels left ∙ ap (finish_to_come names) (sym same)) (ap tags_of (sym same)) h

-- the step in a head that has attributes
pub attribute-steps : (names : List (List ℕ)) (event : Event) (raws : List (List ℕ)) (raw bytes : List ℕ) (rest : List (List ℕ)) (levels : List OpenElement) (place : Now)
    → raws ≡ raw ∷ rest → bytes ≡ raw
    → Steps names event (attribute_events bytes ++ head_to_come names rest levels) (tags_of levels) place levels
    → Steps names event (head_to_come names raws levels) (tags_of levels) place levels
attribute-steps names event raws raw bytes rest levels place is same h =
    steps-same names event _ _ _ _ place levels
    (ap (λ r. head_to_come names r levels) is ∙ append_assoc (attribute_events raw) (flat_map attribute_events rest) (HeadEnd ∷ content_to_come names levels)
    ∙ ap (λ b. attribute_events b ++ head_to_come names rest levels) (sym same)) refl h
