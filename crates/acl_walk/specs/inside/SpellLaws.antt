-- The events that are read from a tree spell it, if each name in it is known.
use Rattle.std.proofs.Common.{◌≡◌, ℕ, Bool, true, ◌&&◌, Some, List, [], ◌∷◌, ◌++◌, length, map, ap, sym, subst, ◌∙◌}
use Rattle.std.specs.List.{list_all, flat_map}
use Rattle.std.specs.Cmp.{first_so, second_so}
use Rattle.std.proofs.lemmas.List.Folds.{list_all-append}
use Rattle.acl_model.specs.Dictionary.{start_names, item_start_names}
use Rattle.acl_model.specs.declared.document.Doc.{Doc}
use Rattle.acl_model.specs.declared.document.Item.{Item}
use Rattle.acl_model.specs.declared.document.Item.TheVariants as item
use Rattle.acl_model.specs.declared.document.Element.{Element}
use Rattle.acl_model.proofs.DictionaryLaws.{start_names_is, item_start_names-Child}
use Rattle.acl_walk.specs.inside.OpenElements.{items_events}
use Rattle.acl_walk.specs.Pieces.{pieces}
use Rattle.acl_walk.specs.Spelling.{SpellsAttributes, no_attribute, an_attribute, SpellsElement, an_element, SpellsItems, no_item, a_text, a_child, Spells, a_document}
use Rattle.acl_walk.specs.TreeEvents.{attribute_events, tag_number, told_below, element_events, item_events, document_events}
use Rattle.acl_walk.specs.TreeState.{is_known, knows}
use Rattle.acl_walk.specs.declared.event.Event.{Event}
use Rattle.acl_walk.specs.inside.EventEquations.{element_events_is, item_events-Text, item_events-Child}
use Rattle.acl_walk.specs.inside.PieceLaws.{pieces-join}
use Rattle.acl_walk.specs.inside.TagLaws.{tag_of-known, told_below-covers}
use Rattle.acl_walk.specs.inside.TreeInduction.{Each, element_by_parts}

module _ (names : List (List ℕ)) where
  -- each name in the element is known
  abbrev knows_in : Element → Bool
  knows_in e = list_all (is_known names) (start_names e)

  -- each name in the item is known
  abbrev knows_item : Item → Bool
  knows_item i = list_all (is_known names) (item_start_names i)

  -- each name in the items is known
  abbrev knows_items : List Item → Bool
  knows_items items = list_all (is_known names) (flat_map {X = List (List ℕ)} (λ starts. starts) (map item_start_names items))

  both_known : (e : Element) → knows_in e ≡ true → (is_known names e.name && knows_items e.items) ≡ true
  both_known e known = ap (list_all (is_known names)) (sym (start_names_is e)) ∙ known

  item_known : (i : Item) (items : List Item) → knows_items (i ∷ items) ≡ true → (knows_item i && knows_items items) ≡ true
  item_known i items known =
      sym (list_all-append (is_known names) (item_start_names i) (flat_map {X = List (List ℕ)} (λ starts. starts) (map item_start_names items))) ∙ known

  -- an item is spelled before other items, if the names in it are known
  abbrev IsSpelled : Item → Type 0
  IsSpelled i = knows_item i ≡ true → (items : List Item) (events : List Event) → SpellsItems names items events
      → SpellsItems names (i ∷ items) (item_events names i ++ events)

  -- an element is spelled, if the names in it are known
  abbrev AllSpelled : Element → Type 0
  AllSpelled e = knows_in e ≡ true → SpellsElement names e (element_events names e)

  spelled_text : (bytes : List ℕ) → IsSpelled (item.Text bytes)
  spelled_text bytes known items events spells =
      subst (λ own. SpellsItems names (item.Text bytes ∷ items) (own ++ events)) (sym (item_events-Text names bytes))
      (a_text names bytes (pieces bytes) items events (pieces-join bytes) spells)

  spelled_child : (e : Element) → AllSpelled e → IsSpelled (item.Child e)
  spelled_child e spelled known items events spells =
      subst (λ own. SpellsItems names (item.Child e ∷ items) (own ++ events)) (sym (item_events-Child names e))
      (a_child names e (element_events names e) items events (spelled (ap (list_all (is_known names)) (sym (item_start_names-Child e)) ∙ known)) spells)

  spelled_items : (items : List Item) → Each IsSpelled items → knows_items items ≡ true → SpellsItems names items (items_events names items)
  spelled_items [] each known = no_item names
  spelled_items (i ∷ items) each known =
      let both = item_known i items known in
      each.0 (first_so (knows_item i) (knows_items items) both) items (items_events names items)
      (spelled_items items each.1 (second_so (knows_item i) (knows_items items) both))

  spelled_attributes : (raws : List (List ℕ)) → SpellsAttributes raws (flat_map attribute_events raws)
  spelled_attributes [] = no_attribute
  spelled_attributes (raw ∷ raws) = an_attribute raw (pieces raw) raws (flat_map attribute_events raws) (pieces-join raw) (spelled_attributes raws)

  spelled_element : (e : Element) → Each IsSpelled e.items → AllSpelled e
  spelled_element e each known =
      subst (SpellsElement names e) (sym (element_events_is names e))
      (an_element names e (tag_number names e.name) (told_below (length names) e.items) (flat_map attribute_events e.attributes) (items_events names e.items)
      (tag_of-known names e.name (first_so (is_known names e.name) (knows_items e.items) (both_known e known))) (told_below-covers names e)
      (spelled_attributes e.attributes) (spelled_items e.items each (second_so (is_known names e.name) (knows_items e.items) (both_known e known))))

  -- the events of an element spell it
  pub element_events-spell : (e : Element) → knows_in e ≡ true → SpellsElement names e (element_events names e)
  element_events-spell = element_by_parts AllSpelled IsSpelled spelled_text spelled_child spelled_element

  -- the events of a document spell it
  pub document_events-spell : (d : Doc) → knows names d ≡ true → Spells names (Some d) (document_events names d)
  document_events-spell d known = a_document names d (element_events names d.root) (element_events-spell d.root known)
