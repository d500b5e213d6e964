-- The Finish of the innermost open element. from_finish skips whole elements, attributes and texts
-- before it.
use Rattle.std.proofs.Common.{◌≡◌, ℕ, suc, List, [], ◌∷◌, ◌++◌, map, ap, ◌∙◌, refl, append_assoc}
use Rattle.std.specs.List.{flat_map}
use Rattle.acl_bits.specs.declared.piece.Piece.{Piece}
use Rattle.acl_model.specs.declared.document.Item.{Item}
use Rattle.acl_model.specs.declared.document.Item.TheVariants as item
use Rattle.acl_model.specs.declared.document.Element.{Element}
use Rattle.acl_walk.specs.inside.OpenElements.{OpenElement, items_events, content_to_come, finish_to_come}
use Rattle.acl_walk.specs.Pieces.{pieces}
use Rattle.acl_walk.specs.SpotMoves.{from_finish}
use Rattle.acl_walk.specs.TreeEvents.{tag_number, attribute_events, element_events, item_events}
use Rattle.acl_walk.specs.inside.TreeSteps.{head_to_come, to_come}
use Rattle.acl_walk.specs.declared.event.Event.{Event}
use Rattle.acl_walk.specs.declared.event.Event.TheVariants.{Attr, HeadEnd, Text, Finish}
use Rattle.acl_walk.specs.declared.tree_step.Now.{Now}
use Rattle.acl_walk.specs.declared.tree_step.Now.TheVariants as now
use Rattle.acl_walk.specs.inside.EventEquations.{element_events-append, item_events-Text, item_events-Child}
use Rattle.acl_walk.specs.inside.TreeInduction.{Each, element_by_parts, each_by_parts}

-- it skips pieces of an attribute
past_attr : (n : ℕ) (parts : List Piece) (rest : List Event) → from_finish n (map Attr parts ++ rest) ≡ from_finish n rest
past_attr n [] rest = refl
past_attr n (part ∷ parts) rest = past_attr n parts rest

-- it skips pieces of a text
past_text : (n : ℕ) (parts : List Piece) (rest : List Event) → from_finish n (map Text parts ++ rest) ≡ from_finish n rest
past_text n [] rest = refl
past_text n (part ∷ parts) rest = past_text n parts rest

-- it skips attributes
past_attributes : (n : ℕ) (raws : List (List ℕ)) (rest : List Event) → from_finish n (flat_map attribute_events raws ++ rest) ≡ from_finish n rest
past_attributes n [] rest = refl
past_attributes n (raw ∷ raws) rest =
    ap (from_finish n) (append_assoc (attribute_events raw) (flat_map attribute_events raws) rest)
    ∙ past_attr n (pieces raw) (flat_map attribute_events raws ++ rest) ∙ past_attributes n raws rest

module _ (names : List (List ℕ)) where
  -- it skips the events of an item
  abbrev IsPassed : Item → Type 0
  IsPassed item = (n : ℕ) (rest : List Event) → from_finish n (item_events names item ++ rest) ≡ from_finish n rest

  -- it skips the events of an element
  abbrev AllPassed : Element → Type 0
  AllPassed e = (n : ℕ) (rest : List Event) → from_finish n (element_events names e ++ rest) ≡ from_finish n rest

  past_each : (items : List Item) → Each IsPassed items → (n : ℕ) (rest : List Event) → from_finish n (items_events names items ++ rest) ≡ from_finish n rest
  past_each [] passed n rest = refl
  past_each (item ∷ items) passed n rest =
      ap (from_finish n) (append_assoc (item_events names item) (items_events names items) rest)
      ∙ passed.0 n (items_events names items ++ rest) ∙ past_each items passed.1 n rest

  past_of_text : (bytes : List ℕ) → IsPassed (item.Text bytes)
  past_of_text bytes n rest = ap (λ events. from_finish n (events ++ rest)) (item_events-Text names bytes) ∙ past_text n (pieces bytes) rest

  past_of_child : (e : Element) → AllPassed e → IsPassed (item.Child e)
  past_of_child e passed n rest = ap (λ events. from_finish n (events ++ rest)) (item_events-Child names e) ∙ passed n rest

  past_of_element : (e : Element) → Each IsPassed e.items → AllPassed e
  past_of_element e passed n rest =
      let tag : ℕ = tag_number names e.name in
      ap (from_finish n) (element_events-append names e rest)
      ∙ past_attributes (suc n) e.attributes (HeadEnd ∷ (items_events names e.items ++ (Finish tag ∷ rest)))
      ∙ past_each e.items passed (suc n) (Finish tag ∷ rest)

  past_element : (e : Element) → AllPassed e
  past_element = element_by_parts AllPassed IsPassed past_of_text past_of_child past_of_element

  past_items : (items : List Item) (n : ℕ) (rest : List Event) → from_finish n (items_events names items ++ rest) ≡ from_finish n rest
  past_items items = past_each items (each_by_parts AllPassed IsPassed past_of_text past_of_child past_of_element items)

  past_content : (level : OpenElement) (levels : List OpenElement) → from_finish 0 (content_to_come names (level ∷ levels)) ≡ finish_to_come names (level ∷ levels)
  past_content level levels = past_items level.items 0 (Finish level.tag ∷ content_to_come names levels)

  past_head : (raws : List (List ℕ)) (level : OpenElement) (levels : List OpenElement) → from_finish 0 (head_to_come names raws (level ∷ levels)) ≡ finish_to_come names (level ∷ levels)
  past_head raws level levels = past_attributes 0 raws (HeadEnd ∷ content_to_come names (level ∷ levels)) ∙ past_content level levels

  -- From each position in a tree, from_finish leads to the Finish of the innermost open element.
  pub from_finish-to_come : (place : Now) (level : OpenElement) (levels : List OpenElement)
      → from_finish 0 (to_come names place (level ∷ levels)) ≡ finish_to_come names (level ∷ levels)
  from_finish-to_come (now.Root e) level levels = past_element e.now 0 (content_to_come names (level ∷ levels)) ∙ past_content level levels
  from_finish-to_come (now.Head raws) level levels = past_head raws.now level levels
  from_finish-to_come (now.Attribute bytes raws) level levels = past_attr 0 (pieces bytes.now) (head_to_come names raws.now (level ∷ levels)) ∙ past_head raws.now level levels
  from_finish-to_come now.Content level levels = past_content level levels
  from_finish-to_come (now.Text bytes) level levels = past_text 0 (pieces bytes.now) (content_to_come names (level ∷ levels)) ∙ past_content level levels
  from_finish-to_come now.Finish level levels = refl
