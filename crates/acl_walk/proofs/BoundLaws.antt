-- A document has at most one event more than its text has bytes.
use Rattle.std.proofs.Common.{◌≡◌, ℕ, zero, suc, ◌+◌, ◌-◌, ◌/◌, ◌≤◌, List, [], ◌∷◌, ◌++◌, length, map, drop, ap, ◌∙◌, arith, length-append}
use Rattle.std.proofs.lemmas.List.{length-map}
use Rattle.std.specs.List.{concat, flat_map}
use Rattle.acl_model.specs.Ascii.{left_parenthesis, right_parenthesis, capital_a}
use Rattle.acl_model.specs.Text.{line, element_text, item_text, text}
use Rattle.acl_model.specs.declared.document.Doc.{Doc}
use Rattle.acl_model.specs.declared.document.Item.{Item}
use Rattle.acl_model.specs.declared.document.Item.TheVariants as item
use Rattle.acl_model.specs.declared.document.Element.{Element}
use Rattle.acl_model.proofs.TextEquations.{element_text_is, item_text-Text, item_text-Child}
use Rattle.acl_walk.specs.inside.EventEquations.{element_events_is, item_events-Text, item_events-Child}
use Rattle.acl_walk.specs.inside.OpenElements.{items_events}
use Rattle.acl_walk.specs.Pieces.{cut_after, pieces}
use Rattle.acl_walk.specs.TreeEvents.{attribute_events, text_events, element_events, item_events, tag_number, document_events}
use Rattle.acl_walk.specs.inside.TreeInduction.{Each, element_by_parts}
use Rattle.acl_walk.specs.declared.event.Event.{Event}
use Rattle.acl_walk.specs.declared.event.Event.TheVariants.{Attr, HeadEnd, Text, Finish, End}

length-cut_after : (n : ℕ) (bytes : List ℕ) → length (cut_after n bytes) ≡ n + 1
unfolding cut_after
length-cut_after zero bytes = omega arith
length-cut_after (suc n) bytes = omega (arith, length-cut_after n (drop 256 bytes))

-- how many pieces bytes have
pub length-pieces : (bytes : List ℕ) → length (pieces bytes) ≡ (length bytes - 1) / 256 + 1
unfolding pieces
length-pieces bytes = length-cut_after ((length bytes - 1) / 256) bytes

few_pieces : (bytes : List ℕ) → length (pieces bytes) ≤ length bytes + 1
few_pieces bytes = omega (arith, length-pieces bytes)

-- a text has at most one event more than bytes
pub few-text_events : (bytes : List ℕ) → length (text_events bytes) ≤ length bytes + 1
few-text_events bytes = omega (arith, few_pieces bytes, length-map (pieces bytes) Text)

-- an attribute has at most one event more than bytes
pub few-attribute_events : (raw : List ℕ) → length (attribute_events raw) ≤ length raw + 1
few-attribute_events raw = omega (arith, few_pieces raw, length-map (pieces raw) Attr)

-- an element has three events more than its parts
pub length-element_events : (names : List (List ℕ)) (e : Element) → length (element_events names e) ≡ length (flat_map attribute_events e.attributes) + length (items_events names e.items) + 3
length-element_events names e =
    let tag : ℕ = tag_number names e.name in
    let heads : List Event = flat_map attribute_events e.attributes in
    let contents : List Event = items_events names e.items in
    ap length (element_events_is names e) ∙ omega (arith, length-append heads (HeadEnd ∷ (contents ++ (Finish tag ∷ []))), length-append contents (Finish tag ∷ []))

-- a line has two bytes more than its argument
length-line : (kind : ℕ) (argument : List ℕ) → length (line kind argument) ≡ length argument + 2
length-line kind argument = omega (arith, length-append (kind ∷ argument) (10 ∷ []))

few_in_attributes : (raws : List (List ℕ)) → length (flat_map attribute_events raws) ≤ length (concat (map (line capital_a) raws))
few_in_attributes [] = omega arith
few_in_attributes (raw ∷ raws) =
    omega (
      arith,
      few_in_attributes raws,
      few_pieces raw,
      length-map (pieces raw) Attr,
      length-line capital_a raw,
      length-append (attribute_events raw) (flat_map attribute_events raws),
      length-append (line capital_a raw) (concat (map (line capital_a) raws)),
    )

module _ (names : List (List ℕ)) where
  -- an element has at most as many events as bytes
  abbrev FewEvents : Element → Type 0
  FewEvents e = length (element_events names e) ≤ length (element_text e)

  -- the same of an item
  abbrev FewItemEvents : Item → Type 0
  FewItemEvents i = length (item_events names i) ≤ length (item_text i)

  few_of_text : (bytes : List ℕ) → FewItemEvents (item.Text bytes)
  few_of_text bytes =
      let events : length (item_events names (item.Text bytes)) ≡ length (pieces bytes) = ap length (item_events-Text names bytes) ∙ length-map (pieces bytes) Text in
      let bytes_of : length (item_text (item.Text bytes)) ≡ length bytes + 2 = ap length (item_text-Text bytes) ∙ length-line 45 bytes in
      omega (arith, few_pieces bytes, events, bytes_of)

  few_of_child : (e : Element) → FewEvents e → FewItemEvents (item.Child e)
  few_of_child e few =
      let events : length (item_events names (item.Child e)) ≡ length (element_events names e) = ap length (item_events-Child names e) in
      let bytes_of : length (item_text (item.Child e)) ≡ length (element_text e) = ap length (item_text-Child e) in
      omega (arith, few, events, bytes_of)

  few_in_items : (items : List Item) → Each FewItemEvents items → length (items_events names items) ≤ length (concat (map item_text items))
  few_in_items [] each = omega arith
  few_in_items (i ∷ items) each =
      omega (arith, few_in_items items each.1, each.0, length-append (item_events names i) (items_events names items), length-append (item_text i) (concat (map item_text items)))

  few_of_element : (e : Element) → Each FewItemEvents e.items → FewEvents e
  few_of_element e each =
      let bodies : List ℕ = concat (map item_text e.items) in
      let bytes_of : length (element_text e) ≡ length (concat (map (line capital_a) e.attributes)) + (length e.name + 2) + length bodies + (length e.name + 2) =
      ap length (element_text_is e) ∙ omega (
        arith,
        length-append (concat (map (line capital_a) e.attributes)) (line left_parenthesis e.name ++ (bodies ++ line right_parenthesis e.name)),
        length-append (line left_parenthesis e.name) (bodies ++ line right_parenthesis e.name),
        length-append bodies (line right_parenthesis e.name),
        length-line left_parenthesis e.name,
        length-line right_parenthesis e.name,
      ) in
      omega (arith, few_in_attributes e.attributes, few_in_items e.items each, length-element_events names e, bytes_of)

  few_events : (e : Element) → FewEvents e
  few_events = element_by_parts FewEvents FewItemEvents few_of_text few_of_child few_of_element

  -- a document has at most one event more than its text has bytes
  pub few-document_events : (d : Doc) → length (document_events names d) ≤ length (text d) + 1
  few-document_events d = omega (arith, few_events d.root, length-append (element_events names d.root) (End ∷ []))
