-- A list that spells a document gives the document's lines.
use Rattle.std.proofs.Common.{◌≡◌, ℕ, ◌<◌, ◌≤◌, Bool, true, false, nat_eq, eqb, cond, Some, List, [], ◌∷◌, ◌++◌, length, map, get_or, ap, sym, ◌∙◌, refl, append_assoc, append-nil, arith}
use Rattle.std.specs.List.{concat}
use Rattle.std.specs.Cmp.Lexicographic.{pointwise, same_text}
use Rattle.std.proofs.lemmas.Bool.Decides.{nat_tests}
use Rattle.std.proofs.lemmas.Option.{same_Some}
use Rattle.std.proofs.lemmas.List.Quantifiers.{position-Some}
use Rattle.acl_bits.specs.declared.piece.Piece.{Piece}
use Rattle.acl_model.specs.Ascii.{hyphen, capital_a, left_parenthesis, right_parenthesis, line_feed}
use Rattle.acl_model.specs.Document.{is_dummy_name}
use Rattle.acl_model.specs.Text.{line, element_text, item_text, text}
use Rattle.acl_model.specs.declared.document.Doc.{Doc}
use Rattle.acl_model.specs.declared.document.Item.{Item}
use Rattle.acl_model.specs.declared.document.Item.TheVariants as item
use Rattle.acl_model.specs.declared.document.Element.{Element}
use Rattle.acl_model.proofs.TextEquations.{element_text_is, item_text-Text, item_text-Child}
use Rattle.acl_walk.specs.EventText.{name_of_tag, text_of_events}
use Rattle.acl_walk.specs.Pieces.{Joins, alone, onward}
use Rattle.acl_walk.specs.Spelling.{tag_of, SpellsAttributes, no_attribute, an_attribute, SpellsElement, an_element, SpellsItems, no_item, a_text, a_child, Spells, a_document}
use Rattle.acl_walk.specs.inside.TagLaws.{tag_of-dummy, tag_of-name}
use Rattle.acl_walk.specs.declared.event.Event.{Event}
use Rattle.acl_walk.specs.declared.event.Event.TheVariants.{Attr, HeadEnd, Text, Finish, End}

-- ---- the name of a tag

dummy_is : (name : List ℕ) → is_dummy_name name ≡ true → name ≡ hyphen ∷ []
dummy_is [] dummy = cc
dummy_is (b ∷ []) dummy = let same : b ≡ 45 = grind (arith, nat_tests, dummy) in ap (λ x. x ∷ []) same
dummy_is (b ∷ c ∷ bs) dummy = cc

named_by_dummy : (names : List (List ℕ)) (name : List ℕ) (tag : ℕ) (b : Bool) → length names ≤ 256 → is_dummy_name name ≡ b → tag_of names name ≡ Some tag → name_of_tag names tag ≡ name
unfolding name_of_tag
named_by_dummy names name tag true few dummy found =
    let is : tag ≡ 256 = sym (same_Some 256 tag (sym (tag_of-dummy names name dummy) ∙ found)) in
    ap (λ t. cond (eqb t 256) (hyphen ∷ []) (get_or names t [])) is ∙ sym (dummy_is name dummy)
named_by_dummy names name tag false few other found =
    let there = position-Some (pointwise nat_eq name) names tag [] (sym (tag_of-name names name other) ∙ found) in
    let before : tag < length names = there.0 in
    let differs : eqb tag 256 ≡ false = grind (arith, nat_tests) in
    ap (λ b. cond b (hyphen ∷ []) (get_or names tag [])) differs ∙ sym (same_text name (get_or names tag []) (sym there.1))

-- the name of a name's tag is the name
named : (names : List (List ℕ)) (name : List ℕ) (tag : ℕ) → length names ≤ 256 → tag_of names name ≡ Some tag → name_of_tag names tag ≡ name
named names name tag few found = named_by_dummy names name tag (is_dummy_name name) few refl found

-- ---- pieces

module _ (names : List (List ℕ)) where
  -- events give this text, whatever element began last
  abbrev Tells : List Event → List ℕ → Type 0
  Tells events told = (tag : ℕ) → text_of_events names tag false events ≡ told

  inside_attr : (bytes : List ℕ) (parts : List Piece) (tag : ℕ) (rest : List Event) → Joins bytes parts
      → text_of_events names tag true (map Attr parts ++ rest) ≡ (bytes ++ (line_feed ∷ [])) ++ text_of_events names tag false rest
  inside_attr bytes parts tag rest (alone bs short) = refl
  inside_attr bytes parts tag rest (onward prefix back more some short after joins) =
      let R : List ℕ = text_of_events names tag false rest in
      ap (λ l. l ++ text_of_events names tag true (map Attr more ++ rest)) (append-nil prefix) ∙ ap (λ l. prefix ++ l) (inside_attr back more tag rest joins)
      ∙ sym (append_assoc prefix (back ++ (line_feed ∷ [])) R) ∙ ap (λ l. l ++ R) (sym (append_assoc prefix back (line_feed ∷ [])))

  told_attr : (bytes : List ℕ) (parts : List Piece) (tag : ℕ) (rest : List Event) → Joins bytes parts
      → text_of_events names tag false (map Attr parts ++ rest) ≡ line capital_a bytes ++ text_of_events names tag false rest
  told_attr bytes parts tag rest (alone bs short) = refl
  told_attr bytes parts tag rest (onward prefix back more some short after joins) =
      let R : List ℕ = text_of_events names tag false rest in
      ap (λ l. capital_a ∷ l)
      (ap (λ l. l ++ text_of_events names tag true (map Attr more ++ rest)) (append-nil prefix) ∙ ap (λ l. prefix ++ l) (inside_attr back more tag rest joins)
      ∙ sym (append_assoc prefix (back ++ (line_feed ∷ [])) R) ∙ ap (λ l. l ++ R) (sym (append_assoc prefix back (line_feed ∷ []))))

  inside_text : (bytes : List ℕ) (parts : List Piece) (tag : ℕ) (rest : List Event) → Joins bytes parts
      → text_of_events names tag true (map Text parts ++ rest) ≡ (bytes ++ (line_feed ∷ [])) ++ text_of_events names tag false rest
  inside_text bytes parts tag rest (alone bs short) = refl
  inside_text bytes parts tag rest (onward prefix back more some short after joins) =
      let R : List ℕ = text_of_events names tag false rest in
      ap (λ l. l ++ text_of_events names tag true (map Text more ++ rest)) (append-nil prefix) ∙ ap (λ l. prefix ++ l) (inside_text back more tag rest joins)
      ∙ sym (append_assoc prefix (back ++ (line_feed ∷ [])) R) ∙ ap (λ l. l ++ R) (sym (append_assoc prefix back (line_feed ∷ [])))

  told_text : (bytes : List ℕ) (parts : List Piece) (tag : ℕ) (rest : List Event) → Joins bytes parts
      → text_of_events names tag false (map Text parts ++ rest) ≡ line hyphen bytes ++ text_of_events names tag false rest
  told_text bytes parts tag rest (alone bs short) = refl
  told_text bytes parts tag rest (onward prefix back more some short after joins) =
      let R : List ℕ = text_of_events names tag false rest in
      ap (λ l. hyphen ∷ l)
      (ap (λ l. l ++ text_of_events names tag true (map Text more ++ rest)) (append-nil prefix) ∙ ap (λ l. prefix ++ l) (inside_text back more tag rest joins)
      ∙ sym (append_assoc prefix (back ++ (line_feed ∷ [])) R) ∙ ap (λ l. l ++ R) (sym (append_assoc prefix back (line_feed ∷ []))))

told_attributes : (names raws : List (List ℕ)) (heads : List Event) (tag : ℕ) (rest : List Event) → SpellsAttributes raws heads
    → text_of_events names tag false (heads ++ rest) ≡ concat (map (line capital_a) raws) ++ text_of_events names tag false rest
told_attributes names raws heads tag rest no_attribute = refl
told_attributes names raws heads tag rest (an_attribute raw parts more events joins spells) =
    ap (text_of_events names tag false) (append_assoc (map Attr parts) events rest) ∙ told_attr names raw parts tag (events ++ rest) joins
    ∙ ap (λ l. line capital_a raw ++ l) (told_attributes names more events tag rest spells)
    ∙ sym (append_assoc (line capital_a raw) (concat (map (line capital_a) more)) (text_of_events names tag false rest))

-- ---- elements

mutual
  told_element : (names : List (List ℕ)) (e : Element) (own rest : List Event) (told : List ℕ) → length names ≤ 256 → SpellsElement names e own
      → Tells names rest told → Tells names (own ++ rest) (element_text e ++ told)
  told_element names e own rest told few (an_element ns el tag below heads contents numbered covers attributes items) tells = λ before.
      let name = named names e.name tag few numbered in
      let A : List ℕ = concat (map (line capital_a) e.attributes) in
      let I : List ℕ = concat (map item_text e.items) in
      let S : List ℕ = line left_parenthesis e.name in
      let F : List ℕ = line right_parenthesis e.name in
      let grouped : (heads ++ (HeadEnd ∷ (contents ++ (Finish tag ∷ [])))) ++ rest ≡ heads ++ (HeadEnd ∷ (contents ++ (Finish tag ∷ rest))) =
      append_assoc heads (HeadEnd ∷ (contents ++ (Finish tag ∷ []))) rest ∙ ap (λ events. heads ++ (HeadEnd ∷ events)) (append_assoc contents (Finish tag ∷ []) rest) in
      let ended : Tells names (Finish tag ∷ rest) (F ++ told) = λ t. ap (λ n. line right_parenthesis n ++ text_of_events names t false rest) name ∙ ap (λ l. F ++ l) (tells t) in
      let content = told_items names e.items contents (Finish tag ∷ rest) (F ++ told) few items ended tag in
      ap (text_of_events names tag false) grouped ∙ told_attributes names e.attributes heads tag (HeadEnd ∷ (contents ++ (Finish tag ∷ rest))) attributes
      ∙ ap (λ n. A ++ (line left_parenthesis n ++ text_of_events names tag false (contents ++ (Finish tag ∷ rest)))) name
      ∙ ap (λ l. A ++ (S ++ l)) content
      ∙ ap (λ l. A ++ (S ++ l)) (sym (append_assoc I F told)) ∙ ap (λ l. A ++ l) (sym (append_assoc S (I ++ F) told)) ∙ sym (append_assoc A (S ++ (I ++ F)) told)
      ∙ ap (λ l. l ++ told) (sym (element_text_is e))

  told_items : (names : List (List ℕ)) (items : List Item) (contents rest : List Event) (told : List ℕ) → length names ≤ 256 → SpellsItems names items contents
      → Tells names rest told → Tells names (contents ++ rest) (concat (map item_text items) ++ told)
  told_items names items contents rest told few (no_item ns) tells = tells
  told_items names items contents rest told few (a_text ns bytes parts more events joins spells) tells = λ tag.
      ap (text_of_events names tag false) (append_assoc (map Text parts) events rest) ∙ told_text names bytes parts tag (events ++ rest) joins
      ∙ ap (λ l. line hyphen bytes ++ l) (told_items names more events rest told few spells tells tag)
      ∙ ap (λ l. l ++ (concat (map item_text more) ++ told)) (sym (item_text-Text bytes))
      ∙ sym (append_assoc (item_text (item.Text bytes)) (concat (map item_text more)) told)
  told_items names items contents rest told few (a_child ns e own more events spelled spells) tells = λ tag.
      ap (text_of_events names tag false) (append_assoc own events rest)
      ∙ told_element names e own (events ++ rest) (concat (map item_text more) ++ told) few spelled (told_items names more events rest told few spells tells) tag
      ∙ ap (λ l. l ++ (concat (map item_text more) ++ told)) (sym (item_text-Child e))
      ∙ sym (append_assoc (item_text (item.Child e)) (concat (map item_text more)) told)

-- The lines of a list that spells a document are the document's text.
pub text_of_events-text : (names : List (List ℕ)) (d : Doc) (events : List Event) (tag : ℕ) → length names ≤ 256 → Spells names (Some d) events
    → text_of_events names tag false events ≡ text d
text_of_events-text names d events tag few (a_document ns doc own spells) =
    told_element names d.root own (End ∷ []) [] few spells (λ t. refl) tag ∙ append-nil (element_text d.root)
