-- A list of events that spells a document builds it.
use Rattle.std.proofs.Common.{◌≡◌, ℕ, ◌<◌, ◌≤◌, Bool, true, false, nat_eq, cond, Option, Some, None, List, [], ◌∷◌, ◌++◌, length, map, get_or, ap, sym, ◌∙◌, refl, append_assoc, append-nil, arith}
use Rattle.std.specs.List.{slice_get}
use Rattle.std.specs.Option.{option_and_then}
use Rattle.std.specs.Cmp.Lexicographic.{pointwise, same_text}
use Rattle.std.proofs.lemmas.Bool.Decides.{nat_tests}
use Rattle.std.proofs.lemmas.Option.{same_Some, slice_get-get_or}
use Rattle.std.proofs.lemmas.List.Quantifiers.{position-Some}
use Rattle.acl_bits.specs.declared.piece.Piece.{Piece}
use Rattle.acl_model.specs.Ascii.{hyphen}
use Rattle.acl_model.specs.Document.{is_dummy_name}
use Rattle.acl_model.specs.declared.document.Doc.{Doc}
use Rattle.acl_model.specs.declared.document.Item.{Item}
use Rattle.acl_model.specs.declared.document.Item.TheVariants as item
use Rattle.acl_model.specs.declared.document.Element.{Element}
use Rattle.acl_walk.specs.Pieces.{Joins, alone, onward}
use Rattle.acl_walk.specs.Spelling.{tag_of, SpellsAttributes, no_attribute, an_attribute, SpellsElement, an_element, SpellsItems, no_item, a_text, a_child, Spells, nothing, a_document}
use Rattle.acl_walk.specs.inside.TagLaws.{tag_of-dummy, tag_of-name}
use Rattle.acl_walk.specs.declared.event.Event.{Event}
use Rattle.acl_walk.specs.declared.event.Event.TheVariants.{Attr, HeadEnd, Text, Finish, End}
use Rattle.skip_decode.specs.Building.{Builder, OpenElement, name_at, begun, with_attribute, with_item, with_element, built, built_on}

-- ---- the name of a tag

dummy_is : (name : List ℕ) → is_dummy_name name ≡ true → name ≡ hyphen ∷ []
dummy_is [] dummy = cc
dummy_is (b ∷ []) dummy = let same : b ≡ 45 = grind (arith, nat_tests, dummy) in ap (λ x. x ∷ []) same
dummy_is (b ∷ c ∷ bs) dummy = cc

named_by_dummy : (names : List (List ℕ)) (name : List ℕ) (tag : ℕ) (b : Bool) → length names ≤ 256
    → is_dummy_name name ≡ b → tag_of names name ≡ Some tag → name_at names tag ≡ Some name
named_by_dummy names name tag true few dummy found =
    let is : tag ≡ 256 = sym (same_Some 256 tag (sym (tag_of-dummy names name dummy) ∙ found)) in
    ap (λ t. cond (nat_eq t 256) (Some (hyphen ∷ [])) (slice_get names t)) is ∙ ap Some (sym (dummy_is name dummy))
named_by_dummy names name tag false few other found =
    let there = position-Some (pointwise nat_eq name) names tag [] (sym (tag_of-name names name other) ∙ found) in
    let before : tag < length names = there.0 in
    let differs : nat_eq tag 256 ≡ false = grind (arith, nat_tests) in
    ap (λ b. cond b (Some (hyphen ∷ [])) (slice_get names tag)) differs ∙ slice_get-get_or names tag [] before
    ∙ ap Some (sym (same_text name (get_or names tag []) (sym there.1)))

-- the name of a name's tag is the name
named : (names : List (List ℕ)) (name : List ℕ) (tag : ℕ) → length names ≤ 256 → tag_of names name ≡ Some tag
    → name_at names tag ≡ Some name
named names name tag few found = named_by_dummy names name tag (is_dummy_name name) few refl found

-- ---- pieces

-- inside an open element, with these bytes of an attribute or text that isn't whole yet
abbrev inside : OpenElement → List OpenElement → List ℕ → Builder
inside o up bytes = record { opened = o ∷ up; bytes = bytes; root = None }

built_attribute : (names : List (List ℕ)) (o : OpenElement) (up : List OpenElement) (bytes raw : List ℕ)
    (parts : List Piece) (rest : List Event) → Joins raw parts
    → built_on names (map Attr parts ++ rest) (inside o up bytes) ≡ built_on names rest
    (inside (with_attribute (bytes ++ raw) o) up [])
built_attribute names o up bytes raw parts rest (alone bs short) = refl
built_attribute names o up bytes raw parts rest (onward prefix back more some short after joins) =
    built_attribute names o up (bytes ++ prefix) back more rest joins
    ∙ ap (λ l. built_on names rest (inside (with_attribute l o) up [])) (append_assoc bytes prefix back)

built_text : (names : List (List ℕ)) (o : OpenElement) (up : List OpenElement) (bytes told : List ℕ)
    (parts : List Piece) (rest : List Event) → Joins told parts
    → built_on names (map Text parts ++ rest) (inside o up bytes) ≡ built_on names rest
    (inside (with_item (item.Text (bytes ++ told)) o) up [])
built_text names o up bytes told parts rest (alone bs short) = refl
built_text names o up bytes told parts rest (onward prefix back more some short after joins) =
    built_text names o up (bytes ++ prefix) back more rest joins
    ∙ ap (λ l. built_on names rest (inside (with_item (item.Text l) o) up [])) (append_assoc bytes prefix back)

-- ---- attributes

-- an open element with these attributes and items
abbrev open_with : List ℕ → List (List ℕ) → List Item → OpenElement
open_with name raws items = record { name = name; attributes = raws; items = items }

built_attributes : (names : List (List ℕ)) (name : List ℕ) (before raws : List (List ℕ)) (items : List Item)
    (up : List OpenElement) (heads rest : List Event) → SpellsAttributes raws heads
    → built_on names (heads ++ rest) (inside (open_with name before items) up []) ≡ built_on names rest
    (inside (open_with name (before ++ raws) items) up [])
built_attributes names name before raws items up heads rest no_attribute =
    ap (λ all. built_on names rest (inside (open_with name all items) up [])) (sym (append-nil before))
built_attributes names name before raws items up heads rest (an_attribute raw parts more events joins spells) =
    ap (λ list. built_on names list (inside (open_with name before items) up []))
    (append_assoc (map Attr parts) events rest)
    ∙ built_attribute names (open_with name before items) up [] raw parts (events ++ rest) joins
    ∙ built_attributes names name (before ++ raw ∷ []) more items up events rest spells
    ∙ ap (λ all. built_on names rest (inside (open_with name all items) up [])) (append_assoc before (raw ∷ []) more)

-- ---- elements

mutual
  built_element : (names : List (List ℕ)) (e : Element) (up : List OpenElement) (own rest : List Event)
      → length names ≤ 256 → SpellsElement names e own
      → built_on names (own ++ rest) (record { opened = up; bytes = []; root = None }) ≡ built_on names rest
      (with_element e [] None up)
  built_element names e up own rest few (an_element ns el tag below heads contents numbered covers attributes items) =
      let after : List Event = HeadEnd ∷ (contents ++ (Finish tag ∷ rest)) in
      let grouped : (heads ++ (HeadEnd ∷ (contents ++ (Finish tag ∷ [])))) ++ rest ≡ heads ++ after =
      append_assoc heads (HeadEnd ∷ (contents ++ (Finish tag ∷ []))) rest
      ∙ ap (λ events. heads ++ (HeadEnd ∷ events)) (append_assoc contents (Finish tag ∷ []) rest) in
      ap (λ found. option_and_then (built_on names ((heads ++ (HeadEnd ∷ (contents ++ (Finish tag ∷ [])))) ++ rest))
      (option_and_then (begun up [] None) found)) (named names e.name tag few numbered)
      ∙ ap (λ list. built_on names list (inside (open_with e.name [] []) up [])) grouped
      ∙ built_attributes names e.name [] e.attributes [] up heads after attributes
      ∙ built_items names e.name e.attributes [] e.items up contents (Finish tag ∷ rest) few items

  built_items : (names : List (List ℕ)) (name : List ℕ) (raws : List (List ℕ)) (before items : List Item)
      (up : List OpenElement) (contents rest : List Event) → length names ≤ 256 → SpellsItems names items contents
      → built_on names (contents ++ rest) (inside (open_with name raws before) up []) ≡ built_on names rest
      (inside (open_with name raws (before ++ items)) up [])
  built_items names name raws before items up contents rest few (no_item ns) =
      ap (λ all. built_on names rest (inside (open_with name raws all) up [])) (sym (append-nil before))
  built_items names name raws before items up contents rest few (a_text ns bytes parts more events joins spells) =
      ap (λ list. built_on names list (inside (open_with name raws before) up []))
      (append_assoc (map Text parts) events rest)
      ∙ built_text names (open_with name raws before) up [] bytes parts (events ++ rest) joins
      ∙ built_items names name raws (before ++ item.Text bytes ∷ []) more up events rest few spells
      ∙ ap (λ all. built_on names rest (inside (open_with name raws all) up []))
      (append_assoc before (item.Text bytes ∷ []) more)
  built_items names name raws before items up contents rest few (a_child ns e own more events spelled spells) =
      ap (λ list. built_on names list (inside (open_with name raws before) up [])) (append_assoc own events rest)
      ∙ built_element names e (open_with name raws before ∷ up) own (events ++ rest) few spelled
      ∙ built_items names name raws (before ++ item.Child e ∷ []) more up events rest few spells
      ∙ ap (λ all. built_on names rest (inside (open_with name raws all) up []))
      (append_assoc before (item.Child e ∷ []) more)

-- ---- documents

-- A list of events that spells a document, or none, builds that.
pub built-spelled : (names : List (List ℕ)) (shown : Option Doc) (events : List Event) → length names ≤ 256
    → Spells names shown events → built names events ≡ shown
built-spelled names shown events few (nothing ns) = refl
built-spelled names shown events few (a_document ns d own spells) =
    built_element names d.root [] own (End ∷ []) few spells
