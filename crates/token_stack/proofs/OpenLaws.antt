-- The elements that are open at a place of a list stand in the document that it spells.
use Rattle.std.proofs.Common.{◌≡◌, ℕ, zero, suc, ◌+◌, ◌<◌, ◌≤◌, Bool, true, false, cond, nat_eq, ◌&&◌, Option, Some, None, List, [], ◌∷◌, ◌++◌, length, map, take, drop, get_or, refl, ap, sym, subst, ◌∙◌, append_assoc, arith}
use Rattle.std.specs.List.{slice_get, cons_option}
use Rattle.std.specs.Option.{option_and_then}
use Rattle.std.specs.Cmp.Lexicographic.{pointwise, bytes_decides}
use Rattle.std.proofs.lemmas.Bool.{true≢false}
use Rattle.std.proofs.lemmas.Bool.Decides.{nat_tests}
use Rattle.std.proofs.lemmas.Option.{same_Some, none-some}
use Rattle.std.proofs.lemmas.List.Quantifiers.{position-Some}
use Rattle.acl_bits.specs.declared.piece.Piece.{Piece}
use Rattle.acl_model.specs.Ascii.{hyphen}
use Rattle.acl_model.specs.Chain.{Chain, chain_at}
use Rattle.acl_model.specs.Document.{is_dummy_name}
use Rattle.acl_model.specs.Places.{child, children, element_of, element_in}
use Rattle.acl_model.specs.declared.document.Doc.{Doc}
use Rattle.acl_model.specs.declared.document.Element.{Element}
use Rattle.acl_model.specs.declared.document.Item.{Item}
use Rattle.acl_model.specs.declared.document.Item.TheVariants as item
use Rattle.acl_model.specs.declared.document.Item.TheVariants.{rolls-Text, rolls-Child}
use Rattle.acl_model.specs.declared.document.Item.TheOpen.{Item-F}
use Rattle.acl_model.specs.declared.document.Item.{out-roll-Item}
use Rattle.acl_walk.specs.Spelling.{tag_of, SpellsAttributes, no_attribute, an_attribute, SpellsElement, an_element, SpellsItems, no_item, a_text, a_child, Spells, nothing, a_document}
use Rattle.acl_walk.specs.inside.TagLaws.{tag_of-dummy, tag_of-name}
use Rattle.acl_walk.specs.declared.event.Event.{Event}
use Rattle.acl_walk.specs.declared.event.Event.TheVariants.{Begin, Attr, HeadEnd, Text, Finish, End}
use Rattle.rule_automata.specs.Meaning.{tag_name, AreTagsOf}
use Rattle.acl_walk.specs.Open.{OpenPlace, next_place, with_child, open_after, open_after_events, open_at, tags_of}
use Rattle.acl_walk.specs.inside.OpenLaws.{tags_of-with_child}
use Rattle.token_stack.specs.TokensStand.{StandsInDocument, StandInDocument}

-- ---- the tag of a name stands for it

dummy_is : (name : List ℕ) → is_dummy_name name ≡ true → hyphen ∷ [] ≡ name
dummy_is [] dummy = absurd (true≢false (sym dummy))
dummy_is (b ∷ []) dummy = sym ((bytes_decides (b ∷ []) (hyphen ∷ [])).0 (ap (λ v. v && true) dummy))
dummy_is (b ∷ c ∷ bs) dummy = absurd (true≢false (sym dummy))

get_some : (names : List (List ℕ)) (n : ℕ) → n < length names → slice_get names n ≡ Some (get_or names n [])
get_some [] n less = absurd (omega (arith, less))
get_some (x ∷ names) zero less = refl
get_some (x ∷ names) (suc n) less = get_some names n (omega (arith, less))

small_tag : (names : List (List ℕ)) (tag : ℕ) (b : Bool) → nat_eq tag 256 ≡ b → tag < 256 → cond b (Some (hyphen ∷ [])) (slice_get names tag) ≡ slice_get names tag
small_tag names tag true is small = absurd (grind (arith, nat_tests))
small_tag names tag false is small = refl

tag_name_by : (names : List (List ℕ)) (name : List ℕ) (tag : ℕ) (b : Bool) → is_dummy_name name ≡ b → length names ≤ 256 → tag_of names name ≡ Some tag → tag_name names tag ≡ Some name
tag_name_by names name tag true dummy few found =
    subst (λ t. tag_name names t ≡ Some name) (same_Some 256 tag (sym (tag_of-dummy names name dummy) ∙ found)) (ap Some (dummy_is name dummy))
tag_name_by names name tag false other few found =
    let at = position-Some (pointwise nat_eq name) names tag [] (sym (tag_of-name names name other) ∙ found) in
    small_tag names tag (nat_eq tag 256) refl (omega (arith, at.0, few))
    ∙ get_some names tag at.0 ∙ ap Some (sym ((bytes_decides name (get_or names tag [])).0 at.1))

-- the tag of a name stands for it
tag_name-tag_of : (names : List (List ℕ)) (name : List ℕ) (tag : ℕ) → length names ≤ 256 → tag_of names name ≡ Some tag → tag_name names tag ≡ Some name
tag_name-tag_of names name tag few found = tag_name_by names name tag (is_dummy_name name) refl few found

-- ---- one element further down

into : (o : Option Element) (f g : Element → Option Chain) (x y : Chain) → ((e : Element) → f e ≡ Some x → g e ≡ Some y) → option_and_then f o ≡ Some x → option_and_then g o ≡ Some y
into None f g x y h found = absurd (none-some x found)
into (Some e) f g x y h found = h e found

abbrev ChildOf : ℕ → Chain → Chain → Type 0
ChildOf k x [] = Unit {0}
ChildOf k x (e ∷ up) = option_and_then (λ c. Some (c ∷ (e ∷ up))) (child e.items k) ≡ Some x

-- the chain of a child
chain_at-child : (e : Element) (up : Chain) (place : List ℕ) (k : ℕ) (x c : Element) (above : Chain) → chain_at e up place ≡ Some (x ∷ above) → child x.items k ≡ Some c
    → chain_at e up (place ++ (k ∷ [])) ≡ Some (c ∷ (x ∷ above))
chain_at-child e up [] k x c above found is =
    subst (ChildOf k (c ∷ (x ∷ above))) (sym (same_Some (e ∷ up) (x ∷ above) found)) (ap (option_and_then (λ z. Some (z ∷ (x ∷ above)))) is)
chain_at-child e up (n ∷ place) k x c above found is =
    into (child e.items n) (λ y. chain_at y (e ∷ up) place) (λ y. chain_at y (e ∷ up) (place ++ (k ∷ []))) (x ∷ above) (c ∷ (x ∷ above))
    (λ y there. chain_at-child y (e ∷ up) place k x c above there is) found

children-Text : (bytes : List ℕ) (items : List Item) → children (item.Text bytes ∷ items) ≡ children items
children-Text bytes items =
    ap (λ o. cons_option o (children items)) (ap element_of (sym (rolls-Text bytes)) ∙ ap element_in (out-roll-Item (Item-F.Text bytes)))

children-Child : (e : Element) (items : List Item) → children (item.Child e ∷ items) ≡ e ∷ children items
children-Child e items =
    ap (λ o. cons_option o (children items)) (ap element_of (sym (rolls-Child e)) ∙ ap element_in (out-roll-Item (Item-F.Child e)))

-- ---- what holds at each place of a list

-- A Finish is that of the innermost open element.
abbrev pub Fits : List OpenPlace → Event → Type 0
Fits elements (Begin tag below) = Unit {0}
Fits elements (Attr piece) = Unit {0}
Fits elements HeadEnd = Unit {0}
Fits elements (Text piece) = Unit {0}
Fits elements (Finish tag) = take 1 (tags_of elements) ≡ tag ∷ []
Fits elements End = Unit {0}

-- Before, between and after these events the open elements stand in the document, and each event
-- fits.
abbrev Along : List (List ℕ) → Doc → List OpenPlace → List Event → Type 0
Along names d elements [] = StandInDocument names d elements
Along names d elements (event ∷ events) =
    StandInDocument names d elements × Fits elements event × Along names d (open_after elements event) events

stand-with_child : (names : List (List ℕ)) (d : Doc) (elements : List OpenPlace) → StandInDocument names d elements → StandInDocument names d (with_child elements)
stand-with_child names d [] stand = tt
stand-with_child names d (parent ∷ up) stand =
    (record { e = stand.0.e; above = stand.0.above; there = stand.0.there; tagged = stand.0.tagged }, stand.1)

along_texts : (names : List (List ℕ)) (d : Doc) (elements : List OpenPlace) (parts : List Piece) (rest : List Event) → StandInDocument names d elements
    → Along names d elements rest → Along names d elements (map Text parts ++ rest)
along_texts names d elements [] rest stand along = along
along_texts names d elements (part ∷ parts) rest stand along = (stand, tt, along_texts names d elements parts rest stand along)

along_pieces : (names : List (List ℕ)) (d : Doc) (elements : List OpenPlace) (parts : List Piece) (rest : List Event) → StandInDocument names d elements
    → Along names d elements rest → Along names d elements (map Attr parts ++ rest)
along_pieces names d elements [] rest stand along = along
along_pieces names d elements (part ∷ parts) rest stand along = (stand, tt, along_pieces names d elements parts rest stand along)

along_attributes : (names : List (List ℕ)) (d : Doc) (elements : List OpenPlace) (raws : List (List ℕ)) (heads rest : List Event) → SpellsAttributes raws heads
    → StandInDocument names d elements → Along names d elements rest → Along names d elements (heads ++ rest)
along_attributes names d elements raws heads rest no_attribute stand along = along
along_attributes names d elements raws heads rest (an_attribute raw parts more events joins spells) stand along =
    subst (Along names d elements) (sym (append_assoc (map Attr parts) events rest))
    (along_pieces names d elements parts (events ++ rest) stand (along_attributes names d elements more events rest spells stand along))

mutual
  along_element : (names : List (List ℕ)) (d : Doc) (few : length names ≤ 256) (elements : List OpenPlace) (e : Element) (above : Chain) (own rest : List Event)
      → SpellsElement names e own → chain_at d.root [] (next_place elements) ≡ Some (e ∷ above) → AreTagsOf names (tags_of elements) above
      → StandInDocument names d elements → Along names d (with_child elements) rest → Along names d elements (own ++ rest)
  along_element names d few elements e above own rest (an_element ns el tag below heads contents numbered covers attributes items) there tagged stand along =
      let around : StandInDocument names d (with_child elements) = stand-with_child names d elements stand in
      let tags : AreTagsOf names (tag ∷ tags_of (with_child elements)) (e ∷ above) =
      (tag_name-tag_of names e.name tag few numbered, subst (λ ts. AreTagsOf names ts above) (sym (tags_of-with_child elements)) tagged) in
      let here : (m : ℕ) → StandInDocument names d (record { tag = tag; place = next_place elements; children = m } ∷ with_child elements) =
      λ m. (record { e = e; above = above; there = there; tagged = tags }, around) in
      let content : Along names d (record { tag = tag; place = next_place elements; children = 0 } ∷ with_child elements) (contents ++ (Finish tag ∷ rest)) =
      along_items names d few 0 tag (next_place elements) (with_child elements) e above e.items contents (Finish tag ∷ rest) items there tags around
      (λ k. let same : 0 + k ≡ k = omega arith in ap (slice_get (children e.items)) same) (λ m. (here m, refl, along)) in
      let grouped : (heads ++ (HeadEnd ∷ (contents ++ (Finish tag ∷ [])))) ++ rest ≡ heads ++ (HeadEnd ∷ (contents ++ (Finish tag ∷ rest))) =
      append_assoc heads (HeadEnd ∷ (contents ++ (Finish tag ∷ []))) rest ∙ ap (λ events. heads ++ (HeadEnd ∷ events)) (append_assoc contents (Finish tag ∷ []) rest) in (
        stand,
        tt,
        subst (Along names d (record { tag = tag; place = next_place elements; children = 0 } ∷ with_child elements)) (sym grouped)
            (along_attributes names d (record { tag = tag; place = next_place elements; children = 0 } ∷ with_child elements) e.attributes heads (HeadEnd ∷ (contents ++ (Finish tag ∷ rest))) attributes (here 0) (here 0, tt, content)),
      )

  along_items : (names : List (List ℕ)) (d : Doc) (few : length names ≤ 256) (n tag : ℕ) (place : List ℕ) (up : List OpenPlace) (x : Element) (above : Chain)
      → (items : List Item) (contents rest : List Event) → SpellsItems names items contents → chain_at d.root [] place ≡ Some (x ∷ above)
      → AreTagsOf names (tag ∷ tags_of up) (x ∷ above) → StandInDocument names d up → ((k : ℕ) → slice_get (children x.items) (n + k) ≡ slice_get (children items) k)
      → ((m : ℕ) → Along names d (record { tag = tag; place = place; children = m } ∷ up) rest)
      → Along names d (record { tag = tag; place = place; children = n } ∷ up) (contents ++ rest)
  along_items names d few n tag place up x above items contents rest (no_item ns) there tagged stand left along = along n
  along_items names d few n tag place up x above items contents rest (a_text ns bytes parts more events joins spells) there tagged stand left along =
      subst (Along names d (record { tag = tag; place = place; children = n } ∷ up)) (sym (append_assoc (map Text parts) events rest))
      (along_texts names d (record { tag = tag; place = place; children = n } ∷ up) parts (events ++ rest)
      (record { e = x; above = above; there = there; tagged = tagged }, stand)
      (along_items names d few n tag place up x above more events rest spells there tagged stand
      (λ k. left k ∙ ap (λ cs. slice_get cs k) (children-Text bytes more)) along))
  along_items names d few n tag place up x above items contents rest (a_child ns e own more events spelled spells) there tagged stand left along =
      let next : n + 1 ≡ suc (n + 0) = omega arith in
      let is : child x.items (n + 1) ≡ Some e = ap (child x.items) next ∙ left 0 ∙ ap (λ cs. slice_get cs 0) (children-Child e more) in
      subst (Along names d (record { tag = tag; place = place; children = n } ∷ up)) (sym (append_assoc own events rest))
      (along_element names d few (record { tag = tag; place = place; children = n } ∷ up) e (x ∷ above) own (events ++ rest) spelled
      (chain_at-child d.root [] place (n + 1) x e above there is) tagged
      (record { e = x; above = above; there = there; tagged = tagged }, stand)
      (along_items names d few (n + 1) tag place up x above more events rest spells there tagged stand
      (λ k. let later : n + 1 + k ≡ n + suc k = omega arith in
      ap (slice_get (children x.items)) later ∙ left (suc k) ∙ ap (λ cs. slice_get cs (suc k)) (children-Child e more)) along))

along_document : (names : List (List ℕ)) (d : Doc) (list : List Event) → length names ≤ 256 → Spells names (Some d) list → Along names d [] list
along_document names d list few (a_document ns doc own spells) =
    along_element names d few [] d.root [] own (End ∷ []) spells refl tt tt (tt, tt, tt)

-- ---- at a place

along_start : (names : List (List ℕ)) (d : Doc) (elements : List OpenPlace) (list : List Event) → Along names d elements list → StandInDocument names d elements
along_start names d elements [] along = along
along_start names d elements (event ∷ list) along = along.0

along_at : (names : List (List ℕ)) (d : Doc) (elements : List OpenPlace) (list : List Event) (place : ℕ) → Along names d elements list
    → StandInDocument names d (open_after_events elements (take place list))
along_at names d elements list zero along = along_start names d elements list along
along_at names d elements [] (suc place) along = along
along_at names d elements (event ∷ list) (suc place) along = along_at names d (open_after elements event) list place along.2

-- The elements that are open at a place of a list stand in the document that it spells.
pub stand_at : (names : List (List ℕ)) (d : Doc) (list : List Event) (place : ℕ) → length names ≤ 256 → Spells names (Some d) list → StandInDocument names d (open_at list place)
stand_at names d list place few spells = along_at names d [] list place (along_document names d list few spells)

-- so does each of them
stand_inside : (names : List (List ℕ)) (d : Doc) (inner : List OpenPlace) (element : OpenPlace) (up : List OpenPlace) → StandInDocument names d (inner ++ (element ∷ up))
    → StandsInDocument names d element up
stand_inside names d [] element up stand = stand.0
stand_inside names d (i ∷ inner) element up stand = stand_inside names d inner element up stand.1

pub stands_at_place : (names : List (List ℕ)) (d : Doc) (list : List Event) (place : ℕ) (inner : List OpenPlace) (element : OpenPlace) (up : List OpenPlace) → length names ≤ 256
    → Spells names (Some d) list → open_at list place ≡ inner ++ (element ∷ up) → StandsInDocument names d element up
stands_at_place names d list place inner element up few spells is =
    stand_inside names d inner element up (subst (StandInDocument names d) is (stand_at names d list place few spells))

abbrev NotNil : List Event → Type 0
NotNil [] = ⊥
NotNil (event ∷ events) = Unit {0}

no_event : (place : ℕ) (event : Event) (rest : List Event) → drop place [] ≡ event ∷ rest → ⊥
no_event zero event rest is = subst NotNil (sym is) tt
no_event (suc place) event rest is = subst NotNil (sym is) tt

abbrev first_of : List Event → Event
first_of [] = End
first_of (event ∷ events) = event

along_fits : (names : List (List ℕ)) (d : Doc) (elements : List OpenPlace) (list : List Event) (place : ℕ) (event : Event) (rest : List Event) → Along names d elements list
    → drop place list ≡ event ∷ rest → Fits (open_after_events elements (take place list)) event
along_fits names d elements [] place event rest along is = absurd (no_event place event rest is)
along_fits names d elements (e ∷ list) zero event rest along is = subst (Fits elements) (ap first_of is) along.1
along_fits names d elements (e ∷ list) (suc place) event rest along is = along_fits names d (open_after elements e) list place event rest along.2 is

-- A Finish in a list that spells a document, or nothing, is that of the innermost open element.
pub fits_at : (names : List (List ℕ)) (o : Option Doc) (list : List Event) (place : ℕ) (event : Event) (rest : List Event) → length names ≤ 256 → Spells names o list
    → drop place list ≡ event ∷ rest → Fits (open_at list place) event
fits_at names o list zero event rest few (nothing ns) is = subst (Fits []) (ap first_of is) tt
fits_at names o list (suc place) event rest few (nothing ns) is = absurd (no_event place event rest is)
fits_at names o list place event rest few (a_document ns d own spells) is =
    along_fits names d [] (own ++ (End ∷ [])) place event rest (along_document names d (own ++ (End ∷ [])) few (a_document ns d own spells)) is
