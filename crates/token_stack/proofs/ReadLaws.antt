-- At an element's Finish the texts read inside it are its string-value, and at the last piece of an attribute what was
-- read of it is the whole attribute.
use Rattle.std.proofs.Common.{◌≡◌, ℕ, zero, suc, ◌+◌, ◌-◌, true, Some, List, [], ◌∷◌, ◌++◌, length, length-append, map, take, drop, refl, ap, sym, subst, ◌∙◌, append_assoc, append-nil, arith}
use Rattle.std.proofs.Math.Seq.{take-append_seam}
use Rattle.std.proofs.lemmas.Bool.{true≢false}
use Rattle.std.proofs.lemmas.Option.{option_and_then_some, same_Some, none-some}
use Rattle.std.specs.Cmp.Lexicographic.{same_text}
use Rattle.std.specs.List.{concat, slice_get}
use Rattle.std.specs.Option.{option_and_then}
use Rattle.acl_bits.specs.declared.piece.Piece.{Piece}
use Rattle.acl_model.specs.Places.{at, below, child, children}
use Rattle.acl_model.specs.Values.{string_value, value_of_item}
use Rattle.acl_model.specs.declared.document.Doc.{Doc}
use Rattle.acl_model.specs.declared.document.Element.{Element}
use Rattle.acl_model.specs.declared.document.Item.{Item}
use Rattle.acl_model.proofs.GrantLaws.{children-Text, children-Child}
use Rattle.acl_model.proofs.ValueEquations.{string_value_is, value_of_item-Text, value_of_item-Child}
use Rattle.acl_walk.specs.Begun.{innermost_is_at, finishes_at}
use Rattle.acl_walk.specs.Closes.{attributes_after, attributes_after_events, attributes_at}
use Rattle.acl_walk.specs.Open.{OpenPlace, next_place, with_child, open_after, open_after_events, open_at}
use Rattle.acl_walk.specs.Pieces.{Joins, alone, onward}
use Rattle.acl_walk.specs.Spelling.{SpellsAttributes, no_attribute, an_attribute, SpellsElement, an_element, SpellsItems, no_item, a_text, a_child, Spells, a_document}
use Rattle.acl_walk.specs.declared.event.Event.{Event}
use Rattle.acl_walk.specs.declared.event.Event.TheVariants.{Begin, Attr, HeadEnd, Text, Finish, End}
use Rattle.acl_walk.proofs.BegunLaws.{stands_in_list}
use Rattle.acl_walk.proofs.OnceLaws.{finishes_once}
use Rattle.token_stack.specs.ReadValues.{texts_after, texts_after_events, texts_at, raw_after, raw_after_events, raw_at}

-- ---- texts

texts-append : (texts : List (List ℕ)) (xs ys : List Event) → texts_after_events texts (xs ++ ys) ≡ texts_after_events (texts_after_events texts xs) ys
texts-append texts [] ys = refl
texts-append texts (x ∷ xs) ys = texts-append (texts_after texts x) xs ys

-- each text with these bytes behind it
abbrev grown : List ℕ → List (List ℕ) → List (List ℕ)
grown bytes texts = map (λ text. text ++ bytes) texts

grown-twice : (one other : List ℕ) (texts : List (List ℕ)) → grown other (grown one texts) ≡ grown (one ++ other) texts
grown-twice one other [] = refl
grown-twice one other (text ∷ texts) =
    ap (λ t. t ∷ grown other (grown one texts)) (append_assoc text one other) ∙ ap (λ ts. (text ++ (one ++ other)) ∷ ts) (grown-twice one other texts)

grown-none : (texts : List (List ℕ)) → grown [] texts ≡ texts
grown-none [] = refl
grown-none (text ∷ texts) = ap (λ t. t ∷ grown [] texts) (append-nil text) ∙ ap (λ ts. text ∷ ts) (grown-none texts)

texts-pieces : (texts : List (List ℕ)) (bytes : List ℕ) (parts : List Piece) → Joins bytes parts → texts_after_events texts (map Text parts) ≡ grown bytes texts
texts-pieces texts bytes parts (alone bs short) = refl
texts-pieces texts bytes parts (onward prefix back more some short after joins) =
    texts-pieces (grown prefix texts) back more joins ∙ grown-twice prefix back texts

texts-attribute : (texts : List (List ℕ)) (parts : List Piece) → texts_after_events texts (map Attr parts) ≡ texts
texts-attribute texts [] = refl
texts-attribute texts (part ∷ parts) = texts-attribute texts parts

texts-attributes : (texts : List (List ℕ)) (raws : List (List ℕ)) (heads : List Event) → SpellsAttributes raws heads → texts_after_events texts heads ≡ texts
texts-attributes texts raws heads no_attribute = refl
texts-attributes texts raws heads (an_attribute raw parts more events joins spells) =
    texts-append texts (map Attr parts) events ∙ ap (λ ts. texts_after_events ts events) (texts-attribute texts parts)
    ∙ texts-attributes texts more events spells

mutual
  texts-element : (names : List (List ℕ)) (texts : List (List ℕ)) (e : Element) (own : List Event) → SpellsElement names e own → texts_after_events texts own ≡ grown (string_value e) texts
  texts-element names texts e own (an_element ns el tag below heads contents numbered covers attributes items) =
      texts-append ([] ∷ texts) heads (HeadEnd ∷ (contents ++ (Finish tag ∷ [])))
      ∙ ap (λ ts. texts_after_events ts (contents ++ (Finish tag ∷ []))) (texts-attributes ([] ∷ texts) e.attributes heads attributes)
      ∙ texts-append ([] ∷ texts) contents (Finish tag ∷ [])
      ∙ ap (drop 1) (texts-items names ([] ∷ texts) e.items contents items)
      ∙ ap (λ value. grown value texts) (sym (string_value_is e))

  texts-items : (names : List (List ℕ)) (texts : List (List ℕ)) (items : List Item) (contents : List Event) → SpellsItems names items contents
      → texts_after_events texts contents ≡ grown (concat (map value_of_item items)) texts
  texts-items names texts items contents (no_item ns) = sym (grown-none texts)
  texts-items names texts items contents (a_text ns bytes parts more events joins spells) =
      texts-append texts (map Text parts) events ∙ ap (λ ts. texts_after_events ts events) (texts-pieces texts bytes parts joins)
      ∙ texts-items names (grown bytes texts) more events spells
      ∙ grown-twice bytes (concat (map value_of_item more)) texts
      ∙ ap (λ value. grown (value ++ concat (map value_of_item more)) texts) (sym (value_of_item-Text bytes))
  texts-items names texts items contents (a_child ns e own more events spelled spells) =
      texts-append texts own events ∙ ap (λ ts. texts_after_events ts events) (texts-element names texts e own spelled)
      ∙ texts-items names (grown (string_value e) texts) more events spells
      ∙ grown-twice (string_value e) (concat (map value_of_item more)) texts
      ∙ ap (λ value. grown (value ++ concat (map value_of_item more)) texts) (sym (value_of_item-Child e))

-- before the Finish of an element whose events are a part of a list
texts-stand : (names : List (List ℕ)) (list prefix own back : List Event) (e : Element) → list ≡ prefix ++ (own ++ back) → SpellsElement names e own
    → take 1 (texts_at list (length prefix + length own - 1)) ≡ string_value e ∷ []
texts-stand names list prefix own back e cut (an_element ns el tag row heads contents numbered covers attributes items) =
    let inner : List Event = Begin tag row ∷ (heads ++ (HeadEnd ∷ contents)) in
    let own_is : Begin tag row ∷ (heads ++ (HeadEnd ∷ (contents ++ (Finish tag ∷ [])))) ≡ inner ++ (Finish tag ∷ []) =
    ap (λ es. Begin tag row ∷ es) (sym (append_assoc heads (HeadEnd ∷ contents) (Finish tag ∷ []))) in
    let before : List Event = prefix ++ inner in
    let list_is : list ≡ before ++ ((Finish tag ∷ []) ++ back) =
    cut ∙ ap (λ es. prefix ++ (es ++ back)) own_is ∙ ap (λ es. prefix ++ es) (append_assoc inner (Finish tag ∷ []) back)
    ∙ sym (append_assoc prefix inner ((Finish tag ∷ []) ++ back)) in
    let last : length prefix + length (Begin tag row ∷ (heads ++ (HeadEnd ∷ (contents ++ (Finish tag ∷ []))))) - 1 ≡ length before =
    omega (arith, ap length own_is, length-append inner (Finish tag ∷ []), length-append prefix inner) in
    ap (λ k. take 1 (texts_at list k)) last
    ∙ ap (λ es. take 1 (texts_after_events [] (take (length before) es))) list_is
    ∙ ap (λ es. take 1 (texts_after_events [] es)) (take-append_seam before ((Finish tag ∷ []) ++ back))
    ∙ ap (take 1) (texts-append [] prefix inner)
    ∙ ap (take 1) (texts-append ([] ∷ texts_after_events [] prefix) heads (HeadEnd ∷ contents))
    ∙ ap (λ ts. take 1 (texts_after_events ts contents)) (texts-attributes ([] ∷ texts_after_events [] prefix) e.attributes heads attributes)
    ∙ ap (take 1) (texts-items names ([] ∷ texts_after_events [] prefix) e.items contents items)
    ∙ ap (λ value. value ∷ []) (sym (string_value_is e))

-- At the Finish of an element the texts read inside it are its string-value.
pub texts_whole : (names : List (List ℕ)) (d : Doc) (list : List Event) (place : List ℕ) (e : Element) (i : ℕ) → Spells names (Some d) list → at d place ≡ Some e
    → finishes_at list place i ≡ true → take 1 (texts_at list i) ≡ string_value e ∷ []
texts_whole names d list place e i spells there finishes =
    let s = stands_in_list names d list place e spells there in
    let same : i ≡ length s.prefix + length s.own - 1 = finishes_once names d list place i (length s.prefix + length s.own - 1) spells finishes s.finishes in
    ap (λ k. take 1 (texts_at list k)) same ∙ texts-stand names list s.prefix s.own s.back e s.cut s.spelled

-- ---- one text for each open element

module _ {X Y : Type 0} where
  length-drop_one : (xs : List X) (ys : List Y) → length xs ≡ length ys → length (drop 1 xs) ≡ length (drop 1 ys)
  length-drop_one [] [] same = refl
  length-drop_one [] (y ∷ ys) same = absurd (omega (arith, same))
  length-drop_one (x ∷ xs) [] same = absurd (omega (arith, same))
  length-drop_one (x ∷ xs) (y ∷ ys) same = omega (arith, same)

length-grown : (bytes : List ℕ) (texts : List (List ℕ)) → length (grown bytes texts) ≡ length texts
length-grown bytes [] = refl
length-grown bytes (text ∷ texts) = ap suc (length-grown bytes texts)

length-with_child : (elements : List OpenPlace) → length (with_child elements) ≡ length elements
length-with_child [] = refl
length-with_child (parent ∷ up) = refl

texts_for : (texts : List (List ℕ)) (elements : List OpenPlace) (event : Event) → length texts ≡ length elements → length (texts_after texts event) ≡ length (open_after elements event)
texts_for texts elements (Begin tag below) same = ap suc (same ∙ sym (length-with_child elements))
texts_for texts elements (Attr piece) same = same
texts_for texts elements HeadEnd same = same
texts_for texts elements (Text piece) same = length-grown piece.bytes.items texts ∙ same
texts_for texts elements (Finish tag) same = length-drop_one texts elements same
texts_for texts elements End same = same

texts_for_events : (texts : List (List ℕ)) (elements : List OpenPlace) (events : List Event) → length texts ≡ length elements
    → length (texts_after_events texts events) ≡ length (open_after_events elements events)
texts_for_events texts elements [] same = same
texts_for_events texts elements (event ∷ events) same = texts_for_events (texts_after texts event) (open_after elements event) events (texts_for texts elements event same)

pub texts_open : (list : List Event) (i : ℕ) → length (texts_at list i) ≡ length (open_at list i)
texts_open list i = texts_for_events [] [] (take i list) refl

-- ---- attributes

-- The n-th raw attribute of the innermost element is this one.
abbrev RawAt : Doc → List OpenPlace → ℕ → List ℕ → Type 0
RawAt d [] n raw = ⊥
RawAt d (element ∷ up) n raw = (x : Element) × (at d element.place ≡ Some x) × (slice_get x.attributes n ≡ Some raw)

-- At a last piece the attribute is what was read of it.
abbrev RawFits : Doc → List OpenPlace → ℕ → List ℕ → Event → Type 0
RawFits d elements n raw (Begin tag below) = Unit {0}
RawFits d elements n raw (Attr piece) = piece.last ≡ true → RawAt d elements n (raw ++ piece.bytes.items)
RawFits d elements n raw HeadEnd = Unit {0}
RawFits d elements n raw (Text piece) = Unit {0}
RawFits d elements n raw (Finish tag) = Unit {0}
RawFits d elements n raw End = Unit {0}

-- So it is with each of these events.
abbrev RawsFit : Doc → List OpenPlace → ℕ → List ℕ → List Event → Type 0
RawsFit d elements n raw [] = Unit {0}
RawsFit d elements n raw (event ∷ events) = RawFits d elements n raw event × RawsFit d (open_after elements event) (attributes_after n event) (raw_after raw event) events

raws_pieces : (d : Doc) (elements : List OpenPlace) (n : ℕ) (got bytes : List ℕ) (parts : List Piece) (rest : List Event) → Joins bytes parts
    → RawAt d elements n (got ++ bytes) → RawsFit d elements (n + 1) [] rest → RawsFit d elements n got (map Attr parts ++ rest)
raws_pieces d elements n got bytes parts rest (alone bs short) own fits = ((λ last. own), fits)
raws_pieces d elements n got bytes parts rest (onward prefix back more some short after joins) own fits = (
  (λ last. absurd (true≢false (sym last))),
  raws_pieces d elements n (got ++ prefix) back more rest joins (subst (RawAt d elements n) (sym (append_assoc got prefix back)) own) fits,
)

raws_texts : (d : Doc) (elements : List OpenPlace) (n : ℕ) (parts : List Piece) (rest : List Event) → RawsFit d elements n [] rest → RawsFit d elements n [] (map Text parts ++ rest)
raws_texts d elements n [] rest fits = fits
raws_texts d elements n (part ∷ parts) rest fits = (tt, raws_texts d elements n parts rest fits)

raws_attributes : (d : Doc) (element : OpenPlace) (up : List OpenPlace) (x : Element) (n : ℕ) (raws : List (List ℕ)) (heads rest : List Event) → SpellsAttributes raws heads
    → at d element.place ≡ Some x → ((k : ℕ) → slice_get x.attributes (n + k) ≡ slice_get raws k)
    → ((m : ℕ) → RawsFit d (element ∷ up) m [] rest) → RawsFit d (element ∷ up) n [] (heads ++ rest)
raws_attributes d element up x n raws heads rest no_attribute there left fits = fits n
raws_attributes d element up x n raws heads rest (an_attribute raw parts more events joins spells) there left fits =
    let here : n ≡ n + 0 = omega arith in
    subst (RawsFit d (element ∷ up) n []) (sym (append_assoc (map Attr parts) events rest))
    (raws_pieces d (element ∷ up) n [] raw parts (events ++ rest) joins (x, there, ap (slice_get x.attributes) here ∙ left 0)
    (raws_attributes d element up x (n + 1) more events rest spells there
    (λ k. let later : n + 1 + k ≡ n + suc k = omega arith in ap (slice_get x.attributes) later ∙ left (suc k)) fits))

below-join : (place along : List ℕ) (e c : Element) → below e place ≡ Some c → below e (place ++ along) ≡ below c along
below-join [] along e c found = ap (λ x. below x along) (same_Some e c found)
below-join (k ∷ place) along e c found = option_and_then_some (λ x. below x place) (child e.items k) c found (λ x is there.
    ap (option_and_then (λ y. below y (place ++ along))) is ∙ below-join place along x c there)

mutual
  raws_element : (names : List (List ℕ)) (d : Doc) (elements : List OpenPlace) (n : ℕ) (e : Element) (own rest : List Event) → SpellsElement names e own
      → at d (next_place elements) ≡ Some e → ((m : ℕ) → RawsFit d (with_child elements) m [] rest) → RawsFit d elements n [] (own ++ rest)
  raws_element names d elements n e own rest (an_element ns el tag row heads contents numbered covers attributes items) there fits =
      let element : OpenPlace = record { tag = tag; place = next_place elements; children = 0 } in
      let grouped : (heads ++ (HeadEnd ∷ (contents ++ (Finish tag ∷ [])))) ++ rest ≡ heads ++ (HeadEnd ∷ (contents ++ (Finish tag ∷ rest))) =
      append_assoc heads (HeadEnd ∷ (contents ++ (Finish tag ∷ []))) rest ∙ ap (λ events. heads ++ (HeadEnd ∷ events)) (append_assoc contents (Finish tag ∷ []) rest) in (
        tt,
        subst (RawsFit d (element ∷ with_child elements) 0 []) (sym grouped)
            (raws_attributes d element (with_child elements) e 0 e.attributes heads (HeadEnd ∷ (contents ++ (Finish tag ∷ rest))) attributes there
            (λ k. let same : 0 + k ≡ k = omega arith in ap (slice_get e.attributes) same)
            (λ m. (
              tt,
              raws_items names d 0 m tag (next_place elements) (with_child elements) e e.items contents (Finish tag ∷ rest) items there
                  (λ k. let same : 0 + k ≡ k = omega arith in ap (slice_get (children e.items)) same) (λ c k. (tt, fits k)),
            ))),
      )

  raws_items : (names : List (List ℕ)) (d : Doc) (begun n tag : ℕ) (place : List ℕ) (up : List OpenPlace) (x : Element) (items : List Item) (contents rest : List Event)
      → SpellsItems names items contents → at d place ≡ Some x → ((k : ℕ) → slice_get (children x.items) (begun + k) ≡ slice_get (children items) k)
      → ((c m : ℕ) → RawsFit d (record { tag = tag; place = place; children = c } ∷ up) m [] rest)
      → RawsFit d (record { tag = tag; place = place; children = begun } ∷ up) n [] (contents ++ rest)
  raws_items names d begun n tag place up x items contents rest (no_item ns) there left fits = fits begun n
  raws_items names d begun n tag place up x items contents rest (a_text ns bytes parts more events joins spells) there left fits =
      subst (RawsFit d (record { tag = tag; place = place; children = begun } ∷ up) n []) (sym (append_assoc (map Text parts) events rest))
      (raws_texts d (record { tag = tag; place = place; children = begun } ∷ up) n parts (events ++ rest)
      (raws_items names d begun n tag place up x more events rest spells there (λ k. left k ∙ ap (λ cs. slice_get cs k) (children-Text bytes more)) fits))
  raws_items names d begun n tag place up x items contents rest (a_child ns e own more events spelled spells) there left fits =
      let next : begun + 1 ≡ suc (begun + 0) = omega arith in
      let is : child x.items (begun + 1) ≡ Some e = ap (child x.items) next ∙ left 0 ∙ ap (λ cs. slice_get cs 0) (children-Child e more) in
      subst (RawsFit d (record { tag = tag; place = place; children = begun } ∷ up) n []) (sym (append_assoc own events rest))
      (raws_element names d (record { tag = tag; place = place; children = begun } ∷ up) n e own (events ++ rest) spelled
      (below-join place ((begun + 1) ∷ []) d.root x there ∙ ap (option_and_then (λ y. below y [])) is)
      (λ m. raws_items names d (begun + 1) m tag place up x more events rest spells there
      (λ k. let later : begun + 1 + k ≡ begun + suc k = omega arith in
      ap (slice_get (children x.items)) later ∙ left (suc k) ∙ ap (λ cs. slice_get cs (suc k)) (children-Child e more)) fits))

raws_document : (names : List (List ℕ)) (d : Doc) (list : List Event) → Spells names (Some d) list → RawsFit d [] 0 [] list
raws_document names d list (a_document ns doc own spells) = raws_element names d [] 0 d.root own (End ∷ []) spells refl (λ m. (tt, tt))

raws_at : (d : Doc) (elements : List OpenPlace) (n : ℕ) (raw : List ℕ) (list : List Event) (i : ℕ) (event : Event) → RawsFit d elements n raw list → slice_get list i ≡ Some event
    → RawFits d (open_after_events elements (take i list)) (attributes_after_events n (take i list)) (raw_after_events raw (take i list)) event
raws_at d elements n raw [] i event fits is = absurd (none-some event is)
raws_at d elements n raw (e ∷ list) zero event fits is = subst (RawFits d elements n raw) (same_Some e event is) fits.0
raws_at d elements n raw (e ∷ list) (suc i) event fits is = raws_at d (open_after elements e) (attributes_after n e) (raw_after raw e) list i event fits.1 is

raw_innermost : (d : Doc) (elements : List OpenPlace) (n : ℕ) (raw place : List ℕ) (x : Element) → RawAt d elements n raw → innermost_is_at place elements ≡ true → at d place ≡ Some x
    → slice_get x.attributes n ≡ Some raw
raw_innermost d [] n raw place x own innermost there = absurd own
raw_innermost d (element ∷ up) n raw place x own innermost there =
    let same : own.0 ≡ x = same_Some own.0 x (sym own.1 ∙ ap (at d) (same_text element.place place (sym innermost)) ∙ there) in
    ap (λ y. slice_get y.attributes n) (sym same) ∙ own.2

-- At the last piece of an attribute what was read of it, with this piece, is the attribute.
pub raw_whole : (names : List (List ℕ)) (d : Doc) (list : List Event) (place : List ℕ) (x : Element) (i : ℕ) (piece : Piece) → Spells names (Some d) list
    → slice_get list i ≡ Some (Attr piece) → piece.last ≡ true → innermost_is_at place (open_at list i) ≡ true → at d place ≡ Some x
    → slice_get x.attributes (attributes_at list i) ≡ Some (raw_at list i ++ piece.bytes.items)
raw_whole names d list place x i piece spells is last innermost there =
    raw_innermost d (open_at list i) (attributes_at list i) (raw_at list i ++ piece.bytes.items) place x
    (raws_at d [] 0 [] list i (Attr piece) (raws_document names d list spells) is last) innermost there
