-- A list that spells a view document nests, whatever sets its Begins have. It still nests after a
-- pass.
use Rattle.std.proofs.Common.{◌≡◌, ℕ, ◌+◌, ◌≤◌, Bool, true, false, not, nat_eq, ◌&&◌, Some, List, [], ◌∷◌, ◌++◌, length, map, take, ap, sym, subst, ◌∙◌, refl, append_assoc, arith}
use Rattle.std.specs.List.{list_all}
use Rattle.std.specs.Cmp.{first_so, second_so}
use Rattle.std.proofs.lemmas.List.Folds.{list_all-append}
use Rattle.acl_bits.specs.declared.piece.Piece.{Piece}
use Rattle.acl_model.specs.Ascii.{is_byte, line_feed}
use Rattle.acl_model.specs.Lines.{is_within_line, lacks}
use Rattle.acl_model.specs.Document.{is_raw_attribute, is_view_name, is_view_document, is_well_formed, item_well_formed, greatest, height, height_of_item}
use Rattle.acl_model.specs.declared.document.Doc.{Doc}
use Rattle.acl_model.specs.declared.document.Item.{Item}
use Rattle.acl_model.specs.declared.document.Item.TheVariants as item
use Rattle.acl_model.specs.declared.document.Element.{Element}
use Rattle.acl_model.proofs.FormEquations.{well_formed_is, item_well_formed-Text, item_well_formed-Child, height_is, height_of_item-Child}
use Rattle.acl_walk.specs.Pieces.{piece_of, Joins, alone, onward}
use Rattle.acl_walk.specs.Spelling.{SpellsAttributes, no_attribute, an_attribute, SpellsElement, an_element, SpellsItems, no_item, a_text, a_child, Spells, a_document}
use Rattle.acl_walk.specs.Nesting.{Phase, at_start, in_head, in_attribute, in_content, in_text, at_finish, at_end, FitsLine, MayBegin, MayCome, content_phase, phase_after_attr, phase_after_text, Nest}
use Rattle.acl_walk.specs.SpotMoves.{from_finish}
use Rattle.acl_walk.specs.declared.event.Event.{Event}
use Rattle.acl_walk.specs.declared.event.Event.TheVariants.{Begin, Attr, HeadEnd, Text, Finish, End}
use Rattle.acl_walk.specs.inside.TagLaws.{tag_of-within}

-- ---- parts of lines fit lines

both_so : (s t : Bool) → s ≡ true → t ≡ true → (s && t) ≡ true
both_so s t p q = ap (λ b. b && t) p ∙ q

fits_parts : (prefix back : List ℕ) → is_within_line (prefix ++ back) ≡ true → (is_within_line prefix ≡ true) × (is_within_line back ≡ true)
fits_parts prefix back fits =
    let bytes : (list_all is_byte prefix && list_all is_byte back) ≡ true = sym (list_all-append is_byte prefix back) ∙ first_so _ (lacks line_feed (prefix ++ back)) fits in
    let clean : (lacks line_feed prefix && lacks line_feed back) ≡ true = sym (list_all-append (λ b. not (nat_eq b line_feed)) prefix back) ∙ second_so (list_all is_byte (prefix ++ back)) (lacks line_feed (prefix ++ back)) fits in (
      both_so (list_all is_byte prefix) (lacks line_feed prefix) (first_so (list_all is_byte prefix) (list_all is_byte back) bytes) (first_so (lacks line_feed prefix) (lacks line_feed back) clean),
      both_so (list_all is_byte back) (lacks line_feed back) (second_so (list_all is_byte prefix) (list_all is_byte back) bytes) (second_so (lacks line_feed prefix) (lacks line_feed back) clean),
    )

-- ---- where a root or a child may begin

-- an element may begin in the phase, if its tag and the number of open elements allow it
abbrev Starts : Phase → Type 0
Starts at_start = Unit {0}
Starts in_head = ⊥
Starts in_attribute = ⊥
Starts in_content = Unit {0}
Starts in_text = ⊥
Starts at_finish = ⊥
Starts at_end = ⊥

may_begin : (names deep : ℕ) (tags : List ℕ) (phase : Phase) (tag : ℕ) (below : List ℕ) → Starts phase → MayBegin names deep tags tag
    → MayCome names deep tags phase (Begin tag below)
may_begin names deep tags at_start tag below starts may = may
may_begin names deep tags in_head tag below starts may = absurd starts
may_begin names deep tags in_attribute tag below starts may = absurd starts
may_begin names deep tags in_content tag below starts may = may
may_begin names deep tags in_text tag below starts may = absurd starts
may_begin names deep tags at_finish tag below starts may = absurd starts
may_begin names deep tags at_end tag below starts may = absurd starts

-- ---- pieces and attributes

-- a piece of an attribute may come in the phase
abbrev TakesAttr : Phase → Type 0
TakesAttr at_start = ⊥
TakesAttr in_head = Unit {0}
TakesAttr in_attribute = Unit {0}
TakesAttr in_content = ⊥
TakesAttr in_text = ⊥
TakesAttr at_finish = ⊥
TakesAttr at_end = ⊥

may_attr : (names deep : ℕ) (tags : List ℕ) (phase : Phase) (piece : Piece) → TakesAttr phase → FitsLine piece
    → MayCome names deep tags phase (Attr piece)
may_attr names deep tags at_start piece takes fits = absurd takes
may_attr names deep tags in_head piece takes fits = fits
may_attr names deep tags in_attribute piece takes fits = fits
may_attr names deep tags in_content piece takes fits = absurd takes
may_attr names deep tags in_text piece takes fits = absurd takes
may_attr names deep tags at_finish piece takes fits = absurd takes
may_attr names deep tags at_end piece takes fits = absurd takes

-- a piece of a text may come in the phase
abbrev TakesText : Phase → Type 0
TakesText at_start = ⊥
TakesText in_head = ⊥
TakesText in_attribute = ⊥
TakesText in_content = Unit {0}
TakesText in_text = Unit {0}
TakesText at_finish = ⊥
TakesText at_end = ⊥

may_text : (names deep : ℕ) (tags : List ℕ) (phase : Phase) (piece : Piece) → TakesText phase → FitsLine piece
    → MayCome names deep tags phase (Text piece)
may_text names deep tags at_start piece takes fits = absurd takes
may_text names deep tags in_head piece takes fits = absurd takes
may_text names deep tags in_attribute piece takes fits = absurd takes
may_text names deep tags in_content piece takes fits = fits
may_text names deep tags in_text piece takes fits = fits
may_text names deep tags at_finish piece takes fits = absurd takes
may_text names deep tags at_end piece takes fits = absurd takes

-- the pieces of an attribute lead back to the head
nest_attr : (names deep : ℕ) (tags : List ℕ) (phase : Phase) (bytes : List ℕ) (parts : List Piece) (rest : List Event)
    → TakesAttr phase → Joins bytes parts → is_within_line bytes ≡ true → Nest names deep tags in_head rest
    → Nest names deep tags phase (map Attr parts ++ rest)
nest_attr names deep tags phase bytes parts rest takes (alone bs short) fits nest =
    (may_attr names deep tags phase (piece_of bs true) takes fits, nest)
nest_attr names deep tags phase bytes parts rest takes (onward prefix back more some short after joins) fits nest =
    let both = fits_parts prefix back fits in
    let others = nest_attr names deep tags in_attribute back more rest tt joins both.1 nest in
    (may_attr names deep tags phase (piece_of prefix false) takes both.0, others)

-- the pieces of a text lead back to the content
nest_text : (names deep : ℕ) (tags : List ℕ) (phase : Phase) (bytes : List ℕ) (parts : List Piece) (rest : List Event)
    → TakesText phase → Joins bytes parts → is_within_line bytes ≡ true → Nest names deep tags in_content rest
    → Nest names deep tags phase (map Text parts ++ rest)
nest_text names deep tags phase bytes parts rest takes (alone bs short) fits nest =
    (may_text names deep tags phase (piece_of bs true) takes fits, nest)
nest_text names deep tags phase bytes parts rest takes (onward prefix back more some short after joins) fits nest =
    let both = fits_parts prefix back fits in
    let others = nest_text names deep tags in_text back more rest tt joins both.1 nest in
    (may_text names deep tags phase (piece_of prefix false) takes both.0, others)

nest_attributes : (names deep : ℕ) (tags : List ℕ) (raws : List (List ℕ)) (heads rest : List Event) → SpellsAttributes raws heads → list_all is_raw_attribute raws ≡ true
    → Nest names deep tags in_head rest → Nest names deep tags in_head (heads ++ rest)
nest_attributes names deep tags raws heads rest no_attribute formed nest = nest
nest_attributes names deep tags raws heads rest (an_attribute raw parts more events joins spells) formed nest =
    let own : is_raw_attribute raw ≡ true = first_so (is_raw_attribute raw) (list_all is_raw_attribute more) formed in
    let others : list_all is_raw_attribute more ≡ true = second_so (is_raw_attribute raw) (list_all is_raw_attribute more) formed in
    subst (Nest names deep tags in_head) (sym (append_assoc (map Attr parts) events rest))
    (nest_attr names deep tags in_head raw parts (events ++ rest) tt joins (second_so _ (is_within_line raw) own)
    (nest_attributes names deep tags more events rest spells others nest))

-- ---- elements

-- what is known of an element's parts, if it is well-formed
form_parts : (e : Element) → is_well_formed is_view_name e ≡ true
    → (list_all is_raw_attribute e.attributes ≡ true) × (list_all (λ b. b) (map (item_well_formed is_view_name) e.items) ≡ true)
form_parts e formed =
    let all = sym (well_formed_is is_view_name e) ∙ formed in (
      second_so _ (list_all is_raw_attribute e.attributes) (first_so _ (list_all (λ b. b) (map (item_well_formed is_view_name) e.items)) all),
      second_so _ (list_all (λ b. b) (map (item_well_formed is_view_name) e.items)) all,
    )

mutual
  nest_element : (names : List (List ℕ)) (deep : ℕ) (tags : List ℕ) (phase : Phase) (e : Element) (own rest : List Event) → SpellsElement names e own
      → Starts phase → is_well_formed is_view_name e ≡ true → length tags + height e ≤ deep
      → Nest (length names) deep tags (content_phase tags) rest → Nest (length names) deep tags phase (own ++ rest)
  nest_element names deep tags phase e own rest (an_element ns el tag below heads contents numbered covers attributes items) starts formed low nest =
      let parts = form_parts e formed in
      let higher : height e ≡ greatest (map height_of_item e.items) + 1 = height_is e in
      let inside : Nest (length names) deep (tag ∷ tags) in_content (Finish tag ∷ rest) = (refl, nest) in
      let content : Nest (length names) deep (tag ∷ tags) in_content (contents ++ (Finish tag ∷ rest)) =
      nest_items names deep tag tags e.items contents (Finish tag ∷ rest) items parts.1 (omega arith) inside in
      let head : Nest (length names) deep (tag ∷ tags) in_head (heads ++ (HeadEnd ∷ (contents ++ (Finish tag ∷ rest)))) =
      nest_attributes (length names) deep (tag ∷ tags) e.attributes heads (HeadEnd ∷ (contents ++ (Finish tag ∷ rest))) attributes parts.0 (tt, content) in
      let grouped : (heads ++ (HeadEnd ∷ (contents ++ (Finish tag ∷ [])))) ++ rest ≡ heads ++ (HeadEnd ∷ (contents ++ (Finish tag ∷ rest))) =
      append_assoc heads (HeadEnd ∷ (contents ++ (Finish tag ∷ []))) rest ∙ ap (λ events. heads ++ (HeadEnd ∷ events)) (append_assoc contents (Finish tag ∷ []) rest) in (
        may_begin (length names) deep tags phase tag below starts (tag_of-within names e.name tag numbered, omega arith),
        subst (Nest (length names) deep (tag ∷ tags) in_head) (sym grouped) head,
      )

  nest_items : (names : List (List ℕ)) (deep tag : ℕ) (tags : List ℕ) (items : List Item) (contents rest : List Event) → SpellsItems names items contents
      → list_all (λ b. b) (map (item_well_formed is_view_name) items) ≡ true → length (tag ∷ tags) + greatest (map height_of_item items) ≤ deep
      → Nest (length names) deep (tag ∷ tags) in_content rest → Nest (length names) deep (tag ∷ tags) in_content (contents ++ rest)
  nest_items names deep tag tags items contents rest (no_item ns) formed low nest = nest
  nest_items names deep tag tags items contents rest (a_text ns bytes parts more events joins spells) formed low nest =
      let own = first_so (item_well_formed is_view_name (item.Text bytes)) (list_all (λ b. b) (map (item_well_formed is_view_name) more)) formed in
      let others = second_so (item_well_formed is_view_name (item.Text bytes)) (list_all (λ b. b) (map (item_well_formed is_view_name) more)) formed in
      subst (Nest (length names) deep (tag ∷ tags) in_content) (sym (append_assoc (map Text parts) events rest))
      (nest_text (length names) deep (tag ∷ tags) in_content bytes parts (events ++ rest) tt joins
      (sym (item_well_formed-Text is_view_name bytes) ∙ own)
      (nest_items names deep tag tags more events rest spells others (omega arith) nest))
  nest_items names deep tag tags items contents rest (a_child ns e own_events more events spelled spells) formed low nest =
      let own = first_so (item_well_formed is_view_name (item.Child e)) (list_all (λ b. b) (map (item_well_formed is_view_name) more)) formed in
      let others = second_so (item_well_formed is_view_name (item.Child e)) (list_all (λ b. b) (map (item_well_formed is_view_name) more)) formed in
      let lower : height_of_item (item.Child e) ≡ height e = height_of_item-Child e in
      subst (Nest (length names) deep (tag ∷ tags) in_content) (sym (append_assoc own_events events rest))
      (nest_element names deep (tag ∷ tags) in_content e own_events (events ++ rest) spelled tt (sym (item_well_formed-Child is_view_name e) ∙ own) (omega arith)
      (nest_items names deep tag tags more events rest spells others (omega arith) nest))

-- ---- a pass

finish_is_innermost : (names deep : ℕ) (tags : List ℕ) (phase : Phase) (tag : ℕ) → MayCome names deep tags phase (Finish tag) → take 1 tags ≡ tag ∷ []
finish_is_innermost names deep tags at_start tag may = absurd may
finish_is_innermost names deep tags in_head tag may = absurd may
finish_is_innermost names deep tags in_attribute tag may = absurd may
finish_is_innermost names deep tags in_content tag may = may
finish_is_innermost names deep tags in_text tag may = absurd may
finish_is_innermost names deep tags at_finish tag may = may
finish_is_innermost names deep tags at_end tag may = absurd may

-- Events that nest still nest from the Finish of the innermost open element on.
pub nest-from_finish : (names deep : ℕ) (inner : List ℕ) (tag : ℕ) (tags : List ℕ) (phase : Phase) (events : List Event)
    → Nest names deep (inner ++ (tag ∷ tags)) phase events → Nest names deep (tag ∷ tags) at_finish (from_finish (length inner) events)
nest-from_finish names deep inner tag tags phase [] nest = tt
nest-from_finish names deep inner tag tags phase (Begin t below ∷ events) nest = nest-from_finish names deep (t ∷ inner) tag tags in_head events nest.1
nest-from_finish names deep inner tag tags phase (Attr piece ∷ events) nest =
    nest-from_finish names deep inner tag tags (phase_after_attr piece.last) events nest.1
nest-from_finish names deep inner tag tags phase (HeadEnd ∷ events) nest = nest-from_finish names deep inner tag tags in_content events nest.1
nest-from_finish names deep inner tag tags phase (Text piece ∷ events) nest =
    nest-from_finish names deep inner tag tags (phase_after_text piece.last) events nest.1
nest-from_finish names deep [] tag tags phase (Finish t ∷ events) nest = (finish_is_innermost names deep (tag ∷ tags) phase t nest.0, nest.1)
nest-from_finish names deep (i ∷ inner) tag tags phase (Finish t ∷ events) nest = nest-from_finish names deep inner tag tags (content_phase (inner ++ (tag ∷ tags))) events nest.1
nest-from_finish names deep inner tag tags phase (End ∷ events) nest = tt

-- ---- documents

-- A list that spells a view document nests, with at most as many open elements as the document is
-- high.
pub nest-document : (names : List (List ℕ)) (d : Doc) (events : List Event) → Spells names (Some d) events → is_view_document d ≡ true
    → Nest (length names) (height d.root) [] at_start events
nest-document names d events (a_document ns doc own spells) formed =
    nest_element names (height d.root) [] at_start d.root own (End ∷ []) spells tt (first_so (is_well_formed is_view_name d.root) _ formed) (omega arith) (tt, tt)
