-- The elements of a document are parts of each list that spells it.
use Rattle.std.proofs.Common.{◌≡◌, ℕ, zero, suc, ◌+◌, ◌-◌, Bool, true, false, nat_eq, ◌&&◌, Option, Some, None, List, [], ◌∷◌, ◌++◌, length, map, take, drop, refl, ap, sym, subst, ◌∙◌, append_assoc, append-nil, length-append, arith}
use Rattle.std.specs.List.{slice_get}
use Rattle.std.specs.Option.{option_and_then, option_map_or}
use Rattle.std.specs.Cmp.Lexicographic.{pointwise, bytes_decides}
use Rattle.std.proofs.lemmas.Option.{same_Some, none-some}
use Rattle.acl_bits.specs.declared.piece.Piece.{Piece}
use Rattle.acl_model.specs.Places.{child, children, below, at}
use Rattle.acl_model.proofs.GrantLaws.{children-Text, children-Child}
use Rattle.acl_model.specs.declared.document.Doc.{Doc}
use Rattle.acl_model.specs.declared.document.Element.{Element}
use Rattle.acl_model.specs.declared.document.Item.{Item}
use Rattle.acl_walk.specs.Begun.{is_begin, is_finish, innermost_is_at, begins_at, finishes_at, StandsInList}
use Rattle.acl_walk.specs.Open.{OpenPlace, next_place, with_child, open_after, open_after_events, open_at}
use Rattle.acl_walk.specs.Spelling.{SpellsAttributes, no_attribute, an_attribute, SpellsElement, an_element, SpellsItems, no_item, a_text, a_child, Spells, a_document}
use Rattle.acl_walk.specs.declared.event.Event.{Event}
use Rattle.acl_walk.specs.declared.event.Event.TheVariants.{Begin, Attr, HeadEnd, Text, Finish, End}

-- ---- what is open after the events of a part of a document

-- after two lists of events
pub open_after_events-append : (elements : List OpenPlace) (xs ys : List Event) → open_after_events elements (xs ++ ys) ≡ open_after_events (open_after_events elements xs) ys
open_after_events-append elements [] ys = refl
open_after_events-append elements (x ∷ xs) ys = open_after_events-append (open_after elements x) xs ys

open_after_events-pieces : (elements : List OpenPlace) (parts : List Piece) → open_after_events elements (map Attr parts) ≡ elements
open_after_events-pieces elements [] = refl
open_after_events-pieces elements (part ∷ parts) = open_after_events-pieces elements parts

-- After the pieces of a text the same elements are open.
pub open_after_events-text : (elements : List OpenPlace) (parts : List Piece) → open_after_events elements (map Text parts) ≡ elements
open_after_events-text elements [] = refl
open_after_events-text elements (part ∷ parts) = open_after_events-text elements parts

-- After attributes the same elements are open.
pub open_after_events-attributes : (elements : List OpenPlace) (raws : List (List ℕ)) (heads : List Event) → SpellsAttributes raws heads → open_after_events elements heads ≡ elements
open_after_events-attributes elements raws heads no_attribute = refl
open_after_events-attributes elements raws heads (an_attribute raw parts more events joins spells) =
    open_after_events-append elements (map Attr parts) events ∙ ap (λ els. open_after_events els events) (open_after_events-pieces elements parts)
    ∙ open_after_events-attributes elements more events spells

-- an open element with n children begun
abbrev counted : ℕ → List ℕ → List OpenPlace → ℕ → List OpenPlace
counted tag place up n = record { tag = tag; place = place; children = n } ∷ up

-- the events between a Begin and its Finish
abbrev content_of : List Event → List Event → List Event
content_of heads contents = heads ++ (HeadEnd ∷ contents)

-- an element's events are Begin, those inside and Finish
own_parts : (heads contents : List Event) (tag : ℕ) → heads ++ (HeadEnd ∷ (contents ++ (Finish tag ∷ []))) ≡ content_of heads contents ++ (Finish tag ∷ [])
own_parts heads contents tag = sym (append_assoc heads (HeadEnd ∷ contents) (Finish tag ∷ []))

mutual
  -- After an element's events one more child of the innermost open element has begun.
  pub open_after_events-element : (names : List (List ℕ)) (elements : List OpenPlace) (e : Element) (own : List Event) → SpellsElement names e own
      → open_after_events elements own ≡ with_child elements
  open_after_events-element names elements e own (an_element ns el tag row heads contents numbered covers attributes items) =
      let up : List OpenPlace = with_child elements in
      ap (open_after_events (counted tag (next_place elements) up 0)) (own_parts heads contents tag)
      ∙ open_after_events-append (counted tag (next_place elements) up 0) (content_of heads contents) (Finish tag ∷ [])
      ∙ ap (drop 1)
      (open_after_events-append (counted tag (next_place elements) up 0) heads (HeadEnd ∷ contents)
      ∙ ap (λ els. open_after_events els (HeadEnd ∷ contents)) (open_after_events-attributes (counted tag (next_place elements) up 0) e.attributes heads attributes)
      ∙ open_after_events-items names 0 tag (next_place elements) up e.items contents items)

  -- After items as many more children have begun as there are elements among them.
  pub open_after_events-items : (names : List (List ℕ)) (n tag : ℕ) (place : List ℕ) (up : List OpenPlace) (items : List Item) (contents : List Event) → SpellsItems names items contents
      → open_after_events (counted tag place up n) contents ≡ counted tag place up (n + length (children items))
  open_after_events-items names n tag place up items contents (no_item ns) = let same : n ≡ n + 0 = omega arith in ap (counted tag place up) same
  open_after_events-items names n tag place up items contents (a_text ns bytes parts more events joins spells) =
      open_after_events-append (counted tag place up n) (map Text parts) events ∙ ap (λ els. open_after_events els events) (open_after_events-text (counted tag place up n) parts)
      ∙ open_after_events-items names n tag place up more events spells ∙ ap (λ cs. counted tag place up (n + length cs)) (sym (children-Text bytes more))
  open_after_events-items names n tag place up items contents (a_child ns e own more events spelled spells) =
      let same : n + 1 + length (children more) ≡ n + suc (length (children more)) = omega arith in
      open_after_events-append (counted tag place up n) own events ∙ ap (λ els. open_after_events els events) (open_after_events-element names (counted tag place up n) e own spelled)
      ∙ open_after_events-items names (n + 1) tag place up more events spells
      ∙ ap (counted tag place up) same ∙ ap (λ cs. counted tag place up (n + length cs)) (sym (children-Child e more))

-- Before its Finish an element is the innermost open one.
pub open_after_events-content : (names : List (List ℕ)) (tag : ℕ) (place : List ℕ) (up : List OpenPlace) (e : Element) (heads contents : List Event)
    → SpellsAttributes e.attributes heads → SpellsItems names e.items contents
    → open_after_events (counted tag place up 0) (content_of heads contents) ≡ counted tag place up (0 + length (children e.items))
open_after_events-content names tag place up e heads contents attributes items =
    open_after_events-append (counted tag place up 0) heads (HeadEnd ∷ contents)
    ∙ ap (λ els. open_after_events els (HeadEnd ∷ contents)) (open_after_events-attributes (counted tag place up 0) e.attributes heads attributes)
    ∙ open_after_events-items names 0 tag place up e.items contents items

-- ---- the events of the element at a place

-- Among events that come where these elements are open, consecutive ones spell the element, and it
-- begins at this place of the document.
record Located (names : List (List ℕ)) (elements : List OpenPlace) (events : List Event) (place : List ℕ) (e : Element) : Type 0 where
  prefix : List Event
  own : List Event
  back : List Event
  cut : events ≡ prefix ++ (own ++ back)
  spelled : SpellsElement names e own
  there : next_place (open_after_events elements prefix) ≡ place

-- the same with other events before and after
located_inside : (names : List (List ℕ)) (elements : List OpenPlace) (xs events ys all : List Event) (place : List ℕ) (e : Element) → all ≡ xs ++ (events ++ ys)
    → Located names (open_after_events elements xs) events place e → Located names elements all place e
located_inside names elements xs events ys all place e is l = record {
  prefix = xs ++ l.prefix;
  own = l.own;
  back = l.back ++ ys;
  cut = is ∙ ap (λ es. xs ++ (es ++ ys)) l.cut ∙ ap (λ es. xs ++ es) (append_assoc l.prefix (l.own ++ l.back) ys) ∙ ap (λ es. xs ++ (l.prefix ++ es)) (append_assoc l.own l.back ys)
      ∙ sym (append_assoc xs l.prefix (l.own ++ (l.back ++ ys)));
  spelled = l.spelled;
  there = ap next_place (open_after_events-append elements xs l.prefix) ∙ l.there;
}

-- the k-th child among items, from 0, begins after n + k children
located_item : (names : List (List ℕ)) (n tag : ℕ) (place : List ℕ) (up : List OpenPlace) (items : List Item) (contents : List Event) (k : ℕ) (c : Element)
    → SpellsItems names items contents → slice_get (children items) k ≡ Some c → Located names (counted tag place up n) contents (place ++ ((n + k + 1) ∷ [])) c
located_item names n tag place up items contents k c (no_item ns) found = absurd (none-some c found)
located_item names n tag place up items contents k c (a_text ns bytes parts more events joins spells) found =
    located_inside names (counted tag place up n) (map Text parts) events [] (map Text parts ++ events) (place ++ ((n + k + 1) ∷ [])) c
    (ap (λ es. map Text parts ++ es) (sym (append-nil events)))
    (subst (λ els. Located names els events (place ++ ((n + k + 1) ∷ [])) c) (sym (open_after_events-text (counted tag place up n) parts))
    (located_item names n tag place up more events k c spells (ap (λ cs. slice_get cs k) (sym (children-Text bytes more)) ∙ found)))
located_item names n tag place up items contents zero c (a_child ns e own more events spelled spells) found =
    let is : e ≡ c = same_Some e c (ap (λ cs. slice_get cs 0) (sym (children-Child e more)) ∙ found) in
    let same : n + 1 ≡ n + 0 + 1 = omega arith in record {
      prefix = [];
      own = own;
      back = events;
      cut = refl;
      spelled = subst (λ x. SpellsElement names x own) is spelled;
      there = ap (λ m. place ++ (m ∷ [])) same;
    }
located_item names n tag place up items contents (suc k) c (a_child ns e own more events spelled spells) found =
    let same : n + 1 + k + 1 ≡ n + suc k + 1 = omega arith in
    located_inside names (counted tag place up n) own events [] (own ++ events) (place ++ ((n + suc k + 1) ∷ [])) c
    (ap (λ es. own ++ es) (sym (append-nil events)))
    (subst (λ els. Located names els events (place ++ ((n + suc k + 1) ∷ [])) c) (sym (open_after_events-element names (counted tag place up n) e own spelled))
    (subst (λ m. Located names (counted tag place up (n + 1)) events (place ++ (m ∷ [])) c) same
    (located_item names (n + 1) tag place up more events k c spells (ap (λ cs. slice_get cs (suc k)) (sym (children-Child e more)) ∙ found))))

-- a child of an element
located_child : (names : List (List ℕ)) (elements : List OpenPlace) (e : Element) (own : List Event) (k : ℕ) (c : Element) → SpellsElement names e own
    → child e.items k ≡ Some c → Located names elements own (next_place elements ++ (k ∷ [])) c
located_child names elements e own zero c spelled found = absurd (none-some c found)
located_child names elements e own (suc k) c (an_element ns el tag row heads contents numbered covers attributes items) found =
    let start : List OpenPlace = counted tag (next_place elements) (with_child elements) 0 in
    let head : List Event = Begin tag row ∷ (heads ++ (HeadEnd ∷ [])) in
    let after : open_after_events start (heads ++ (HeadEnd ∷ [])) ≡ start =
    open_after_events-append start heads (HeadEnd ∷ []) ∙ ap (λ els. open_after_events els (HeadEnd ∷ [])) (open_after_events-attributes start e.attributes heads attributes) in
    let same : 0 + k + 1 ≡ suc k = omega arith in
    located_inside names elements head contents (Finish tag ∷ []) (Begin tag row ∷ (heads ++ (HeadEnd ∷ (contents ++ (Finish tag ∷ []))))) (next_place elements ++ (suc k ∷ [])) c
    (ap (λ es. Begin tag row ∷ es) (sym (append_assoc heads (HeadEnd ∷ []) (contents ++ (Finish tag ∷ [])))))
    (subst (λ els. Located names els contents (next_place elements ++ (suc k ∷ [])) c) (sym after)
    (subst (λ m. Located names start contents (next_place elements ++ (m ∷ [])) c) same
    (located_item names 0 tag (next_place elements) (with_child elements) e.items contents k c items found)))

-- an element inside one that was located
located_deeper : (names : List (List ℕ)) (elements : List OpenPlace) (events : List Event) (place more : List ℕ) (x c : Element) → (l : Located names elements events place x)
    → ((els : List OpenPlace) → Located names els l.own (next_place els ++ more) c) → Located names elements events (place ++ more) c
located_deeper names elements events place more x c l inside =
    located_inside names elements l.prefix l.own l.back events (place ++ more) c l.cut
    (subst (λ p. Located names (open_after_events elements l.prefix) l.own (p ++ more) c) l.there (inside (open_after_events elements l.prefix)))

-- a place below an element is below one of its children
through_child : (o : Option Element) (f : Element → Option Element) (c : Element) → option_and_then f o ≡ Some c → (x : Element) × (o ≡ Some x) × (f x ≡ Some c)
through_child None f c found = absurd (none-some c found)
through_child (Some x) f c found = (x, refl, found)

-- the element at a place relative to an element
located : (names : List (List ℕ)) (elements : List OpenPlace) (e : Element) (own : List Event) (place : List ℕ) (c : Element) → SpellsElement names e own
    → below e place ≡ Some c → Located names elements own (next_place elements ++ place) c
located names elements e own [] c spelled found = record {
  prefix = [];
  own = own;
  back = [];
  cut = sym (append-nil own);
  spelled = subst (λ x. SpellsElement names x own) (same_Some e c found) spelled;
  there = sym (append-nil (next_place elements));
}
located names elements e own (k ∷ place) c spelled found =
    let step = through_child (child e.items k) (λ x. below x place) c found in
    let first : Located names elements own (next_place elements ++ (k ∷ [])) step.0 = located_child names elements e own k step.0 spelled step.1 in
    subst (λ p. Located names elements own p c) (append_assoc (next_place elements) (k ∷ []) place)
    (located_deeper names elements own (next_place elements ++ (k ∷ [])) place step.0 c first
    (λ els. located names els step.0 first.own place c first.spelled step.2))

-- ---- where it begins and finishes

both : (a b : Bool) → a ≡ true → b ≡ true → (a && b) ≡ true
both a b p q = ap (λ x. x && b) p ∙ q

same_place : (p q : List ℕ) → p ≡ q → pointwise nat_eq p q ≡ true
same_place p q is = (bytes_decides p q).1 is

get_after : (prefix : List Event) (event : Event) (back : List Event) → slice_get (prefix ++ (event ∷ back)) (length prefix) ≡ Some event
get_after [] event back = refl
get_after (x ∷ prefix) event back = get_after prefix event back

take_prefix : (prefix back : List Event) → take (length prefix) (prefix ++ back) ≡ prefix
take_prefix [] back = refl
take_prefix (x ∷ prefix) back = ap (λ es. x ∷ es) (take_prefix prefix back)

take_one_more : (prefix : List Event) (event : Event) (back : List Event) → take (length prefix + 1) (prefix ++ (event ∷ back)) ≡ prefix ++ (event ∷ [])
take_one_more prefix event back =
    let longer : length prefix + 1 ≡ length (prefix ++ (event ∷ [])) = omega (arith, length-append prefix (event ∷ [])) in
    ap (λ n. take n (prefix ++ (event ∷ back))) longer ∙ ap (take (length (prefix ++ (event ∷ [])))) (sym (append_assoc prefix (event ∷ []) back)) ∙ take_prefix (prefix ++ (event ∷ [])) back

-- a Begin where the next element has this place begins it
begins-here : (prefix : List Event) (tag : ℕ) (row : List ℕ) (back : List Event) (place : List ℕ) → next_place (open_after_events [] prefix) ≡ place
    → begins_at (prefix ++ (Begin tag row ∷ back)) place (length prefix) ≡ true
begins-here prefix tag row back place there =
    let els : List OpenPlace = open_after_events [] prefix in
    let opened : open_at (prefix ++ (Begin tag row ∷ back)) (length prefix + 1) ≡ counted tag (next_place els) (with_child els) 0 =
    ap (open_after_events []) (take_one_more prefix (Begin tag row) back) ∙ open_after_events-append [] prefix (Begin tag row ∷ []) in
    both _ _ (ap (λ o. option_map_or is_begin o false) (get_after prefix (Begin tag row) back))
    (ap (innermost_is_at place) opened ∙ same_place (next_place els) place there)

-- a Finish where this element is the innermost open one finishes it
finishes-here : (prefix : List Event) (tag : ℕ) (back : List Event) (place : List ℕ) (element : OpenPlace) (up : List OpenPlace) → open_after_events [] prefix ≡ element ∷ up → element.place ≡ place
    → finishes_at (prefix ++ (Finish tag ∷ back)) place (length prefix) ≡ true
finishes-here prefix tag back place element up opened there =
    both _ _ (ap (λ o. option_map_or is_finish o false) (get_after prefix (Finish tag) back))
    (ap (λ es. innermost_is_at place (open_after_events [] es)) (take_prefix prefix (Finish tag ∷ back)) ∙ ap (innermost_is_at place) opened ∙ same_place element.place place there)

-- an element is a part of a list where its events begin at its place
stands_where : (names : List (List ℕ)) (list prefix own back : List Event) (place : List ℕ) (e : Element) → list ≡ prefix ++ (own ++ back) → SpellsElement names e own
    → next_place (open_after_events [] prefix) ≡ place → StandsInList names list place e
stands_where names list prefix own back place e cut (an_element ns el tag row heads contents numbered covers attributes items) there =
    let inner : List Event = content_of heads contents in
    let spelled : SpellsElement names e (Begin tag row ∷ (heads ++ (HeadEnd ∷ (contents ++ (Finish tag ∷ []))))) = an_element names e tag row heads contents numbered covers attributes items in
    let els : List OpenPlace = open_after_events [] prefix in
    let before : List Event = prefix ++ (Begin tag row ∷ inner) in
    let opened : open_after_events [] before ≡ counted tag (next_place els) (with_child els) (0 + length (children e.items)) =
    open_after_events-append [] prefix (Begin tag row ∷ inner) ∙ open_after_events-content names tag (next_place els) (with_child els) e heads contents attributes items in
    let own_is : Begin tag row ∷ (heads ++ (HeadEnd ∷ (contents ++ (Finish tag ∷ [])))) ≡ Begin tag row ∷ (inner ++ (Finish tag ∷ [])) = ap (λ es. Begin tag row ∷ es) (own_parts heads contents tag) in
    let list_is : list ≡ before ++ (Finish tag ∷ back) =
    cut ∙ ap (λ es. prefix ++ (es ++ back)) own_is ∙ ap (λ es. prefix ++ (Begin tag row ∷ es)) (append_assoc inner (Finish tag ∷ []) back)
    ∙ sym (append_assoc prefix (Begin tag row ∷ inner) (Finish tag ∷ back)) in
    let last : length before ≡ length prefix + length (Begin tag row ∷ (heads ++ (HeadEnd ∷ (contents ++ (Finish tag ∷ []))))) - 1 =
    omega (arith, ap length own_is, length-append prefix (Begin tag row ∷ inner), length-append inner (Finish tag ∷ [])) in record {
      prefix = prefix;
      own = Begin tag row ∷ (heads ++ (HeadEnd ∷ (contents ++ (Finish tag ∷ []))));
      back = back;
      cut = cut;
      spelled = spelled;
      begins = ap (λ es. begins_at es place (length prefix)) cut ∙ begins-here prefix tag row ((heads ++ (HeadEnd ∷ (contents ++ (Finish tag ∷ [])))) ++ back) place there;
      finishes = ap (finishes_at list place) (sym last) ∙ ap (λ es. finishes_at es place (length before)) list_is
          ∙ finishes-here before tag back place (record { tag = tag; place = next_place els; children = 0 + length (children e.items) }) (with_child els) opened there;
    }

-- The element at a place of a document is a part of each list that spells the document.
pub stands_in_list : (names : List (List ℕ)) (d : Doc) (list : List Event) (place : List ℕ) (e : Element) → Spells names (Some d) list → at d place ≡ Some e
    → StandsInList names list place e
stands_in_list names d list place e (a_document ns doc own spells) found =
    let l : Located names [] own place e = located names [] d.root own place e spells found in
    stands_where names (own ++ (End ∷ [])) l.prefix l.own (l.back ++ (End ∷ [])) place e
    (ap (λ es. es ++ (End ∷ [])) l.cut ∙ append_assoc l.prefix (l.own ++ l.back) (End ∷ []) ∙ ap (λ es. l.prefix ++ es) (append_assoc l.own l.back (End ∷ [])))
    l.spelled l.there
