-- In a list that spells a document, at most one element begins at a place and at most one finishes,
-- since places come in document order.
use Rattle.std.proofs.Common.{◌≡◌, ℕ, zero, suc, ◌+◌, ◌<◌, ◌⊎◌, inl, inr, true, false, Some, List, [], ◌∷◌, ◌++◌, length, map, take, drop, refl, ap, sym, subst, ◌∙◌, append_assoc, length-append, add-one, arith}
use Rattle.std.specs.List.{slice_get}
use Rattle.std.specs.Option.{option_map_or}
use Rattle.std.specs.Cmp.{first_so, second_so}
use Rattle.std.specs.Cmp.Lexicographic.{bytes_decides}
use Rattle.std.proofs.lemmas.Bool.{true≢false}
use Rattle.acl_bits.specs.declared.piece.Piece.{Piece}
use Rattle.acl_model.specs.declared.document.Doc.{Doc}
use Rattle.acl_model.specs.declared.document.Element.{Element}
use Rattle.acl_model.specs.declared.document.Item.{Item}
use Rattle.acl_walk.specs.Begun.{is_begin, is_finish, innermost_is_at, begins_at, finishes_at}
use Rattle.acl_walk.specs.Open.{OpenPlace, next_place, with_child, open_after, open_after_events, open_at}
use Rattle.acl_walk.specs.Spelling.{SpellsAttributes, no_attribute, an_attribute, SpellsElement, an_element, SpellsItems, no_item, a_text, a_child, Spells, a_document}
use Rattle.acl_walk.specs.declared.event.Event.{Event}
use Rattle.acl_walk.specs.declared.event.Event.TheVariants.{Begin, Attr, HeadEnd, Text, Finish, End}

-- ---- document order

-- The first place comes before the second in document order.
abbrev Before : List ℕ → List ℕ → Type 0
Before [] [] = ⊥
Before [] (m ∷ q) = Unit {0}
Before (k ∷ p) [] = ⊥
Before (k ∷ p) (m ∷ q) = (k < m) ⊎ ((k ≡ m) × Before p q)

before_itself : (p : List ℕ) → Before p p → ⊥
before_itself [] before = before
before_itself (k ∷ p) (inl less) = omega (arith, less)
before_itself (k ∷ p) (inr rest) = before_itself p rest.1

-- a place comes before those inside it
before_inside : (p : List ℕ) (k : ℕ) → Before p (p ++ (k ∷ []))
before_inside [] k = tt
before_inside (m ∷ p) k = inr (refl, before_inside p k)

before_longer : (p q : List ℕ) (k : ℕ) → Before p q → Before p (q ++ (k ∷ []))
before_longer [] [] k before = absurd before
before_longer [] (m ∷ q) k before = tt
before_longer (n ∷ p) [] k before = absurd before
before_longer (n ∷ p) (m ∷ q) k (inl less) = inl less
before_longer (n ∷ p) (m ∷ q) k (inr rest) = inr (rest.0, before_longer p q k rest.1)

-- a place comes before that of the next sibling
before_sister : (q : List ℕ) (k : ℕ) → Before (q ++ (k ∷ [])) (q ++ ((k + 1) ∷ []))
before_sister [] k = inl (omega arith)
before_sister (m ∷ q) k = inr (refl, before_sister q k)

-- what comes before a child comes before its parent's next sibling
before_after : (p q : List ℕ) (c k : ℕ) → Before p ((q ++ (c ∷ [])) ++ (k ∷ [])) → Before p (q ++ ((c + 1) ∷ []))
before_after [] [] c k before = tt
before_after [] (m ∷ q) c k before = tt
before_after (n ∷ p) [] c k (inl less) = inl (omega (arith, less))
before_after (n ∷ p) [] c k (inr rest) = inl (omega (arith, rest.0))
before_after (n ∷ p) (m ∷ q) c k (inl less) = inl less
before_after (n ∷ p) (m ∷ q) c k (inr rest) = inr (rest.0, before_after p q c k rest.1)

-- ---- open elements

-- Each open element is the last begun child of the one around it, and the outermost is the root.
abbrev Chained : List OpenPlace → Type 0
Chained [] = Unit {0}
Chained (root ∷ []) = root.place ≡ []
Chained (element ∷ parent ∷ up) = (element.place ≡ parent.place ++ (parent.children ∷ [])) × Chained (parent ∷ up)

chained-child : (parent : OpenPlace) (up : List OpenPlace) → Chained (parent ∷ up) → Chained (with_child (parent ∷ up))
chained-child parent [] chained = chained
chained-child parent (o ∷ up) chained = chained

chained-drop : (elements : List OpenPlace) → Chained elements → Chained (drop 1 elements)
chained-drop [] chained = tt
chained-drop (root ∷ []) chained = tt
chained-drop (element ∷ parent ∷ up) chained = chained.1

chained-begin : (elements : List OpenPlace) (tag : ℕ) (row : List ℕ) → Chained elements → Chained (open_after elements (Begin tag row))
chained-begin [] tag row chained = refl
chained-begin (parent ∷ up) tag row chained = (refl, chained-child parent up chained)

chained-after : (elements : List OpenPlace) (event : Event) → Chained elements → Chained (open_after elements event)
chained-after elements (Begin tag row) chained = chained-begin elements tag row chained
chained-after elements (Attr piece) chained = chained
chained-after elements HeadEnd chained = chained
chained-after elements (Text piece) chained = chained
chained-after elements (Finish tag) chained = chained-drop elements chained
chained-after elements End chained = chained

-- ---- no element begins where none is open

-- The event isn't a Begin, or an element is open.
abbrev IsInside : List OpenPlace → Event → Type 0
IsInside [] (Begin tag row) = ⊥
IsInside [] (Attr piece) = Unit {0}
IsInside [] HeadEnd = Unit {0}
IsInside [] (Text piece) = Unit {0}
IsInside [] (Finish tag) = Unit {0}
IsInside [] End = Unit {0}
IsInside (element ∷ up) event = Unit {0}

-- The same is true of each of these events.
abbrev AreInside : List OpenPlace → List Event → Type 0
AreInside elements [] = Unit {0}
AreInside elements (event ∷ events) = IsInside elements event × AreInside (open_after elements event) events

inside-pieces : (o : OpenPlace) (up : List OpenPlace) (parts : List Piece) (rest : List Event) → AreInside (o ∷ up) rest → AreInside (o ∷ up) (map Attr parts ++ rest)
inside-pieces o up [] rest inside = inside
inside-pieces o up (part ∷ parts) rest inside = (tt, inside-pieces o up parts rest inside)

inside-text : (o : OpenPlace) (up : List OpenPlace) (parts : List Piece) (rest : List Event) → AreInside (o ∷ up) rest → AreInside (o ∷ up) (map Text parts ++ rest)
inside-text o up [] rest inside = inside
inside-text o up (part ∷ parts) rest inside = (tt, inside-text o up parts rest inside)

inside-attributes : (o : OpenPlace) (up : List OpenPlace) (raws : List (List ℕ)) (heads rest : List Event) → SpellsAttributes raws heads
    → AreInside (o ∷ up) rest → AreInside (o ∷ up) (heads ++ rest)
inside-attributes o up raws heads rest no_attribute inside = inside
inside-attributes o up raws heads rest (an_attribute raw parts more events joins spells) inside =
    subst (AreInside (o ∷ up)) (sym (append_assoc (map Attr parts) events rest))
    (inside-pieces o up parts (events ++ rest) (inside-attributes o up more events rest spells inside))

-- an element's events, followed by others
grouped : (heads contents : List Event) (tag : ℕ) (rest : List Event)
    → (heads ++ (HeadEnd ∷ (contents ++ (Finish tag ∷ [])))) ++ rest ≡ heads ++ (HeadEnd ∷ (contents ++ (Finish tag ∷ rest)))
grouped heads contents tag rest =
    append_assoc heads (HeadEnd ∷ (contents ++ (Finish tag ∷ []))) rest ∙ ap (λ events. heads ++ (HeadEnd ∷ events)) (append_assoc contents (Finish tag ∷ []) rest)

mutual
  inside-element : (names : List (List ℕ)) (o : OpenPlace) (up : List OpenPlace) (e : Element) (own rest : List Event) → SpellsElement names e own
      → AreInside (with_child (o ∷ up)) rest → AreInside (o ∷ up) (own ++ rest)
  inside-element names o up e own rest (an_element ns el tag row heads contents numbered covers attributes items) inside =
      let place : List ℕ = next_place (o ∷ up) in
      let around : List OpenPlace = with_child (o ∷ up) in (
        tt,
        subst (AreInside (record { tag = tag; place = place; children = 0 } ∷ around)) (sym (grouped heads contents tag rest))
            (inside-attributes (record { tag = tag; place = place; children = 0 }) around e.attributes heads (HeadEnd ∷ (contents ++ (Finish tag ∷ rest))) attributes
            (tt, inside-items names 0 tag place around e.items contents (Finish tag ∷ rest) items (λ m. (tt, inside)))),
      )

  inside-items : (names : List (List ℕ)) (n tag : ℕ) (place : List ℕ) (up : List OpenPlace) (items : List Item) (contents rest : List Event) → SpellsItems names items contents
      → ((m : ℕ) → AreInside (record { tag = tag; place = place; children = m } ∷ up) rest)
      → AreInside (record { tag = tag; place = place; children = n } ∷ up) (contents ++ rest)
  inside-items names n tag place up items contents rest (no_item ns) inside = inside n
  inside-items names n tag place up items contents rest (a_text ns bytes parts more events joins spells) inside =
      subst (AreInside (record { tag = tag; place = place; children = n } ∷ up)) (sym (append_assoc (map Text parts) events rest))
      (inside-text (record { tag = tag; place = place; children = n }) up parts (events ++ rest) (inside-items names n tag place up more events rest spells inside))
  inside-items names n tag place up items contents rest (a_child ns e own more events spelled spells) inside =
      subst (AreInside (record { tag = tag; place = place; children = n } ∷ up)) (sym (append_assoc own events rest))
      (inside-element names (record { tag = tag; place = place; children = n }) up e own (events ++ rest) spelled
      (inside-items names (n + 1) tag place up more events rest spells inside))

-- the events after an element's Begin
inside-content : (names : List (List ℕ)) (tag : ℕ) (place : List ℕ) (up : List OpenPlace) (e : Element) (heads contents rest : List Event)
    → SpellsAttributes e.attributes heads → SpellsItems names e.items contents → AreInside up rest
    → AreInside (record { tag = tag; place = place; children = 0 } ∷ up) ((heads ++ (HeadEnd ∷ (contents ++ (Finish tag ∷ [])))) ++ rest)
inside-content names tag place up e heads contents rest attributes items inside =
    subst (AreInside (record { tag = tag; place = place; children = 0 } ∷ up)) (sym (grouped heads contents tag rest))
    (inside-attributes (record { tag = tag; place = place; children = 0 }) up e.attributes heads (HeadEnd ∷ (contents ++ (Finish tag ∷ rest))) attributes
    (tt, inside-items names 0 tag place up e.items contents (Finish tag ∷ rest) items (λ m. (tt, inside))))

-- the same of all events but the first
abbrev InsideAfter : List OpenPlace → List Event → Type 0
InsideAfter elements [] = Unit {0}
InsideAfter elements (event ∷ events) = AreInside (open_after elements event) events

inside-after : (elements : List OpenPlace) (events : List Event) → AreInside elements events → InsideAfter elements events
inside-after elements [] inside = tt
inside-after elements (event ∷ events) inside = inside.1

inside-document : (names : List (List ℕ)) (d : Doc) (list : List Event) → Spells names (Some d) list → InsideAfter [] list
inside-document names d list (a_document ns doc own spells) = of_root own spells
  where
    of_root : (own : List Event) → SpellsElement names d.root own → InsideAfter [] (own ++ (End ∷ []))
    of_root own (an_element ns el tag row heads contents numbered covers attributes items) =
        inside-content names tag [] [] d.root heads contents (End ∷ []) attributes items (tt, tt)

-- ---- what comes after

-- The next element that begins, if there is one, comes after the place.
abbrev ComesAfter : List ℕ → List OpenPlace → Type 0
ComesAfter p [] = Unit {0}
ComesAfter p (o ∷ up) = Before p (next_place (o ∷ up))

after-drop : (p : List ℕ) (elements : List OpenPlace) → Chained elements → ComesAfter p elements → ComesAfter p (drop 1 elements)
after-drop p [] chained after = tt
after-drop p (root ∷ []) chained after = tt
after-drop p (element ∷ parent ∷ up) chained after =
    before_after p parent.place parent.children (element.children + 1) (subst (λ q. Before p (q ++ ((element.children + 1) ∷ []))) chained.0 after)

after-after : (p : List ℕ) (elements : List OpenPlace) (event : Event) → Chained elements → IsInside elements event → ComesAfter p elements → ComesAfter p (open_after elements event)
after-after p [] (Begin tag row) chained inside after = absurd inside
after-after p (o ∷ up) (Begin tag row) chained inside after = before_longer p (next_place (o ∷ up)) 1 after
after-after p elements (Attr piece) chained inside after = after
after-after p elements HeadEnd chained inside after = after
after-after p elements (Text piece) chained inside after = after
after-after p elements (Finish tag) chained inside after = after-drop p elements chained after
after-after p elements End chained inside after = after

-- ---- Begins

-- The event is a Begin.
abbrev IsBegin : Event → Type 0
IsBegin event = is_begin event ≡ true

-- After these open elements, the k-th event is the Begin of the element at the place.
abbrev BeginsFrom : List OpenPlace → List Event → List ℕ → ℕ → Type 0
BeginsFrom elements [] p k = ⊥
BeginsFrom elements (event ∷ events) p zero = IsBegin event × (next_place elements ≡ p)
BeginsFrom elements (event ∷ events) p (suc k) = BeginsFrom (open_after elements event) events p k

begin_inside : (p : List ℕ) (elements : List OpenPlace) (event : Event) → IsInside elements event → ComesAfter p elements → IsBegin event → next_place elements ≡ p → ⊥
begin_inside p (o ∷ up) event inside after begins same = before_itself p (subst (Before p) same after)
begin_inside p [] (Begin tag row) inside after begins same = inside
begin_inside p [] (Attr piece) inside after begins same = true≢false (sym begins)
begin_inside p [] HeadEnd inside after begins same = true≢false (sym begins)
begin_inside p [] (Text piece) inside after begins same = true≢false (sym begins)
begin_inside p [] (Finish tag) inside after begins same = true≢false (sym begins)
begin_inside p [] End inside after begins same = true≢false (sym begins)

-- there is no such Begin where all elements come after the place
no_begin : (p : List ℕ) (elements : List OpenPlace) (events : List Event) (k : ℕ) → Chained elements → AreInside elements events → ComesAfter p elements
    → BeginsFrom elements events p k → ⊥
no_begin p elements [] k chained inside after begins = begins
no_begin p elements (event ∷ events) zero chained inside after begins = begin_inside p elements event inside.0 after begins.0 begins.1
no_begin p elements (event ∷ events) (suc k) chained inside after begins =
    no_begin p (open_after elements event) events k (chained-after elements event chained) inside.1 (after-after p elements event chained inside.0 after) begins

-- after a Begin all further elements come after its place
after-begin : (p : List ℕ) (elements : List OpenPlace) (event : Event) → IsBegin event → next_place elements ≡ p → ComesAfter p (open_after elements event)
after-begin p elements (Begin tag row) begins same = subst (λ q. Before p (q ++ (1 ∷ []))) (sym same) (before_inside p 1)
after-begin p elements (Attr piece) begins same = absurd (true≢false (sym begins))
after-begin p elements HeadEnd begins same = absurd (true≢false (sym begins))
after-begin p elements (Text piece) begins same = absurd (true≢false (sym begins))
after-begin p elements (Finish tag) begins same = absurd (true≢false (sym begins))
after-begin p elements End begins same = absurd (true≢false (sym begins))

one_begin : (p : List ℕ) (elements : List OpenPlace) (events : List Event) (i j : ℕ) → Chained elements → InsideAfter elements events
    → BeginsFrom elements events p i → BeginsFrom elements events p j → i ≡ j
one_begin p elements [] i j chained inside first second = absurd first
one_begin p elements (event ∷ events) zero zero chained inside first second = refl
one_begin p elements (event ∷ events) zero (suc j) chained inside first second =
    absurd (no_begin p (open_after elements event) events j (chained-after elements event chained) inside (after-begin p elements event first.0 first.1) second)
one_begin p elements (event ∷ events) (suc i) zero chained inside first second =
    absurd (no_begin p (open_after elements event) events i (chained-after elements event chained) inside (after-begin p elements event second.0 second.1) first)
one_begin p elements (event ∷ events) (suc i) (suc j) chained inside first second =
    ap suc (one_begin p (open_after elements event) events i j (chained-after elements event chained) (inside-after (open_after elements event) events inside) first second)

-- ---- Finishes

-- The event is a Finish.
abbrev IsFinish : Event → Type 0
IsFinish event = is_finish event ≡ true

-- The innermost open element is at the place.
abbrev InnermostIsAt : List ℕ → List OpenPlace → Type 0
InnermostIsAt p [] = ⊥
InnermostIsAt p (o ∷ up) = o.place ≡ p

-- After these open elements, the k-th event is the Finish of the element at the place.
abbrev FinishesFrom : List OpenPlace → List Event → List ℕ → ℕ → Type 0
FinishesFrom elements [] p k = ⊥
FinishesFrom elements (event ∷ events) p zero = IsFinish event × InnermostIsAt p elements
FinishesFrom elements (event ∷ events) p (suc k) = FinishesFrom (open_after elements event) events p k

-- None of the open elements is at the place.
abbrev NoneAt : List ℕ → List OpenPlace → Type 0
NoneAt p [] = Unit {0}
NoneAt p (o ∷ up) = (o.place ≡ p → ⊥) × NoneAt p up

none-child : (p : List ℕ) (elements : List OpenPlace) → NoneAt p elements → NoneAt p (with_child elements)
none-child p [] none = none
none-child p (o ∷ up) none = none

none-drop : (p : List ℕ) (elements : List OpenPlace) → NoneAt p elements → NoneAt p (drop 1 elements)
none-drop p [] none = none
none-drop p (o ∷ up) none = none.1

none-after : (p : List ℕ) (elements : List OpenPlace) (event : Event) → IsInside elements event → ComesAfter p elements → NoneAt p elements → NoneAt p (open_after elements event)
none-after p [] (Begin tag row) inside after none = absurd inside
none-after p (o ∷ up) (Begin tag row) inside after none = (λ same. before_itself p (subst (Before p) same after), none-child p (o ∷ up) none)
none-after p elements (Attr piece) inside after none = none
none-after p elements HeadEnd inside after none = none
none-after p elements (Text piece) inside after none = none
none-after p elements (Finish tag) inside after none = none-drop p elements none
none-after p elements End inside after none = none

innermost_none : (p : List ℕ) (elements : List OpenPlace) → NoneAt p elements → InnermostIsAt p elements → ⊥
innermost_none p [] none innermost = innermost
innermost_none p (o ∷ up) none innermost = none.0 innermost

no_finish : (p : List ℕ) (elements : List OpenPlace) (events : List Event) (k : ℕ) → Chained elements → AreInside elements events → ComesAfter p elements → NoneAt p elements
    → FinishesFrom elements events p k → ⊥
no_finish p elements [] k chained inside after none finishes = finishes
no_finish p elements (event ∷ events) zero chained inside after none finishes = innermost_none p elements none finishes.1
no_finish p elements (event ∷ events) (suc k) chained inside after none finishes =
    no_finish p (open_after elements event) events k (chained-after elements event chained) inside.1 (after-after p elements event chained inside.0 after)
    (none-after p elements event inside.0 after none) finishes

-- the elements around one with a shorter or equal place are not at the place
none-shorter : (p : List ℕ) (o : OpenPlace) (up : List OpenPlace) → Chained (o ∷ up) → length o.place < length p → NoneAt p (o ∷ up)
none-shorter p o [] chained shorter = (λ same. let lengths : length o.place ≡ length p = ap length same in omega (arith, shorter, lengths), tt)
none-shorter p o (parent ∷ up) chained shorter =
    let longer : length o.place ≡ length parent.place + 1 = ap length chained.0 ∙ length-append parent.place (parent.children ∷ []) in (
      λ same. let lengths : length o.place ≡ length p = ap length same in omega (arith, shorter, lengths),
      none-shorter p parent up chained.1 (omega (arith, shorter, longer)),
    )

-- after its Finish an element isn't open, and the next one comes after it
around : (p : List ℕ) (elements : List OpenPlace) → Chained elements → InnermostIsAt p elements → ComesAfter p (drop 1 elements) × NoneAt p (drop 1 elements)
around p [] chained innermost = absurd innermost
around p (root ∷ []) chained innermost = (tt, tt)
around p (o ∷ parent ∷ up) chained innermost =
    let is : parent.place ++ (parent.children ∷ []) ≡ p = sym chained.0 ∙ innermost in
    let longer : length p ≡ length parent.place + 1 = ap length (sym is) ∙ length-append parent.place (parent.children ∷ []) in (
      subst (λ q. Before q (parent.place ++ ((parent.children + 1) ∷ []))) is (before_sister parent.place parent.children),
      none-shorter p parent up chained.1 (omega (arith, longer)),
    )

after-finish : (p : List ℕ) (elements : List OpenPlace) (event : Event) → Chained elements → IsFinish event → InnermostIsAt p elements
    → ComesAfter p (open_after elements event) × NoneAt p (open_after elements event)
after-finish p elements (Begin tag row) chained finishes innermost = absurd (true≢false (sym finishes))
after-finish p elements (Attr piece) chained finishes innermost = absurd (true≢false (sym finishes))
after-finish p elements HeadEnd chained finishes innermost = absurd (true≢false (sym finishes))
after-finish p elements (Text piece) chained finishes innermost = absurd (true≢false (sym finishes))
after-finish p elements (Finish tag) chained finishes innermost = around p elements chained innermost
after-finish p elements End chained finishes innermost = absurd (true≢false (sym finishes))

one_finish : (p : List ℕ) (elements : List OpenPlace) (events : List Event) (i j : ℕ) → Chained elements → InsideAfter elements events
    → FinishesFrom elements events p i → FinishesFrom elements events p j → i ≡ j
one_finish p elements [] i j chained inside first second = absurd first
one_finish p elements (event ∷ events) zero zero chained inside first second = refl
one_finish p elements (event ∷ events) zero (suc j) chained inside first second =
    let after = after-finish p elements event chained first.0 first.1 in
    absurd (no_finish p (open_after elements event) events j (chained-after elements event chained) inside after.0 after.1 second)
one_finish p elements (event ∷ events) (suc i) zero chained inside first second =
    let after = after-finish p elements event chained second.0 second.1 in
    absurd (no_finish p (open_after elements event) events i (chained-after elements event chained) inside after.0 after.1 first)
one_finish p elements (event ∷ events) (suc i) (suc j) chained inside first second =
    ap suc (one_finish p (open_after elements event) events i j (chained-after elements event chained) (inside-after (open_after elements event) events inside) first second)

-- ---- at the places of a list

opened : (p : List ℕ) (elements : List OpenPlace) (event : Event) → IsBegin event → innermost_is_at p (open_after elements event) ≡ true → next_place elements ≡ p
opened p elements (Begin tag row) begins innermost = (bytes_decides (next_place elements) p).0 innermost
opened p elements (Attr piece) begins innermost = absurd (true≢false (sym begins))
opened p elements HeadEnd begins innermost = absurd (true≢false (sym begins))
opened p elements (Text piece) begins innermost = absurd (true≢false (sym begins))
opened p elements (Finish tag) begins innermost = absurd (true≢false (sym begins))
opened p elements End begins innermost = absurd (true≢false (sym begins))

begins_from : (p : List ℕ) (elements : List OpenPlace) (events : List Event) (k : ℕ) → option_map_or is_begin (slice_get events k) false ≡ true
    → innermost_is_at p (open_after_events elements (take (suc k) events)) ≡ true → BeginsFrom elements events p k
begins_from p elements [] k begins innermost = true≢false (sym begins)
begins_from p elements (event ∷ events) zero begins innermost = (begins, opened p elements event begins innermost)
begins_from p elements (event ∷ events) (suc k) begins innermost = begins_from p (open_after elements event) events k begins innermost

innermost_from : (p : List ℕ) (elements : List OpenPlace) → innermost_is_at p elements ≡ true → InnermostIsAt p elements
innermost_from p [] innermost = true≢false (sym innermost)
innermost_from p (o ∷ up) innermost = (bytes_decides o.place p).0 innermost

finishes_from : (p : List ℕ) (elements : List OpenPlace) (events : List Event) (k : ℕ) → option_map_or is_finish (slice_get events k) false ≡ true
    → innermost_is_at p (open_after_events elements (take k events)) ≡ true → FinishesFrom elements events p k
finishes_from p elements [] k finishes innermost = true≢false (sym finishes)
finishes_from p elements (event ∷ events) zero finishes innermost = (finishes, innermost_from p elements innermost)
finishes_from p elements (event ∷ events) (suc k) finishes innermost = finishes_from p (open_after elements event) events k finishes innermost

begins_at-from : (list : List Event) (p : List ℕ) (i : ℕ) → begins_at list p i ≡ true → BeginsFrom [] list p i
begins_at-from list p i begins =
    begins_from p [] list i (first_so _ (innermost_is_at p (open_at list (i + 1))) begins)
    (ap (λ n. innermost_is_at p (open_at list n)) (sym (add-one i)) ∙ second_so (option_map_or is_begin (slice_get list i) false) (innermost_is_at p (open_at list (i + 1))) begins)

finishes_at-from : (list : List Event) (p : List ℕ) (i : ℕ) → finishes_at list p i ≡ true → FinishesFrom [] list p i
finishes_at-from list p i finishes =
    finishes_from p [] list i (first_so _ (innermost_is_at p (open_at list i)) finishes)
    (second_so (option_map_or is_finish (slice_get list i) false) (innermost_is_at p (open_at list i)) finishes)

-- At most one element begins at a place of the document.
pub begins_once : (names : List (List ℕ)) (d : Doc) (list : List Event) (place : List ℕ) (i j : ℕ) → Spells names (Some d) list
    → begins_at list place i ≡ true → begins_at list place j ≡ true → i ≡ j
begins_once names d list place i j spells first second =
    one_begin place [] list i j tt (inside-document names d list spells) (begins_at-from list place i first) (begins_at-from list place j second)

-- At most one element finishes at a place of the document.
pub finishes_once : (names : List (List ℕ)) (d : Doc) (list : List Event) (place : List ℕ) (i j : ℕ) → Spells names (Some d) list
    → finishes_at list place i ≡ true → finishes_at list place j ≡ true → i ≡ j
finishes_once names d list place i j spells first second =
    one_finish place [] list i j tt (inside-document names d list spells) (finishes_at-from list place i first) (finishes_at-from list place j second)
