-- The counts of items are right: a text has as many lines as its tree, and an element has as many places as elements.
use Rattle.std.proofs.Common.{◌≡◌, ℕ, ◌+◌, Bool, true, false, ◌&&◌, ◌||◌, nat_eq, nat_le, List, [], ◌∷◌, ◌++◌, map, length, refl, ap, sym, ◌∙◌, subst, append_assoc, append-nil, length-append, arith, ◌⊎◌, inl, inr}
use Rattle.std.proofs.lemmas.Bool.{true≢false}
use Rattle.std.proofs.lemmas.Bool.Decides.{nat_tests}
use Rattle.std.proofs.lemmas.List.{length-map}
use Rattle.std.specs.Cmp.{first_so, second_so}
use Rattle.std.specs.List.{list_all, concat}
use Rattle.acl_model.specs.Ascii.{are_bytes, line_feed, hyphen, left_parenthesis, right_parenthesis, capital_a}
use Rattle.acl_model.specs.Names.{is_name}
use Rattle.acl_model.specs.Lines.{lines, lacks, is_within_line}
use Rattle.acl_model.specs.Document.{is_raw_attribute, is_well_formed, item_well_formed, height, is_document, is_dummy_name, is_view_name, is_view_document}
use Rattle.acl_model.specs.Text.{line, element_text, item_text, text}
use Rattle.acl_model.specs.Places.{numbered, places_below, places_of_item, places}
use Rattle.acl_model.proofs.TextEquations.{element_text_is, item_text-Text, item_text-Child}
use Rattle.acl_model.proofs.LineLaws.{lines-as_line}
use Rattle.acl_model.proofs.ByteLaws.{is_name-lacks}
use Rattle.acl_model.proofs.FormEquations.{well_formed_is, item_well_formed-Text, item_well_formed-Child}
use Rattle.acl_model.proofs.PlaceLaws.{places_below_is, places_of_item-Text, places_of_item-Child}
use Rattle.acl_model.specs.declared.document.Doc.{Doc}
use Rattle.acl_model.specs.declared.document.Item.{Item, roll-Item}
use Rattle.acl_model.specs.declared.document.Element.{Element, roll-Element}
use Rattle.acl_model.specs.declared.document.Item.TheVariants.{rolls-Text, rolls-Child}
use Rattle.acl_model.specs.declared.document.Item.TheOpen.{Item-F}
use Rattle.acl_model.specs.declared.document.Item.TheFolds.{ind-Element, map-Item, map-Element}
use Rattle.sample_maker.specs.inside.Counts.{total, element_count, item_element_count, line_count, item_line_count}
use Rattle.sample_maker.proofs.CountEquations.{element_count_is, item_element_count-Text, item_element_count-Child, line_count_is, item_line_count-Text, item_line_count-Child}

-- ---- lines

-- The bytes, put before any other bytes, add n lines.
abbrev AddsLines : List ℕ → ℕ → Type 0
AddsLines bytes n = (rest : List ℕ) → length (lines (bytes ++ rest)) ≡ n + length (lines rest)

AddsLines-append : (xs ys : List ℕ) (m n : ℕ) → AddsLines xs m → AddsLines ys n → AddsLines (xs ++ ys) (m + n)
AddsLines-append xs ys m n one two rest =
    let first = one (ys ++ rest) in
    let second = two rest in
    ap (λ t. length (lines t)) (append_assoc xs ys rest) ∙ omega (arith, first, second)

AddsLines-line : (kind : ℕ) (argument : List ℕ) → nat_eq kind line_feed ≡ false → lacks line_feed argument ≡ true → AddsLines (line kind argument) 1
AddsLines-line kind argument own others rest =
    let without : lacks line_feed (kind ∷ argument) ≡ true = rw own others in
    ap (λ t. length (lines t)) (append_assoc (kind ∷ argument) (line_feed ∷ []) rest)
    ∙ ap (length {A = List ℕ}) (lines-as_line (kind ∷ argument) rest without) ∙ omega arith

AddsLines-attributes : (attributes : List (List ℕ)) → list_all is_raw_attribute attributes ≡ true → AddsLines (concat (map (line capital_a) attributes)) (length attributes)
AddsLines-attributes [] good rest = omega arith
AddsLines-attributes (raw ∷ attributes) good rest =
    let own = second_so (are_bytes raw) (lacks line_feed raw) (second_so _ (is_within_line raw) (first_so (is_raw_attribute raw) (list_all is_raw_attribute attributes) good)) in
    let later = AddsLines-attributes attributes (second_so (is_raw_attribute raw) (list_all is_raw_attribute attributes) good) in
    let both = AddsLines-append (line capital_a raw) (concat (map (line capital_a) attributes)) 1 (length attributes) (AddsLines-line capital_a raw refl own) later rest in
    omega (arith, both)

-- Where an element is well formed, its text adds as many lines as the element has.
abbrev IsCounted : (List ℕ → Bool) → Element → Type 0
IsCounted name e = is_well_formed name e ≡ true → AddsLines (element_text e) (line_count e)

-- the same of an item
abbrev IsItemCounted : (List ℕ → Bool) → Item → Type 0
IsItemCounted name item = item_well_formed name item ≡ true → AddsLines (item_text item) (item_line_count item)

items_counted : (name : List ℕ → Bool) (pairs : List ((item : Item) × IsItemCounted name item)) → list_all (λ b. b) (map (item_well_formed name) (map (λ p. p.0) pairs)) ≡ true
    → AddsLines (concat (map item_text (map (λ p. p.0) pairs))) (total (map item_line_count (map (λ p. p.0) pairs)))
items_counted name [] good rest = omega arith
items_counted name (pair ∷ pairs) good rest =
    let items : List Item = map (λ p. p.0) pairs in
    let own = first_so (item_well_formed name pair.0) (list_all (λ b. b) (map (item_well_formed name) items)) good in
    let others = second_so (item_well_formed name pair.0) (list_all (λ b. b) (map (item_well_formed name) items)) good in
    AddsLines-append (item_text pair.0) (concat (map item_text items)) (item_line_count pair.0) (total (map item_line_count items)) (pair.1 own) (items_counted name pairs others) rest

element_counted : (name : List ℕ → Bool) → ((n : List ℕ) → name n ≡ true → lacks line_feed n ≡ true) → (e : Element)
    → (list_all (λ b. b) (map (item_well_formed name) e.items) ≡ true → AddsLines (concat (map item_text e.items)) (total (map item_line_count e.items))) → IsCounted name e
element_counted name names e inside good rest =
    let form = sym (well_formed_is name e) ∙ good in
    let own = name e.name in
    let few = nat_le (length e.attributes) 65535 in
    let raw = list_all is_raw_attribute e.attributes in
    let items = list_all (λ b. b) (map (item_well_formed name) e.items) in
    let prefix = first_so (own && few && raw) items form in
    let named = names e.name (first_so own few (first_so (own && few) raw prefix)) in
    let attributes_text = concat (map (line capital_a) e.attributes) in
    let start = line left_parenthesis e.name in
    let content = concat (map item_text e.items) in
    let end = line right_parenthesis e.name in
    let size = total (map item_line_count e.items) in
    let all : AddsLines (attributes_text ++ (start ++ (content ++ end))) (length e.attributes + (1 + (size + 1))) =
    AddsLines-append attributes_text (start ++ (content ++ end)) (length e.attributes) (1 + (size + 1)) (AddsLines-attributes e.attributes (second_so (own && few) raw prefix))
    (AddsLines-append start (content ++ end) 1 (size + 1) (AddsLines-line left_parenthesis e.name refl named)
    (AddsLines-append content end size 1 (inside (second_so (own && few && raw) items form)) (AddsLines-line right_parenthesis e.name refl named))) in
    let counted = all rest in
    let equation = line_count_is e in
    ap (λ t. length (lines (t ++ rest))) (element_text_is e) ∙ omega (arith, counted, equation)

item_counted : (name : List ℕ → Bool) (y : Item-F ((item : Item) × IsItemCounted name item) ((e : Element) × IsCounted name e))
    → IsItemCounted name (roll-Item (map-Item ((item : Item) × IsItemCounted name item) ((e : Element) × IsCounted name e) Item Element (λ p. p.0) (λ p. p.0) y))
item_counted name (Item-F.Text bytes) = subst (IsItemCounted name) (sym (rolls-Text bytes)) (λ good rest.
    ap (λ t. length (lines (t ++ rest))) (item_text-Text bytes)
    ∙ AddsLines-line hyphen bytes refl (second_so (are_bytes bytes) (lacks line_feed bytes) (sym (item_well_formed-Text name bytes) ∙ good)) rest
    ∙ ap (λ n. n + length (lines rest)) (sym (item_line_count-Text bytes)))
item_counted name (Item-F.Child pair) = subst (IsItemCounted name) (sym (rolls-Child pair.0)) (λ good rest.
    ap (λ t. length (lines (t ++ rest))) (item_text-Child pair.0)
    ∙ pair.1 (sym (item_well_formed-Child name pair.0) ∙ good) rest
    ∙ ap (λ n. n + length (lines rest)) (sym (item_line_count-Child pair.0)))

-- Where names contain no line feed, the text of a well-formed element adds as many lines as the element has.
lines_counted : (name : List ℕ → Bool) → ((n : List ℕ) → name n ≡ true → lacks line_feed n ≡ true) → (e : Element) → IsCounted name e
lines_counted name names = ind-Element (IsItemCounted name) (IsCounted name)
    (λ x y is. subst (λ z. IsItemCounted name (roll-Item z)) is (item_counted name y))
    (λ x y is. subst (λ z. IsCounted name (roll-Element z)) is (element_counted name names (roll-Element (map-Element ((item : Item) × IsItemCounted name item) ((e : Element) × IsCounted name e) Item Element (λ p. p.0) (λ p. p.0) y)) (items_counted name y.items)))

whole_text : (name : List ℕ → Bool) → ((n : List ℕ) → name n ≡ true → lacks line_feed n ≡ true) → (d : Doc) → is_well_formed name d.root ≡ true → length (lines (text d)) ≡ line_count d.root
whole_text name names d good =
    let counted = lines_counted name names d.root good [] in
    ap (λ t. length (lines t)) (sym (append-nil (element_text d.root))) ∙ omega (arith, counted)

either : (a b : Bool) → (a || b) ≡ true → (a ≡ true) ⊎ (b ≡ true)
either true b so = inl refl
either false b so = inr so

is_dummy_name-lacks : (name : List ℕ) → is_dummy_name name ≡ true → lacks line_feed name ≡ true
is_dummy_name-lacks [] good = refl
is_dummy_name-lacks (b ∷ []) good = grind (arith, nat_tests)
is_dummy_name-lacks (b ∷ c ∷ bytes) good = absurd (true≢false (sym good))

is_view_name-lacks : (name : List ℕ) → is_view_name name ≡ true → lacks line_feed name ≡ true
is_view_name-lacks name good = elim (either (is_name name) (is_dummy_name name) good) [
  | inl own ↦ is_name-lacks line_feed refl name own
  | inr dummy ↦ is_dummy_name-lacks name dummy
]

-- The text of a document has as many lines as its tree.
pub lines_of_document : (d : Doc) → is_document d ≡ true → length (lines (text d)) ≡ line_count d.root
lines_of_document d good = whole_text is_name (λ n. is_name-lacks line_feed refl n) d (first_so (is_well_formed is_name d.root) (nat_le (height d.root) 255) good)

-- The text of a view has as many lines as its tree.
pub lines_of_view_document : (d : Doc) → is_view_document d ≡ true → length (lines (text d)) ≡ line_count d.root
lines_of_view_document d good = whole_text is_view_name is_view_name-lacks d (first_so (is_well_formed is_view_name d.root) (nat_le (height d.root) 255) good)

-- ---- places

-- An element has as many places as elements.
abbrev IsPlaced : Element → Type 0
IsPlaced e = length (places_below e) ≡ element_count e

-- Where the items after this one have n places, this item and those have n places, and one more for each element in
-- this item.
abbrev IsItemPlaced : Item → Type 0
IsItemPlaced item = (others : List Item) (n : ℕ) → ((k : ℕ) → length (numbered (map places_of_item others) k) ≡ n)
    → (k : ℕ) → length (numbered (places_of_item item ∷ map places_of_item others) k) ≡ item_element_count item + n

items_placed : (pairs : List ((item : Item) × IsItemPlaced item)) (k : ℕ) → length (numbered (map places_of_item (map (λ p. p.0) pairs)) k) ≡ total (map item_element_count (map (λ p. p.0) pairs))
items_placed [] k = refl
items_placed (pair ∷ pairs) k =
    let items : List Item = map (λ p. p.0) pairs in
    pair.1 items (total (map item_element_count items)) (items_placed pairs) k

element_placed : (e : Element) → ((k : ℕ) → length (numbered (map places_of_item e.items) k) ≡ total (map item_element_count e.items)) → IsPlaced e
element_placed e inside =
    let own = inside 1 in
    let equation = element_count_is e in
    ap (length {A = List ℕ}) (places_below_is e) ∙ omega (arith, own, equation)

length_numbered : (inside others : List (List ℕ)) (k : ℕ) → length (map (λ place. k ∷ place) inside ++ others) ≡ length inside + length others
length_numbered inside others k = length-append (map (λ place. k ∷ place) inside) others ∙ ap (λ n. n + length others) (length-map inside (λ place. k ∷ place))

item_placed : (y : Item-F ((item : Item) × IsItemPlaced item) ((e : Element) × IsPlaced e))
    → IsItemPlaced (roll-Item (map-Item ((item : Item) × IsItemPlaced item) ((e : Element) × IsPlaced e) Item Element (λ p. p.0) (λ p. p.0) y))
item_placed (Item-F.Text bytes) = subst IsItemPlaced (sym (rolls-Text bytes)) (λ others n told k.
    let later = told k in
    let none = item_element_count-Text bytes in
    ap (λ o. length (numbered (o ∷ map places_of_item others) k)) (places_of_item-Text bytes) ∙ omega (arith, later, none))
item_placed (Item-F.Child pair) = subst IsItemPlaced (sym (rolls-Child pair.0)) (λ others n told k.
    let later = told (k + 1) in
    let own = pair.1 in
    let same = item_element_count-Child pair.0 in
    let sum = length_numbered (places_below pair.0) (numbered (map places_of_item others) (k + 1)) k in
    ap (λ o. length (numbered (o ∷ map places_of_item others) k)) (places_of_item-Child pair.0) ∙ omega (arith, later, own, same, sum))

places_counted : (e : Element) → IsPlaced e
places_counted = ind-Element IsItemPlaced IsPlaced
    (λ x y is. subst (λ z. IsItemPlaced (roll-Item z)) is (item_placed y))
    (λ x y is. subst (λ z. IsPlaced (roll-Element z)) is (element_placed (roll-Element (map-Element ((item : Item) × IsItemPlaced item) ((e : Element) × IsPlaced e) Item Element (λ p. p.0) (λ p. p.0) y)) (items_placed y.items)))

-- A document has as many places as elements.
pub places_of_document : (d : Doc) → length (places d) ≡ element_count d.root
places_of_document d = places_counted d.root
