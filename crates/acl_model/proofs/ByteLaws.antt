-- The text of an element of the right form consists of bytes.
use Rattle.std.proofs.Common.{◌≡◌, ℕ, Bool, true, false, ◌&&◌, ◌||◌, nat_le, List, [], ◌∷◌, ◌++◌, map, length, refl, ap, sym, ◌∙◌, subst, ◌⊎◌, inl, inr, arith}
use Rattle.std.proofs.lemmas.Bool.{true≢false}
use Rattle.std.proofs.lemmas.Bool.Decides.{nat_tests}
use Rattle.std.proofs.lemmas.List.Folds.{list_all-append}
use Rattle.std.specs.Cmp.{first_so, second_so}
use Rattle.std.specs.List.{list_all, concat}
use Rattle.acl_model.specs.Ascii.{is_byte, are_bytes, line_feed, hyphen, left_parenthesis, right_parenthesis, capital_a}
use Rattle.acl_model.specs.Names.{begins_name, continues_name, is_name}
use Rattle.acl_model.specs.Lines.{lacks, is_within_line}
use Rattle.acl_model.specs.Document.{is_raw_attribute, is_well_formed, item_well_formed, height, is_document, is_dummy_name, is_view_name, is_view_document}
use Rattle.acl_model.specs.Text.{line, element_text, item_text, text}
use Rattle.acl_model.proofs.TextEquations.{element_text_is, item_text-Text, item_text-Child}
use Rattle.acl_model.proofs.LineLaws.{lacks-list_all, lacks-append}
use Rattle.acl_model.proofs.FormEquations.{well_formed_is, item_well_formed-Text, item_well_formed-Child}
use Rattle.acl_model.specs.declared.document.Doc.{Doc}
use Rattle.acl_model.specs.declared.document.Item.{Item, roll-Item}
use Rattle.acl_model.specs.declared.document.Element.{Element, roll-Element}
use Rattle.acl_model.specs.declared.document.Item.TheVariants.{rolls-Text, rolls-Child}
use Rattle.acl_model.specs.declared.document.Item.TheOpen.{Item-F}
use Rattle.acl_model.specs.declared.document.Item.TheFolds.{ind-Element, map-Item, map-Element}

-- ---- names

-- A number that a name may contain is a byte.
pub continues_name-byte : (b : ℕ) → continues_name b ≡ true → is_byte b ≡ true
continues_name-byte b continues = grind (arith, nat_tests)

-- The same for a list of them.
pub continues_name-bytes : (bytes : List ℕ) → list_all continues_name bytes ≡ true → are_bytes bytes ≡ true
continues_name-bytes [] all = refl
continues_name-bytes (b ∷ bytes) all =
    rw (continues_name-byte b (first_so (continues_name b) (list_all continues_name bytes) all), continues_name-bytes bytes (second_so (continues_name b) (list_all continues_name bytes) all)) refl

-- Each byte of a name is one that a name may contain after its first.
pub is_name-continues : (name : List ℕ) → is_name name ≡ true → list_all continues_name name ≡ true
is_name-continues [] good = refl
is_name-continues (b ∷ bytes) good =
    let spelled = first_so (begins_name b && list_all continues_name bytes) (nat_le (length (b ∷ bytes)) 255) good in
    rw (first_so (begins_name b) (list_all continues_name bytes) spelled, second_so (begins_name b) (list_all continues_name bytes) spelled) refl

-- A name consists of bytes.
pub is_name-bytes : (name : List ℕ) → is_name name ≡ true → are_bytes name ≡ true
is_name-bytes name good = continues_name-bytes name (is_name-continues name good)

-- A name doesn't contain a byte that names may not contain.
pub is_name-lacks : (c : ℕ) → continues_name c ≡ false → (name : List ℕ) → is_name name ≡ true → lacks c name ≡ true
is_name-lacks c fails name good = lacks-list_all continues_name c fails name (is_name-continues name good)

-- A name fits a line.
pub is_name-within : (name : List ℕ) → is_name name ≡ true → is_within_line name ≡ true
is_name-within name good = rw (is_name-bytes name good, is_name-lacks line_feed refl name good) refl

either : (a b : Bool) → (a || b) ≡ true → (a ≡ true) ⊎ (b ≡ true)
either true b so = inl refl
either false b so = inr so

is_dummy_name-bytes : (name : List ℕ) → is_dummy_name name ≡ true → are_bytes name ≡ true
is_dummy_name-bytes [] good = refl
is_dummy_name-bytes (b ∷ []) good = grind (arith, nat_tests)
is_dummy_name-bytes (b ∷ c ∷ bytes) good = absurd (true≢false (sym good))

-- and so does a name in a view
pub is_view_name-bytes : (name : List ℕ) → is_view_name name ≡ true → are_bytes name ≡ true
is_view_name-bytes name good = elim (either (is_name name) (is_dummy_name name) good) [
  | inl own ↦ is_name-bytes name own
  | inr dummy ↦ is_dummy_name-bytes name dummy
]

-- ---- concatenated texts

-- Two concatenated texts of bytes are a text of bytes.
pub are_bytes-append : (xs ys : List ℕ) → are_bytes xs ≡ true → are_bytes ys ≡ true → are_bytes (xs ++ ys) ≡ true
are_bytes-append xs ys one two = list_all-append is_byte xs ys ∙ rw (one, two) refl

-- Two concatenated texts that fit a line fit a line.
pub is_within_line-append : (xs ys : List ℕ) → is_within_line xs ≡ true → is_within_line ys ≡ true → is_within_line (xs ++ ys) ≡ true
is_within_line-append xs ys one two =
    rw (
      are_bytes-append xs ys (first_so (are_bytes xs) (lacks line_feed xs) one) (first_so (are_bytes ys) (lacks line_feed ys) two),
      lacks-append line_feed xs ys (second_so (are_bytes xs) (lacks line_feed xs) one) (second_so (are_bytes ys) (lacks line_feed ys) two),
    ) refl

-- a line of bytes
pub are_bytes-line : (kind : ℕ) (argument : List ℕ) → is_byte kind ≡ true → are_bytes argument ≡ true → are_bytes (line kind argument) ≡ true
are_bytes-line kind argument own others = rw own (are_bytes-append argument (line_feed ∷ []) others refl)

are_bytes-attributes : (attributes : List (List ℕ)) → list_all is_raw_attribute attributes ≡ true → are_bytes (concat (map (line capital_a) attributes)) ≡ true
are_bytes-attributes [] good = refl
are_bytes-attributes (raw ∷ attributes) good =
    let within = first_so (are_bytes raw) (lacks line_feed raw) (second_so _ (is_within_line raw) (first_so (is_raw_attribute raw) (list_all is_raw_attribute attributes) good)) in
    are_bytes-append (line capital_a raw) (concat (map (line capital_a) attributes)) (are_bytes-line capital_a raw refl within)
    (are_bytes-attributes attributes (second_so (is_raw_attribute raw) (list_all is_raw_attribute attributes) good))

-- ---- elements, by what is inside them

-- where the element has the right form, its text consists of bytes
abbrev IsOfBytes : (List ℕ → Bool) → Element → Type 0
IsOfBytes name e = is_well_formed name e ≡ true → are_bytes (element_text e) ≡ true

-- the same of an item
abbrev IsItemOfBytes : (List ℕ → Bool) → Item → Type 0
IsItemOfBytes name item = item_well_formed name item ≡ true → are_bytes (item_text item) ≡ true

items_of_bytes : (name : List ℕ → Bool) (pairs : List ((item : Item) × IsItemOfBytes name item)) → list_all (λ b. b) (map (item_well_formed name) (map (λ p. p.0) pairs)) ≡ true
    → are_bytes (concat (map item_text (map (λ p. p.0) pairs))) ≡ true
items_of_bytes name [] good = refl
items_of_bytes name (pair ∷ pairs) good =
    let items : List Item = map (λ p. p.0) pairs in
    let own = first_so (item_well_formed name pair.0) (list_all (λ b. b) (map (item_well_formed name) items)) good in
    let others = second_so (item_well_formed name pair.0) (list_all (λ b. b) (map (item_well_formed name) items)) good in
    are_bytes-append (item_text pair.0) (concat (map item_text items)) (pair.1 own) (items_of_bytes name pairs others)

element_of_bytes : (name : List ℕ → Bool) → ((n : List ℕ) → name n ≡ true → are_bytes n ≡ true) → (e : Element)
    → (list_all (λ b. b) (map (item_well_formed name) e.items) ≡ true → are_bytes (concat (map item_text e.items)) ≡ true) → IsOfBytes name e
element_of_bytes name names e inside good =
    let form = sym (well_formed_is name e) ∙ good in
    let own = name e.name in
    let few = nat_le (length e.attributes) 65535 in
    let raw = list_all is_raw_attribute e.attributes in
    let items = list_all (λ b. b) (map (item_well_formed name) e.items) in
    let prefix = first_so (own && few && raw) items form in
    let named = names e.name (first_so own few (first_so (own && few) raw prefix)) in
    let content = inside (second_so (own && few && raw) items form) in
    ap are_bytes (element_text_is e)
    ∙ are_bytes-append (concat (map (line capital_a) e.attributes)) _ (are_bytes-attributes e.attributes (second_so (own && few) raw prefix))
    (are_bytes-append (line left_parenthesis e.name) _ (are_bytes-line left_parenthesis e.name refl named)
    (are_bytes-append (concat (map item_text e.items)) (line right_parenthesis e.name) content (are_bytes-line right_parenthesis e.name refl named)))

item_of_bytes : (name : List ℕ → Bool) (y : Item-F ((item : Item) × IsItemOfBytes name item) ((e : Element) × IsOfBytes name e))
    → IsItemOfBytes name (roll-Item (map-Item ((item : Item) × IsItemOfBytes name item) ((e : Element) × IsOfBytes name e) Item Element (λ p. p.0) (λ p. p.0) y))
item_of_bytes name (Item-F.Text bytes) = subst (IsItemOfBytes name) (sym (rolls-Text bytes)) (λ good.
    ap are_bytes (item_text-Text bytes)
    ∙ are_bytes-line hyphen bytes refl (first_so (are_bytes bytes) (lacks line_feed bytes) (sym (item_well_formed-Text name bytes) ∙ good)))
item_of_bytes name (Item-F.Child pair) = subst (IsItemOfBytes name) (sym (rolls-Child pair.0)) (λ good.
    ap are_bytes (item_text-Child pair.0) ∙ pair.1 (sym (item_well_formed-Child name pair.0) ∙ good))

-- Where each name consists of bytes, so does the text of an element of the right form.
pub element_text-bytes : (name : List ℕ → Bool) → ((n : List ℕ) → name n ≡ true → are_bytes n ≡ true) → (e : Element) → IsOfBytes name e
element_text-bytes name names = ind-Element (IsItemOfBytes name) (IsOfBytes name)
    (λ x y is. subst (λ z. IsItemOfBytes name (roll-Item z)) is (item_of_bytes name y))
    (λ x y is. subst (λ z. IsOfBytes name (roll-Element z)) is (element_of_bytes name names (roll-Element (map-Element ((item : Item) × IsItemOfBytes name item) ((e : Element) × IsOfBytes name e) Item Element (λ p. p.0) (λ p. p.0) y)) (items_of_bytes name y.items)))

-- The text of a document consists of bytes.
pub text-bytes : (d : Doc) → is_document d ≡ true → are_bytes (text d) ≡ true
text-bytes d good = element_text-bytes is_name is_name-bytes d.root (first_so (is_well_formed is_name d.root) (nat_le (height d.root) 255) good)

-- So does the text of a view.
pub view_text-bytes : (d : Doc) → is_view_document d ≡ true → are_bytes (text d) ≡ true
view_text-bytes d good = element_text-bytes is_view_name is_view_name-bytes d.root (first_so (is_well_formed is_view_name d.root) (nat_le (height d.root) 255) good)
