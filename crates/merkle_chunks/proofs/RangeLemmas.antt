-- The header of a document that has a stream is in its ranges.
use Rattle.std.proofs.Common.{◌≡◌, ℕ, ◌+◌, ◌*◌, ◌≤◌, Bool, true, false, ◌&&◌, nat_le, nat_lt, List, [], ◌∷◌, ◌++◌, map, length, refl, ap, sym, ◌∙◌, subst, arith, length-append}
use Rattle.std.specs.Cmp.{first_so, second_so}
use Rattle.std.specs.List.{list_all, flat_map, concat}
use Rattle.std.proofs.lemmas.Bool.{true≢false}
use Rattle.std.proofs.lemmas.Bool.Decides.{nat_tests}
use Rattle.std.proofs.lemmas.List.Folds.{list_all-append}
use Rattle.acl_model.specs.Names.{is_name}
use Rattle.acl_model.specs.Document.{is_raw_attribute, is_well_formed, item_well_formed, height, is_document}
use Rattle.acl_model.specs.Width.{least_width}
use Rattle.acl_model.specs.Dictionary.{has_name, with_name, with_names, start_names, item_start_names, dictionary, dictionary_section, spelled_name}
use Rattle.acl_model.specs.Stream.{Segment, head, finish, Branch, size, head_bits, numbers_with, part_segments, element_part, branch_of, tree_at, tree_segments, tree_section, has_stream}
use Rattle.acl_model.proofs.FormEquations.{well_formed_is, item_well_formed-Child, height_is}
use Rattle.acl_model.proofs.DictionaryLaws.{start_names_is, item_start_names-Text, item_start_names-Child, with_name-there, with_name-new, with_names-longer}
use Rattle.acl_model.proofs.SizeLaws.{size-cons, length-bytes_of}
use Rattle.acl_model.specs.declared.document.Doc.{Doc}
use Rattle.acl_model.specs.declared.document.Item.{Item, roll-Item}
use Rattle.acl_model.specs.declared.document.Element.{Element, roll-Element}
use Rattle.acl_model.specs.declared.document.Item.TheVariants.{rolls-Text, rolls-Child}
use Rattle.acl_model.specs.declared.document.Item.TheOpen.{Item-F}
use Rattle.acl_model.specs.declared.document.Item.TheFolds.{ind-Element, map-Item, map-Element}
use Rattle.merkle_chunks.specs.HeaderBytes.{IsInRange}
use Rattle.merkle_chunks.specs.File.{document_header}
use Rattle.merkle_chunks.proofs.FileLemmas.{length-key_check}

le_so : (a b : ℕ) → nat_le a b ≡ true → a ≤ b
le_so a b so = grind (arith, nat_tests)

-- ---- the names of a document are names

abbrev StartsNames : Element → Type 0
StartsNames e = is_well_formed is_name e ≡ true → list_all is_name (start_names e) ≡ true

abbrev ItemStartsNames : Item → Type 0
ItemStartsNames item = item_well_formed is_name item ≡ true → list_all is_name (item_start_names item) ≡ true

items_start : (pairs : List ((item : Item) × ItemStartsNames item)) → list_all (λ b. b) (map (item_well_formed is_name) (map (λ p. p.0) pairs)) ≡ true
    → list_all is_name (flat_map (λ starts. starts) (map item_start_names (map (λ p. p.0) pairs))) ≡ true
items_start [] good = refl
items_start (pair ∷ pairs) good =
    let items : List Item = map (λ p. p.0) pairs in
    let own = first_so (item_well_formed is_name pair.0) (list_all (λ b. b) (map (item_well_formed is_name) items)) good in
    let others = second_so (item_well_formed is_name pair.0) (list_all (λ b. b) (map (item_well_formed is_name) items)) good in
    list_all-append is_name (item_start_names pair.0) (flat_map (λ starts. starts) (map item_start_names items)) ∙ rw (pair.1 own, items_start pairs others) refl

element_starts_names : (e : Element)
    → (list_all (λ b. b) (map (item_well_formed is_name) e.items) ≡ true → list_all is_name (flat_map (λ starts. starts) (map item_start_names e.items)) ≡ true) → StartsNames e
element_starts_names e inside good =
    let form = sym (well_formed_is is_name e) ∙ good in
    let own = is_name e.name in
    let few = nat_le (length e.attributes) 65535 in
    let raw = list_all is_raw_attribute e.attributes in
    let items = list_all (λ b. b) (map (item_well_formed is_name) e.items) in
    let prefix = first_so (own && few && raw) items form in
    ap (list_all is_name) (start_names_is e)
    ∙ rw (first_so own few (first_so (own && few) raw prefix), inside (second_so (own && few && raw) items form)) refl

item_starts_names : (y : Item-F ((item : Item) × ItemStartsNames item) ((e : Element) × StartsNames e))
    → ItemStartsNames (roll-Item (map-Item ((item : Item) × ItemStartsNames item) ((e : Element) × StartsNames e) Item Element (λ p. p.0) (λ p. p.0) y))
item_starts_names (Item-F.Text bytes) = subst ItemStartsNames (sym (rolls-Text bytes)) (λ good. ap (list_all is_name) (item_start_names-Text bytes))
item_starts_names (Item-F.Child pair) = subst ItemStartsNames (sym (rolls-Child pair.0)) (λ good.
    ap (list_all is_name) (item_start_names-Child pair.0) ∙ pair.1 (sym (item_well_formed-Child is_name pair.0) ∙ good))

names_started : (e : Element) → StartsNames e
names_started = ind-Element ItemStartsNames StartsNames
    (λ x y is. subst (λ z. ItemStartsNames (roll-Item z)) is (item_starts_names y))
    (λ x y is. subst (λ z. StartsNames (roll-Element z)) is (element_starts_names (roll-Element (map-Element ((item : Item) × ItemStartsNames item) ((e : Element) × StartsNames e) Item Element (λ p. p.0) (λ p. p.0) y)) (items_start y.items)))

one_joined : (names : List (List ℕ)) (name : List ℕ) (there : Bool) → has_name names name ≡ there → list_all is_name names ≡ true → is_name name ≡ true → list_all is_name (with_name names name) ≡ true
one_joined names name true is good own = ap (list_all is_name) (with_name-there names name is) ∙ good
one_joined names name false is good own = ap (list_all is_name) (with_name-new names name is) ∙ list_all-append is_name names (name ∷ []) ∙ rw (good, own) refl

-- names with more names added are names
names_joined : (names more : List (List ℕ)) → list_all is_name names ≡ true → list_all is_name more ≡ true → list_all is_name (with_names names more) ≡ true
names_joined names [] good others = good
names_joined names (name ∷ more) good others =
    let own = first_so (is_name name) (list_all is_name more) others in
    names_joined (with_name names name) more (one_joined names name (has_name names name) refl good own) (second_so (is_name name) (list_all is_name more) others)

pub names_of_document : (d : Doc) → is_document d ≡ true → list_all is_name (dictionary d) ≡ true
names_of_document d good = names_joined [] (start_names d.root) refl (names_started d.root (first_so (is_well_formed is_name d.root) (nat_le (height d.root) 255) good))

-- ---- its dictionary section

-- a name has at least one byte, and one more for its length
section_long : (names : List (List ℕ)) → list_all is_name names ≡ true → 2 * length names ≤ length (concat (map spelled_name names))
section_long [] good = omega arith
section_long ([] ∷ names) good = absurd (true≢false (sym (first_so false (list_all is_name names) good)))
section_long ((b ∷ bytes) ∷ names) good =
    omega (arith, length-append (spelled_name (b ∷ bytes)) (concat (map spelled_name names)), section_long names (second_so (is_name (b ∷ bytes)) (list_all is_name names) good))

-- ---- its tree section

-- a head has at least one bit, and so at least one byte
head_long : (members : List ℕ) (w tag : ℕ) (below : List ℕ) (long : ℕ) (more : List Segment)
    → 1 ≤ size (head tag below long (head_bits members w tag below long) ∷ more)
unfolding head_bits
head_long members w tag below long more =
    omega (arith, size-cons (head tag below long (head_bits members w tag below long)) more, length-bytes_of (head_bits members w tag below long))

part_long : (members : List ℕ) (w : ℕ) (b : Branch) → 1 ≤ size (part_segments members w (element_part b))
part_long members w b = head_long members w b.tag b.below (size b.content) (b.content ++ (finish b.tag ∷ []))

tree_long : (d : Doc) → 1 ≤ length (tree_section d)
unfolding tree_segments size
tree_long d =
    let names : ℕ = length (dictionary d) in
    let root : Branch = branch_of (dictionary d) d.root in
    part_long (numbers_with (λ n. nat_lt n names)) (least_width (λ w. size (tree_at names root w))) root

-- ---- the header

module _ (d : Doc) where
  -- the names that the items of the root start
  later : List (List ℕ)
  later = flat_map (λ starts. starts) (map item_start_names d.root.items)

  first_name : with_name [] d.root.name ≡ d.root.name ∷ []
  first_name = with_name-new [] d.root.name refl

  some_names : 1 ≤ length (dictionary d)
  unfolding later
  some_names =
      omega (
        arith,
        ap (λ (names : List (List ℕ)). length (with_names [] names)) (start_names_is d.root),
        with_names-longer (with_name [] d.root.name) later,
        ap length first_name,
      )

  module _ (good : is_document d ≡ true) (within : has_stream d ≡ true) where
    few_names : nat_le (length (dictionary d)) 256 ≡ true
    few_names = first_so (nat_le (length (dictionary d)) 256) (nat_le (length (dictionary_section (dictionary d)) + length (tree_section d)) 33554432) within

    both_fit : nat_le (length (dictionary_section (dictionary d)) + length (tree_section d)) 33554432 ≡ true
    both_fit = second_so (nat_le (length (dictionary d)) 256) (nat_le (length (dictionary_section (dictionary d)) + length (tree_section d)) 33554432) within

    not_deep : nat_le (height d.root) 255 ≡ true
    not_deep = second_so (is_well_formed is_name d.root) (nat_le (height d.root) 255) good

    pub document_header-in_range : (key : List ℕ) → IsInRange (document_header d key)
    document_header-in_range key = record {
      tree = tree_long d;
      some_tags = some_names;
      few_tags = le_so (length (dictionary d)) 256 few_names;
      dictionary = omega (arith, section_long (dictionary d) (names_of_document d good));
      some_depth = omega (arith, height_is d.root);
      low_depth = le_so (height d.root) 255 not_deep;
      together = omega (arith, le_so (length (dictionary_section (dictionary d)) + length (tree_section d)) 33554432 both_fit);
      check = length-key_check key;
    }
