-- Each name in a document is known under the names by which a list spells it, and under the
-- document's dictionary. So the document can be walked under its dictionary.
use Rattle.std.proofs.Common.{◌≡◌, ℕ, ◌^◌, ◌-◌, ◌<◌, ◌≤◌, Bool, true, false, not, nat_eq, nat_le, ◌&&◌, ◌||◌, Some, is_some, List, [], ◌∷◌, ◌++◌, length, map, ap, sym, ◌∙◌, refl, arith}
use Rattle.std.specs.List.{list_all, list_any, flat_map}
use Rattle.std.specs.Cmp.{first_so, second_so}
use Rattle.std.specs.Cmp.Lexicographic.{pointwise}
use Rattle.std.proofs.lemmas.Cmp.{nat_list_eq_equiv}
use Rattle.std.proofs.lemmas.List.Folds.{list_all-append, list_any-append}
use Rattle.acl_model.specs.Names.{is_name}
use Rattle.acl_model.specs.Text.{text}
use Rattle.acl_model.specs.Document.{is_raw_attribute, is_dummy_name, is_view_name, is_well_formed, item_well_formed, height, is_document, is_view_document}
use Rattle.acl_model.specs.Dictionary.{start_names, item_start_names, has_name, with_name, with_names, dictionary, are_distinct}
use Rattle.acl_model.specs.declared.document.Doc.{Doc}
use Rattle.acl_model.specs.declared.document.Item.{Item}
use Rattle.acl_model.specs.declared.document.Item.TheVariants as item
use Rattle.acl_model.specs.declared.document.Element.{Element}
use Rattle.acl_model.proofs.DictionaryLaws.{start_names_is, item_start_names-Text, item_start_names-Child, with_name-there, with_name-new, are_new-last}
use Rattle.acl_model.proofs.FormEquations.{well_formed_is, item_well_formed-Text, item_well_formed-Child}
use Rattle.acl_walk.specs.Spelling.{tag_of, SpellsElement, an_element, SpellsItems, no_item, a_text, a_child, Spells, a_document}
use Rattle.acl_walk.specs.inside.TagLaws.{tag_of-name, is_some-name_number}
use Rattle.acl_walk.specs.inside.TreeInduction.{Each, element_by_parts}
use Rattle.acl_walk.specs.TreeState.{is_known, knows, CanBeWalked}
use Rattle.acl_walk.specs.declared.event.Event.{Event}
use Rattle.acl_walk.proofs.BoundLaws.{few-document_events}

both : (a b : Bool) → a ≡ true → b ≡ true → (a && b) ≡ true
both a b p q = ap (λ x. x && b) p ∙ q

or_true : (b : Bool) → (b || true) ≡ true
or_true true = refl
or_true false = refl

-- ---- what is spelled is known

known_by_dummy : (names : List (List ℕ)) (name : List ℕ) (tag : ℕ) (b : Bool) → is_dummy_name name ≡ b → tag_of names name ≡ Some tag → is_known names name ≡ true
known_by_dummy names name tag true dummy found = ap (λ b. b || has_name names name) dummy
known_by_dummy names name tag false other found =
    ap (λ b. b || has_name names name) other ∙ sym (is_some-name_number names name) ∙ ap is_some (sym (tag_of-name names name other) ∙ found)

-- the names of items
abbrev names_of_items : List Item → List (List ℕ)
names_of_items items = flat_map {X = List (List ℕ)} (λ starts. starts) (map item_start_names items)

mutual
  known_element : (names : List (List ℕ)) (e : Element) (own : List Event) → SpellsElement names e own → list_all (is_known names) (start_names e) ≡ true
  known_element names e own (an_element ns el tag row heads contents numbered covers attributes items) =
      ap (list_all (is_known names)) (start_names_is e)
      ∙ both (is_known names e.name) (list_all (is_known names) (names_of_items e.items)) (known_by_dummy names e.name tag (is_dummy_name e.name) refl numbered)
      (known_items names e.items contents items)

  known_items : (names : List (List ℕ)) (items : List Item) (contents : List Event) → SpellsItems names items contents
      → list_all (is_known names) (names_of_items items) ≡ true
  known_items names items contents (no_item ns) = refl
  known_items names items contents (a_text ns bytes parts more events joins spells) =
      ap (λ starts. list_all (is_known names) (starts ++ names_of_items more)) (item_start_names-Text bytes) ∙ known_items names more events spells
  known_items names items contents (a_child ns e own more events spelled spells) =
      ap (λ starts. list_all (is_known names) (starts ++ names_of_items more)) (item_start_names-Child e)
      ∙ list_all-append (is_known names) (start_names e) (names_of_items more)
      ∙ both (list_all (is_known names) (start_names e)) (list_all (is_known names) (names_of_items more)) (known_element names e own spelled) (known_items names more events spells)

-- Each name in a document is known under the names by which it is spelled.
pub knows-spelled : (names : List (List ℕ)) (d : Doc) (list : List Event) → Spells names (Some d) list → knows names d ≡ true
knows-spelled names d list (a_document ns doc own spells) = known_element names d.root own spells

-- ---- a dictionary

distinct_by : (names : List (List ℕ)) (name : List ℕ) (b : Bool) → has_name names name ≡ b → are_distinct names ≡ true → are_distinct (with_name names name) ≡ true
distinct_by names name true there distinct = ap are_distinct (with_name-there names name there) ∙ distinct
distinct_by names name false new distinct =
    ap are_distinct (with_name-new names name new) ∙ are_new-last [] names name ∙ both (are_distinct names) (not (has_name names name)) distinct (ap not new)

-- new names added to distinct ones keep them distinct
distinct-with_names : (names more : List (List ℕ)) → are_distinct names ≡ true → are_distinct (with_names names more) ≡ true
distinct-with_names names [] distinct = distinct
distinct-with_names names (name ∷ more) distinct = distinct-with_names (with_name names name) more (distinct_by names name (has_name names name) refl distinct)

had_by : (names : List (List ℕ)) (name other : List ℕ) (b : Bool) → has_name names name ≡ b → has_name names other ≡ true → has_name (with_name names name) other ≡ true
had_by names name other true there has = ap (λ ns. has_name ns other) (with_name-there names name there) ∙ has
had_by names name other false new has =
    ap (λ ns. has_name ns other) (with_name-new names name new) ∙ list_any-append (pointwise nat_eq other) names (name ∷ [])
    ∙ ap (λ b. b || list_any (pointwise nat_eq other) (name ∷ [])) has

-- a name stays among the names where more are added
had-with_names : (names more : List (List ℕ)) (name : List ℕ) → has_name names name ≡ true → has_name (with_names names more) name ≡ true
had-with_names names [] name has = has
had-with_names names (other ∷ more) name has = had-with_names (with_name names other) more name (had_by names other name (has_name names other) refl has)

joined_by : (names : List (List ℕ)) (name : List ℕ) (b : Bool) → has_name names name ≡ b → has_name (with_name names name) name ≡ true
joined_by names name true there = ap (λ ns. has_name ns name) (with_name-there names name there) ∙ there
joined_by names name false new =
    ap (λ ns. has_name ns name) (with_name-new names name new) ∙ list_any-append (pointwise nat_eq name) names (name ∷ [])
    ∙ ap (λ b. list_any (pointwise nat_eq name) names || (b || false)) (nat_list_eq_equiv.refl name) ∙ or_true (list_any (pointwise nat_eq name) names)

-- names that are added are known
known-with_names : (names more : List (List ℕ)) → list_all (is_known (with_names names more)) more ≡ true
known-with_names names [] = refl
known-with_names names (name ∷ more) =
    let all : List (List ℕ) = with_names (with_name names name) more in
    let has : has_name all name ≡ true = had-with_names (with_name names name) more name (joined_by names name (has_name names name) refl) in
    both (is_known all name) (list_all (is_known all) more) (ap (λ b. is_dummy_name name || b) has ∙ or_true (is_dummy_name name)) (known-with_names (with_name names name) more)

-- ---- documents are view documents

-- Each name is a name of a view document.
view_name : (name : List ℕ) → is_name name ≡ true → is_view_name name ≡ true
view_name name good = ap (λ b. b || is_dummy_name name) good

-- A well-formed element of a document is well-formed in a view document.
abbrev IsInView : Element → Type 0
IsInView e = is_well_formed is_name e ≡ true → is_well_formed is_view_name e ≡ true

-- The same is true of an item.
abbrev ItemIsInView : Item → Type 0
ItemIsInView i = item_well_formed is_name i ≡ true → item_well_formed is_view_name i ≡ true

text_in_view : (bytes : List ℕ) → ItemIsInView (item.Text bytes)
text_in_view bytes good = item_well_formed-Text is_view_name bytes ∙ sym (item_well_formed-Text is_name bytes) ∙ good

child_in_view : (e : Element) → IsInView e → ItemIsInView (item.Child e)
child_in_view e inside good = item_well_formed-Child is_view_name e ∙ inside (sym (item_well_formed-Child is_name e) ∙ good)

items_in_view : (items : List Item) → Each ItemIsInView items → list_all (λ b. b) (map (item_well_formed is_name) items) ≡ true
    → list_all (λ b. b) (map (item_well_formed is_view_name) items) ≡ true
items_in_view [] each good = refl
items_in_view (i ∷ items) each good =
    both (item_well_formed is_view_name i) (list_all (λ b. b) (map (item_well_formed is_view_name) items))
    (each.0 (first_so (item_well_formed is_name i) (list_all (λ b. b) (map (item_well_formed is_name) items)) good))
    (items_in_view items each.1 (second_so (item_well_formed is_name i) (list_all (λ b. b) (map (item_well_formed is_name) items)) good))

element_in_view : (e : Element) → Each ItemIsInView e.items → IsInView e
element_in_view e each good =
    let few : Bool = nat_le (length e.attributes) 65535 in
    let raw : Bool = list_all is_raw_attribute e.attributes in
    let items : Bool = list_all (λ b. b) (map (item_well_formed is_name) e.items) in
    let all : (is_name e.name && few && raw && items) ≡ true = sym (well_formed_is is_name e) ∙ good in
    let heads : (is_name e.name && few && raw) ≡ true = first_so (is_name e.name && few && raw) items all in
    let two : (is_name e.name && few) ≡ true = first_so (is_name e.name && few) raw heads in
    well_formed_is is_view_name e
    ∙ both (is_view_name e.name && few && raw) (list_all (λ b. b) (map (item_well_formed is_view_name) e.items))
    (both (is_view_name e.name && few) raw (both (is_view_name e.name) few (view_name e.name (first_so (is_name e.name) few two)) (second_so (is_name e.name) few two))
    (second_so (is_name e.name && few) raw heads))
    (items_in_view e.items each (second_so (is_name e.name && few && raw) items all))

-- A document is a view document.
pub document_in_view : (d : Doc) → is_document d ≡ true → is_view_document d ≡ true
document_in_view d good =
    both (is_well_formed is_view_name d.root) (nat_le (height d.root) 255)
    (element_by_parts IsInView ItemIsInView text_in_view child_in_view element_in_view d.root (first_so (is_well_formed is_name d.root) (nat_le (height d.root) 255) good))
    (second_so (is_well_formed is_name d.root) (nat_le (height d.root) 255) good)

-- A document can be walked under its dictionary, if that has at most 256 names and the text is
-- short.
pub document_can_be_walked : (d : Doc) → is_document d ≡ true → length (dictionary d) ≤ 256 → length (text d) < 2 ^ 64 - 1
    → CanBeWalked (record { doc = d; names = dictionary d })
document_can_be_walked d good few short = record {
  formed = document_in_view d good;
  names = record { few = few; distinct = distinct-with_names [] (start_names d.root) refl };
  known = known-with_names [] (start_names d.root);
  short = omega (arith, short, few-document_events (dictionary d) d);
}
