-- An element that has the right form under one name test has it under each weaker one. So a document is a view
-- document.
use Rattle.std.proofs.Common.{◌≡◌, ℕ, Bool, true, ◌&&◌, ◌||◌, nat_le, List, [], ◌∷◌, map, length, refl, ap, sym, ◌∙◌, subst}
use Rattle.std.specs.Cmp.{first_so, second_so}
use Rattle.std.specs.List.{list_all}
use Rattle.acl_model.specs.Names.{is_name}
use Rattle.acl_model.specs.Document.{is_raw_attribute, is_well_formed, item_well_formed, height, is_document, is_dummy_name, is_view_name, is_view_document}
use Rattle.acl_model.proofs.FormEquations.{well_formed_is, item_well_formed-Text, item_well_formed-Child}
use Rattle.acl_model.specs.declared.document.Doc.{Doc}
use Rattle.acl_model.specs.declared.document.Item.{Item, roll-Item}
use Rattle.acl_model.specs.declared.document.Element.{Element, roll-Element}
use Rattle.acl_model.specs.declared.document.Item.TheVariants.{rolls-Text, rolls-Child}
use Rattle.acl_model.specs.declared.document.Item.TheOpen.{Item-F}
use Rattle.acl_model.specs.declared.document.Item.TheFolds.{ind-Element, map-Item, map-Element}

-- each name that passes the first test passes the second
module _ (one other : List ℕ → Bool) (passes : (name : List ℕ) → one name ≡ true → other name ≡ true) where
  -- an element that has the right form under the first test has it under the second
  abbrev Passes : Element → Type 0
  Passes e = is_well_formed one e ≡ true → is_well_formed other e ≡ true

  -- the same for an item
  abbrev ItemPasses : Item → Type 0
  ItemPasses item = item_well_formed one item ≡ true → item_well_formed other item ≡ true

  items_pass : (pairs : List ((item : Item) × ItemPasses item)) → list_all (λ b. b) (map (item_well_formed one) (map (λ p. p.0) pairs)) ≡ true
      → list_all (λ b. b) (map (item_well_formed other) (map (λ p. p.0) pairs)) ≡ true
  items_pass [] good = refl
  items_pass (pair ∷ pairs) good =
      let others : Bool = list_all (λ b. b) (map (item_well_formed one) (map (λ p. p.0) pairs)) in
      rw (pair.1 (first_so (item_well_formed one pair.0) others good), items_pass pairs (second_so (item_well_formed one pair.0) others good)) refl

  element_passes : (e : Element) → (list_all (λ b. b) (map (item_well_formed one) e.items) ≡ true → list_all (λ b. b) (map (item_well_formed other) e.items) ≡ true) → Passes e
  element_passes e inside good =
      let form = sym (well_formed_is one e) ∙ good in
      let few = nat_le (length e.attributes) 65535 in
      let raw = list_all is_raw_attribute e.attributes in
      let items = list_all (λ b. b) (map (item_well_formed one) e.items) in
      let prefix = first_so (one e.name && few && raw) items form in
      let named = first_so (one e.name && few) raw prefix in
      rw (
        well_formed_is other e,
        passes e.name (first_so (one e.name) few named),
        second_so (one e.name) few named,
        second_so (one e.name && few) raw prefix,
        inside (second_so (one e.name && few && raw) items form),
      ) refl

  item_passes : (y : Item-F ((item : Item) × ItemPasses item) ((e : Element) × Passes e))
      → ItemPasses (roll-Item (map-Item ((item : Item) × ItemPasses item) ((e : Element) × Passes e) Item Element (λ p. p.0) (λ p. p.0) y))
  item_passes (Item-F.Text bytes) = subst ItemPasses (sym (rolls-Text bytes)) (λ good. item_well_formed-Text other bytes ∙ sym (item_well_formed-Text one bytes) ∙ good)
  item_passes (Item-F.Child pair) = subst ItemPasses (sym (rolls-Child pair.0)) (λ good. item_well_formed-Child other pair.0 ∙ pair.1 (sym (item_well_formed-Child one pair.0) ∙ good))

  -- An element that has the right form under one test has it under each test that at least the same names pass.
  pub well_formed-passes : (e : Element) → Passes e
  well_formed-passes = ind-Element ItemPasses Passes
      (λ x y is. subst (λ z. ItemPasses (roll-Item z)) is (item_passes y))
      (λ x y is. subst (λ z. Passes (roll-Element z)) is (element_passes (roll-Element (map-Element ((item : Item) × ItemPasses item) ((e : Element) × Passes e) Item Element (λ p. p.0) (λ p. p.0) y)) (items_pass y.items)))

-- A document is a view document.
pub document_form : (d : Doc) → is_document d ≡ true → is_view_document d ≡ true
document_form d good =
    rw (
      well_formed-passes is_name is_view_name (λ name own. ap (λ b. b || is_dummy_name name) own) d.root (first_so (is_well_formed is_name d.root) (nat_le (height d.root) 255) good),
      second_so (is_well_formed is_name d.root) (nat_le (height d.root) 255) good,
    ) refl
