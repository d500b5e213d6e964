-- Induction over trees: what is true of an element and of an item where it is true of their parts
-- is true of all elements and items.
use Rattle.std.proofs.Common.{ℕ, List, [], ◌∷◌, map, sym, subst}
use Rattle.acl_model.specs.declared.document.Item.{Item, roll-Item}
use Rattle.acl_model.specs.declared.document.Element.{Element, roll-Element}
use Rattle.acl_model.specs.declared.document.Item.TheVariants.{Text, Child, rolls-Text, rolls-Child}
use Rattle.acl_model.specs.declared.document.Item.TheOpen.{Item-F, Element-F}
use Rattle.acl_model.specs.declared.document.Item.TheFolds.{ind-Item, ind-Element, map-Item, map-Element}

-- it is true of each of these items
abbrev pub Each : (Item → Type 0) → List Item → Type 0
Each Q [] = Unit {0}
Each Q (item ∷ items) = Q item × Each Q items

module _ (P : Element → Type 0) (Q : Item → Type 0) (of_text : (bytes : List ℕ) → Q (Text bytes)) (of_child : (e : Element) → P e → Q (Child e))
    (of_element : (e : Element) → Each Q e.items → P e) where
  at_layer : (y : Item-F ((item : Item) × Q item) ((e : Element) × P e))
      → Q (roll-Item (map-Item ((item : Item) × Q item) ((e : Element) × P e) Item Element (λ p. p.0) (λ p. p.0) y))
  at_layer (Item-F.Text bytes) = subst Q (sym (rolls-Text bytes)) (of_text bytes)
  at_layer (Item-F.Child pair) = subst Q (sym (rolls-Child pair.0)) (of_child pair.0 pair.1)

  each : (pairs : List ((item : Item) × Q item)) → Each Q (map (λ p. p.0) pairs)
  each [] = tt
  each (pair ∷ pairs) = (pair.1, each pairs)

  at_element : (y : Element-F ((item : Item) × Q item) ((e : Element) × P e))
      → P (roll-Element (map-Element ((item : Item) × Q item) ((e : Element) × P e) Item Element (λ p. p.0) (λ p. p.0) y))
  at_element y = of_element (roll-Element (map-Element ((item : Item) × Q item) ((e : Element) × P e) Item Element (λ p. p.0) (λ p. p.0) y)) (each y.items)

  -- it is true of each element
  pub element_by_parts : (e : Element) → P e
  element_by_parts = ind-Element Q P
      (λ x y is. subst (λ z. Q (roll-Item z)) is (at_layer y))
      (λ x y is. subst (λ z. P (roll-Element z)) is (at_element y))

  -- it is true of each item
  pub item_by_parts : (item : Item) → Q item
  item_by_parts = ind-Item Q P
      (λ x y is. subst (λ z. Q (roll-Item z)) is (at_layer y))
      (λ x y is. subst (λ z. P (roll-Element z)) is (at_element y))

  -- it is true of each item of a list
  pub each_by_parts : (items : List Item) → Each Q items
  each_by_parts [] = tt
  each_by_parts (item ∷ items) = (item_by_parts item, each_by_parts items)
