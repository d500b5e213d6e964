-- Induction on elements: a property that is true of an element whenever it is true of its children is true of each
-- element.
use Rattle.std.proofs.Common.{◌≡◌, Some, List, [], ◌∷◌, map, sym, subst, ap, ◌∙◌, inl, inr}
use Rattle.std.proofs.lemmas.Option.{same_Some}
use Rattle.acl_model.specs.Places.{element_in, element_of, children}
use Rattle.acl_model.proofs.Members.{Has, has_none, has_cases}
use Rattle.acl_model.proofs.ViewEquations.{item_cases, element_of-Child}
use Rattle.acl_model.proofs.GrantLaws.{none_is_not_some, children-Text, children-Child}
use Rattle.acl_model.specs.declared.document.Item.{Item, roll-Item, out-roll-Item}
use Rattle.acl_model.specs.declared.document.Element.{Element, roll-Element}
use Rattle.acl_model.specs.declared.document.Item.TheOpen.{Item-F}
use Rattle.acl_model.specs.declared.document.Item.TheFolds.{ind-Element, map-Item, map-Element}

module _ (P : Element → Type 0) where
  -- the property for the element of an item
  abbrev AtItem : Item → Type 0
  AtItem item = (e : Element) → element_of item ≡ Some e → P e

  at_children : (pairs : List ((item : Item) × AtItem item)) (c : Element) → Has (children (map (λ p. p.0) pairs)) c → P c
  at_children [] c h = absurd (has_none c h)
  at_children (pair ∷ pairs) c h =
      let items : List Item = map (λ p. p.0) pairs in
      item_cases (λ x. AtItem x → Has (children (x ∷ items)) c → P c)
      (λ bytes holds there. at_children pairs c (subst (λ es. Has es c) (children-Text bytes items) there))
      (λ e holds there. elim (has_cases e c (children items) (subst (λ es. Has es c) (children-Child e items) there)) [
        | inl same ↦ subst P same (holds e (element_of-Child e))
        | inr later ↦ at_children pairs c later
      ])
      pair.0 pair.1 h

  at_layer : (y : Item-F ((item : Item) × AtItem item) ((e : Element) × P e))
      → AtItem (roll-Item (map-Item ((item : Item) × AtItem item) ((e : Element) × P e) Item Element (λ p. p.0) (λ p. p.0) y))
  at_layer (Item-F.Text bytes) e told = absurd (none_is_not_some e (sym (ap element_in (out-roll-Item (Item-F.Text bytes))) ∙ told))
  at_layer (Item-F.Child pair) e told = subst P (same_Some pair.0 e (sym (ap element_in (out-roll-Item (Item-F.Child pair.0))) ∙ told)) pair.1

  pub by_children : ((e : Element) → ((c : Element) → Has (children e.items) c → P c) → P e) → (e : Element) → P e
  by_children further = ind-Element AtItem P
      (λ x y is. subst (λ z. AtItem (roll-Item z)) is (at_layer y))
      (λ x y is. subst (λ z. P (roll-Element z)) is (further (roll-Element (map-Element ((item : Item) × AtItem item) ((e : Element) × P e) Item Element (λ p. p.0) (λ p. p.0) y)) (at_children y.items)))
