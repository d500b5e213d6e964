-- The string-value of an element and of each kind of item, and the descendants of an element, as equations. A fold
-- doesn't compute by itself, so proofs cite these.
use Rattle.std.proofs.Common.{◌≡◌, ℕ, List, [], ◌∷◌, map, ap, sym, ◌∙◌}
use Rattle.std.proofs.lemmas.List.Folds.{flat_map-map}
use Rattle.std.specs.List.{concat, flat_map}
use Rattle.acl_model.specs.Values.{string_value, value_of_item}
use Rattle.acl_model.specs.Predicates.{descendants, below_item, below_layer, below_element}
use Rattle.acl_model.specs.declared.document.Item.{Item}
use Rattle.acl_model.specs.declared.document.Element.{Element, out-Element, roll-out-Element}
use Rattle.acl_model.specs.declared.document.Item.TheVariants.{Text, Child, rolls-Text, rolls-Child}
use Rattle.acl_model.specs.declared.document.Item.TheOpen.{Item-F}
use Rattle.acl_model.specs.declared.document.Item.TheFolds.{fold_out-Element, fold-roll-Item, para-roll-Item, para-roll-Element}

-- the string-value of an element, by its items
pub string_value_is : (e : Element) → string_value e ≡ concat (map value_of_item e.items)
unfolding string_value value_of_item
string_value_is e = fold_out-Element (List ℕ) (List ℕ) _ _ e

-- what a text contributes
pub value_of_item-Text : (bytes : List ℕ) → value_of_item (Text bytes) ≡ bytes
unfolding value_of_item
value_of_item-Text bytes = ap value_of_item (sym (rolls-Text bytes)) ∙ fold-roll-Item (List ℕ) (List ℕ) _ _ (Item-F.Text bytes)

-- what a child element contributes
pub value_of_item-Child : (e : Element) → value_of_item (Child e) ≡ string_value e
unfolding string_value value_of_item
value_of_item-Child e = ap value_of_item (sym (rolls-Child e)) ∙ fold-roll-Item (List ℕ) (List ℕ) _ _ (Item-F.Child e)

-- these three equations, as a rule set
pub ruleset value_equations = (string_value_is, value_of_item-Text, value_of_item-Child)

-- ---- descendants

-- A text contributes no element.
pub below_item-Text : (bytes : List ℕ) → below_item (Text bytes) ≡ []
unfolding below_item
below_item-Text bytes = ap below_item (sym (rolls-Text bytes)) ∙ para-roll-Item (List Element) (List Element) below_layer below_element (Item-F.Text bytes)

-- A child element contributes itself and its descendants.
pub below_item-Child : (e : Element) → below_item (Child e) ≡ e ∷ descendants e
unfolding below_item descendants
below_item-Child e = ap below_item (sym (rolls-Child e)) ∙ para-roll-Item (List Element) (List Element) below_layer below_element (Item-F.Child e)

-- The descendants of an element are what its items contribute.
pub descendants_is : (e : Element) → descendants e ≡ flat_map below_item e.items
unfolding below_item descendants
descendants_is e =
    ap descendants (sym (roll-out-Element e)) ∙ para-roll-Element (List Element) (List Element) below_layer below_element (out-Element e)
    ∙ flat_map-map {A = Item} {B = Item × List Element} {C = Element} (λ item. item.1) (λ y. (y, below_item y)) e.items

-- these three equations, as a rule set
pub ruleset descendant_equations = (below_item-Text, below_item-Child, descendants_is)
