-- The form and the height of an element and of each kind of item, as equations. A fold doesn't compute by itself, so
-- proofs cite these.
use Rattle.std.proofs.Common.{◌≡◌, ℕ, ◌+◌, Bool, List, length, map, ap, sym, ◌∙◌, nat_le, ◌&&◌}
use Rattle.std.specs.List.{list_all}
use Rattle.acl_model.specs.Lines.{is_within_line}
use Rattle.acl_model.specs.Document.{is_raw_attribute, is_well_formed, item_well_formed, greatest, height, height_of_item}
use Rattle.acl_model.specs.declared.document.Element.{Element}
use Rattle.acl_model.specs.declared.document.Item.TheVariants.{Text, Child, rolls-Text, rolls-Child}
use Rattle.acl_model.specs.declared.document.Item.TheOpen.{Item-F}
use Rattle.acl_model.specs.declared.document.Item.TheFolds.{fold_out-Element, fold-roll-Item}

-- the form of an element, by its items
pub well_formed_is : (name : List ℕ → Bool) (e : Element) → is_well_formed name e ≡ (name e.name && nat_le (length e.attributes) 65535 && list_all is_raw_attribute e.attributes && list_all (λ b. b) (map (item_well_formed name) e.items))
unfolding is_well_formed item_well_formed
well_formed_is name e = fold_out-Element Bool Bool _ _ e

-- the form of a text
pub item_well_formed-Text : (name : List ℕ → Bool) (bytes : List ℕ) → item_well_formed name (Text bytes) ≡ is_within_line bytes
unfolding item_well_formed
item_well_formed-Text name bytes = ap (item_well_formed name) (sym (rolls-Text bytes)) ∙ fold-roll-Item Bool Bool _ _ (Item-F.Text bytes)

-- the form of a child element
pub item_well_formed-Child : (name : List ℕ → Bool) (e : Element) → item_well_formed name (Child e) ≡ is_well_formed name e
unfolding is_well_formed item_well_formed
item_well_formed-Child name e = ap (item_well_formed name) (sym (rolls-Child e)) ∙ fold-roll-Item Bool Bool _ _ (Item-F.Child e)

-- the height of an element, by its items
pub height_is : (e : Element) → height e ≡ greatest (map height_of_item e.items) + 1
unfolding height height_of_item
height_is e = fold_out-Element ℕ ℕ _ _ e

-- the height of a text
pub height_of_item-Text : (bytes : List ℕ) → height_of_item (Text bytes) ≡ 0
unfolding height_of_item
height_of_item-Text bytes = ap height_of_item (sym (rolls-Text bytes)) ∙ fold-roll-Item ℕ ℕ _ _ (Item-F.Text bytes)

-- the height of a child element
pub height_of_item-Child : (e : Element) → height_of_item (Child e) ≡ height e
unfolding height height_of_item
height_of_item-Child e = ap height_of_item (sym (rolls-Child e)) ∙ fold-roll-Item ℕ ℕ _ _ (Item-F.Child e)

-- these six equations, as a rule set
pub ruleset form_equations = (well_formed_is, item_well_formed-Text, item_well_formed-Child, height_is, height_of_item-Text, height_of_item-Child)
