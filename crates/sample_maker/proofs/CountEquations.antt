-- Equations for the numbers of elements and lines of an element and of each kind of item, and what a loop over items
-- needs.
use Rattle.std.proofs.Common.{◌≡◌, ℕ, zero, suc, ◌+◌, ◌≤◌, ◌<◌, List, [], ◌∷◌, map, length, drop, get_or, ap, sym, ◌∙◌, arith}
use Rattle.sample_maker.specs.inside.Counts.{total, element_count, item_element_count, line_count, item_line_count}
use Rattle.acl_model.specs.declared.document.Item.{Item}
use Rattle.acl_model.specs.declared.document.Element.{Element}
use Rattle.acl_model.specs.declared.document.Item.TheVariants.{Text, Child, rolls-Text, rolls-Child}
use Rattle.acl_model.specs.declared.document.Item.TheOpen.{Item-F}
use Rattle.acl_model.specs.declared.document.Item.TheFolds.{fold_out-Element, fold-roll-Item}

-- the number of elements in an element, from those of its items
pub element_count_is : (e : Element) → element_count e ≡ 1 + total (map item_element_count e.items)
unfolding element_count item_element_count
element_count_is e = fold_out-Element ℕ ℕ _ _ e

-- the number of elements in a text
pub item_element_count-Text : (bytes : List ℕ) → item_element_count (Text bytes) ≡ 0
unfolding item_element_count
item_element_count-Text bytes = ap item_element_count (sym (rolls-Text bytes)) ∙ fold-roll-Item ℕ ℕ _ _ (Item-F.Text bytes)

-- the number of elements in a child
pub item_element_count-Child : (e : Element) → item_element_count (Child e) ≡ element_count e
unfolding element_count item_element_count
item_element_count-Child e = ap item_element_count (sym (rolls-Child e)) ∙ fold-roll-Item ℕ ℕ _ _ (Item-F.Child e)

-- the number of lines of an element, from those of its items
pub line_count_is : (e : Element) → line_count e ≡ length e.attributes + 2 + total (map item_line_count e.items)
unfolding line_count item_line_count
line_count_is e = fold_out-Element ℕ ℕ _ _ e

-- the number of lines of a text
pub item_line_count-Text : (bytes : List ℕ) → item_line_count (Text bytes) ≡ 1
unfolding item_line_count
item_line_count-Text bytes = ap item_line_count (sym (rolls-Text bytes)) ∙ fold-roll-Item ℕ ℕ _ _ (Item-F.Text bytes)

-- the number of lines of a child
pub item_line_count-Child : (e : Element) → item_line_count (Child e) ≡ line_count e
unfolding line_count item_line_count
item_line_count-Child e = ap item_line_count (sym (rolls-Child e)) ∙ fold-roll-Item ℕ ℕ _ _ (Item-F.Child e)

-- A number of an item is at most the sum of these numbers over the item and those after it.
pub total_item : (f : Item → ℕ) (items : List Item) (i : ℕ) (item : Item) → i < length items → item ≡ get_or items i item → f item ≤ total (map f (drop i items))
total_item f [] i item inside is = absurd (omega arith)
total_item f (x ∷ items) zero item inside is = let own : f item ≡ f x = ap f is in omega (arith, own)
total_item f (x ∷ items) (suc i) item inside is = total_item f items i item (omega arith) is

pub ruleset count_steps = (total_item, element_count_is, item_element_count-Text, item_element_count-Child, line_count_is, item_line_count-Text, item_line_count-Child)
