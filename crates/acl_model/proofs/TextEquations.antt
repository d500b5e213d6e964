-- The text of an element and of each kind of item, as equations. A fold doesn't compute by itself, so proofs cite
-- these.
use Rattle.std.proofs.Common.{◌≡◌, ℕ, List, ◌++◌, map, ap, sym, ◌∙◌}
use Rattle.std.specs.List.{concat}
use Rattle.acl_model.specs.Ascii.{left_parenthesis, right_parenthesis, hyphen, capital_a}
use Rattle.acl_model.specs.Text.{line, item_lines, element_lines, element_text, item_text}
use Rattle.acl_model.specs.declared.document.Element.{Element}
use Rattle.acl_model.specs.declared.document.Item.TheVariants.{Text, Child, rolls-Text, rolls-Child}
use Rattle.acl_model.specs.declared.document.Item.TheOpen.{Item-F}
use Rattle.acl_model.specs.declared.document.Item.TheFolds.{fold_out-Element, fold-roll-Item}

-- the text of an element
pub element_text_is : (e : Element) → element_text e ≡ concat (map (line capital_a) e.attributes) ++ (line left_parenthesis e.name ++ (concat (map item_text e.items) ++ line right_parenthesis e.name))
unfolding element_text item_text
element_text_is e = fold_out-Element (List ℕ) (List ℕ) item_lines element_lines e

-- the text of a text
pub item_text-Text : (bytes : List ℕ) → item_text (Text bytes) ≡ line hyphen bytes
unfolding item_text
item_text-Text bytes = ap item_text (sym (rolls-Text bytes)) ∙ fold-roll-Item (List ℕ) (List ℕ) item_lines element_lines (Item-F.Text bytes)

-- the text of a child element
pub item_text-Child : (e : Element) → item_text (Child e) ≡ element_text e
unfolding element_text item_text
item_text-Child e = ap item_text (sym (rolls-Child e)) ∙ fold-roll-Item (List ℕ) (List ℕ) item_lines element_lines (Item-F.Child e)

-- these three equations, as a rule set
pub ruleset text_equations = (element_text_is, item_text-Text, item_text-Child)
