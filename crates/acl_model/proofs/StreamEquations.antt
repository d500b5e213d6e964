-- The encoding of an element, and of each kind of item, as equations. A fold doesn't compute by itself, so proofs cite
-- these.
use Rattle.std.proofs.Common.{◌≡◌, ℕ, List, map, ap, sym, ◌∙◌}
use Rattle.acl_model.specs.Stream.{Part, Branch, text_part, element_part, item_part, element_branch, branch_of, part_of}
use Rattle.acl_model.specs.declared.document.Element.{Element}
use Rattle.acl_model.specs.declared.document.Item.TheVariants.{Text, Child, rolls-Text, rolls-Child}
use Rattle.acl_model.specs.declared.document.Item.TheOpen.{Item-F}
use Rattle.acl_model.specs.declared.document.Item.TheFolds.{fold_out-Element, fold-roll-Item}

-- an element, by its parts
pub branch_of_is : (names : List (List ℕ)) (e : Element)
    → branch_of names e ≡ element_branch names (record { name = e.name; attributes = e.attributes; items = map (part_of names) e.items })
unfolding branch_of part_of
branch_of_is names e = fold_out-Element Part Branch item_part (element_branch names) e

-- a text
pub part_of-Text : (names : List (List ℕ)) (bytes : List ℕ) → part_of names (Text bytes) ≡ text_part bytes
unfolding part_of
part_of-Text names bytes = ap (part_of names) (sym (rolls-Text bytes)) ∙ fold-roll-Item Part Branch item_part (element_branch names) (Item-F.Text bytes)

-- a child element
pub part_of-Child : (names : List (List ℕ)) (e : Element) → part_of names (Child e) ≡ element_part (branch_of names e)
unfolding branch_of part_of
part_of-Child names e = ap (part_of names) (sym (rolls-Child e)) ∙ fold-roll-Item Part Branch item_part (element_branch names) (Item-F.Child e)
