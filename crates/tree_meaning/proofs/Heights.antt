-- An item is lower than its element. That is the termination measure of the walks over a tree.
use Rattle.std.proofs.Common.{◌≡◌, ℕ, ◌+◌, ◌<◌, ◌≤◌, zero, suc, List, [], ◌∷◌, map, length, get_or, ap, arith}
use Rattle.acl_model.specs.Document.{greatest, height, height_of_item}
use Rattle.acl_model.proofs.FormEquations.{height_is}
use Rattle.acl_model.specs.declared.document.Item.{Item}
use Rattle.acl_model.specs.declared.document.Element.{Element}

height_of_item-greatest : (items : List Item) (i : ℕ) (d : Item) → i < length items → height_of_item (get_or items i d) ≤ greatest (map height_of_item items)
height_of_item-greatest [] i d within = absurd (omega arith)
height_of_item-greatest (x ∷ items) zero d within = omega arith
height_of_item-greatest (x ∷ items) (suc i) d within = let rest = height_of_item-greatest items i d (omega arith) in omega (arith, rest)

-- An item is lower than its element.
pub height_of_item-lower : (e : Element) (i : ℕ) (item : Item) (items : List Item) → items ≡ e.items → i < length items → item ≡ get_or items i item → height_of_item item < height e
height_of_item-lower e i item items same within is =
    let most : height_of_item (get_or items i item) ≤ greatest (map height_of_item items) = height_of_item-greatest items i item within in
    let own : height_of_item item ≡ height_of_item (get_or items i item) = ap height_of_item is in
    let whole : height e ≡ greatest (map height_of_item e.items) + 1 = height_is e in
    let all : greatest (map height_of_item items) ≡ greatest (map height_of_item e.items) = ap (λ xs. greatest (map height_of_item xs)) same in
    omega (arith, most, own, whole, all)
