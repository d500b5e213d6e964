-- The loop that looks for an item with so many levels.
use Rattle.std.proofs.Common.{◌≡◌, ℕ, ◌+◌, ◌-◌, ◌<◌, ◌≤◌, true, false, nat_le, List, length, map, drop, get_or, ap, arith}
use Rattle.std.proofs.lemmas.List.{drop_all}
use Rattle.std.proofs.lemmas.Bool.Decides.{nat_tests}
use Rattle.std.specs.Prelude.{max}
use Rattle.acl_model.specs.Document.{greatest, height, height_of_item}
use Rattle.acl_model.specs.declared.document.Element.{Element}
use Rattle.acl_model.specs.declared.document.Item.{Item}
use Rattle.acl_model.proofs.FormEquations.{height_is}
use Rattle.tag_dictionary.proofs.Forms.{drop-next}

-- the greatest height of the items from this index on
abbrev pub highest : ℕ → List Item → ℕ
highest i items = greatest (map height_of_item (drop i items))

-- An element has one level more than its items.
pub element-levels : (e : Element) (levels : ℕ) → 1 ≤ levels
    → nat_le (levels - 1) (greatest (map height_of_item e.items)) ≡ nat_le levels (height e)
element-levels e levels some = let is = height_is e in grind (arith, nat_tests, is)

highest-next : (items : List Item) (i : ℕ) (item : Item) → i < length items → item ≡ get_or items i item
    → highest i items ≡ max (height_of_item item) (highest (i + 1) items)
highest-next items i item within is = ap (λ l. greatest (map height_of_item l)) (drop-next items i item within is)

-- The next item has as many.
pub levels-found : (items : List Item) (i m : ℕ) (item : Item) → i < length items → item ≡ get_or items i item
    → nat_le m (height_of_item item) ≡ true → nat_le m (highest i items) ≡ true
levels-found items i m item within is found =
    let next = highest-next items i item within is in
    let high : m ≤ height_of_item item = grind (arith, nat_tests, found) in
    let all : m ≤ highest i items = omega (arith, next, high) in
    grind (arith, nat_tests, all)

-- No items are left.
pub levels-none : (items : List Item) (i m : ℕ) → length items ≤ i → 1 ≤ m → nat_le m (highest i items) ≡ false
levels-none items i m past some =
    let none : highest i items ≡ 0 = ap (λ l. greatest (map height_of_item l)) (drop_all i items past) in
    grind (arith, nat_tests, none)
