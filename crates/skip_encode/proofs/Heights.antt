-- The loop that finds the greatest height of items.
use Rattle.std.proofs.Common.{◌≡◌, ℕ, ◌+◌, ◌<◌, ◌≤◌, List, length, map, drop, get_or, ap, rules, arith}
use Rattle.std.specs.Prelude.{max}
use Rattle.std.specs.Ordering.{ord_max, nat_cmp}
use Rattle.std.proofs.lemmas.List.{drop_all}
use Rattle.std.proofs.lemmas.Bool.Decides.{nat_tests}
use Rattle.acl_model.specs.Document.{greatest, height_of_item}
use Rattle.acl_model.specs.declared.document.Item.{Item}
use Rattle.tag_dictionary.proofs.Forms.{drop-next}

-- The loop passes the next item.
pub greatest-next : (items : List Item) (i high all : ℕ) (item : Item) → i < length items → item ≡ get_or items i item
    → max high (greatest (map height_of_item (drop i items))) ≡ all
    → max (max high (height_of_item item)) (greatest (map height_of_item (drop (i + 1) items))) ≡ all
greatest-next items i high all item within is before =
    let next : greatest (map height_of_item (drop i items)) ≡ max (height_of_item item) (greatest (map height_of_item (drop (i + 1) items))) =
    ap (λ l. greatest (map height_of_item l)) (drop-next items i item within is) in
    omega (arith, next, before)

-- The code's `max` of two numbers is the greater of them.
pub ord_max-max : (a b : ℕ) → ord_max nat_cmp a b ≡ max a b
ord_max-max a b = first_of (search rules, grind (arith, nat_tests))

-- When no items are left, the greatest height is found.
pub greatest-is : (items : List Item) (i high all : ℕ) → length items ≤ i → max high (greatest (map height_of_item (drop i items))) ≡ all → high ≡ all
greatest-is items i high all past before =
    let none : greatest (map height_of_item (drop i items)) ≡ 0 = ap (λ l. greatest (map height_of_item l)) (drop_all i items past) in
    omega (arith, none, before)
