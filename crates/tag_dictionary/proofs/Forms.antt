-- A well-formed element has well-formed names, and how the names of an element and of its items are added.
use Rattle.std.proofs.Common.{◌≡◌, ℕ, zero, ◌+◌, ◌<◌, ◌≤◌, true, nat_le, ◌&&◌, List, [], ◌∷◌, length, map, drop, get_or, drop-cons, add-one, suc, ap, sym, ◌∙◌, arith}
use Rattle.std.specs.Cmp.{first_so, second_so}
use Rattle.std.specs.List.{list_all, flat_map}
use Rattle.acl_model.specs.Names.{is_name}
use Rattle.acl_model.specs.Document.{is_raw_attribute, is_well_formed, item_well_formed, greatest, height, height_of_item}
use Rattle.acl_model.specs.Dictionary.{with_name, with_names, start_names, item_start_names}
use Rattle.acl_model.specs.declared.document.Element.{Element}
use Rattle.acl_model.specs.declared.document.Item.{Item}
use Rattle.acl_model.proofs.FormEquations.{well_formed_is, height_is}
use Rattle.acl_model.proofs.DictionaryLaws.{start_names_is, with_names-append, with_names-longer}

-- a well-formed element has a well-formed name
pub is_name-element : (e : Element) → is_well_formed is_name e ≡ true → is_name e.name ≡ true
is_name-element e good =
    let own = is_name e.name in
    let few = nat_le (length e.attributes) 65535 in
    let raw = list_all is_raw_attribute e.attributes in
    let items = list_all (λ b. b) (map (item_well_formed is_name) e.items) in
    first_so own few (first_so (own && few) raw (first_so (own && few && raw) items (sym (well_formed_is is_name e) ∙ good)))

-- and well-formed items
pub well_formed-items : (e : Element) → is_well_formed is_name e ≡ true → list_all (λ b. b) (map (item_well_formed is_name) e.items) ≡ true
well_formed-items e good =
    second_so (is_name e.name && nat_le (length e.attributes) 65535 && list_all is_raw_attribute e.attributes) (list_all (λ b. b) (map (item_well_formed is_name) e.items)) (sym (well_formed_is is_name e) ∙ good)

-- the names of an element are added: its own, and then those of its items
pub with_names-element : (names : List (List ℕ)) (e : Element) → with_names names (start_names e) ≡ with_names (with_name names e.name) (flat_map (λ starts. starts) (map item_start_names e.items))
with_names-element names e = ap (with_names names) (start_names_is e)

-- where the names added so far are too many, the names in all are too many
pub many-more : (names more : List (List ℕ)) → 256 < length names → 256 < length (with_names names more)
many-more names more many = let longer = with_names-longer names more in omega arith

-- the rest of a list begins with its next item
pub drop-next : {X : Type 0} (xs : List X) (i : ℕ) (x : X) → i < length xs → x ≡ get_or xs i x → drop i xs ≡ x ∷ drop (i + 1) xs
drop-next xs i x within is = rw (add-one i) (drop-cons xs i x within ∙ ap (λ y. y ∷ drop (suc i) xs) (sym is))

-- the names of the next item are added, and those of the items after it remain
pub with_names-next : (names : List (List ℕ)) (items : List Item) (i : ℕ) (item : Item) → i < length items → item ≡ get_or items i item
    → with_names names (flat_map (λ starts. starts) (map item_start_names (drop i items)))
    ≡ with_names (with_names names (item_start_names item)) (flat_map (λ starts. starts) (map item_start_names (drop (i + 1) items)))
with_names-next names items i item within is =
    ap (λ l. with_names names (flat_map (λ starts. starts) (map item_start_names l))) (drop-next items i item within is)
    ∙ with_names-append names (item_start_names item) (flat_map (λ starts. starts) (map item_start_names (drop (i + 1) items)))

-- the next item is well-formed
pub well_formed-next : (items : List Item) (i : ℕ) (item : Item) → i < length items → item ≡ get_or items i item
    → list_all (λ b. b) (map (item_well_formed is_name) (drop i items)) ≡ true → item_well_formed is_name item ≡ true
well_formed-next items i item within is good =
    first_so (item_well_formed is_name item) (list_all (λ b. b) (map (item_well_formed is_name) (drop (i + 1) items)))
    (ap (λ l. list_all (λ b. b) (map (item_well_formed is_name) l)) (sym (drop-next items i item within is)) ∙ good)

-- and so are those after it
pub well_formed-after : (items : List Item) (i : ℕ) (item : Item) → i < length items → item ≡ get_or items i item
    → list_all (λ b. b) (map (item_well_formed is_name) (drop i items)) ≡ true → list_all (λ b. b) (map (item_well_formed is_name) (drop (i + 1) items)) ≡ true
well_formed-after items i item within is good =
    second_so (item_well_formed is_name item) (list_all (λ b. b) (map (item_well_formed is_name) (drop (i + 1) items)))
    (ap (λ l. list_all (λ b. b) (map (item_well_formed is_name) l)) (sym (drop-next items i item within is)) ∙ good)

-- no item of a list is higher than the highest
height_of_item-greatest : (items : List Item) (i : ℕ) (d : Item) → i < length items → height_of_item (get_or items i d) ≤ greatest (map height_of_item items)
height_of_item-greatest [] i d within = absurd (omega arith)
height_of_item-greatest (x ∷ items) zero d within = omega arith
height_of_item-greatest (x ∷ items) (suc i) d within = let rest = height_of_item-greatest items i d (omega arith) in omega (arith, rest)

-- an item of an element is lower than the element
pub height_of_item-lower : (e : Element) (i : ℕ) (item : Item) → i < length e.items → item ≡ get_or e.items i item → height_of_item item < height e
height_of_item-lower e i item within is =
    let most : height_of_item (get_or e.items i item) ≤ greatest (map height_of_item e.items) = height_of_item-greatest e.items i item within in
    let same : height_of_item item ≡ height_of_item (get_or e.items i item) = ap height_of_item is in
    let whole : height e ≡ greatest (map height_of_item e.items) + 1 = height_is e in
    omega (arith, most, same, whole)
