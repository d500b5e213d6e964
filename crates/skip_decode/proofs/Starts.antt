-- The names of the elements in an element, in document order: that they are valid and in the dictionary. So their
-- numbers are below the number of names.
use Rattle.std.proofs.Common.{◌≡◌, ℕ, ◌<◌, ◌⊎◌, inl, inr, Bool, true, false, ◌&&◌, ◌||◌, nat_eq, nat_le, List, [], ◌∷◌, length, map, refl, ap, sym, ◌∙◌, subst, arith}
use Rattle.std.specs.Cmp.{first_so, second_so}
use Rattle.std.specs.List.{list_all, list_any, flat_map}
use Rattle.std.proofs.lemmas.Bool.{true≢false}
use Rattle.std.proofs.lemmas.Bool.Decides.{nat_tests}
use Rattle.std.proofs.lemmas.List.Folds.{list_all-append}
use Rattle.acl_model.specs.Document.{is_raw_attribute, is_well_formed, item_well_formed}
use Rattle.acl_model.specs.Dictionary.{has_name, start_names, item_start_names}
use Rattle.acl_model.specs.Stream.{has_member, Part, Branch, element_part, holds_number, tag_of, branch_of, part_of}
use Rattle.acl_model.proofs.FormEquations.{well_formed_is, item_well_formed-Text, item_well_formed-Child}
use Rattle.acl_model.proofs.DictionaryLaws.{start_names_is, item_start_names-Text, item_start_names-Child}
use Rattle.acl_model.proofs.StreamEquations.{branch_of_is, part_of-Text, part_of-Child}
use Rattle.acl_model.specs.declared.document.Item.{Item, roll-Item}
use Rattle.acl_model.specs.declared.document.Element.{Element, roll-Element}
use Rattle.acl_model.specs.declared.document.Item.TheVariants.{rolls-Text, rolls-Child}
use Rattle.acl_model.specs.declared.document.Item.TheOpen.{Item-F}
use Rattle.acl_model.specs.declared.document.Item.TheFolds.{ind-Element, map-Item, map-Element}
use Rattle.acl_bits.specs.Row.{row_of}
use Rattle.skip_decode.proofs.Heads.{has_member-row}
use Rattle.skip_decode.proofs.Names.{tag_of-below}
use Rattle.skip_decode.proofs.Elements.{numbers_in-row}

-- ---- parts of a conjunction

both_so : (a b : Bool) → a ≡ true → b ≡ true → (a && b) ≡ true
both_so a b one other = rw (one, other) refl

either : (a b : Bool) → (a || b) ≡ true → (a ≡ true) ⊎ (b ≡ true)
either true b so = inl refl
either false b so = inr so

-- whether the items of an element are well formed, its own name left out
abbrev rest_formed : (List ℕ → Bool) → Element → Bool
rest_formed test e = list_all (λ b. b) (map (item_well_formed test) e.items)

prefix_so : (test : List ℕ → Bool) (e : Element) → is_well_formed test e ≡ true → (test e.name && nat_le (length e.attributes) 65535 && list_all is_raw_attribute e.attributes) ≡ true
prefix_so test e good = first_so (test e.name && nat_le (length e.attributes) 65535 && list_all is_raw_attribute e.attributes) (rest_formed test e) (sym (well_formed_is test e) ∙ good)

items_so : (test : List ℕ → Bool) (e : Element) → is_well_formed test e ≡ true → rest_formed test e ≡ true
items_so test e good = second_so (test e.name && nat_le (length e.attributes) 65535 && list_all is_raw_attribute e.attributes) (rest_formed test e) (sym (well_formed_is test e) ∙ good)

name_so : (test : List ℕ → Bool) (e : Element) → is_well_formed test e ≡ true → test e.name ≡ true
name_so test e good =
    let own = test e.name in
    let few = nat_le (length e.attributes) 65535 in
    first_so own few (first_so (own && few) (list_all is_raw_attribute e.attributes) (prefix_so test e good))

-- ---- one test of the names

-- Where an element is well formed for a test of names, all its names pass the test.
abbrev Starts : (List ℕ → Bool) → Element → Type 0
Starts test e = is_well_formed test e ≡ true → list_all test (start_names e) ≡ true

abbrev ItemStarts : (List ℕ → Bool) → Item → Type 0
ItemStarts test item = item_well_formed test item ≡ true → list_all test (item_start_names item) ≡ true

list_starts : (test : List ℕ → Bool) (pairs : List ((item : Item) × ItemStarts test item)) → list_all (λ b. b) (map (item_well_formed test) (map (λ p. p.0) pairs)) ≡ true
    → list_all test (flat_map (λ starts. starts) (map item_start_names (map (λ p. p.0) pairs))) ≡ true
list_starts test [] good = refl
list_starts test (pair ∷ pairs) good =
    let items : List Item = map (λ p. p.0) pairs in
    let own = first_so (item_well_formed test pair.0) (list_all (λ b. b) (map (item_well_formed test) items)) good in
    let others = second_so (item_well_formed test pair.0) (list_all (λ b. b) (map (item_well_formed test) items)) good in
    list_all-append test (item_start_names pair.0) (flat_map (λ starts. starts) (map item_start_names items))
    ∙ both_so _ _ (pair.1 own) (list_starts test pairs others)

element_starts : (test : List ℕ → Bool) (e : Element) → (rest_formed test e ≡ true → list_all test (flat_map (λ starts. starts) (map item_start_names e.items)) ≡ true) → Starts test e
element_starts test e inside good = ap (list_all test) (start_names_is e) ∙ both_so _ _ (name_so test e good) (inside (items_so test e good))

item_starts : (test : List ℕ → Bool) (y : Item-F ((item : Item) × ItemStarts test item) ((e : Element) × Starts test e))
    → ItemStarts test (roll-Item (map-Item ((item : Item) × ItemStarts test item) ((e : Element) × Starts test e) Item Element (λ p. p.0) (λ p. p.0) y))
item_starts test (Item-F.Text bytes) = subst (ItemStarts test) (sym (rolls-Text bytes)) (λ good. ap (list_all test) (item_start_names-Text bytes))
item_starts test (Item-F.Child pair) = subst (ItemStarts test) (sym (rolls-Child pair.0)) (λ good.
    ap (list_all test) (item_start_names-Child pair.0) ∙ pair.1 (sym (item_well_formed-Child test pair.0) ∙ good))

pub start_names-formed : (test : List ℕ → Bool) (e : Element) → Starts test e
start_names-formed test = ind-Element (ItemStarts test) (Starts test)
    (λ x y is. subst (λ z. ItemStarts test (roll-Item z)) is (item_starts test y))
    (λ x y is. subst (λ z. Starts test (roll-Element z)) is (element_starts test (roll-Element (map-Element ((item : Item) × ItemStarts test item) ((e : Element) × Starts test e) Item Element (λ p. p.0) (λ p. p.0) y)) (list_starts test y.items)))

-- ---- another test of the names

-- An element that is well formed for one test, and whose names pass another, is well formed for the other.
abbrev Turns : (List ℕ → Bool) → (List ℕ → Bool) → Element → Type 0
Turns test other e = is_well_formed test e ≡ true → list_all other (start_names e) ≡ true → is_well_formed other e ≡ true

abbrev ItemTurns : (List ℕ → Bool) → (List ℕ → Bool) → Item → Type 0
ItemTurns test other item = item_well_formed test item ≡ true → list_all other (item_start_names item) ≡ true → item_well_formed other item ≡ true

list_turns : (test other : List ℕ → Bool) (pairs : List ((item : Item) × ItemTurns test other item)) → list_all (λ b. b) (map (item_well_formed test) (map (λ p. p.0) pairs)) ≡ true
    → list_all other (flat_map (λ starts. starts) (map item_start_names (map (λ p. p.0) pairs))) ≡ true
    → list_all (λ b. b) (map (item_well_formed other) (map (λ p. p.0) pairs)) ≡ true
list_turns test other [] good passes = refl
list_turns test other (pair ∷ pairs) good passes =
    let items : List Item = map (λ p. p.0) pairs in
    let own = first_so (item_well_formed test pair.0) (list_all (λ b. b) (map (item_well_formed test) items)) good in
    let others = second_so (item_well_formed test pair.0) (list_all (λ b. b) (map (item_well_formed test) items)) good in
    let split = sym (list_all-append other (item_start_names pair.0) (flat_map (λ starts. starts) (map item_start_names items))) ∙ passes in
    both_so _ _ (pair.1 own (first_so (list_all other (item_start_names pair.0)) (list_all other (flat_map (λ starts. starts) (map item_start_names items))) split))
    (list_turns test other pairs others (second_so (list_all other (item_start_names pair.0)) (list_all other (flat_map (λ starts. starts) (map item_start_names items))) split))

element_turns : (test other : List ℕ → Bool) (e : Element)
    → (rest_formed test e ≡ true → list_all other (flat_map (λ starts. starts) (map item_start_names e.items)) ≡ true → rest_formed other e ≡ true) → Turns test other e
element_turns test other e inside good passes =
    let starts : List (List ℕ) = flat_map (λ starts. starts) (map item_start_names e.items) in
    let split : (other e.name && list_all other starts) ≡ true = ap (list_all other) (sym (start_names_is e)) ∙ passes in
    let few = nat_le (length e.attributes) 65535 in
    let raw = list_all is_raw_attribute e.attributes in
    let prefix = prefix_so test e good in
    let bounded = second_so (test e.name) few (first_so (test e.name && few) raw prefix) in
    let formed = second_so (test e.name && few) raw prefix in
    well_formed_is other e
    ∙ both_so (other e.name && few && raw) (rest_formed other e)
    (both_so (other e.name && few) raw (both_so (other e.name) few (first_so (other e.name) (list_all other starts) split) bounded) formed)
    (inside (items_so test e good) (second_so (other e.name) (list_all other starts) split))

item_turns : (test other : List ℕ → Bool) (y : Item-F ((item : Item) × ItemTurns test other item) ((e : Element) × Turns test other e))
    → ItemTurns test other (roll-Item (map-Item ((item : Item) × ItemTurns test other item) ((e : Element) × Turns test other e) Item Element (λ p. p.0) (λ p. p.0) y))
item_turns test other (Item-F.Text bytes) = subst (ItemTurns test other) (sym (rolls-Text bytes)) (λ good passes. item_well_formed-Text other bytes ∙ sym (item_well_formed-Text test bytes) ∙ good)
item_turns test other (Item-F.Child pair) = subst (ItemTurns test other) (sym (rolls-Child pair.0)) (λ good passes.
    item_well_formed-Child other pair.0 ∙ pair.1 (sym (item_well_formed-Child test pair.0) ∙ good) (ap (list_all other) (sym (item_start_names-Child pair.0)) ∙ passes))

pub well_formed-by : (test other : List ℕ → Bool) (e : Element) → Turns test other e
well_formed-by test other = ind-Element (ItemTurns test other) (Turns test other)
    (λ x y is. subst (λ z. ItemTurns test other (roll-Item z)) is (item_turns test other y))
    (λ x y is. subst (λ z. Turns test other (roll-Element z)) is (element_turns test other (roll-Element (map-Element ((item : Item) × ItemTurns test other item) ((e : Element) × Turns test other e) Item Element (λ p. p.0) (λ p. p.0) y)) (list_turns test other y.items)))

-- ---- numbers below the number of names

-- Each number in a part is below the number of names.
abbrev IsBelow : List (List ℕ) → Part → Type 0
IsBelow names part = (k : ℕ) → k < 256 → holds_number k part ≡ true → k < length names

abbrev Counts : List (List ℕ) → Element → Type 0
Counts names e = is_well_formed (has_name names) e ≡ true → IsBelow names (element_part (branch_of names e))

abbrev ItemCounts : List (List ℕ) → Item → Type 0
ItemCounts names item = item_well_formed (has_name names) item ≡ true → IsBelow names (part_of names item)

list_counts : (names : List (List ℕ)) (pairs : List ((item : Item) × ItemCounts names item)) → list_all (λ b. b) (map (item_well_formed (has_name names)) (map (λ p. p.0) pairs)) ≡ true
    → (k : ℕ) → k < 256 → list_any (holds_number k) (map (part_of names) (map (λ p. p.0) pairs)) ≡ true → k < length names
list_counts names [] good k small holds = absurd (true≢false (sym holds))
list_counts names (pair ∷ pairs) good k small holds =
    let items : List Item = map (λ p. p.0) pairs in
    let own = first_so (item_well_formed (has_name names) pair.0) (list_all (λ b. b) (map (item_well_formed (has_name names)) items)) good in
    let others = second_so (item_well_formed (has_name names) pair.0) (list_all (λ b. b) (map (item_well_formed (has_name names)) items)) good in
    elim (either (holds_number k (part_of names pair.0)) (list_any (holds_number k) (map (part_of names) items)) holds) [
      | inl here ↦ pair.1 own k small here
      | inr later ↦ list_counts names pairs others k small later
    ]

element_counts : (names : List (List ℕ)) (e : Element)
    → (rest_formed (has_name names) e ≡ true → (k : ℕ) → k < 256 → list_any (holds_number k) (map (part_of names) e.items) ≡ true → k < length names) → Counts names e
element_counts names e inside good k small holds =
    let b : Branch = branch_of names e in
    let parts : List Part = map (part_of names) e.items in
    let q : ℕ → Bool = λ n. list_any (holds_number n) parts in
    let tag : b.tag ≡ tag_of names e.name = ap (λ (b : Branch). b.tag) (branch_of_is names e) in
    let row : b.below ≡ row_of q = ap (λ (b : Branch). b.below) (branch_of_is names e) ∙ numbers_in-row parts in
    let number = tag_of-below names e.name (name_so (has_name names) e good) in
    elim (either (nat_eq b.tag k) (has_member b.below k) holds) [
      | inl own ↦ (let same : b.tag ≡ k = grind (arith, nat_tests) in omega (arith, same, tag, number))
      | inr other ↦ inside (items_so (has_name names) e good) k small (sym (has_member-row q k small) ∙ ap (λ m. has_member m k) (sym row) ∙ other)
    ]

item_counts : (names : List (List ℕ)) (y : Item-F ((item : Item) × ItemCounts names item) ((e : Element) × Counts names e))
    → ItemCounts names (roll-Item (map-Item ((item : Item) × ItemCounts names item) ((e : Element) × Counts names e) Item Element (λ p. p.0) (λ p. p.0) y))
item_counts names (Item-F.Text bytes) = subst (ItemCounts names) (sym (rolls-Text bytes)) (λ good k small holds.
    absurd (true≢false (sym (ap (holds_number k) (sym (part_of-Text names bytes)) ∙ holds))))
item_counts names (Item-F.Child pair) = subst (ItemCounts names) (sym (rolls-Child pair.0)) (λ good k small holds.
    pair.1 (sym (item_well_formed-Child (has_name names) pair.0) ∙ good) k small (ap (holds_number k) (sym (part_of-Child names pair.0)) ∙ holds))

-- Where all names of an element are among the names, its numbers are below the number of names.
pub element_counted : (names : List (List ℕ)) (e : Element) → Counts names e
element_counted names = ind-Element (ItemCounts names) (Counts names)
    (λ x y is. subst (λ z. ItemCounts names (roll-Item z)) is (item_counts names y))
    (λ x y is. subst (λ z. Counts names (roll-Element z)) is (element_counts names (roll-Element (map-Element ((item : Item) × ItemCounts names item) ((e : Element) × Counts names e) Item Element (λ p. p.0) (λ p. p.0) y)) (list_counts names y.items)))
