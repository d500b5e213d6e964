-- The places of a document are exactly those of its elements, each once.
use Rattle.std.proofs.Common.{◌≡◌, ℕ, suc, zero, ◌+◌, ◌<◌, Bool, true, false, ◌&&◌, nat_eq, Option, Some, None, is_some, List, [], ◌∷◌, ◌++◌, map, length, cond, refl, ap, sym, ◌∙◌, add-one, zero-add, arith, length-append, if◌then◌else◌}
use Rattle.std.proofs.lemmas.Bool.Decides.{nat_tests}
use Rattle.std.proofs.lemmas.List.Elements.{filter-append}
use Rattle.std.specs.List.{filter, slice_get, cons_option}
use Rattle.std.specs.Option.{option_and_then, option_map_or}
use Rattle.std.specs.Cmp.Lexicographic.{pointwise}
use Rattle.acl_model.specs.Places.{element_of, children, below, at, numbered, places_below, places_of_item, places, times, places_in_item, places_in_element}
use Rattle.acl_model.proofs.ViewEquations.{item_cases, element_of-Text, element_of-Child}
use Rattle.acl_model.specs.declared.document.Doc.{Doc}
use Rattle.acl_model.specs.declared.document.Item.{Item}
use Rattle.acl_model.specs.declared.document.Element.{Element}
use Rattle.acl_model.specs.declared.document.Item.TheVariants.{Text, Child, rolls-Text, rolls-Child}
use Rattle.acl_model.specs.declared.document.Item.TheOpen.{Item-F}
use Rattle.acl_model.specs.declared.document.Item.TheFolds.{fold_out-Element, fold-roll-Item}

-- ---- the places of an element and of each kind of item, as equations

pub places_below_is : (e : Element) → places_below e ≡ [] ∷ numbered (map places_of_item e.items) 1
unfolding places_below places_of_item
places_below_is e = fold_out-Element (Option (List (List ℕ))) (List (List ℕ)) places_in_item places_in_element e

pub places_of_item-Text : (bytes : List ℕ) → places_of_item (Text bytes) ≡ None
unfolding places_of_item
places_of_item-Text bytes = ap places_of_item (sym (rolls-Text bytes)) ∙ fold-roll-Item (Option (List (List ℕ))) (List (List ℕ)) places_in_item places_in_element (Item-F.Text bytes)

pub places_of_item-Child : (e : Element) → places_of_item (Child e) ≡ Some (places_below e)
unfolding places_below places_of_item
places_of_item-Child e = ap places_of_item (sym (rolls-Child e)) ∙ fold-roll-Item (Option (List (List ℕ))) (List (List ℕ)) places_in_item places_in_element (Item-F.Child e)

pub ruleset place_equations = (places_below_is, places_of_item-Text, places_of_item-Child)

-- ---- how often a list of places contains a place

times-append : (place : List ℕ) (xs ys : List (List ℕ)) → times place (xs ++ ys) ≡ times place xs + times place ys
times-append place xs ys = ap length (filter-append (λ p. pointwise nat_eq p place) xs ys) ∙ length-append (filter (λ p. pointwise nat_eq p place) xs) (filter (λ p. pointwise nat_eq p place) ys)

pub same_number : (k : ℕ) → nat_eq k k ≡ true
same_number k = grind (arith, nat_tests)

other_number : (j k : ℕ) → j < k → nat_eq j k ≡ false
other_number j k less = grind (arith, nat_tests)

other_number_above : (j k : ℕ) → k < j → nat_eq j k ≡ false
other_number_above j k less = grind (arith, nat_tests)

-- where all begin with the same number
times-same : (k : ℕ) (place : List ℕ) (ps : List (List ℕ)) → times (k ∷ place) (map (λ p. k ∷ p) ps) ≡ times place ps
times-same k place [] = refl
times-same k place (p ∷ ps) =
    ap (λ b. length (cond (b && pointwise nat_eq p place) ((k ∷ p) ∷ filter (λ q. pointwise nat_eq q (k ∷ place)) (map (λ p. k ∷ p) ps)) (filter (λ q. pointwise nat_eq q (k ∷ place)) (map (λ p. k ∷ p) ps)))) (same_number k)
    ∙ elim (pointwise nat_eq p place) as (λ b. length (cond b ((k ∷ p) ∷ filter (λ q. pointwise nat_eq q (k ∷ place)) (map (λ p. k ∷ p) ps)) (filter (λ q. pointwise nat_eq q (k ∷ place)) (map (λ p. k ∷ p) ps))) ≡ length (cond b (p ∷ filter (λ q. pointwise nat_eq q place) ps) (filter (λ q. pointwise nat_eq q place) ps)))
    [ true ↦ ap suc (times-same k place ps) | false ↦ times-same k place ps ]

-- where the others begin with another number
times-other : (j k : ℕ) (place : List ℕ) (ps : List (List ℕ)) → nat_eq j k ≡ false → times (k ∷ place) (map (λ p. j ∷ p) ps) ≡ 0
times-other j k place [] other = refl
times-other j k place (p ∷ ps) other =
    ap (λ b. length (cond (b && pointwise nat_eq p place) ((j ∷ p) ∷ filter (λ q. pointwise nat_eq q (k ∷ place)) (map (λ p. j ∷ p) ps)) (filter (λ q. pointwise nat_eq q (k ∷ place)) (map (λ p. j ∷ p) ps)))) other
    ∙ times-other j k place ps other

-- the root's place comes before all numbered places
times-root : (j : ℕ) (ps : List (List ℕ)) → times [] (map (λ p. j ∷ p) ps) ≡ 0
times-root j [] = refl
times-root j (p ∷ ps) = times-root j ps

root_not_numbered : (items : List (Option (List (List ℕ)))) (j : ℕ) → times [] (numbered items j) ≡ 0
root_not_numbered [] j = refl
root_not_numbered (None ∷ items) j = root_not_numbered items j
root_not_numbered (Some inside ∷ items) j =
    times-append [] (map (λ p. j ∷ p) inside) (numbered items (j + 1)) ∙ ap (λ n. n + times [] (numbered items (j + 1))) (times-root j inside) ∙ ap (λ n. 0 + n) (root_not_numbered items (j + 1))

-- no place in the items begins with a smaller number than the first
lower_not_numbered : (items : List (Option (List (List ℕ)))) (j k : ℕ) (place : List ℕ) → k < j → times (k ∷ place) (numbered items j) ≡ 0
lower_not_numbered [] j k place less = refl
lower_not_numbered (None ∷ items) j k place less = lower_not_numbered items j k place less
lower_not_numbered (Some inside ∷ items) j k place less =
    times-append (k ∷ place) (map (λ p. j ∷ p) inside) (numbered items (j + 1))
    ∙ ap (λ n. n + times (k ∷ place) (numbered items (j + 1))) (times-other j k place inside (other_number_above j k less))
    ∙ ap (λ n. 0 + n) (lower_not_numbered items (j + 1) k place (omega (arith, less)))

-- ---- by children

-- how often the place is among those of the child, if there is one
abbrev times_in : List ℕ → Option Element → ℕ
times_in place o = option_map_or (λ c. times place (places_below c)) o 0

plus_nothing : (a : ℕ) → a + 0 ≡ a
plus_nothing a = omega arith

in_first : (c : Element) (items : List Item) (n j : ℕ) (place : List ℕ) → ((m : ℕ) → times ((m + (j + 1)) ∷ place) (numbered (map places_of_item items) (j + 1)) ≡ times_in place (slice_get (children items) m))
    → times ((n + j) ∷ place) (map (λ p. j ∷ p) (places_below c)) + times ((n + j) ∷ place) (numbered (map places_of_item items) (j + 1)) ≡ times_in place (slice_get (c ∷ children items) n)
in_first c items zero j place later =
    ap (λ k. times (k ∷ place) (map (λ p. j ∷ p) (places_below c)) + times (k ∷ place) (numbered (map places_of_item items) (j + 1))) (zero-add j)
    ∙ ap (λ m. m + times (j ∷ place) (numbered (map places_of_item items) (j + 1))) (times-same j place (places_below c))
    ∙ ap (λ m. times place (places_below c) + m) (lower_not_numbered (map places_of_item items) (j + 1) j place (omega arith))
    ∙ plus_nothing (times place (places_below c))
in_first c items (suc m) j place later =
    let same : suc m + j ≡ m + (j + 1) = omega arith in
    ap (λ x. x + times ((suc m + j) ∷ place) (numbered (map places_of_item items) (j + 1))) (times-other j (suc m + j) place (places_below c) (other_number j (suc m + j) (omega arith)))
    ∙ zero-add (times ((suc m + j) ∷ place) (numbered (map places_of_item items) (j + 1)))
    ∙ ap (λ k. times (k ∷ place) (numbered (map places_of_item items) (j + 1))) same
    ∙ later m

times_numbered : (items : List Item) (n j : ℕ) (place : List ℕ) → times ((n + j) ∷ place) (numbered (map places_of_item items) j) ≡ times_in place (slice_get (children items) n)
times_numbered [] n j place = refl
times_numbered (item ∷ items) n j place =
    item_cases (λ x. times ((n + j) ∷ place) (numbered (places_of_item x ∷ map places_of_item items) j) ≡ times_in place (slice_get (cons_option (element_of x) (children items)) n))
    (λ bytes.
    ap (λ o. times ((n + j) ∷ place) (numbered (o ∷ map places_of_item items) j)) (places_of_item-Text bytes)
    ∙ times_numbered items n j place
    ∙ ap (λ o. times_in place (slice_get (cons_option o (children items)) n)) (sym (element_of-Text bytes)))
    (λ c.
    ap (λ o. times ((n + j) ∷ place) (numbered (o ∷ map places_of_item items) j)) (places_of_item-Child c)
    ∙ times-append ((n + j) ∷ place) (map (λ p. j ∷ p) (places_below c)) (numbered (map places_of_item items) (j + 1))
    ∙ in_first c items n j place (λ m. times_numbered items m (j + 1) place)
    ∙ ap (λ o. times_in place (slice_get (cons_option o (children items)) n)) (sym (element_of-Child c)))
    item

-- ---- all places

-- once where there is an element, and never where there is none
abbrev pub once_where : Bool → ℕ
once_where there = if there then 1 else 0

times_child : (place : List ℕ) (o : Option Element) → ((c : Element) → times place (places_below c) ≡ once_where (is_some (below c place))) → times_in place o ≡ once_where (is_some (option_and_then (λ c. below c place) o))
times_child place None inside = refl
times_child place (Some c) inside = inside c

times_below : (place : List ℕ) (e : Element) → times place (places_below e) ≡ once_where (is_some (below e place))
times_below [] e = ap (times []) (places_below_is e) ∙ ap suc (root_not_numbered (map places_of_item e.items) 1)
times_below (zero ∷ place) e = ap (times (0 ∷ place)) (places_below_is e) ∙ lower_not_numbered (map places_of_item e.items) 1 0 place (omega arith)
times_below (suc n ∷ place) e =
    ap (times (suc n ∷ place)) (places_below_is e)
    ∙ ap (λ k. times (k ∷ place) (numbered (map places_of_item e.items) 1)) (sym (add-one n))
    ∙ times_numbered e.items n 1 place
    ∙ times_child place (slice_get (children e.items) n) (times_below place)

-- The places of a document contain a place once where there is an element at it, and else never.
pub times_in_places : (d : Doc) (place : List ℕ) → times place (places d) ≡ once_where (is_some (at d place))
times_in_places d place = times_below place d.root
