-- Equations for the list of entries and for the explanations by it. They are the explanations of acl_model.
use Rattle.std.proofs.Common.{◌≡◌, ℕ, ◌+◌, ◌<◌, ◌≤◌, suc, get_or, drop, drop-cons, arith, Bool, true, false, Option, Some, None, List, [], ◌∷◌, ◌++◌, map, length, length-append, decimal, refl, ap, sym, ◌∙◌, append_assoc, append-nil, add-one, if◌then◌else◌, cond}
use Rattle.std.proofs.lemmas.List.{map-append, drop-drop, length-map}
use Rattle.std.proofs.lemmas.List.Folds.{concat-append}
use Rattle.std.specs.List.{concat, filter, flat_map}
use Rattle.std.specs.Option.{option_map_or}
use Rattle.acl_model.specs.Ascii.{slash}
use Rattle.acl_model.specs.Places.{element_of, child, numbered, places_below, places_of_item}
use Rattle.acl_model.specs.Explain.{Explanation, place_text, explanation_line, explanation_lines, explain, explain_text}
use Rattle.acl_model.proofs.PlaceLaws.{places_below_is, places_of_item-Text, places_of_item-Child}
use Rattle.acl_model.proofs.ViewEquations.{item_cases, element_of-Text, element_of-Child}
use Rattle.acl_model.specs.declared.document.Doc.{Doc}
use Rattle.acl_model.specs.declared.document.Element.{Element}
use Rattle.acl_model.specs.declared.document.Item.{Item}
use Rattle.acl_model.specs.declared.document.Item.TheVariants.{Text, Child}
use Rattle.acl_model.specs.declared.rule.Rule.{Rule}
use Rattle.tree_meaning.specs.declared.decided.Decided.{Decided}
use Rattle.tree_meaning.specs.inside.StepMarks.{MarkedStep, begun_rule, row_below}
use Rattle.tree_meaning.specs.inside.ExplainWalk.{is_selected_here, told_here, row_at_place, number_after}
use Rattle.tree_meaning.specs.inside.Decided.{decided_here, entry_here, entries_from, entries_of_child, entries_of_items, entries_of_root, first_entry, explanation_at, told_by_entry, told_by_entries, told_below, entries_after, told_below_child, entries_after_child, told_below_items, entries_after_items}
use Rattle.tree_meaning.proofs.ViewLaws.{next_number, next-Text, next-Child, child-after}
use Rattle.tree_meaning.proofs.ToldLaws.{told_numbered, root_and_items}

-- ---- the list

entries_from-is : (row : List MarkedStep) (e : Element) → entries_from row e ≡ map (λ place. entry_here (row_at_place row e place)) (places_below e)
unfolding entries_from
entries_from-is row e = refl

map-numbers : {A : Type 0} (f : List ℕ → A) (k : ℕ) (ps : List (List ℕ)) → map f (map (λ p. k ∷ p) ps) ≡ map (λ p. f (k ∷ p)) ps
map-numbers f k [] = refl
map-numbers f k (p ∷ ps) = ap (λ ys. f (k ∷ p) ∷ ys) (map-numbers f k ps)

-- by the row at a child
entries_in_child : (row : List MarkedStep) (e c : Element) (k : ℕ) → child e.items k ≡ Some c
    → map (λ place. entry_here (row_at_place row e (k ∷ place))) (places_below c) ≡ entries_from (row_below e row) c
entries_in_child row e c k found =
    ap (λ (o : Option Element). map (λ place. entry_here (option_map_or (λ x. row_at_place (row_below e row) x place) o [])) (places_below c)) found
    ∙ sym (entries_from-is (row_below e row) c)

entries_numbered : (row : List MarkedStep) (e : Element) (rest prefix : List Item) → prefix ++ rest ≡ e.items
    → map (λ place. entry_here (row_at_place row e place)) (numbered (map places_of_item rest) (next_number prefix)) ≡ entries_of_items (row_below e row) rest
entries_numbered row e [] prefix is = refl
entries_numbered row e (item ∷ rest) prefix is =
    let f : (List ℕ → Option Decided) = λ place. entry_here (row_at_place row e place) in
    let k : ℕ = next_number prefix in
    item_cases (λ x. prefix ++ x ∷ rest ≡ e.items → map f (numbered (places_of_item x ∷ map places_of_item rest) k) ≡ entries_of_child (row_below e row) (element_of x) ++ entries_of_items (row_below e row) rest)
    (λ bytes was.
    ap (λ o. map f (numbered (o ∷ map places_of_item rest) k)) (places_of_item-Text bytes)
    ∙ ap (λ n. map f (numbered (map places_of_item rest) n)) (sym (next-Text prefix bytes))
    ∙ entries_numbered row e rest (prefix ++ Text bytes ∷ []) (append_assoc prefix (Text bytes ∷ []) rest ∙ was)
    ∙ ap (λ o. entries_of_child (row_below e row) o ++ entries_of_items (row_below e row) rest) (sym (element_of-Text bytes)))
    (λ c was.
    ap (λ o. map f (numbered (o ∷ map places_of_item rest) k)) (places_of_item-Child c)
    ∙ map-append f (map (λ p. k ∷ p) (places_below c)) (numbered (map places_of_item rest) (k + 1))
    ∙ ap (λ es. es ++ map f (numbered (map places_of_item rest) (k + 1))) (map-numbers f k (places_below c) ∙ entries_in_child row e c k (child-after e.items prefix rest c was))
    ∙ ap (λ n. entries_from (row_below e row) c ++ map f (numbered (map places_of_item rest) n)) (add-one k ∙ sym (next-Child prefix c))
    ∙ ap (λ es. entries_from (row_below e row) c ++ es) (entries_numbered row e rest (prefix ++ Child c ∷ []) (append_assoc prefix (Child c ∷ []) rest ∙ was))
    ∙ ap (λ o. entries_of_child (row_below e row) o ++ entries_of_items (row_below e row) rest) (sym (element_of-Child c)))
    item is

-- The entries of an element and of those inside it are its own and those of its items.
pub entries_from_is : (row : List MarkedStep) (e : Element) → entries_from row e ≡ entry_here (row_below e row) ∷ entries_of_items (row_below e row) e.items
entries_from_is row e =
    entries_from-is row e
    ∙ ap (map (λ place. entry_here (row_at_place row e place))) (places_below_is e)
    ∙ ap (λ es. entry_here (row_below e row) ∷ es) (entries_numbered row e e.items [] refl)

-- what one walk finds of an element: its own entry, and then those of its items
pub found_in_element : (row here inner : List MarkedStep) (e : Element) (entry : Option Decided) (before pushed now : List (Option Decided)) → here ≡ row_below e row → inner ≡ row_below e row → entry ≡ entry_here here
    → pushed ≡ before ++ entry ∷ [] → now ≡ pushed ++ entries_of_items inner e.items → now ≡ before ++ entries_from row e
found_in_element row here inner e entry before pushed now carried carried_in own push others =
    others
    ∙ ap (λ es. es ++ entries_of_items inner e.items) push
    ∙ append_assoc before (entry ∷ []) (entries_of_items inner e.items)
    ∙ ap (λ one. before ++ one ∷ entries_of_items inner e.items) (own ∙ ap entry_here carried)
    ∙ ap (λ steps. before ++ entry_here (row_below e row) ∷ entries_of_items steps e.items) carried_in
    ∙ ap (λ es. before ++ es) (sym (entries_from_is row e))

-- ---- the explanations by the list

told_below-is : (entries : List (Option Decided)) (above : List ℕ) (e : Element) → told_below entries above e ≡ told_by_entries entries (map (λ place. above ++ place) (places_below e))
unfolding told_below
told_below-is entries above e = refl

entries_after-is : (entries : List (Option Decided)) (e : Element) → entries_after entries e ≡ drop (length (places_below e)) entries
unfolding entries_after
entries_after-is entries e = refl

one_more : (n : ℕ) → 1 + n ≡ suc n
one_more n = omega arith

-- places one after another
told-append : (entries : List (Option Decided)) (ps qs : List (List ℕ)) → told_by_entries entries (ps ++ qs) ≡ told_by_entries entries ps ++ told_by_entries (drop (length ps) entries) qs
told-append entries [] qs = refl
told-append entries (p ∷ ps) qs =
    ap (λ told. told_by_entry (first_entry entries) p ++ told) (told-append (drop 1 entries) ps qs)
    ∙ sym (append_assoc (told_by_entry (first_entry entries) p) (told_by_entries (drop 1 entries) ps) (told_by_entries (drop (length ps) (drop 1 entries)) qs))
    ∙ ap (λ es. (told_by_entry (first_entry entries) p ++ told_by_entries (drop 1 entries) ps) ++ told_by_entries es qs) (drop-drop (length ps) 1 entries ∙ ap (λ n. drop n entries) (one_more (length ps)))

-- the places in a child, by the place of its parent
places_joined : (above : List ℕ) (k : ℕ) (ps : List (List ℕ)) → map (λ p. above ++ p) (map (λ p. k ∷ p) ps) ≡ map (λ p. (above ++ k ∷ []) ++ p) ps
places_joined above k [] = refl
places_joined above k (p ∷ ps) =
    ap (λ q. q ∷ map (λ p. above ++ p) (map (λ p. k ∷ p) ps)) (sym (append_assoc above (k ∷ []) p))
    ∙ ap (λ qs. ((above ++ k ∷ []) ++ p) ∷ qs) (places_joined above k ps)

told_numbered_by : (entries : List (Option Decided)) (above : List ℕ) (items : List Item) (k : ℕ)
    → told_by_entries entries (map (λ place. above ++ place) (numbered (map places_of_item items) k)) ≡ told_below_items entries above items k
told_numbered_by entries above [] k = refl
told_numbered_by entries above (item ∷ items) k =
    let f : (List ℕ → List ℕ) = λ place. above ++ place in
    item_cases (λ x. told_by_entries entries (map f (numbered (places_of_item x ∷ map places_of_item items) k)) ≡ told_below_child entries above k (element_of x) ++ told_below_items (entries_after_child entries (element_of x)) above items (number_after (element_of x) k))
    (λ bytes.
    ap (λ o. told_by_entries entries (map f (numbered (o ∷ map places_of_item items) k))) (places_of_item-Text bytes)
    ∙ told_numbered_by entries above items k
    ∙ ap (λ o. told_below_child entries above k o ++ told_below_items (entries_after_child entries o) above items (number_after o k)) (sym (element_of-Text bytes)))
    (λ c.
    let inside : List (List ℕ) = map (λ p. (above ++ k ∷ []) ++ p) (places_below c) in
    let others : List (List ℕ) = map f (numbered (map places_of_item items) (k + 1)) in
    ap (λ o. told_by_entries entries (map f (numbered (o ∷ map places_of_item items) k))) (places_of_item-Child c)
    ∙ ap (told_by_entries entries) (map-append f (map (λ p. k ∷ p) (places_below c)) (numbered (map places_of_item items) (k + 1)) ∙ ap (λ ps. ps ++ others) (places_joined above k (places_below c)))
    ∙ told-append entries inside others
    ∙ ap (λ told. told ++ told_by_entries (drop (length inside) entries) others) (sym (told_below-is entries (above ++ k ∷ []) c))
    ∙ ap (λ es. told_below entries (above ++ k ∷ []) c ++ told_by_entries es others) (ap (λ n. drop n entries) (length-map (places_below c) (λ p. (above ++ k ∷ []) ++ p)) ∙ sym (entries_after-is entries c))
    ∙ ap (λ told. told_below entries (above ++ k ∷ []) c ++ told) (told_numbered_by (entries_after entries c) above items (k + 1))
    ∙ ap (λ o. told_below_child entries above k o ++ told_below_items (entries_after_child entries o) above items (number_after o k)) (sym (element_of-Child c)))
    item

-- The explanations of an element and of those inside it: its own by the first entry, and those of its items by the
-- entries after it.
pub told_below_is : (entries : List (Option Decided)) (above : List ℕ) (e : Element) → told_below entries above e ≡ told_by_entry (first_entry entries) above ++ told_below_items (drop 1 entries) above e.items 1
told_below_is entries above e =
    told_below-is entries above e
    ∙ ap (λ ps. told_by_entries entries (map (λ place. above ++ place) ps)) (places_below_is e)
    ∙ ap (λ p. told_by_entry (first_entry entries) p ++ told_by_entries (drop 1 entries) (map (λ place. above ++ place) (numbered (map places_of_item e.items) 1))) (append-nil above)
    ∙ ap (λ told. told_by_entry (first_entry entries) above ++ told) (told_numbered_by (drop 1 entries) above e.items 1)

after_numbered : (entries : List (Option Decided)) (items : List Item) (k : ℕ) → drop (length (numbered (map places_of_item items) k)) entries ≡ entries_after_items entries items
after_numbered entries [] k = refl
after_numbered entries (item ∷ items) k =
    item_cases (λ x. drop (length (numbered (places_of_item x ∷ map places_of_item items) k)) entries ≡ entries_after_items (entries_after_child entries (element_of x)) items)
    (λ bytes.
    ap (λ o. drop (length (numbered (o ∷ map places_of_item items) k)) entries) (places_of_item-Text bytes)
    ∙ after_numbered entries items k
    ∙ ap (λ o. entries_after_items (entries_after_child entries o) items) (sym (element_of-Text bytes)))
    (λ c.
    let others : List (List ℕ) = numbered (map places_of_item items) (k + 1) in
    ap (λ o. drop (length (numbered (o ∷ map places_of_item items) k)) entries) (places_of_item-Child c)
    ∙ ap (λ n. drop n entries) (length-append (map (λ p. k ∷ p) (places_below c)) others ∙ ap (λ n. n + length others) (length-map (places_below c) (λ p. k ∷ p)))
    ∙ sym (drop-drop (length others) (length (places_below c)) entries)
    ∙ ap (drop (length others)) (sym (entries_after-is entries c))
    ∙ after_numbered (entries_after entries c) items (k + 1)
    ∙ ap (λ o. entries_after_items (entries_after_child entries o) items) (sym (element_of-Child c)))
    item

-- The entries left after an element are those left after its own entry and those of its items.
pub entries_after_is : (entries : List (Option Decided)) (e : Element) → entries_after entries e ≡ entries_after_items (drop 1 entries) e.items
entries_after_is entries e =
    entries_after-is entries e
    ∙ ap (λ ps. drop (length ps) entries) (places_below_is e)
    ∙ ap (λ n. drop n entries) (sym (one_more (length (numbered (map places_of_item e.items) 1))))
    ∙ sym (drop-drop (length (numbered (map places_of_item e.items) 1)) 1 entries)
    ∙ after_numbered (drop 1 entries) e.items 1

-- ---- they are the explanations of acl_model

decided_told : (here : List MarkedStep) (place : List ℕ) → explanation_at (decided_here here) place ≡ told_here here place
unfolding decided_here told_here
decided_told here place = refl

-- each place has its own entry
told_where_selected : (row_at : List ℕ → List MarkedStep) (ps : List (List ℕ))
    → told_by_entries (map (λ p. entry_here (row_at p)) ps) (map (λ p. [] ++ p) ps) ≡ map (λ p. told_here (row_at p) ([] ++ p)) (filter (λ p. is_selected_here (row_at p)) ps)
told_where_selected row_at [] = refl
told_where_selected row_at (p ∷ ps) =
    ap (λ told. told_by_entry (entry_here (row_at p)) ([] ++ p) ++ told) (told_where_selected row_at ps)
    ∙ by_selection (is_selected_here (row_at p))
  where
    by_selection : (b : Bool) → told_by_entry (if b then Some (decided_here (row_at p)) else None) ([] ++ p) ++ map (λ p. told_here (row_at p) ([] ++ p)) (filter (λ p. is_selected_here (row_at p)) ps)
        ≡ map (λ p. told_here (row_at p) ([] ++ p)) (cond b (p ∷ filter (λ p. is_selected_here (row_at p)) ps) (filter (λ p. is_selected_here (row_at p)) ps))
    by_selection true = ap (λ one. one ∷ map (λ p. told_here (row_at p) ([] ++ p)) (filter (λ p. is_selected_here (row_at p)) ps)) (decided_told (row_at p) ([] ++ p))
    by_selection false = refl

-- The explanations by the list from the root on are those of acl_model.
pub told_is_explained : (d : Doc) (rules : List Rule) → told_below (entries_of_root (flat_map begun_rule rules) d.root) [] d.root ≡ explain d rules
told_is_explained d rules =
    let row : List MarkedStep = flat_map begun_rule rules in
    let here : List MarkedStep = row_below d.root row in
    let inside : List (List ℕ) = numbered (map places_of_item d.root.items) 1 in
    told_below_is (entries_of_root row d.root) [] d.root
    ∙ ap (λ one. one ∷ told_below_items (entries_of_items here d.root.items) [] d.root.items 1) (decided_told here [])
    ∙ ap (λ told. told_here here [] ∷ told)
    (sym (told_numbered_by (entries_of_items here d.root.items) [] d.root.items 1)
    ∙ ap (λ es. told_by_entries es (map (λ place. [] ++ place) inside)) (sym (entries_numbered row d.root d.root.items [] refl))
    ∙ told_where_selected (row_at_place row d.root) inside
    ∙ told_numbered row [] d.root d.root.items [] refl)
    ∙ root_and_items d rules

-- and so are their lines
pub lines_are_explained : (d : Doc) (rules : List Rule) → explanation_lines rules (told_below (entries_of_root (flat_map begun_rule rules) d.root) [] d.root) ≡ explain_text d rules
lines_are_explained d rules = ap (explanation_lines rules) (told_is_explained d rules)

-- ---- the text of an explanation

-- the numbers of a child's place
pub numbers_of_child : (place : List ℕ) (k : ℕ) → concat (map (λ number. slash ∷ decimal number) (place ++ k ∷ [])) ≡ concat (map (λ number. slash ∷ decimal number) place) ++ (slash ∷ decimal k)
numbers_of_child place k =
    ap concat (map-append (λ number. slash ∷ decimal number) place (k ∷ []))
    ∙ concat-append (map (λ number. slash ∷ decimal number) place) ((slash ∷ decimal k) ∷ [])
    ∙ ap (λ text. concat (map (λ number. slash ∷ decimal number) place) ++ text) (append-nil (slash ∷ decimal k))

-- the text of a child's place is that of the place's numbers
pub text_of_child : (place : List ℕ) (k : ℕ) → place_text (place ++ k ∷ []) ≡ concat (map (λ number. slash ∷ decimal number) (place ++ k ∷ []))
text_of_child [] k = refl
text_of_child (n ∷ place) k = refl

lines-append : (rules : List Rule) (told others : List Explanation) → explanation_lines rules (told ++ others) ≡ explanation_lines rules told ++ explanation_lines rules others
lines-append rules told others = ap concat (map-append (explanation_line rules) told others) ∙ concat-append (map (explanation_line rules) told) (map (explanation_line rules) others)

-- the line of an element itself, and then those of its items
pub lines_below_is : (rules : List Rule) (entries : List (Option Decided)) (above : List ℕ) (e : Element)
    → explanation_lines rules (told_below entries above e) ≡ explanation_lines rules (told_by_entry (first_entry entries) above) ++ explanation_lines rules (told_below_items (drop 1 entries) above e.items 1)
lines_below_is rules entries above e =
    ap (explanation_lines rules) (told_below_is entries above e)
    ∙ lines-append rules (told_by_entry (first_entry entries) above) (told_below_items (drop 1 entries) above e.items 1)

-- the lines of one more item
pub lines_of_next : (rules : List Rule) (entries : List (Option Decided)) (above : List ℕ) (items : List Item) (i k : ℕ) (item : Item) → i < length items → item ≡ get_or items i item
    → explanation_lines rules (told_below_items entries above (drop i items) k)
    ≡ explanation_lines rules (told_below_child entries above k (element_of item)) ++ explanation_lines rules (told_below_items (entries_after_child entries (element_of item)) above (drop (i + 1) items) (number_after (element_of item) k))
lines_of_next rules entries above items i k item within is =
    ap (λ xs. explanation_lines rules (told_below_items entries above xs k)) (drop-cons items i item within)
    ∙ ap (λ x. explanation_lines rules (told_below_items entries above (x ∷ drop (suc i) items) k)) (sym is)
    ∙ ap (λ n. explanation_lines rules (told_below_items entries above (item ∷ drop n items) k)) (sym (add-one i))
    ∙ lines-append rules (told_below_child entries above k (element_of item)) (told_below_items (entries_after_child entries (element_of item)) above (drop (i + 1) items) (number_after (element_of item) k))

-- the entries left after one more item
pub after_next : (entries : List (Option Decided)) (items : List Item) (i : ℕ) (item : Item) → i < length items → item ≡ get_or items i item
    → entries_after_items entries (drop i items) ≡ entries_after_items (entries_after_child entries (element_of item)) (drop (i + 1) items)
after_next entries items i item within is =
    ap (entries_after_items entries) (drop-cons items i item within)
    ∙ ap (λ x. entries_after_items entries (x ∷ drop (suc i) items)) (sym is)
    ∙ ap (λ n. entries_after_items entries (item ∷ drop n items)) (sym (add-one i))

-- A child's number is at most one more than the number of items before it.
pub number_within : (o : Option Element) (k next i : ℕ) → next ≡ number_after o k → k ≤ i + 1 → next ≤ i + 1 + 1
number_within None k next i is within = omega (arith, is, within)
number_within (Some c) k next i is within = omega (arith, is, within)
