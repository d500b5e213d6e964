-- The explanations of the walk down a tree are those of acl_model.
use Rattle.std.proofs.Common.{◌≡◌, ℕ, ◌+◌, ◌<◌, ◌≤◌, suc, get_or, drop, drop-cons, arith, Bool, true, false, ◌&&◌, ◌||◌, Option, Some, None, List, [], ◌∷◌, ◌++◌, map, length, cond, refl, ap, sym, ◌∙◌, append_assoc, append-nil, add-one, if◌then◌else◌}
use Rattle.std.proofs.lemmas.Bool.{true≢false}
use Rattle.std.proofs.lemmas.List.{map-append, drop_all}
use Rattle.std.proofs.lemmas.List.Elements.{filter-append}
use Rattle.std.proofs.lemmas.Iterator.Adapters.{position_from-zero}
use Rattle.std.specs.List.{list_any, filter, find, concat, flat_map, position, position_from}
use Rattle.std.specs.Option.{option_and_then, option_map_or}
use Rattle.acl_model.specs.Places.{element_of, child, numbered, places_below, places_of_item, places, prefixes}
use Rattle.acl_model.specs.Select.{select}
use Rattle.acl_model.specs.Decide.{is_deny, is_selected, is_denied, decider, sign_by, sign}
use Rattle.acl_model.specs.Explain.{Explanation, is_same_sign, first_rule, explanation_of, is_explained, explain, selected, explanation_line, explanation_lines}
use Rattle.acl_model.specs.Chain.{Chain, ChainSet, is_virtual_root, chain_step, chain_steps, selects, chain_at, on_chain}
use Rattle.acl_model.specs.View.{grant_rule}
use Rattle.acl_model.proofs.ChainLaws.{select-chain, proper}
use Rattle.acl_model.proofs.PlaceLaws.{places_below_is, places_of_item-Text, places_of_item-Child}
use Rattle.acl_model.proofs.ViewEquations.{item_cases, element_of-Text, element_of-Child}
use Rattle.acl_model.specs.declared.document.Doc.{Doc}
use Rattle.acl_model.specs.declared.document.Element.{Element}
use Rattle.acl_model.specs.declared.document.Item.{Item}
use Rattle.acl_model.specs.declared.document.Item.TheVariants.{Text, Child}
use Rattle.acl_model.specs.declared.path.Path.{Path}
use Rattle.acl_model.specs.declared.path.Step.{Step}
use Rattle.acl_model.specs.declared.rule.Rule.{Rule}
use Rattle.acl_model.specs.declared.rule.Sign.{Sign}
use Rattle.acl_model.specs.declared.rule.Sign.TheVariants.{Grant, Deny}
use Rattle.tree_meaning.specs.declared.explain.Told.{Told}
use Rattle.tree_meaning.specs.declared.marks.Mark.{Mark}
use Rattle.tree_meaning.specs.declared.marks.Progress.{Progress}
use Rattle.tree_meaning.specs.inside.StepMarks.{MarkedStep, marked_step, marked_steps, begun_steps, begun_rule, mark_at_top, mark_below, reaches, moved, no_step, row_below, selects_here, denies_here, sign_here}
use Rattle.tree_meaning.specs.inside.ExplainWalk.{explanation_in, explanations_in, is_last, rules_in, selects_as, first_here, is_selected_here, told_here, row_at_place, told_from, told_if_selected, told_if_unselected, told_of_child, number_after, told_of_items}
use Rattle.tree_meaning.proofs.MarkLaws.{steps_at, row_at, row_begins, row_below_is, row_ends}
use Rattle.tree_meaning.proofs.ViewLaws.{next_number, next-Text, next-Child, child-after}

-- ---- how many rules a row has

-- one more step, which is the last of its rule or not
rules_with : (m : MarkedStep) (row : List MarkedStep) → rules_in (m ∷ row) ≡ (if is_last m then suc (rules_in row) else rules_in row)
unfolding rules_in
rules_with m row = one_more (is_last m) m (filter is_last row)
  where
    one_more : (b : Bool) (m : MarkedStep) (xs : List MarkedStep) → length (cond b (m ∷ xs) xs) ≡ (if b then suc (length xs) else length xs)
    one_more true m xs = refl
    one_more false m xs = refl

moved-rules : (e : Element) (before : Mark) (row : List MarkedStep) → rules_in (moved e before row) ≡ rules_in row
moved-rules e before [] = refl
moved-rules e before (m ∷ row) =
    rules_with (record { step = m.step; ends = m.ends; mark = mark_below (reaches m.step before e) m.mark }) (moved e m.mark row)
    ∙ ap (λ n. if is_last m then suc n else n) (moved-rules e m.mark row)
    ∙ sym (rules_with m row)

-- A row further down has as many rules.
pub rules_below : (e : Element) (row : List MarkedStep) → rules_in (row_below e row) ≡ rules_in row
unfolding row_below
rules_below e row = moved-rules e no_step row

-- so the bound on their number still holds
pub same_rules : (e : Element) (row here : List MarkedStep) → here ≡ row_below e row → rules_in row ≤ 65536 → rules_in here ≤ 65536
same_rules e row here is few = let same : rules_in here ≡ rules_in row = ap rules_in is ∙ rules_below e row in omega (arith, same, few)

begun-rules : (sign : Sign) (step : Option Step) (here : Bool) (more : List Step) (rest : List MarkedStep) → rules_in (begun_steps sign step here more ++ rest) ≡ suc (rules_in rest)
begun-rules sign step here [] rest = rules_with (record { step = step; ends = Some sign; mark = mark_at_top here }) rest
begun-rules sign step here (s ∷ more) rest =
    rules_with (record { step = step; ends = None; mark = mark_at_top here }) (begun_steps sign (Some s) false more ++ rest) ∙ begun-rules sign (Some s) false more rest

no_rules : rules_in [] ≡ 0
unfolding rules_in
no_rules = refl

-- The row at the virtual root has all rules.
pub rules_begun : (rules : List Rule) → rules_in (flat_map begun_rule rules) ≡ length rules
rules_begun [] = no_rules
rules_begun (r ∷ rules) = begun-rules r.sign None true r.path.steps (flat_map begun_rule rules) ∙ ap suc (rules_begun rules)

-- the bound on them, as the walk carries them
pub few_rules : (rules : List Rule) (row : List MarkedStep) → row ≡ flat_map begun_rule rules → length rules ≤ 65536 → rules_in row ≤ 65536
few_rules rules row is few = let same : rules_in row ≡ length rules = ap rules_in is ∙ rules_begun rules in omega (arith, same, few)

-- a path alone is one rule
pub one_rule : (steps : List Step) (row : List MarkedStep) → row ≡ begun_steps Grant None true steps → rules_in row ≤ 65536
one_rule steps row is =
    let same : rules_in row ≡ 1 = ap rules_in (is ∙ sym (append-nil (begun_steps Grant None true steps))) ∙ begun-rules Grant None true steps [] ∙ ap suc no_rules in
    omega (arith, same)

-- ---- the number of a rule

next_step : (row : List Progress) (i : ℕ) (p : Progress) → i < length row → p ≡ get_or row i p → marked_steps (drop i row) ≡ marked_step p ∷ marked_steps (drop (i + 1) row)
next_step row i p inside is =
    ap marked_steps (drop-cons row i p inside)
    ∙ ap (λ q. marked_step q ∷ marked_steps (drop (suc i) row)) (sym is)
    ∙ ap (λ n. marked_step p ∷ marked_steps (drop n row)) (sym (add-one i))

-- A step that is not the last one of a rule of this sign that selects the element is passed over.
pub first_passed : (own : Sign) (row : List Progress) (i n next : ℕ) (p : Progress) (first : Option ℕ) → i < length row → p ≡ get_or row i p → selects_as own (marked_step p) ≡ false
    → next ≡ (if is_last (marked_step p) then n + 1 else n) → first_here own (marked_steps (drop i row)) n ≡ first → first_here own (marked_steps (drop (i + 1) row)) next ≡ first
first_passed own row i n next p first inside is other after way =
    ap (first_here own (marked_steps (drop (i + 1) row))) after
    ∙ ap (λ b. if b then Some n else first_here own (marked_steps (drop (i + 1) row)) (if is_last (marked_step p) then n + 1 else n)) (sym other)
    ∙ ap (λ steps. first_here own steps n) (sym (next_step row i p inside is))
    ∙ way

-- One that is, gives the number.
pub first_found : (own : Sign) (row : List Progress) (i n : ℕ) (p : Progress) (first : Option ℕ) → i < length row → p ≡ get_or row i p → selects_as own (marked_step p) ≡ true
    → first_here own (marked_steps (drop i row)) n ≡ first → Some n ≡ first
first_found own row i n p first inside is so way =
    ap (λ b. if b then Some n else first_here own (marked_steps (drop (i + 1) row)) (if is_last (marked_step p) then n + 1 else n)) (sym so)
    ∙ ap (λ steps. first_here own steps n) (sym (next_step row i p inside is))
    ∙ way

counted : (b : Bool) (n rest : ℕ) → (if b then n + 1 else n) + rest ≡ n + (if b then suc rest else rest)
counted true n rest = omega arith
counted false n rest = refl

-- The rules passed over and those that follow are all rules.
pub rules_passed : (row : List Progress) (i n next all : ℕ) (p : Progress) → i < length row → p ≡ get_or row i p → next ≡ (if is_last (marked_step p) then n + 1 else n)
    → n + rules_in (marked_steps (drop i row)) ≡ all → next + rules_in (marked_steps (drop (i + 1) row)) ≡ all
rules_passed row i n next all p inside is after way =
    ap (λ m. m + rules_in (marked_steps (drop (i + 1) row))) after
    ∙ counted (is_last (marked_step p)) n (rules_in (marked_steps (drop (i + 1) row)))
    ∙ ap (λ m. n + m) (sym (rules_with (marked_step p) (marked_steps (drop (i + 1) row))) ∙ ap rules_in (sym (next_step row i p inside is)))
    ∙ way

is_its_last : (own : Sign) (ends : Option Sign) (here : Bool) → (option_map_or (λ sign. is_same_sign sign own) ends false && here) ≡ true → option_map_or (λ sign. true) ends false ≡ true
is_its_last own None here so = so
is_its_last own (Some sign) here so = refl

-- The number of the first such rule is less than the number of rules.
pub first_within : (own : Sign) (row : List Progress) (i n all : ℕ) (p : Progress) → i < length row → p ≡ get_or row i p → selects_as own (marked_step p) ≡ true
    → n + rules_in (marked_steps (drop i row)) ≡ all → n < all
first_within own row i n all p inside is so way =
    let more : rules_in (marked_steps (drop i row)) ≡ suc (rules_in (marked_steps (drop (i + 1) row))) =
    ap rules_in (next_step row i p inside is)
    ∙ rules_with (marked_step p) (marked_steps (drop (i + 1) row))
    ∙ ap (λ b. if b then suc (rules_in (marked_steps (drop (i + 1) row))) else rules_in (marked_steps (drop (i + 1) row))) (is_its_last own (marked_step p).ends (marked_step p).mark.here so) in
    omega (arith, way, more)

-- ---- the explanations of an element, and of its items

nothing_if : (b : Bool) (told : Explanation) (others : List Explanation) → (if b then told ∷ others else others) ≡ (if b then told ∷ [] else []) ++ others
nothing_if true told others = refl
nothing_if false told others = refl

map-cond : (f : List ℕ → Explanation) (b : Bool) (p : List ℕ) (ps : List (List ℕ)) → map f (cond b (p ∷ ps) ps) ≡ (if b then f p ∷ map f ps else map f ps)
map-cond f true p ps = refl
map-cond f false p ps = refl

map-after : (f : List ℕ → Explanation) (test : List ℕ → Bool) (k : ℕ) (ps : List (List ℕ)) → map f (filter test (map (λ p. k ∷ p) ps)) ≡ map (λ p. f (k ∷ p)) (filter (λ p. test (k ∷ p)) ps)
map-after f test k [] = refl
map-after f test k (p ∷ ps) =
    elim (test (k ∷ p)) as (λ b. map f (cond b ((k ∷ p) ∷ filter test (map (λ q. k ∷ q) ps)) (filter test (map (λ q. k ∷ q) ps))) ≡ map (λ q. f (k ∷ q)) (cond b (p ∷ filter (λ q. test (k ∷ q)) ps) (filter (λ q. test (k ∷ q)) ps)))
    [ true ↦ ap (λ told. f (k ∷ p) ∷ told) (map-after f test k ps) | false ↦ map-after f test k ps ]

told_from-is : (row : List MarkedStep) (above : List ℕ) (e : Element)
    → told_from row above e ≡ map (λ place. told_here (row_at_place row e place) (above ++ place)) (filter (λ place. is_selected_here (row_at_place row e place)) (places_below e))
unfolding told_from
told_from-is row above e = refl

-- by the row at a child
told_in_child : (row : List MarkedStep) (above : List ℕ) (e c : Element) (k : ℕ) → child e.items k ≡ Some c
    → map (λ place. told_here (row_at_place row e (k ∷ place)) (above ++ k ∷ place)) (filter (λ place. is_selected_here (row_at_place row e (k ∷ place))) (places_below c))
    ≡ told_from (row_below e row) (above ++ k ∷ []) c
told_in_child row above e c k found =
    ap (λ (o : Option Element). map (λ place. told_here (option_map_or (λ x. row_at_place (row_below e row) x place) o []) (above ++ k ∷ place)) (filter (λ place. is_selected_here (option_map_or (λ x. row_at_place (row_below e row) x place) o [])) (places_below c))) found
    ∙ ap (λ (joined : List ℕ → List ℕ). map (λ place. told_here (row_at_place (row_below e row) c place) (joined place)) (filter (λ place. is_selected_here (row_at_place (row_below e row) c place)) (places_below c)))
    (λ i place. sym (append_assoc above (k ∷ []) place) i)
    ∙ sym (told_from-is (row_below e row) (above ++ k ∷ []) c)

pub told_numbered : (row : List MarkedStep) (above : List ℕ) (e : Element) (rest prefix : List Item) → prefix ++ rest ≡ e.items
    → map (λ place. told_here (row_at_place row e place) (above ++ place)) (filter (λ place. is_selected_here (row_at_place row e place)) (numbered (map places_of_item rest) (next_number prefix)))
    ≡ told_of_items (row_below e row) above rest (next_number prefix)
told_numbered row above e [] prefix is = refl
told_numbered row above e (item ∷ rest) prefix is =
    let f : (List ℕ → Explanation) = λ place. told_here (row_at_place row e place) (above ++ place) in
    let test : (List ℕ → Bool) = λ place. is_selected_here (row_at_place row e place) in
    let k : ℕ = next_number prefix in
    item_cases (λ x. prefix ++ x ∷ rest ≡ e.items → map f (filter test (numbered (places_of_item x ∷ map places_of_item rest) k)) ≡ told_of_child (row_below e row) above k (element_of x) ++ told_of_items (row_below e row) above rest (number_after (element_of x) k))
    (λ bytes was.
    ap (λ o. map f (filter test (numbered (o ∷ map places_of_item rest) k))) (places_of_item-Text bytes)
    ∙ ap (λ n. map f (filter test (numbered (map places_of_item rest) n))) (sym (next-Text prefix bytes))
    ∙ told_numbered row above e rest (prefix ++ Text bytes ∷ []) (append_assoc prefix (Text bytes ∷ []) rest ∙ was)
    ∙ ap (told_of_items (row_below e row) above rest) (next-Text prefix bytes)
    ∙ ap (λ o. told_of_child (row_below e row) above k o ++ told_of_items (row_below e row) above rest (number_after o k)) (sym (element_of-Text bytes)))
    (λ c was.
    ap (λ o. map f (filter test (numbered (o ∷ map places_of_item rest) k))) (places_of_item-Child c)
    ∙ ap (map f) (filter-append test (map (λ p. k ∷ p) (places_below c)) (numbered (map places_of_item rest) (k + 1)))
    ∙ map-append f (filter test (map (λ p. k ∷ p) (places_below c))) (filter test (numbered (map places_of_item rest) (k + 1)))
    ∙ ap (λ told. told ++ map f (filter test (numbered (map places_of_item rest) (k + 1)))) (map-after f test k (places_below c) ∙ told_in_child row above e c k (child-after e.items prefix rest c was))
    ∙ ap (λ told. told_from (row_below e row) (above ++ k ∷ []) c ++ told)
    (ap (λ n. map f (filter test (numbered (map places_of_item rest) n))) (add-one k ∙ sym (next-Child prefix c))
    ∙ told_numbered row above e rest (prefix ++ Child c ∷ []) (append_assoc prefix (Child c ∷ []) rest ∙ was)
    ∙ ap (told_of_items (row_below e row) above rest) (next-Child prefix c ∙ sym (add-one k)))
    ∙ ap (λ o. told_of_child (row_below e row) above k o ++ told_of_items (row_below e row) above rest (number_after o k)) (sym (element_of-Child c)))
    item is

-- The explanations of an element and of those inside it: its own, if a rule selects it, and those of its items.
pub told_from_is : (row : List MarkedStep) (above : List ℕ) (e : Element) → told_from row above e ≡ told_if_selected (row_below e row) above ++ told_of_items (row_below e row) above e.items 1
told_from_is row above e =
    let f : (List ℕ → Explanation) = λ place. told_here (row_at_place row e place) (above ++ place) in
    let test : (List ℕ → Bool) = λ place. is_selected_here (row_at_place row e place) in
    told_from-is row above e
    ∙ ap (λ ps. map f (filter test ps)) (places_below_is e)
    ∙ map-cond f (is_selected_here (row_below e row)) [] (filter test (numbered (map places_of_item e.items) 1))
    ∙ nothing_if (is_selected_here (row_below e row)) (told_here (row_below e row) (above ++ [])) (map f (filter test (numbered (map places_of_item e.items) 1)))
    ∙ ap (λ p. (if is_selected_here (row_below e row) then told_here (row_below e row) p ∷ [] else []) ++ map f (filter test (numbered (map places_of_item e.items) 1))) (append-nil above)
    ∙ ap (λ told. told_if_selected (row_below e row) above ++ told) (told_numbered row above e e.items [] refl)

-- After the last item all explanations are there.
pub told_at_end : (row here : List MarkedStep) (above : List ℕ) (e : Element) (items : List Item) (i k : ℕ) (before told now : List Explanation)
    → here ≡ row_below e row → items ≡ e.items → length items ≤ i → told ≡ before ++ told_if_selected here above
    → now ++ told_of_items here above (drop i items) k ≡ told ++ told_of_items here above items 1 → now ≡ before ++ told_from row above e
told_at_end row here above e items i k before told now carried same past first way =
    sym (append-nil now)
    ∙ ap (λ rest. now ++ told_of_items here above rest k) (sym (drop_all i items past))
    ∙ way
    ∙ ap (λ es. es ++ told_of_items here above items 1) first
    ∙ append_assoc before (told_if_selected here above) (told_of_items here above items 1)
    ∙ ap (λ xs. before ++ (told_if_selected here above ++ told_of_items here above xs 1)) same
    ∙ ap (λ row. before ++ (told_if_selected row above ++ told_of_items row above e.items 1)) carried
    ∙ ap (λ es. before ++ es) (sym (told_from_is row above e))

-- ---- which rule

first_in_rule : (own sign : Sign) (step : Option Step) (set : ChainSet) (steps : List Step) (chain : Chain) (rest : List MarkedStep) (n : ℕ)
    → first_here own (steps_at sign step set steps chain ++ rest) n ≡ (if is_same_sign sign own && chain_steps steps set chain then Some n else first_here own rest (n + 1))
first_in_rule own sign step set [] chain rest n = refl
first_in_rule own sign step set (s ∷ steps) chain rest n = first_in_rule own sign (Some s) (chain_step s set) steps chain rest n

first_in_row : (own : Sign) (rules : List Rule) (chain : Chain) (n : ℕ) → first_here own (row_at rules chain) n ≡ position_from (λ r. is_same_sign r.sign own && selects r.path chain) n rules
unfolding selects
first_in_row own [] chain n = refl
first_in_row own (r ∷ rules) chain n =
    first_in_rule own r.sign None is_virtual_root r.path.steps chain (row_at rules chain) n
    ∙ ap (λ o. if is_same_sign r.sign own && chain_steps r.path.steps is_virtual_root chain then Some n else o) (first_in_row own rules chain (n + 1))

first_is : (own : Sign) (rules : List Rule) (chain : Chain) → first_here own (row_at rules chain) 0 ≡ position (λ r. is_same_sign r.sign own && selects r.path chain) rules
first_is own rules chain = first_in_row own rules chain 0 ∙ sym (position_from-zero (λ r. is_same_sign r.sign own && selects r.path chain) rules)

and_false : (b : Bool) → (b && false) ≡ false
and_false true = refl
and_false false = refl

neither_first : (a b : Bool) → (a || b) ≡ false → a ≡ false
neither_first true b so = so
neither_first false b so = refl

neither_second : (a b : Bool) → (a || b) ≡ false → b ≡ false
neither_second true b so = absurd (true≢false so)
neither_second false b so = so

not_as : (own : Sign) (ends : Option Sign) (here : Bool) → (option_map_or (λ sign. true) ends false && here) ≡ false → (option_map_or (λ sign. is_same_sign sign own) ends false && here) ≡ false
not_as own None here so = refl
not_as own (Some sign) false so = and_false (is_same_sign sign own)
not_as own (Some sign) true so = absurd (true≢false so)

-- Where no rule selects the element, there is no first one.
first-none : (own : Sign) (row : List MarkedStep) (n : ℕ) → is_selected_here row ≡ false → first_here own row n ≡ None
first-none own [] n none = refl
first-none own (m ∷ row) n none =
    ap (λ b. if b then Some n else first_here own row (if is_last m then n + 1 else n)) (not_as own m.ends m.mark.here (neither_first (selects_here m) (is_selected_here row) none))
    ∙ first-none own row (if is_last m then n + 1 else n) (neither_second (selects_here m) (is_selected_here row) none)

-- ---- which rules select a place, by the element there and its ancestors

-- A rule selects the first element of a chain; a rule that denies does.
abbrev chosen_chain : List Rule → ChainSet
chosen_chain rules chain = list_any (λ r. selects r.path chain) rules

abbrev denied_chain : List Rule → ChainSet
denied_chain rules chain = list_any (λ r. is_deny r.sign && selects r.path chain) rules

none_of : (rules : List Rule) → list_any (λ r. false) rules ≡ false
none_of [] = refl
none_of (r ∷ rules) = none_of rules

none_denied : (rules : List Rule) → list_any (λ r. is_deny r.sign && false) rules ≡ false
none_denied [] = refl
none_denied (r ∷ rules) = ap (λ b. b || list_any (λ x. is_deny x.sign && false) rules) (and_false (is_deny r.sign)) ∙ none_denied rules

chosen_on : (rules : List Rule) (o : Option Chain) → list_any (λ r. on_chain (selects r.path) o) rules ≡ on_chain (chosen_chain rules) o
chosen_on rules None = none_of rules
chosen_on rules (Some chain) = refl

deniers_on : (rules : List Rule) (o : Option Chain) → list_any (λ r. is_deny r.sign && on_chain (selects r.path) o) rules ≡ on_chain (denied_chain rules) o
deniers_on rules None = none_denied rules
deniers_on rules (Some chain) = refl

is_selected-chain : (d : Doc) (rules : List Rule) (place : List ℕ) → is_selected d rules place ≡ on_chain (chosen_chain rules) (chain_at d.root [] place)
is_selected-chain d rules place = ap (λ (test : Rule → Bool). list_any test rules) (λ i r. select-chain d r.path place i) ∙ chosen_on rules (chain_at d.root [] place)

is_denied-chain : (d : Doc) (rules : List Rule) (place : List ℕ) → is_denied d rules place ≡ on_chain (denied_chain rules) (chain_at d.root [] place)
is_denied-chain d rules place = ap (λ (test : Rule → Bool). list_any (λ r. is_deny r.sign && test r) rules) (λ i r. select-chain d r.path place i) ∙ deniers_on rules (chain_at d.root [] place)

-- A place is the longest of its own prefixes.
prefixes_are : (place : List ℕ) → prefixes place ≡ place ∷ proper place
prefixes_are [] = refl
prefixes_are (k ∷ place) = ap (λ ps. map (λ prefix. k ∷ prefix) ps ++ ([] ∷ [])) (prefixes_are place)

-- ---- they are the explanations of acl_model

-- all rules at a chain, if there is one
abbrev row_on : List Rule → Option Chain → List MarkedStep
row_on rules None = []
row_on rules (Some chain) = row_at rules chain

row_on_place : (rules : List Rule) (place : List ℕ) (e : Element) (up : Chain) (row : List MarkedStep) → row ≡ row_at rules up → row_at_place row e place ≡ row_on rules (chain_at e up place)
row_on_place rules [] e up row carried = ap (row_below e) carried ∙ row_below_is rules e up
row_on_place rules (k ∷ place) e up row carried =
    elim (child e.items k) as (λ o. option_map_or (λ c. row_at_place (row_below e row) c place) o [] ≡ row_on rules (option_and_then (λ c. chain_at c (e ∷ up) place) o))
    [ None ↦ refl | Some c ↦ row_on_place rules place c (e ∷ up) (row_below e row) (ap (row_below e) carried ∙ row_below_is rules e up) ]

-- the row at a place of the document
abbrev row_of : Doc → List Rule → List ℕ → List MarkedStep
row_of d rules place = row_at_place (flat_map begun_rule rules) d.root place

row_of_is : (d : Doc) (rules : List Rule) (place : List ℕ) → row_of d rules place ≡ row_on rules (chain_at d.root [] place)
row_of_is d rules place = row_on_place rules place d.root [] (flat_map begun_rule rules) (row_begins rules)

selected_on : (rules : List Rule) (o : Option Chain) → is_selected_here (row_on rules o) ≡ on_chain (chosen_chain rules) o
selected_on rules None = refl
selected_on rules (Some chain) = row_ends (λ sign. true) rules chain

selected_is : (d : Doc) (rules : List Rule) (place : List ℕ) → is_selected_here (row_of d rules place) ≡ is_selected d rules place
selected_is d rules place = ap is_selected_here (row_of_is d rules place) ∙ selected_on rules (chain_at d.root [] place) ∙ sym (is_selected-chain d rules place)

denied_on : (rules : List Rule) (o : Option Chain) → list_any denies_here (row_on rules o) ≡ on_chain (denied_chain rules) o
denied_on rules None = refl
denied_on rules (Some chain) = row_ends is_deny rules chain

denied_is : (d : Doc) (rules : List Rule) (place : List ℕ) → list_any denies_here (row_of d rules place) ≡ is_denied d rules place
denied_is d rules place = ap (list_any denies_here) (row_of_is d rules place) ∙ denied_on rules (chain_at d.root [] place) ∙ sym (is_denied-chain d rules place)

-- A place that a rule selects is its own decider.
decider_is : (d : Doc) (rules : List Rule) (place : List ℕ) → is_selected d rules place ≡ true → decider d rules place ≡ Some place
decider_is d rules place chosen =
    ap (find (is_selected d rules)) (prefixes_are place) ∙ ap (λ b. if b then Some place else find (is_selected d rules) (proper place)) chosen

sign_here_is : (row : List MarkedStep) (above : Sign) → is_selected_here row ≡ true → sign_here row above ≡ (if list_any denies_here row then Deny else Grant)
unfolding sign_here
sign_here_is row above chosen = ap (λ b. if b then (if list_any denies_here row then Deny else Grant) else above) chosen

sign_here_above : (row : List MarkedStep) (above : Sign) → is_selected_here row ≡ false → sign_here row above ≡ above
unfolding sign_here
sign_here_above row above none = ap (λ b. if b then (if list_any denies_here row then Deny else Grant) else above) none

sign_of_selected : (d : Doc) (rules : List Rule) (place : List ℕ) → is_selected d rules place ≡ true → sign d rules place ≡ sign_here (row_of d rules place) Deny
unfolding sign
sign_of_selected d rules place chosen =
    ap (sign_by d rules) (decider_is d rules place chosen)
    ∙ ap (λ b. if b then Deny else Grant) (sym (denied_is d rules place))
    ∙ sym (sign_here_is (row_of d rules place) Deny (selected_is d rules place ∙ chosen))

first_on : (own : Sign) (d : Doc) (rules : List Rule) (place : List ℕ) (o : Option Chain) → chain_at d.root [] place ≡ o → on_chain (chosen_chain rules) o ≡ true → first_rule d rules own place ≡ first_here own (row_on rules o) 0
first_on own d rules place None is chosen = absurd (true≢false (sym chosen))
first_on own d rules place (Some chain) is chosen =
    ap (λ (test : Rule → Bool). position (λ r. is_same_sign r.sign own && test r) rules) (λ i r. (select-chain d r.path place ∙ ap (on_chain (selects r.path)) is) i)
    ∙ sym (first_is own rules chain)

told_here-is : (row : List MarkedStep) (place : List ℕ) → told_here row place ≡ record { place = place; sign = sign_here row Deny; rule = first_here (sign_here row Deny) row 0 }
unfolding told_here
told_here-is row place = refl

-- the explanation of a place that a rule selects
explained_is : (d : Doc) (rules : List Rule) (place : List ℕ) → is_selected d rules place ≡ true → explanation_of d rules place ≡ told_here (row_of d rules place) place
explained_is d rules place chosen =
    let own : Sign = sign_here (row_of d rules place) Deny in
    ap (λ s. record { place = place; sign = s; rule = option_and_then (first_rule d rules s) (decider d rules place) }) (sign_of_selected d rules place chosen)
    ∙ ap (λ o. record { place = place; sign = own; rule = option_and_then (first_rule d rules own) o }) (decider_is d rules place chosen)
    ∙ ap (λ o. record { place = place; sign = own; rule = o })
    (first_on own d rules place (chain_at d.root [] place) refl (sym (is_selected-chain d rules place) ∙ chosen) ∙ ap (λ row. first_here own row 0) (sym (row_of_is d rules place)))
    ∙ sym (told_here-is (row_of d rules place) place)

-- the explanation of a place with this decider
abbrev explanation_by : Doc → List Rule → List ℕ → Option (List ℕ) → Explanation
explanation_by d rules place o = record { place = place; sign = sign_by d rules o; rule = option_and_then (first_rule d rules (sign_by d rules o)) o }

-- the explanation of the root, where no rule selects it
root_unselected : (d : Doc) (rules : List Rule) → is_selected d rules [] ≡ false → explanation_of d rules [] ≡ told_here (row_of d rules []) []
unfolding sign
root_unselected d rules none =
    let row : List MarkedStep = row_of d rules [] in
    let unselected : is_selected_here row ≡ false = selected_is d rules [] ∙ none in
    ap (λ b. explanation_by d rules [] (if b then Some [] else None)) none
    ∙ ap (λ s. record { place = []; sign = s; rule = None }) (sym (sign_here_above row Deny unselected))
    ∙ ap (λ o. record { place = []; sign = sign_here row Deny; rule = o }) (sym (first-none (sign_here row Deny) row 0 unselected))
    ∙ sym (told_here-is row [])

root_explained : (d : Doc) (rules : List Rule) (b : Bool) → is_selected d rules [] ≡ b → explanation_of d rules [] ≡ told_here (row_of d rules []) []
root_explained d rules true chosen = explained_is d rules [] chosen
root_explained d rules false none = root_unselected d rules none

-- ---- all of them

same_first : (f g : List ℕ → Explanation) (b : Bool) (p : List ℕ) (ps : List (List ℕ)) → (b ≡ true → f p ≡ g p) → map f ps ≡ map g ps → map f (cond b (p ∷ ps) ps) ≡ map g (cond b (p ∷ ps) ps)
same_first f g true p ps first rest = ap (λ e. e ∷ map f ps) (first refl) ∙ ap (λ es. g p ∷ es) rest
same_first f g false p ps first rest = rest

same_where : (f g : List ℕ → Explanation) (test : List ℕ → Bool) (ps : List (List ℕ)) → ((p : List ℕ) → test p ≡ true → f p ≡ g p) → map f (filter test ps) ≡ map g (filter test ps)
same_where f g test [] same = refl
same_where f g test (p ∷ ps) same = same_first f g (test p) p (filter test ps) (same p) (same_where f g test ps same)

-- a place with a number is not the root's
explained_numbered : (d : Doc) (rules : List Rule) (inside : List (Option (List (List ℕ)))) (k : ℕ) → filter (is_explained d rules) (numbered inside k) ≡ filter (is_selected d rules) (numbered inside k)
explained_numbered d rules [] k = refl
explained_numbered d rules (None ∷ inside) k = explained_numbered d rules inside k
explained_numbered d rules (Some places ∷ inside) k =
    filter-append (is_explained d rules) (map (λ p. k ∷ p) places) (numbered inside (k + 1))
    ∙ ap (λ ps. ps ++ filter (is_explained d rules) (numbered inside (k + 1))) (after places)
    ∙ ap (λ ps. filter (is_selected d rules) (map (λ p. k ∷ p) places) ++ ps) (explained_numbered d rules inside (k + 1))
    ∙ sym (filter-append (is_selected d rules) (map (λ p. k ∷ p) places) (numbered inside (k + 1)))
  where
    after : (ps : List (List ℕ)) → filter (is_explained d rules) (map (λ p. k ∷ p) ps) ≡ filter (is_selected d rules) (map (λ p. k ∷ p) ps)
    after [] = refl
    after (p ∷ ps) = ap (λ qs. cond (is_selected d rules (k ∷ p)) ((k ∷ p) ∷ qs) qs) (after ps)

selected_by_walk : (d : Doc) (rules : List Rule) → (λ place. is_selected_here (row_of d rules place)) ≡ is_selected d rules
selected_by_walk d rules = λ i place. selected_is d rules place i

pub root_and_items : (d : Doc) (rules : List Rule) → told_here (row_of d rules []) [] ∷ told_of_items (row_of d rules []) [] d.root.items 1 ≡ explain d rules
root_and_items d rules =
    let row : List MarkedStep = flat_map begun_rule rules in
    let inside : List (List ℕ) = numbered (map places_of_item d.root.items) 1 in
    ap (λ told. told_here (row_of d rules []) [] ∷ told) (sym (told_numbered row [] d.root d.root.items [] refl))
    ∙ ap (λ test. told_here (row_of d rules []) [] ∷ map (λ place. told_here (row_of d rules place) place) (filter test inside)) (selected_by_walk d rules)
    ∙ ap (λ told. told_here (row_of d rules []) [] ∷ told) (same_where (λ place. told_here (row_of d rules place) place) (explanation_of d rules) (is_selected d rules) inside (λ p so. sym (explained_is d rules p so)))
    ∙ ap (λ told. told ∷ map (explanation_of d rules) (filter (is_selected d rules) inside)) (sym (root_explained d rules (is_selected d rules []) refl))
    ∙ ap (λ ps. explanation_of d rules [] ∷ map (explanation_of d rules) ps) (sym (explained_numbered d rules (map places_of_item d.root.items) 1))
    ∙ ap (λ ps. map (explanation_of d rules) (filter (is_explained d rules) ps)) (sym (places_below_is d.root))

-- The root comes first, whether a rule selects it or not.
root_first : (b : Bool) (root : Explanation) (others : List Explanation) → (if b then [] else root ∷ []) ++ ((if b then root ∷ [] else []) ++ others) ≡ root ∷ others
root_first true root others = refl
root_first false root others = refl

-- The explanations of the walk from the root, with that of the root, are those of acl_model.
pub explain_is : (d : Doc) (rules : List Rule)
    → told_if_unselected (row_below d.root (flat_map begun_rule rules)) ++ told_from (flat_map begun_rule rules) [] d.root ≡ explain d rules
explain_is d rules =
    ap (λ told. told_if_unselected (row_of d rules []) ++ told) (told_from_is (flat_map begun_rule rules) [] d.root)
    ∙ root_first (is_selected_here (row_of d rules [])) (told_here (row_of d rules []) []) (told_of_items (row_of d rules []) [] d.root.items 1)
    ∙ root_and_items d rules

-- ---- one path

places_of_told : (d : Doc) (rules : List Rule) (ps : List (List ℕ)) → map (λ told. told.place) (map (λ place. told_here (row_of d rules place) place) ps) ≡ ps
unfolding told_here
places_of_told d rules [] = refl
places_of_told d rules (p ∷ ps) = ap (λ qs. p ∷ qs) (places_of_told d rules ps)

or_false : (b : Bool) → (b || false) ≡ b
or_false true = refl
or_false false = refl

-- the places of what the program returns
pub places_told : (told : List Told) → map (λ one. one.place) (explanations_in told) ≡ map (λ one. one.place) told
places_told [] = refl
places_told (one ∷ told) = ap (λ ps. one.place ∷ ps) (places_told told)

-- The places of the explanations under one rule are those that its path selects.
pub selected_are : (d : Doc) (path : Path) → map (λ told. told.place) (told_from (begun_steps Grant None true path.steps) [] d.root) ≡ selected d path
selected_are d path =
    let rules : List Rule = grant_rule path ∷ [] in
    ap (λ row. map (λ told. told.place) (told_from row [] d.root)) (sym (append-nil (begun_steps Grant None true path.steps)))
    ∙ ap (map (λ told. told.place)) (told_from-is (flat_map begun_rule rules) [] d.root)
    ∙ places_of_told d rules (filter (λ place. is_selected_here (row_of d rules place)) (places d))
    ∙ ap (λ test. filter test (places d)) (selected_by_walk d rules)
    ∙ ap (λ test. filter test (places d)) (λ i place. or_false (select d path place) i)

-- the lines of what the program returns
pub lines_told : (rules : List Rule) (told : List Told) → concat (map (λ one. explanation_line rules (explanation_in one)) told) ≡ explanation_lines rules (explanations_in told)
lines_told rules [] = refl
lines_told rules (one ∷ told) = ap (λ text. explanation_line rules (explanation_in one) ++ text) (lines_told rules told)
