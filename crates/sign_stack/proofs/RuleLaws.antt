-- The sets of the rules that select give the sign and the rule that acl_model defines.
use Rattle.std.proofs.Common.{◌≡◌, ℕ, zero, suc, ◌+◌, ◌<◌, ◌≤◌, Bool, true, false, cond, if◌then◌else◌, ◌&&◌, ◌||◌, Option, Some, None, List, [], ◌∷◌, length, refl, ap, sym, ◌∙◌, arith, map}
use Rattle.std.specs.List.{list_any, find, filter, slice_get, range_with_len, position, position_from}
use Rattle.std.specs.Option.{option_map_or, option_or, option_and_then, is_some}
use Rattle.std.proofs.lemmas.Iterator.Adapters.{position_from-zero}
use Rattle.std.proofs.lemmas.Bool.{true≢false}
use Rattle.acl_bits.specs.Row.{row_of, is_member}
use Rattle.acl_bits.specs.inside.RowLaws.{is_member-row_of}
use Rattle.acl_model.specs.Places.{prefixes}
use Rattle.acl_model.specs.Select.{select}
use Rattle.acl_model.specs.Decide.{is_deny, is_selected, is_denied, decider, sign_by, sign}
use Rattle.acl_model.specs.Explain.{is_same_sign, first_rule, explanation_of}
use Rattle.acl_model.specs.RuleNumbers.{numbers_of, numbers_of_sign}
use Rattle.acl_model.specs.declared.document.Doc.{Doc}
use Rattle.acl_model.specs.declared.rule.Rule.{Rule}
use Rattle.acl_model.specs.declared.rule.Sign.{Sign}
use Rattle.acl_model.specs.declared.rule.Sign.TheVariants.{Grant, Deny}
use Rattle.sign_stack.specs.declared.level.Verdict.{Verdict}
use Rattle.sign_stack.specs.declared.level.Verdict.TheVariants.{Decided, Unsettled, Inherited}
use Rattle.sign_stack.specs.SignLevels.{has_rule_of, first_rule_of, verdict_at, sign_by as settled_sign, sign_of_levels, rule_of_levels}
use Rattle.sign_stack.specs.RuleRows.{selecting_row, settled_level, settled_levels}

-- ---- rules by their numbers

-- where no number passes the test, the filter keeps none
none_kept : (p : ℕ → Bool) (a n : ℕ) → ((k : ℕ) → p (a + k) ≡ false) → filter p (range_with_len a n) ≡ []
none_kept p a zero none = refl
none_kept p a (suc n) none =
    let here : a + 0 ≡ a = omega arith in
    ap (λ b. cond b (a ∷ filter p (range_with_len (a + 1) n)) (filter p (range_with_len (a + 1) n))) (ap p (sym here) ∙ none 0)
    ∙ none_kept p (a + 1) n (λ k. let next : a + 1 + k ≡ a + (1 + k) = omega arith in ap p next ∙ none (1 + k))

-- list_any and find over a list with its first entry kept or left out
any_kept : (b c : Bool) (f : ℕ → Bool) (a : ℕ) (rest : List ℕ) → f a ≡ c → list_any f (cond b (a ∷ rest) rest) ≡ ((c && b) || list_any f rest)
any_kept true true f a rest is = ap (λ x. x || list_any f rest) is
any_kept true false f a rest is = ap (λ x. x || list_any f rest) is
any_kept false true f a rest is = refl
any_kept false false f a rest is = refl

find_kept : (b c : Bool) (f : ℕ → Bool) (a : ℕ) (rest : List ℕ) → f a ≡ c → find f (cond b (a ∷ rest) rest) ≡ cond (c && b) (Some a) (find f rest)
find_kept true true f a rest is = ap (λ x. cond x (Some a) (find f rest)) is
find_kept true false f a rest is = ap (λ x. cond x (Some a) (find f rest)) is
find_kept false true f a rest is = refl
find_kept false false f a rest is = refl

-- Some number passes both tests exactly where some rule does, the rules numbered from a on.
any_numbered : (t s : Rule → Bool) (rules : List Rule) (f p : ℕ → Bool) (a n : ℕ) → length rules ≤ n
    → ((k : ℕ) → k < n → f (a + k) ≡ option_map_or t (slice_get rules k) false)
    → ((k : ℕ) → p (a + k) ≡ option_map_or s (slice_get rules k) false)
    → list_any f (filter p (range_with_len a n)) ≡ list_any (λ r. t r && s r) rules
any_numbered t s [] f p a n few tests keeps = ap (list_any f) (none_kept p a n keeps)
any_numbered t s (r ∷ rules) f p a zero few tests keeps = absurd (omega (arith, few))
any_numbered t s (r ∷ rules) f p a (suc n) few tests keeps =
    let here : a + 0 ≡ a = omega arith in
    let rest : List ℕ = filter p (range_with_len (a + 1) n) in
    ap (λ b. list_any f (cond b (a ∷ rest) rest)) (ap p (sym here) ∙ keeps 0)
    ∙ any_kept (s r) (t r) f a rest (ap f (sym here) ∙ tests 0 (omega arith))
    ∙ ap (λ b. (t r && s r) || b) (any_numbered t s rules f p (a + 1) n (omega (arith, few))
    (λ k inside. let next : a + 1 + k ≡ a + suc k = omega arith in ap f next ∙ tests (suc k) (omega arith))
    (λ k. let next : a + 1 + k ≡ a + suc k = omega arith in ap p next ∙ keeps (suc k)))

-- The first number that passes both tests is that of the first rule that does.
first_numbered : (t s : Rule → Bool) (rules : List Rule) (f p : ℕ → Bool) (a n : ℕ) → length rules ≤ n
    → ((k : ℕ) → k < n → f (a + k) ≡ option_map_or t (slice_get rules k) false)
    → ((k : ℕ) → p (a + k) ≡ option_map_or s (slice_get rules k) false)
    → find f (filter p (range_with_len a n)) ≡ position_from (λ r. t r && s r) a rules
first_numbered t s [] f p a n few tests keeps = ap (find f) (none_kept p a n keeps)
first_numbered t s (r ∷ rules) f p a zero few tests keeps = absurd (omega (arith, few))
first_numbered t s (r ∷ rules) f p a (suc n) few tests keeps =
    let here : a + 0 ≡ a = omega arith in
    let rest : List ℕ = filter p (range_with_len (a + 1) n) in
    ap (λ b. find f (cond b (a ∷ rest) rest)) (ap p (sym here) ∙ keeps 0)
    ∙ find_kept (s r) (t r) f a rest (ap f (sym here) ∙ tests 0 (omega arith))
    ∙ ap (λ o. cond (t r && s r) (Some a) o) (first_numbered t s rules f p (a + 1) n (omega (arith, few))
    (λ k inside. let next : a + 1 + k ≡ a + suc k = omega arith in ap f next ∙ tests (suc k) (omega arith))
    (λ k. let next : a + 1 + k ≡ a + suc k = omega arith in ap p next ∙ keeps (suc k)))

numbered_test : (t : Rule → Bool) (rules : List Rule) (k : ℕ) → k < 256 → is_member (numbers_of t rules) (0 + k) ≡ option_map_or t (slice_get rules k) false
unfolding row_of numbers_of
numbered_test t rules k small = let same : 0 + k ≡ k = omega arith in ap (is_member (numbers_of t rules)) same ∙ is_member-row_of (λ n. option_map_or t (slice_get rules n) false) k small

numbered_row : (s : Rule → Bool) (rules : List Rule) (k : ℕ) → option_map_or s (slice_get rules (0 + k)) false ≡ option_map_or s (slice_get rules k) false
numbered_row s rules k = let same : 0 + k ≡ k = omega arith in ap (λ n. option_map_or s (slice_get rules n) false) same

-- the two sets share a rule exactly where some rule passes both tests
has_rule_of-numbers : (t s : Rule → Bool) (rules : List Rule) → length rules ≤ 256 → has_rule_of (numbers_of t rules) (numbers_of s rules) ≡ list_any (λ r. t r && s r) rules
unfolding numbers_of
has_rule_of-numbers t s rules few =
    any_numbered t s rules (is_member (numbers_of t rules)) (λ n. option_map_or s (slice_get rules n) false) 0 256 few (numbered_test t rules) (numbered_row s rules)

-- the first number in both sets is that of the first rule that passes both tests
first_rule_of-numbers : (t s : Rule → Bool) (rules : List Rule) → length rules ≤ 256 → first_rule_of (numbers_of t rules) (numbers_of s rules) ≡ position (λ r. t r && s r) rules
unfolding numbers_of
first_rule_of-numbers t s rules few =
    first_numbered t s rules (is_member (numbers_of t rules)) (λ n. option_map_or s (slice_get rules n) false) 0 256 few (numbered_test t rules) (numbered_row s rules)
    ∙ sym (position_from-zero (λ r. t r && s r) rules)

-- ---- signs

deny_same : (s : Sign) → is_same_sign s Deny ≡ is_deny s
deny_same Grant = refl
deny_same Deny = refl

denied_is : (d : Doc) (rules : List Rule) (place : List ℕ) → list_any (λ r. is_same_sign r.sign Deny && select d r.path place) rules ≡ is_denied d rules place
denied_is d rules place = ap (λ (test : Sign → Bool). list_any (λ r. test r.sign && select d r.path place) rules) (λ i s. deny_same s i)

one_more_rule : (s : Sign) (b x y : Bool) → (b || (x || y)) ≡ ((is_same_sign s Deny && b) || x || ((is_same_sign s Grant && b) || y))
one_more_rule Grant true true y = refl
one_more_rule Grant true false y = refl
one_more_rule Grant false x y = refl
one_more_rule Deny true x y = refl
one_more_rule Deny false x y = refl

-- an element is selected where some denial or some grant selects it
selected_is : (d : Doc) (place : List ℕ) (rules : List Rule)
    → is_selected d rules place ≡ (list_any (λ r. is_same_sign r.sign Deny && select d r.path place) rules || list_any (λ r. is_same_sign r.sign Grant && select d r.path place) rules)
selected_is d place [] = refl
selected_is d place (r ∷ rules) =
    ap (λ b. select d r.path place || b) (selected_is d place rules)
    ∙ one_more_rule r.sign (select d r.path place) (list_any (λ r. is_same_sign r.sign Deny && select d r.path place) rules) (list_any (λ r. is_same_sign r.sign Grant && select d r.path place) rules)

-- what a settled set says: D is whether a denial is in it, G whether a grant is
abbrev said : Bool → Bool → Verdict
said D G = cond D (Decided Deny) (cond D Unsettled (cond G (Decided Grant) (cond G Unsettled Inherited)))

verdict_is : (grants denies row : List ℕ) → verdict_at grants denies (settled_level row) ≡ said (has_rule_of denies row) (has_rule_of grants row)
verdict_is grants denies row = refl

nearest_sign : (d : Doc) (rules : List Rule) (place : List ℕ) (D G : Bool) (above : Option Sign) (farther : Option (List ℕ)) → is_denied d rules place ≡ D → above ≡ Some (sign_by d rules farther)
    → settled_sign (said D G) above ≡ Some (sign_by d rules (cond (D || G) (Some place) farther))
nearest_sign d rules place true G above farther denied is = ap (λ b. Some (cond b Deny Grant)) (sym denied)
nearest_sign d rules place false true above farther denied is = ap (λ b. Some (cond b Deny Grant)) (sym denied)
nearest_sign d rules place false false above farther denied is = is

-- the sign by the sets of some places is that of the first of them that a rule selects
signs_along : (d : Doc) (rules : List Rule) → length rules ≤ 256 → (places : List (List ℕ))
    → sign_of_levels (numbers_of_sign Grant rules) (numbers_of_sign Deny rules) (map (λ p. settled_level (selecting_row d rules p)) places) ≡ Some (sign_by d rules (find (is_selected d rules) places))
signs_along d rules few [] = refl
signs_along d rules few (place ∷ places) =
    let above : Option Sign = sign_of_levels (numbers_of_sign Grant rules) (numbers_of_sign Deny rules) (map (λ p. settled_level (selecting_row d rules p)) places) in
    let denies : Bool = list_any (λ r. is_same_sign r.sign Deny && select d r.path place) rules in
    let grants : Bool = list_any (λ r. is_same_sign r.sign Grant && select d r.path place) rules in
    ap (λ b. settled_sign (said b (has_rule_of (numbers_of_sign Grant rules) (selecting_row d rules place))) above)
    (has_rule_of-numbers (λ r. is_same_sign r.sign Deny) (λ r. select d r.path place) rules few)
    ∙ ap (λ b. settled_sign (said denies b) above) (has_rule_of-numbers (λ r. is_same_sign r.sign Grant) (λ r. select d r.path place) rules few)
    ∙ nearest_sign d rules place denies grants above (find (is_selected d rules) places) (sym (denied_is d rules place)) (signs_along d rules few places)
    ∙ ap (λ b. Some (sign_by d rules (cond b (Some place) (find (is_selected d rules) places)))) (sym (selected_is d place rules))

pub sign_is : (d : Doc) (rules : List Rule) (place : List ℕ) → length rules ≤ 256
    → sign_of_levels (numbers_of_sign Grant rules) (numbers_of_sign Deny rules) (settled_levels d rules place) ≡ Some (sign d rules place)
unfolding sign
sign_is d rules place few = signs_along d rules few (prefixes place)

-- ---- the rule that a sign comes from

-- a first entry that passes is found exactly where there is one
found_where : {X : Type 0} (t : X → Bool) (xs : List X) (a : ℕ) → is_some (position_from t a xs) ≡ list_any t xs
found_where t [] a = refl
found_where t (x ∷ xs) a = elim (t x) as (λ b. is_some (cond b (Some a) (position_from t (a + 1) xs)) ≡ (b || list_any t xs)) [ true ↦ refl | false ↦ found_where t xs (a + 1) ]

found_is : {X : Type 0} (t : X → Bool) (xs : List X) → is_some (position t xs) ≡ list_any t xs
found_is t xs = ap is_some (position_from-zero t xs) ∙ found_where t xs 0

-- the first denial where there is one, else the first grant, else what is found farther up
nearest_rule : (place : List ℕ) (signed : List ℕ → Option ℕ) (deny grant farther : Option ℕ) (D G : Bool) (places : Option (List ℕ))
    → is_some deny ≡ D → is_some grant ≡ G → (D ≡ true → signed place ≡ deny) → (D ≡ false → signed place ≡ grant) → farther ≡ option_and_then signed places
    → option_or (option_or deny grant) farther ≡ option_and_then signed (cond (D || G) (Some place) places)
nearest_rule place signed (Some n) grant farther true G places denies grants own other is = sym (own refl)
nearest_rule place signed (Some n) grant farther false G places denies grants own other is = absurd (true≢false denies)
nearest_rule place signed None grant farther true G places denies grants own other is = absurd (true≢false (sym denies))
nearest_rule place signed None (Some n) farther false true places denies grants own other is = sym (other refl)
nearest_rule place signed None (Some n) farther false false places denies grants own other is = absurd (true≢false grants)
nearest_rule place signed None None farther false true places denies grants own other is = absurd (true≢false (sym grants))
nearest_rule place signed None None farther false false places denies grants own other is = is

-- the first rule, of the sign of a place that is selected, that selects it
abbrev told_at : Doc → List Rule → List ℕ → Option ℕ
told_at d rules place = first_rule d rules (if is_denied d rules place then Deny else Grant) place

-- the rule by the sets of some places is that of the first of them that a rule selects
rules_along : (d : Doc) (rules : List Rule) → length rules ≤ 256 → (places : List (List ℕ))
    → rule_of_levels (numbers_of_sign Grant rules) (numbers_of_sign Deny rules) (map (λ p. settled_level (selecting_row d rules p)) places) ≡ option_and_then (told_at d rules) (find (is_selected d rules) places)
rules_along d rules few [] = refl
rules_along d rules few (place ∷ places) =
    let above : Option ℕ = rule_of_levels (numbers_of_sign Grant rules) (numbers_of_sign Deny rules) (map (λ p. settled_level (selecting_row d rules p)) places) in
    let denies : Rule → Bool = λ r. is_same_sign r.sign Deny && select d r.path place in
    let grants : Rule → Bool = λ r. is_same_sign r.sign Grant && select d r.path place in
    ap (λ o. option_or (option_or o (first_rule_of (numbers_of_sign Grant rules) (selecting_row d rules place))) above)
    (first_rule_of-numbers (λ r. is_same_sign r.sign Deny) (λ r. select d r.path place) rules few)
    ∙ ap (λ o. option_or (option_or (position denies rules) o) above) (first_rule_of-numbers (λ r. is_same_sign r.sign Grant) (λ r. select d r.path place) rules few)
    ∙ nearest_rule place (told_at d rules) (position denies rules) (position grants rules) above (list_any denies rules) (list_any grants rules) (find (is_selected d rules) places)
    (found_is denies rules) (found_is grants rules)
    (λ some. ap (λ b. first_rule d rules (cond b Deny Grant) place) (sym (denied_is d rules place) ∙ some))
    (λ none. ap (λ b. first_rule d rules (cond b Deny Grant) place) (sym (denied_is d rules place) ∙ none))
    (rules_along d rules few places)
    ∙ ap (λ b. option_and_then (told_at d rules) (cond b (Some place) (find (is_selected d rules) places))) (sym (selected_is d place rules))

-- the rule of an explanation, from the decider of the place
told_is : (d : Doc) (rules : List Rule) (place : List ℕ) (o : Option (List ℕ)) → option_and_then (told_at d rules) o ≡ option_and_then (first_rule d rules (sign_by d rules o)) o
told_is d rules place None = refl
told_is d rules place (Some q) = refl

pub rule_is : (d : Doc) (rules : List Rule) (place : List ℕ) → length rules ≤ 256
    → rule_of_levels (numbers_of_sign Grant rules) (numbers_of_sign Deny rules) (settled_levels d rules place) ≡ (explanation_of d rules place).rule
unfolding sign
rule_is d rules place few = rules_along d rules few (prefixes place) ∙ told_is d rules place (decider d rules place)
