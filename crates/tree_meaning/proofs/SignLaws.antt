-- A walk down to a place finds the sign there.
use Rattle.std.proofs.Common.{◌≡◌, ℕ, suc, zero, ◌+◌, ◌-◌, ◌<◌, ◌≤◌, Option, Some, None, List, [], ◌∷◌, length, get_or, drop, drop-cons, add-one, refl, ap, sym, subst, ◌∙◌, arith, option_map}
use Rattle.std.proofs.lemmas.List.{drop_all}
use Rattle.std.specs.List.{slice_get, cons_option, flat_map}
use Rattle.std.specs.Option.{option_and_then, option_map_or, MatchOption}
use Rattle.acl_model.specs.Places.{element_of, children, child, below, at}
use Rattle.acl_model.specs.Decide.{sign}
use Rattle.acl_model.proofs.ChainLaws.{sign-chain}
use Rattle.acl_model.proofs.ViewEquations.{element_of-Text, element_of-Child}
use Rattle.acl_model.specs.declared.document.Doc.{Doc}
use Rattle.acl_model.specs.declared.document.Element.{Element}
use Rattle.acl_model.specs.declared.document.Item.{Item}
use Rattle.acl_model.specs.declared.rule.Rule.{Rule}
use Rattle.acl_model.specs.declared.rule.Sign.{Sign}
use Rattle.acl_model.specs.declared.rule.Sign.TheVariants.{Deny}
use Rattle.tree_meaning.specs.inside.StepMarks.{MarkedStep, begun_rule, row_below, sign_here, signs_from, sign_from, wanted_of, next_child_number}
use Rattle.tree_meaning.proofs.MarkLaws.{row_begins, signs_from_is}

none_is_not_some : {A : Type 0} (x : A) → None ≡ Some x → ⊥
none_is_not_some x h = subst (λ o. MatchOption o (Unit {0}) (λ _. ⊥)) h tt

pub ruleset element_laws = (element_of-Text, element_of-Child)

-- ---- a child by its number

-- the children of one more item
children_of : (items : List Item) (i : ℕ) (item : Item) → i < length items → item ≡ get_or items i item → children (drop i items) ≡ cons_option (element_of item) (children (drop (i + 1) items))
children_of items i item inside is =
    ap children (drop-cons items i item inside)
    ∙ ap (λ x. cons_option (element_of x) (children (drop (suc i) items))) (sym is)
    ∙ ap (λ n. cons_option (element_of item) (children (drop n items))) (sym (add-one i))

-- the element of this number among these
abbrev numbered_among : List Element → ℕ → Option Element
numbered_among es zero = None
numbered_among es (suc k) = slice_get es k

child_is : (items : List Item) (k : ℕ) → child items k ≡ numbered_among (children items) k
child_is items zero = refl
child_is items (suc k) = refl

-- after an item, the number that is left finds the same element
left_same : (o : Option Element) (es : List Element) (k : ℕ) → wanted_of o k ≡ None → numbered_among es (next_child_number o k) ≡ numbered_among (cons_option o es) k
left_same None es k none = refl
left_same (Some e) es zero none = refl
left_same (Some e) es (suc zero) none = absurd (none_is_not_some e (sym none))
left_same (Some e) es (suc (suc k)) none = let same : suc (suc k) - 1 ≡ suc k = omega arith in ap (numbered_among es) same

found_same : (o : Option Element) (es : List Element) (k : ℕ) (e : Element) → wanted_of o k ≡ Some e → Some e ≡ numbered_among (cons_option o es) k
found_same None es k e found = absurd (none_is_not_some e found)
found_same (Some x) es zero e found = absurd (none_is_not_some e found)
found_same (Some x) es (suc zero) e found = sym found
found_same (Some x) es (suc (suc k)) e found = absurd (none_is_not_some e found)

-- An item that is not the one looked for is skipped.
pub child_passed : (items : List Item) (i : ℕ) (item : Item) (k : ℕ) (all : Option Element) → i < length items → item ≡ get_or items i item → wanted_of (element_of item) k ≡ None
    → child (drop i items) k ≡ all → child (drop (i + 1) items) (next_child_number (element_of item) k) ≡ all
child_passed items i item k all inside is none way =
    child_is (drop (i + 1) items) (next_child_number (element_of item) k)
    ∙ left_same (element_of item) (children (drop (i + 1) items)) k none
    ∙ ap (λ es. numbered_among es k) (sym (children_of items i item inside is))
    ∙ sym (child_is (drop i items) k) ∙ way

-- One that is, is the child.
pub child_found : (items : List Item) (i : ℕ) (item : Item) (k : ℕ) (e : Element) (all : Option Element) → i < length items → item ≡ get_or items i item → wanted_of (element_of item) k ≡ Some e
    → child (drop i items) k ≡ all → Some e ≡ all
child_found items i item k e all inside is found way =
    found_same (element_of item) (children (drop (i + 1) items)) k e found
    ∙ ap (λ es. numbered_among es k) (sym (children_of items i item inside is))
    ∙ sym (child_is (drop i items) k) ∙ way

none_numbered : (k : ℕ) → numbered_among [] k ≡ None
none_numbered zero = refl
none_numbered (suc k) = refl

-- After the last item there is none.
pub child_end : (items : List Item) (i k : ℕ) (all : Option Element) → length items ≤ i → child (drop i items) k ≡ all → None ≡ all
child_end items i k all past way = sym (none_numbered k) ∙ ap (λ xs. numbered_among (children xs) k) (sym (drop_all i items past)) ∙ sym (child_is (drop i items) k) ∙ way

-- ---- the sign

sign_where_there : (place : List ℕ) (row : List MarkedStep) (above : Sign) (e : Element) → sign_from row above e place ≡ option_map (λ x. signs_from row above e place) (below e place)
sign_where_there [] row above e = refl
sign_where_there (k ∷ place) row above e =
    elim (child e.items k) as (λ o. option_and_then (λ c. sign_from (row_below e row) (sign_here (row_below e row) above) c place) o
    ≡ option_map (λ x. option_map_or (λ c. signs_from (row_below e row) (sign_here (row_below e row) above) c place) o (sign_here (row_below e row) above)) (option_and_then (λ c. below c place) o))
    [ None ↦ refl | Some c ↦ sign_where_there place (row_below e row) (sign_here (row_below e row) above) c ]

-- The walk from the root finds the sign of the element at the place, if there is one.
pub sign_found : (d : Doc) (rules : List Rule) (place : List ℕ) → sign_from (flat_map begun_rule rules) Deny d.root place ≡ option_map (λ x. sign d rules place) (at d place)
sign_found d rules place =
    sign_where_there place (flat_map begun_rule rules) Deny d.root
    ∙ ap (λ s. option_map (λ x. s) (at d place)) (signs_from_is rules place d.root [] (flat_map begun_rule rules) Deny (row_begins rules) refl ∙ sym (sign-chain d rules place))

-- one number of the place
pub sign_step : (row here : List MarkedStep) (above own : Sign) (e c : Element) (place : List ℕ) (k : ℕ) → here ≡ row_below e row → own ≡ sign_here here above → 1 ≤ length place → k ≡ get_or place 0 k → Some c ≡ child e.items k
    → sign_from here own c (drop 1 place) ≡ sign_from row above e place
sign_step row here above own e c [] k carried is some first found = absurd (omega (arith, some))
sign_step row here above own e c (x ∷ place) k carried is some first found =
    ap (λ s. sign_from here s c place) is
    ∙ ap (λ r. sign_from r (sign_here r above) c place) carried
    ∙ ap (option_and_then (λ y. sign_from (row_below e row) (sign_here (row_below e row) above) y place)) (found ∙ ap (child e.items) first)

-- where no child has the number
pub sign_missing : (row : List MarkedStep) (above : Sign) (e : Element) (place : List ℕ) (k : ℕ) → 1 ≤ length place → k ≡ get_or place 0 k → None ≡ child e.items k → None ≡ sign_from row above e place
sign_missing row above e [] k some first none = absurd (omega (arith, some))
sign_missing row above e (x ∷ place) k some first none =
    ap (option_and_then (λ y. sign_from (row_below e row) (sign_here (row_below e row) above) y place)) (none ∙ ap (child e.items) first)
