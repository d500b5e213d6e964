-- `has_grant`, which is a fold over an element, is true exactly where some place in the element is granted.
use Rattle.std.proofs.Common.{◌≡◌, ℕ, ◌+◌, suc, zero, Bool, true, false, ◌||◌, Some, None, List, [], ◌∷◌, map, refl, ap, sym, ◌∙◌, subst, add-one, zero-add, inl, inr, ◌⊎◌, arith}
use Rattle.std.proofs.lemmas.Bool.{true≢false}
use Rattle.std.proofs.lemmas.Option.{option_and_then_some}
use Rattle.std.specs.List.{slice_get, cons_option}
use Rattle.std.specs.Option.{option_and_then, unwrap_or, MatchOption}
use Rattle.acl_model.specs.Places.{element_in, element_of, children, below}
use Rattle.acl_model.specs.View.{Signs, in_child, filter_of, filter_of_item, grant_within, is_grant}
use Rattle.acl_model.proofs.ViewEquations.{filter_of_is, filter_of_item-Text, filter_of_item-Child, item_cases, element_of-Text, element_of-Child}
use Rattle.acl_model.specs.declared.document.Item.{Item, roll-Item, out-roll-Item}
use Rattle.acl_model.specs.declared.document.Element.{Element, roll-Element}
use Rattle.acl_model.specs.declared.document.Item.TheVariants.{Text, Child}
use Rattle.acl_model.specs.declared.document.Item.TheOpen.{Item-F}
use Rattle.acl_model.specs.declared.document.Item.TheFolds.{ind-Element, map-Item, map-Element}
use Rattle.acl_model.specs.declared.rule.Sign.{Sign}
use Rattle.acl_model.specs.declared.rule.Sign.TheVariants.{Grant, Deny}

pub none_is_not_some : {A : Type 0} (x : A) → None ≡ Some x → ⊥
none_is_not_some x h = subst (λ o. MatchOption o (Unit {0}) (λ _. ⊥)) h tt

same_within : {A : Type 0} (x y : A) → Some x ≡ Some y → x ≡ y
same_within x y h = ap (λ o. unwrap_or o x) h

or_true : (a : Bool) → (a || true) ≡ true
or_true true = refl
or_true false = refl

pub or_right : (a b : Bool) → b ≡ true → (a || b) ≡ true
or_right a b so = ap (λ v. a || v) so ∙ or_true a

has_grant_is : (e : Element) (signs : Signs) → (filter_of e).has_grant signs ≡ (is_grant (signs []) || grant_within (map filter_of_item e.items) signs 1)
has_grant_is e signs = ap (λ s. s.has_grant signs) (filter_of_is e)

pub children-Text : (bytes : List ℕ) (items : List Item) → children (Text bytes ∷ items) ≡ children items
children-Text bytes items = ap (λ o. cons_option o (children items)) (element_of-Text bytes)

pub children-Child : (e : Element) (items : List Item) → children (Child e ∷ items) ≡ e ∷ children items
children-Child e items = ap (λ o. cons_option o (children items)) (element_of-Child e)

-- ---- what is granted inside a child is granted within the items

grant_in_first : (e c : Element) (items : List Item) (n : ℕ) (signs : Signs) (k : ℕ)
    → ((m : ℕ) → slice_get (children items) m ≡ Some c → (filter_of c).has_grant (in_child signs (m + (k + 1))) ≡ true → grant_within (map filter_of_item items) signs (k + 1) ≡ true)
    → slice_get (e ∷ children items) n ≡ Some c → (filter_of c).has_grant (in_child signs (n + k)) ≡ true
    → ((filter_of e).has_grant (in_child signs k) || grant_within (map filter_of_item items) signs (k + 1)) ≡ true
grant_in_first e c items zero signs k later found granted =
    ap (λ b. b || grant_within (map filter_of_item items) signs (k + 1))
    (ap (λ x. (filter_of x).has_grant (in_child signs k)) (same_within e c found) ∙ ap (λ n. (filter_of c).has_grant (in_child signs n)) (sym (zero-add k)) ∙ granted)
grant_in_first e c items (suc m) signs k later found granted =
    let same : m + (k + 1) ≡ suc m + k = omega arith in
    or_right ((filter_of e).has_grant (in_child signs k)) (grant_within (map filter_of_item items) signs (k + 1))
    (later m found (ap (λ n. (filter_of c).has_grant (in_child signs n)) same ∙ granted))

grant_in_child : (items : List Item) (n : ℕ) (signs : Signs) (k : ℕ) (c : Element) → slice_get (children items) n ≡ Some c → (filter_of c).has_grant (in_child signs (n + k)) ≡ true → grant_within (map filter_of_item items) signs k ≡ true
grant_in_child [] n signs k c = λ found granted. absurd (none_is_not_some c found)
grant_in_child (item ∷ items) n signs k c =
    item_cases (λ x. slice_get (children (x ∷ items)) n ≡ Some c → (filter_of c).has_grant (in_child signs (n + k)) ≡ true → grant_within (filter_of_item x ∷ map filter_of_item items) signs k ≡ true)
    (λ bytes found granted.
    ap (λ s. grant_within (s ∷ map filter_of_item items) signs k) (filter_of_item-Text bytes)
    ∙ grant_in_child items n signs k c (ap (λ es. slice_get es n) (sym (children-Text bytes items)) ∙ found) granted)
    (λ e found granted.
    ap (λ s. grant_within (s ∷ map filter_of_item items) signs k) (filter_of_item-Child e)
    ∙ grant_in_first e c items n signs k (λ m. grant_in_child items m signs (k + 1) c) (ap (λ es. slice_get es n) (sym (children-Child e items)) ∙ found) granted)
    item

-- `has_grant` is true of an element that is granted, or has a granted place inside it.
pub grant_shows : (place : List ℕ) (e x : Element) (signs : Signs) → below e place ≡ Some x → signs place ≡ Grant → (filter_of e).has_grant signs ≡ true
grant_shows [] e x signs found granted = has_grant_is e signs ∙ ap (λ s. is_grant s || grant_within (map filter_of_item e.items) signs 1) granted
grant_shows (zero ∷ place) e x signs found granted = absurd (none_is_not_some x found)
grant_shows (suc n ∷ place) e x signs found granted =
    option_and_then_some (λ c. below c place) (slice_get (children e.items) n) x found (λ c is there.
    has_grant_is e signs
    ∙ or_right (is_grant (signs [])) (grant_within (map filter_of_item e.items) signs 1)
    (grant_in_child e.items n signs 1 c is
    (ap (λ k. (filter_of c).has_grant (in_child signs k)) (add-one n) ∙ grant_shows place c x (in_child signs (suc n)) there granted)))

-- ---- where `has_grant` is true, a place is granted

-- a place inside e, or e itself, is granted
abbrev pub HasGrantedPlace : Element → Signs → Type 0
HasGrantedPlace e signs = (place : List ℕ) × (x : Element) × (below e place ≡ Some x) × (signs place ≡ Grant)

abbrev GrantIsFound : Element → Type 0
GrantIsFound e = (signs : Signs) → (filter_of e).has_grant signs ≡ true → HasGrantedPlace e signs

abbrev ItemGrantIsFound : Item → Type 0
ItemGrantIsFound item = (e : Element) → element_of item ≡ Some e → GrantIsFound e

pub either : (a b : Bool) → (a || b) ≡ true → (a ≡ true) ⊎ (b ≡ true)
either true b so = inl refl
either false b so = inr so

granted_sign : (s : Sign) → is_grant s ≡ true → s ≡ Grant
granted_sign Grant so = refl
granted_sign Deny so = absurd (true≢false (sym so))

-- a granted place in one of the items, whose element child is the n-th after the first ones
abbrev FoundWithin : List Item → Signs → ℕ → Type 0
FoundWithin items signs k = (n : ℕ) × (c : Element) × (slice_get (children items) n ≡ Some c) × HasGrantedPlace c (in_child signs (n + k))

within_found : (pairs : List ((item : Item) × ItemGrantIsFound item)) (signs : Signs) (k : ℕ) → grant_within (map filter_of_item (map (λ p. p.0) pairs)) signs k ≡ true → FoundWithin (map (λ p. p.0) pairs) signs k
within_found [] signs k so = absurd (true≢false (sym so))
within_found (pair ∷ pairs) signs k so =
    let items : List Item = map (λ p. p.0) pairs in
    item_cases (λ x. ItemGrantIsFound x → grant_within (filter_of_item x ∷ map filter_of_item items) signs k ≡ true → FoundWithin (x ∷ items) signs k)
    (λ bytes tells here.
    let found = within_found pairs signs k (ap (λ s. grant_within (s ∷ map filter_of_item items) signs k) (sym (filter_of_item-Text bytes)) ∙ here) in
    (found.0, found.1, ap (λ es. slice_get es found.0) (children-Text bytes items) ∙ found.2, found.3))
    (λ e tells here. elim (either ((filter_of e).has_grant (in_child signs k)) (grant_within (map filter_of_item items) signs (k + 1)) (ap (λ s. grant_within (s ∷ map filter_of_item items) signs k) (sym (filter_of_item-Child e)) ∙ here)) [
      | inl first ↦ (0, e, ap (λ es. slice_get es 0) (children-Child e items), subst (λ m. HasGrantedPlace e (in_child signs m)) (sym (zero-add k)) (tells e (element_of-Child e) (in_child signs k) first))
      | inr later ↦
          let found = within_found pairs signs (k + 1) later in
          let same : found.0 + (k + 1) ≡ suc found.0 + k = omega arith in
          (suc found.0, found.1, ap (λ es. slice_get es (suc found.0)) (children-Child e items) ∙ found.2, subst (λ m. HasGrantedPlace found.1 (in_child signs m)) same found.3)
    ])
    pair.0 pair.1 so

element_grant_found : (e : Element) → ((signs : Signs) (k : ℕ) → grant_within (map filter_of_item e.items) signs k ≡ true → FoundWithin e.items signs k) → GrantIsFound e
element_grant_found e inside signs so = elim (either (is_grant (signs [])) (grant_within (map filter_of_item e.items) signs 1) (sym (has_grant_is e signs) ∙ so)) [
  | inl own ↦ ([], e, refl, granted_sign (signs []) own)
  | inr within ↦
      let found = inside signs 1 within in
      let place = subst (λ k. HasGrantedPlace found.1 (in_child signs k)) (add-one found.0) found.3 in
      (suc found.0 ∷ place.0, place.1, ap (option_and_then (λ c. below c place.0)) found.2 ∙ place.2, place.3)
]

item_grant_found : (y : Item-F ((item : Item) × ItemGrantIsFound item) ((e : Element) × GrantIsFound e))
    → ItemGrantIsFound (roll-Item (map-Item ((item : Item) × ItemGrantIsFound item) ((e : Element) × GrantIsFound e) Item Element (λ p. p.0) (λ p. p.0) y))
item_grant_found (Item-F.Text bytes) e told = absurd (none_is_not_some e (sym (ap element_in (out-roll-Item (Item-F.Text bytes))) ∙ told))
item_grant_found (Item-F.Child pair) e told = subst GrantIsFound (same_within pair.0 e (sym (ap element_in (out-roll-Item (Item-F.Child pair.0))) ∙ told)) pair.1

-- An element of which `has_grant` is true is granted, or has a granted place inside it.
pub grant_found : (e : Element) → GrantIsFound e
grant_found = ind-Element ItemGrantIsFound GrantIsFound
    (λ x y is. subst (λ z. ItemGrantIsFound (roll-Item z)) is (item_grant_found y))
    (λ x y is. subst (λ z. GrantIsFound (roll-Element z)) is (element_grant_found (roll-Element (map-Element ((item : Item) × ItemGrantIsFound item) ((e : Element) × GrantIsFound e) Item Element (λ p. p.0) (λ p. p.0) y)) (within_found y.items)))
