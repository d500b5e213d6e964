-- A view has no more lines than its document.
use Rattle.std.proofs.Common.{◌≡◌, ℕ, ◌+◌, ◌≤◌, Bool, true, false, Option, Some, None, List, [], ◌∷◌, map, refl, ap, sym, ◌∙◌, subst, arith}
use Rattle.std.specs.Option.{unwrap_or, MatchOption}
use Rattle.acl_model.specs.Ascii.{hyphen}
use Rattle.acl_model.specs.Places.{element_in, element_of}
use Rattle.acl_model.specs.Decide.{sign}
use Rattle.acl_model.specs.View.{Signs, in_child, filter_of, filter_of_item, grant_within, with_child, with_text, views, view_by_sign, doc_of, view}
use Rattle.acl_model.proofs.ViewEquations.{filter_of_is, filter_of_item-Text, filter_of_item-Child, item_cases, element_of-Child}
use Rattle.acl_model.specs.declared.document.Doc.{Doc}
use Rattle.acl_model.specs.declared.document.Item.{Item, roll-Item, out-roll-Item}
use Rattle.acl_model.specs.declared.document.Element.{Element, roll-Element}
use Rattle.acl_model.specs.declared.document.Item.TheVariants.{Text, Child}
use Rattle.acl_model.specs.declared.document.Item.TheOpen.{Item-F}
use Rattle.acl_model.specs.declared.document.Item.TheFolds.{ind-Element, map-Item, map-Element}
use Rattle.acl_model.specs.declared.rule.Rule.{Rule}
use Rattle.acl_model.specs.declared.rule.Sign.{Sign}
use Rattle.acl_model.specs.declared.rule.Sign.TheVariants.{Grant, Deny}
use Rattle.sample_maker.specs.inside.Counts.{total, line_count, item_line_count}
use Rattle.sample_maker.proofs.CountEquations.{line_count_is, item_line_count-Child}

none_is_not_some : {A : Type 0} (x : A) → None ≡ Some x → ⊥
none_is_not_some x h = subst (λ o. MatchOption o (Unit {0}) (λ _. ⊥)) h tt

same_within : {A : Type 0} (x y : A) → Some x ≡ Some y → x ≡ y
same_within x y h = ap (λ o. unwrap_or o x) h

-- What a view shows of an element has no more lines than the element.
abbrev ShowsFewer : Element → Type 0
ShowsFewer e = (signs : Signs) (x : Element) → (filter_of e).view signs ≡ Some x → line_count x ≤ line_count e

-- the same of an item
abbrev ItemShowsFewer : Item → Type 0
ItemShowsFewer item = (e : Element) → element_of item ≡ Some e → ShowsFewer e

-- The items `shown` have no more lines than `items`.
abbrev AreFewer : List Item → List Item → Type 0
AreFewer shown items = total (map item_line_count shown) ≤ total (map item_line_count items)

with_text_fewer : (own : Sign) (bytes : List ℕ) (shown items : List Item) → AreFewer shown items → AreFewer (with_text own bytes shown) (Text bytes ∷ items)
with_text_fewer Grant bytes shown items fewer = omega (arith, fewer)
with_text_fewer Deny bytes shown items fewer = omega (arith, fewer)

with_child_fewer : (o : Option Element) (c : Element) (shown items : List Item) → ((x : Element) → o ≡ Some x → line_count x ≤ line_count c) → AreFewer shown items → AreFewer (with_child o shown) (Child c ∷ items)
with_child_fewer None c shown items told fewer = omega (arith, fewer)
with_child_fewer (Some x) c shown items told fewer =
    let one : line_count x ≤ line_count c = told x refl in
    omega (arith, item_line_count-Child x, item_line_count-Child c, one, fewer)

items_fewer : (pairs : List ((item : Item) × ItemShowsFewer item)) (own : Sign) (signs : Signs) (k : ℕ) → AreFewer (views own (map filter_of_item (map (λ p. p.0) pairs)) signs k) (map (λ p. p.0) pairs)
items_fewer [] own signs k = omega arith
items_fewer (pair ∷ pairs) own signs k =
    let items : List Item = map (λ p. p.0) pairs in
    item_cases (λ x. ItemShowsFewer x → AreFewer (views own (filter_of_item x ∷ map filter_of_item items) signs k) (x ∷ items))
    (λ bytes tells.
    subst (λ s. AreFewer (views own (s ∷ map filter_of_item items) signs k) (Text bytes ∷ items)) (sym (filter_of_item-Text bytes))
    (with_text_fewer own bytes (views own (map filter_of_item items) signs k) items (items_fewer pairs own signs k)))
    (λ c tells.
    subst (λ s. AreFewer (views own (s ∷ map filter_of_item items) signs k) (Child c ∷ items)) (sym (filter_of_item-Child c))
    (with_child_fewer ((filter_of c).view (in_child signs k)) c (views own (map filter_of_item items) signs (k + 1)) items
    (λ x shown. tells c (element_of-Child c) (in_child signs k) x shown)
    (items_fewer pairs own signs (k + 1))))
    pair.0 pair.1

made_fewer : (own : Sign) (inside : Bool) (e x : Element) (items : List Item) → AreFewer items e.items → view_by_sign own inside e.name e.attributes items ≡ Some x → line_count x ≤ line_count e
made_fewer Grant inside e x items fewer is =
    let y : Element = record { name = e.name; attributes = e.attributes; items = items } in
    subst (λ z. line_count z ≤ line_count e) (same_within y x is) (omega (arith, line_count_is y, line_count_is e, fewer))
made_fewer Deny true e x items fewer is =
    let y : Element = record { name = hyphen ∷ []; attributes = []; items = items } in
    subst (λ z. line_count z ≤ line_count e) (same_within y x is) (omega (arith, line_count_is y, line_count_is e, fewer))
made_fewer Deny false e x items fewer is = absurd (none_is_not_some x is)

element_fewer : (e : Element) → ((own : Sign) (signs : Signs) (k : ℕ) → AreFewer (views own (map filter_of_item e.items) signs k) e.items) → ShowsFewer e
element_fewer e inside signs x shown =
    made_fewer (signs []) (grant_within (map filter_of_item e.items) signs 1) e x (views (signs []) (map filter_of_item e.items) signs 1) (inside (signs []) signs 1)
    (sym (ap (λ s. s.view signs) (filter_of_is e)) ∙ shown)

item_fewer : (y : Item-F ((item : Item) × ItemShowsFewer item) ((e : Element) × ShowsFewer e))
    → ItemShowsFewer (roll-Item (map-Item ((item : Item) × ItemShowsFewer item) ((e : Element) × ShowsFewer e) Item Element (λ p. p.0) (λ p. p.0) y))
item_fewer (Item-F.Text bytes) e told = absurd (none_is_not_some e (sym (ap element_in (out-roll-Item (Item-F.Text bytes))) ∙ told))
item_fewer (Item-F.Child pair) e told = subst ShowsFewer (same_within pair.0 e (sym (ap element_in (out-roll-Item (Item-F.Child pair.0))) ∙ told)) pair.1

shows_fewer : (e : Element) → ShowsFewer e
shows_fewer = ind-Element ItemShowsFewer ShowsFewer
    (λ x y is. subst (λ z. ItemShowsFewer (roll-Item z)) is (item_fewer y))
    (λ x y is. subst (λ z. ShowsFewer (roll-Element z)) is (element_fewer (roll-Element (map-Element ((item : Item) × ItemShowsFewer item) ((e : Element) × ShowsFewer e) Item Element (λ p. p.0) (λ p. p.0) y)) (items_fewer y.items)))

doc_shown : (o : Option Element) (v : Doc) → doc_of o ≡ Some v → o ≡ Some v.root
doc_shown None v is = absurd (none_is_not_some v is)
doc_shown (Some e) v is = ap Some (ap (λ (w : Doc). w.root) (same_within (record { root = e }) v is))

-- The view of a document has no more lines than the document.
pub view_has_no_more_lines : (d : Doc) (rules : List Rule) (v : Doc) → view d rules ≡ Some v → line_count v.root ≤ line_count d.root
unfolding view
view_has_no_more_lines d rules v shown = shows_fewer d.root (sign d rules) v.root (doc_shown ((filter_of d.root).view (sign d rules)) v shown)
