-- The view of a view document is a view document. This covers the view of a document, and the view of such a view.
use Rattle.std.proofs.Common.{◌≡◌, ℕ, ◌+◌, ◌≤◌, Bool, true, false, ◌&&◌, nat_le, Option, Some, None, List, [], ◌∷◌, map, length, refl, ap, sym, ◌∙◌, subst, arith}
use Rattle.std.proofs.lemmas.Bool.Decides.{nat_tests}
use Rattle.std.specs.Cmp.{first_so, second_so}
use Rattle.std.specs.List.{list_all}
use Rattle.std.specs.Option.{unwrap_or, MatchOption}
use Rattle.acl_model.specs.Ascii.{hyphen}
use Rattle.acl_model.specs.Lines.{is_within_line}
use Rattle.acl_model.specs.Document.{is_raw_attribute, is_well_formed, item_well_formed, greatest, height, height_of_item, is_view_name, is_view_document}
use Rattle.acl_model.specs.Places.{element_in, element_of}
use Rattle.acl_model.specs.Decide.{sign}
use Rattle.acl_model.specs.View.{Signs, in_child, filter_of, filter_of_item, grant_within, with_child, with_text, views, view_by_sign, doc_of, view}
use Rattle.acl_model.proofs.FormEquations.{well_formed_is, item_well_formed-Text, item_well_formed-Child, height_is, height_of_item-Child}
use Rattle.acl_model.proofs.ViewEquations.{filter_of_is, filter_of_item-Text, filter_of_item-Child, item_cases, element_of-Child}
use Rattle.acl_model.specs.declared.document.Doc.{Doc}
use Rattle.acl_model.specs.declared.document.Item.{Item, roll-Item, out-roll-Item}
use Rattle.acl_model.specs.declared.document.Element.{Element, roll-Element}
use Rattle.acl_model.specs.declared.document.Item.TheVariants.{Text, Child}
use Rattle.acl_model.specs.declared.document.Item.TheOpen.{Item-F}
use Rattle.acl_model.specs.declared.document.Item.TheFolds.{ind-Element, map-Item, map-Element}
use Rattle.acl_model.specs.declared.rule.Rule.{Rule}
use Rattle.acl_model.specs.declared.rule.Sign.{Sign}
use Rattle.acl_model.specs.declared.rule.Sign.TheVariants.{Grant, Deny}

none_is_not_some : {A : Type 0} (x : A) → None ≡ Some x → ⊥
none_is_not_some x h = subst (λ o. MatchOption o (Unit {0}) (λ _. ⊥)) h tt

same_within : {A : Type 0} (x y : A) → Some x ≡ Some y → x ≡ y
same_within x y h = ap (λ o. unwrap_or o x) h

all_four : (a b c d : Bool) → a ≡ true → b ≡ true → c ≡ true → d ≡ true → (a && b && c && d) ≡ true
all_four a b c d p q r s = rw (p, q, r, s) refl

-- an element of a view has the right form, and is no higher than the element that it shows
abbrev Fits : Element → Element → Type 0
Fits x e = (is_well_formed is_view_name x ≡ true) × (height x ≤ height e)

-- the same for the items that are shown
abbrev ItemsFit : List Item → List Item → Type 0
ItemsFit shown items = (list_all (λ b. b) (map (item_well_formed is_view_name) shown) ≡ true) × (greatest (map height_of_item shown) ≤ greatest (map height_of_item items))

-- the view of an element of a view document has this property
abbrev ShowsFit : Element → Type 0
ShowsFit e = (signs : Signs) (x : Element) → is_well_formed is_view_name e ≡ true → (filter_of e).view signs ≡ Some x → Fits x e

abbrev ItemShowsFit : Item → Type 0
ItemShowsFit item = (e : Element) → element_of item ≡ Some e → ShowsFit e

with_text_fits : (own : Sign) (bytes : List ℕ) (shown items : List Item) → is_within_line bytes ≡ true → ItemsFit shown items → ItemsFit (with_text own bytes shown) (Text bytes ∷ items)
with_text_fits Grant bytes shown items within fit = (rw (item_well_formed-Text is_view_name bytes, within) fit.0, omega (arith, fit.1))
with_text_fits Deny bytes shown items within fit = (fit.0, omega (arith, fit.1))

with_child_fits : (o : Option Element) (c : Element) (shown items : List Item) → ((x : Element) → o ≡ Some x → Fits x c) → ItemsFit shown items → ItemsFit (with_child o shown) (Child c ∷ items)
with_child_fits None c shown items told fit = (fit.0, omega (arith, fit.1))
with_child_fits (Some x) c shown items told fit =
    let one : Fits x c = told x refl in
    (rw (item_well_formed-Child is_view_name x, one.0) fit.0, omega (arith, height_of_item-Child x, height_of_item-Child c, one.1, fit.1))

items_fit : (pairs : List ((item : Item) × ItemShowsFit item)) (own : Sign) (signs : Signs) (k : ℕ) → list_all (λ b. b) (map (item_well_formed is_view_name) (map (λ p. p.0) pairs)) ≡ true
    → ItemsFit (views own (map filter_of_item (map (λ p. p.0) pairs)) signs k) (map (λ p. p.0) pairs)
items_fit [] own signs k good = (refl, omega arith)
items_fit (pair ∷ pairs) own signs k good =
    let items : List Item = map (λ p. p.0) pairs in
    item_cases (λ x. ItemShowsFit x → (item_well_formed is_view_name x && list_all (λ b. b) (map (item_well_formed is_view_name) items)) ≡ true → ItemsFit (views own (filter_of_item x ∷ map filter_of_item items) signs k) (x ∷ items))
    (λ bytes tells ok.
    subst (λ s. ItemsFit (views own (s ∷ map filter_of_item items) signs k) (Text bytes ∷ items)) (sym (filter_of_item-Text bytes))
    (with_text_fits own bytes (views own (map filter_of_item items) signs k) items
    (sym (item_well_formed-Text is_view_name bytes) ∙ first_so (item_well_formed is_view_name (Text bytes)) (list_all (λ b. b) (map (item_well_formed is_view_name) items)) ok)
    (items_fit pairs own signs k (second_so (item_well_formed is_view_name (Text bytes)) (list_all (λ b. b) (map (item_well_formed is_view_name) items)) ok))))
    (λ c tells ok.
    subst (λ s. ItemsFit (views own (s ∷ map filter_of_item items) signs k) (Child c ∷ items)) (sym (filter_of_item-Child c))
    (with_child_fits ((filter_of c).view (in_child signs k)) c (views own (map filter_of_item items) signs (k + 1)) items
    (λ x shown. tells c (element_of-Child c) (in_child signs k) x (sym (item_well_formed-Child is_view_name c) ∙ first_so (item_well_formed is_view_name (Child c)) (list_all (λ b. b) (map (item_well_formed is_view_name) items)) ok) shown)
    (items_fit pairs own signs (k + 1) (second_so (item_well_formed is_view_name (Child c)) (list_all (λ b. b) (map (item_well_formed is_view_name) items)) ok))))
    pair.0 pair.1 good

-- an element of the view, from the views of its items
made_fits : (own : Sign) (inside : Bool) (e x : Element) (items : List Item) → is_well_formed is_view_name e ≡ true → ItemsFit items e.items → view_by_sign own inside e.name e.attributes items ≡ Some x → Fits x e
made_fits Grant inside e x items good fit is =
    let y : Element = record { name = e.name; attributes = e.attributes; items = items } in
    let parts : (is_view_name e.name && nat_le (length e.attributes) 65535 && list_all is_raw_attribute e.attributes && list_all (λ b. b) (map (item_well_formed is_view_name) e.items)) ≡ true = sym (well_formed_is is_view_name e) ∙ good in
    let three = first_so (is_view_name e.name && nat_le (length e.attributes) 65535 && list_all is_raw_attribute e.attributes) (list_all (λ b. b) (map (item_well_formed is_view_name) e.items)) parts in
    let two = first_so (is_view_name e.name && nat_le (length e.attributes) 65535) (list_all is_raw_attribute e.attributes) three in
    subst (λ z. Fits z e) (same_within y x is) (
      well_formed_is is_view_name y ∙ all_four (is_view_name e.name) (nat_le (length e.attributes) 65535) (list_all is_raw_attribute e.attributes) (list_all (λ b. b) (map (item_well_formed is_view_name) items))
          (first_so (is_view_name e.name) (nat_le (length e.attributes) 65535) two)
          (second_so (is_view_name e.name) (nat_le (length e.attributes) 65535) two)
          (second_so (is_view_name e.name && nat_le (length e.attributes) 65535) (list_all is_raw_attribute e.attributes) three) fit.0,
      omega (arith, height_is y, height_is e, fit.1),
    )
made_fits Deny true e x items good fit is =
    let y : Element = record { name = hyphen ∷ []; attributes = []; items = items } in
    subst (λ z. Fits z e) (same_within y x is) (
      well_formed_is is_view_name y ∙ all_four true true true (list_all (λ b. b) (map (item_well_formed is_view_name) items)) refl refl refl fit.0,
      omega (arith, height_is y, height_is e, fit.1),
    )
made_fits Deny false e x items good fit is = absurd (none_is_not_some x is)

items_of : (e : Element) → is_well_formed is_view_name e ≡ true → list_all (λ b. b) (map (item_well_formed is_view_name) e.items) ≡ true
items_of e good =
    second_so (is_view_name e.name && nat_le (length e.attributes) 65535 && list_all is_raw_attribute e.attributes) (list_all (λ b. b) (map (item_well_formed is_view_name) e.items)) (sym (well_formed_is is_view_name e) ∙ good)

element_fits : (e : Element) → ((own : Sign) (signs : Signs) (k : ℕ) → list_all (λ b. b) (map (item_well_formed is_view_name) e.items) ≡ true → ItemsFit (views own (map filter_of_item e.items) signs k) e.items) → ShowsFit e
element_fits e inside signs x good shown =
    made_fits (signs []) (grant_within (map filter_of_item e.items) signs 1) e x (views (signs []) (map filter_of_item e.items) signs 1) good (inside (signs []) signs 1 (items_of e good))
    (sym (ap (λ s. s.view signs) (filter_of_is e)) ∙ shown)

item_fits : (y : Item-F ((item : Item) × ItemShowsFit item) ((e : Element) × ShowsFit e))
    → ItemShowsFit (roll-Item (map-Item ((item : Item) × ItemShowsFit item) ((e : Element) × ShowsFit e) Item Element (λ p. p.0) (λ p. p.0) y))
item_fits (Item-F.Text bytes) e told = absurd (none_is_not_some e (sym (ap element_in (out-roll-Item (Item-F.Text bytes))) ∙ told))
item_fits (Item-F.Child pair) e told = subst ShowsFit (same_within pair.0 e (sym (ap element_in (out-roll-Item (Item-F.Child pair.0))) ∙ told)) pair.1

-- The view of an element of a view document has the right form, and is no higher than the element.
shows_fit : (e : Element) → ShowsFit e
shows_fit = ind-Element ItemShowsFit ShowsFit
    (λ x y is. subst (λ z. ItemShowsFit (roll-Item z)) is (item_fits y))
    (λ x y is. subst (λ z. ShowsFit (roll-Element z)) is (element_fits (roll-Element (map-Element ((item : Item) × ItemShowsFit item) ((e : Element) × ShowsFit e) Item Element (λ p. p.0) (λ p. p.0) y)) (items_fit y.items)))

doc_shown : (o : Option Element) (v : Doc) → doc_of o ≡ Some v → o ≡ Some v.root
doc_shown None v is = absurd (none_is_not_some v is)
doc_shown (Some e) v is = ap Some (ap (λ (w : Doc). w.root) (same_within (record { root = e }) v is))

within_depth : (a b : ℕ) → a ≤ b → nat_le b 255 ≡ true → nat_le a 255 ≡ true
within_depth a b less deep = grind (arith, nat_tests)

-- The view of a view document is a view document.
pub view_form : (d : Doc) (rules : List Rule) (v : Doc) → is_view_document d ≡ true → view d rules ≡ Some v → is_view_document v ≡ true
unfolding view
view_form d rules v good shown =
    let fit : Fits v.root d.root = shows_fit d.root (sign d rules) v.root (first_so (is_well_formed is_view_name d.root) (nat_le (height d.root) 255) good) (doc_shown ((filter_of d.root).view (sign d rules)) v shown) in
    rw (fit.0, within_depth (height v.root) (height d.root) fit.1 (second_so (is_well_formed is_view_name d.root) (nat_le (height d.root) 255) good)) refl
