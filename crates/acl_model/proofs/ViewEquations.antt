-- The views of an element and of each kind of item, as equations. An element is shown exactly where a place in it is
-- granted.
use Rattle.std.proofs.Common.{◌≡◌, ℕ, ◌+◌, Bool, true, false, ◌||◌, Option, Some, None, List, [], ◌∷◌, map, is_some, ap, sym, ◌∙◌, refl, subst}
use Rattle.acl_model.specs.Places.{element_in, element_of}
use Rattle.acl_model.specs.View.{Signs, in_child, ItemFilter, words, inner, ElementFilter, item_filter, element_filter, filter_of, filter_of_item, grant_within, is_grant, with_child, views, view_by_sign}
use Rattle.acl_model.specs.declared.document.Item.{Item, out-Item, roll-Item, roll-out-Item, out-roll-Item}
use Rattle.acl_model.specs.declared.document.Element.{Element}
use Rattle.acl_model.specs.declared.document.Item.TheVariants.{Text, Child, rolls-Text, rolls-Child}
use Rattle.acl_model.specs.declared.document.Item.TheOpen.{Item-F}
use Rattle.acl_model.specs.declared.document.Item.TheFolds.{fold_out-Element, fold-roll-Item}
use Rattle.acl_model.specs.declared.rule.Sign.{Sign}
use Rattle.acl_model.specs.declared.rule.Sign.TheVariants.{Grant, Deny}

-- the two functions of an element, by its items
pub filter_of_is : (e : Element) → filter_of e ≡ element_filter (record { name = e.name; attributes = e.attributes; items = map filter_of_item e.items })
unfolding filter_of filter_of_item
filter_of_is e = fold_out-Element ItemFilter ElementFilter item_filter element_filter e

pub filter_of_item-Text : (bytes : List ℕ) → filter_of_item (Text bytes) ≡ words bytes
unfolding filter_of_item
filter_of_item-Text bytes = ap filter_of_item (sym (rolls-Text bytes)) ∙ fold-roll-Item ItemFilter ElementFilter item_filter element_filter (Item-F.Text bytes)

pub filter_of_item-Child : (e : Element) → filter_of_item (Child e) ≡ inner (filter_of e).has_grant (filter_of e).view
unfolding filter_of filter_of_item
filter_of_item-Child e = ap filter_of_item (sym (rolls-Child e)) ∙ fold-roll-Item ItemFilter ElementFilter item_filter element_filter (Item-F.Child e)

pub ruleset view_equations = (filter_of_is, filter_of_item-Text, filter_of_item-Child)

-- each item is a text or a child element
pub item_cases : (P : Item → Type 0) → ((bytes : List ℕ) → P (Text bytes)) → ((e : Element) → P (Child e)) → (item : Item) → P item
item_cases P at_text at_child item = subst P (roll-out-Item item) (by_layer (out-Item item))
  where
    by_layer : (layer : Item-F Item Element) → P (roll-Item layer)
    by_layer (Item-F.Text bytes) = subst P (sym (rolls-Text bytes)) (at_text bytes)
    by_layer (Item-F.Child e) = subst P (sym (rolls-Child e)) (at_child e)

pub element_of-Text : (bytes : List ℕ) → element_of (Text bytes) ≡ None
element_of-Text bytes = ap element_of (sym (rolls-Text bytes)) ∙ ap element_in (out-roll-Item (Item-F.Text bytes))

pub element_of-Child : (e : Element) → element_of (Child e) ≡ Some e
element_of-Child e = ap element_of (sym (rolls-Child e)) ∙ ap element_in (out-roll-Item (Item-F.Child e))

-- there is an item
abbrev pub is_filled : List Item → Bool
is_filled [] = false
is_filled (item ∷ items) = true

view_by_sign-some : (own : Sign) (inside : Bool) (name : List ℕ) (attributes : List (List ℕ)) (items : List Item) → is_some (view_by_sign own inside name attributes items) ≡ (is_grant own || inside)
view_by_sign-some Grant inside name attributes items = refl
view_by_sign-some Deny true name attributes items = refl
view_by_sign-some Deny false name attributes items = refl

child_filled : (o : Option Element) (items : List Item) → is_filled (with_child o items) ≡ (is_some o || is_filled items)
child_filled None items = refl
child_filled (Some e) items = refl

-- An element is shown in the view exactly where it, or a place inside it, is granted.
pub shows_where_granted : (e : Element) (signs : Signs) → is_some ((filter_of e).view signs) ≡ (filter_of e).has_grant signs
shows_where_granted e signs =
    ap (λ s. is_some (s.view signs)) (filter_of_is e)
    ∙ view_by_sign-some (signs []) (grant_within (map filter_of_item e.items) signs 1) e.name e.attributes (views (signs []) (map filter_of_item e.items) signs 1)
    ∙ sym (ap (λ s. s.has_grant signs) (filter_of_is e))

-- A dummy has no items exactly where no place in them is granted.
pub views-empty : (items : List Item) (signs : Signs) (k : ℕ) → is_filled (views Deny (map filter_of_item items) signs k) ≡ grant_within (map filter_of_item items) signs k
views-empty [] signs k = refl
views-empty (item ∷ items) signs k =
    item_cases (λ x. is_filled (views Deny (filter_of_item x ∷ map filter_of_item items) signs k) ≡ grant_within (filter_of_item x ∷ map filter_of_item items) signs k)
    (λ bytes. subst (λ s. is_filled (views Deny (s ∷ map filter_of_item items) signs k) ≡ grant_within (s ∷ map filter_of_item items) signs k) (sym (filter_of_item-Text bytes)) (views-empty items signs k))
    (λ e. subst (λ s. is_filled (views Deny (s ∷ map filter_of_item items) signs k) ≡ grant_within (s ∷ map filter_of_item items) signs k) (sym (filter_of_item-Child e))
    (child_filled ((filter_of e).view (in_child signs k)) (views Deny (map filter_of_item items) signs (k + 1))
    ∙ ap (λ b. b || is_filled (views Deny (map filter_of_item items) signs (k + 1))) (shows_where_granted e (in_child signs k))
    ∙ ap (λ b. (filter_of e).has_grant (in_child signs k) || b) (views-empty items signs (k + 1))))
    item
