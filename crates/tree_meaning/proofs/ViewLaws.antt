-- One walk over the tree makes the view that acl_model defines by the signs of places.
use Rattle.std.proofs.Common.{◌≡◌, ℕ, ◌+◌, suc, Bool, Option, Some, None, List, [], ◌∷◌, ◌++◌, map, length, refl, ap, sym, ◌∙◌, subst, append_assoc, append-nil, add-one}
use Rattle.std.proofs.lemmas.List.Elements.{filter_map-append}
use Rattle.std.specs.List.{slice_get, cons_option}
use Rattle.std.specs.Option.{option_map_or}
use Rattle.acl_model.specs.Places.{element_of, children, child}
use Rattle.acl_model.specs.View.{Signs, in_child, filter_of, filter_of_item, grant_within, with_child, with_text, views, view_by_sign}
use Rattle.acl_model.proofs.ViewEquations.{filter_of_is, filter_of_item-Text, filter_of_item-Child, item_cases, element_of-Text, element_of-Child, is_filled, views-empty}
use Rattle.acl_model.specs.declared.document.Element.{Element}
use Rattle.acl_model.specs.declared.document.Item.{Item, out-roll-Item}
use Rattle.acl_model.specs.declared.document.Item.TheVariants.{Text, Child, rolls-Text, rolls-Child}
use Rattle.acl_model.specs.declared.document.Item.TheOpen.{Item-F}
use Rattle.acl_model.specs.declared.rule.Sign.{Sign}
use Rattle.acl_model.specs.declared.rule.Sign.TheVariants.{Grant, Deny}
use Rattle.tree_meaning.specs.inside.StepMarks.{MarkedStep, row_below, sign_here, signs_from, view_from, layer_view, item_view, items_view}

view_from_filter : (row : List MarkedStep) (above : Sign) (e : Element) → view_from row above e ≡ (filter_of e).view (signs_from row above e)
unfolding view_from
view_from_filter row above e = refl

-- ---- the view of an item

pub item_view-Text : (row : List MarkedStep) (own : Sign) (bytes : List ℕ) → item_view row own (Text bytes) ≡ with_text own bytes []
unfolding item_view
item_view-Text row own bytes = ap (item_view row own) (sym (rolls-Text bytes)) ∙ ap (layer_view row own) (out-roll-Item (Item-F.Text bytes))

pub item_view-Child : (row : List MarkedStep) (own : Sign) (e : Element) → item_view row own (Child e) ≡ with_child (view_from row own e) []
unfolding item_view
item_view-Child row own e = ap (item_view row own) (sym (rolls-Child e)) ∙ ap (layer_view row own) (out-roll-Item (Item-F.Child e))

pub ruleset item_view_equations = (item_view-Text, item_view-Child)

-- ---- the views of an element's items, without their numbers

slice_get-at : (prefix : List Element) (e : Element) (rest : List Element) → slice_get (prefix ++ e ∷ rest) (length prefix) ≡ Some e
slice_get-at [] e rest = refl
slice_get-at (x ∷ prefix) e rest = slice_get-at prefix e rest

with_text-append : (own : Sign) (bytes : List ℕ) (items : List Item) → with_text own bytes items ≡ with_text own bytes [] ++ items
with_text-append Grant bytes items = refl
with_text-append Deny bytes items = refl

with_child-append : (o : Option Element) (items : List Item) → with_child o items ≡ with_child o [] ++ items
with_child-append None items = refl
with_child-append (Some e) items = refl

length-snoc : (prefix : List Element) (e : Element) → length (prefix ++ e ∷ []) ≡ suc (length prefix)
length-snoc [] e = refl
length-snoc (x ∷ prefix) e = ap suc (length-snoc prefix e)

children-append : (prefix rest : List Item) → children (prefix ++ rest) ≡ children prefix ++ children rest
children-append prefix rest = filter_map-append element_of prefix rest

children-Text : (bytes : List ℕ) (rest : List Item) → children (Text bytes ∷ rest) ≡ children rest
children-Text bytes rest = ap (λ o. cons_option o (children rest)) (element_of-Text bytes)

children-Child : (e : Element) (rest : List Item) → children (Child e ∷ rest) ≡ e ∷ children rest
children-Child e rest = ap (λ o. cons_option o (children rest)) (element_of-Child e)

-- the number of the element child after these items
abbrev pub next_number : List Item → ℕ
next_number prefix = suc (length (children prefix))

pub next-Text : (prefix : List Item) (bytes : List ℕ) → next_number (prefix ++ Text bytes ∷ []) ≡ next_number prefix
next-Text prefix bytes =
    ap (λ es. suc (length es)) (children-append prefix (Text bytes ∷ []) ∙ ap (λ es. children prefix ++ es) (children-Text bytes []) ∙ append-nil (children prefix))

pub next-Child : (prefix : List Item) (e : Element) → next_number (prefix ++ Child e ∷ []) ≡ suc (next_number prefix)
next-Child prefix e =
    ap (λ es. suc (length es)) (children-append prefix (Child e ∷ []) ∙ ap (λ es. children prefix ++ es) (children-Child e []))
    ∙ ap suc (length-snoc (children prefix) e)

pub child-after : (items prefix rest : List Item) (e : Element) → prefix ++ Child e ∷ rest ≡ items → child items (next_number prefix) ≡ Some e
child-after items prefix rest e is =
    ap (λ xs. slice_get (children xs) (length (children prefix))) (sym is)
    ∙ ap (λ es. slice_get es (length (children prefix))) (children-append prefix (Child e ∷ rest) ∙ ap (λ es. children prefix ++ es) (children-Child e rest))
    ∙ slice_get-at (children prefix) e (children rest)

-- the row at an element, and its sign
abbrev row_at_element : List MarkedStep → Element → List MarkedStep
row_at_element row e = row_below e row

abbrev sign_below : List MarkedStep → Sign → Element → Sign
sign_below row above e = sign_here (row_below e row) above

-- the signs in a child are those that the walk has there
in_child-is : (row : List MarkedStep) (above : Sign) (e : Element) (prefix rest : List Item) (c : Element) → prefix ++ Child c ∷ rest ≡ e.items
    → in_child (signs_from row above e) (next_number prefix) ≡ signs_from (row_at_element row e) (sign_below row above e) c
in_child-is row above e prefix rest c is =
    λ i place. ap (λ o. option_map_or (λ x. signs_from (row_at_element row e) (sign_below row above e) x place) o (sign_below row above e)) (child-after e.items prefix rest c is) i

unnumbered : (row : List MarkedStep) (above : Sign) (e : Element) (rest prefix : List Item) → prefix ++ rest ≡ e.items
    → views (sign_below row above e) (map filter_of_item rest) (signs_from row above e) (next_number prefix) ≡ items_view (row_at_element row e) (sign_below row above e) rest
unnumbered row above e [] prefix is = refl
unnumbered row above e (item ∷ rest) prefix is =
    let here : List MarkedStep = row_at_element row e in
    let own : Sign = sign_below row above e in
    let signs : Signs = signs_from row above e in
    item_cases (λ x. prefix ++ x ∷ rest ≡ e.items → views own (filter_of_item x ∷ map filter_of_item rest) signs (next_number prefix) ≡ item_view here own x ++ items_view here own rest)
    (λ bytes was.
    ap (λ s. views own (s ∷ map filter_of_item rest) signs (next_number prefix)) (filter_of_item-Text bytes)
    ∙ with_text-append own bytes (views own (map filter_of_item rest) signs (next_number prefix))
    ∙ ap (λ items. with_text own bytes [] ++ items)
    (ap (views own (map filter_of_item rest) signs) (sym (next-Text prefix bytes)) ∙ unnumbered row above e rest (prefix ++ Text bytes ∷ []) (append_assoc prefix (Text bytes ∷ []) rest ∙ was))
    ∙ ap (λ items. items ++ items_view here own rest) (sym (item_view-Text here own bytes)))
    (λ c was.
    ap (λ s. views own (s ∷ map filter_of_item rest) signs (next_number prefix)) (filter_of_item-Child c)
    ∙ ap (λ inside. with_child ((filter_of c).view inside) (views own (map filter_of_item rest) signs (next_number prefix + 1))) (in_child-is row above e prefix rest c was)
    ∙ ap (λ o. with_child o (views own (map filter_of_item rest) signs (next_number prefix + 1))) (sym (view_from_filter here own c))
    ∙ with_child-append (view_from here own c) (views own (map filter_of_item rest) signs (next_number prefix + 1))
    ∙ ap (λ items. with_child (view_from here own c) [] ++ items)
    (ap (views own (map filter_of_item rest) signs) (add-one (next_number prefix) ∙ sym (next-Child prefix c)) ∙ unnumbered row above e rest (prefix ++ Child c ∷ []) (append_assoc prefix (Child c ∷ []) rest ∙ was))
    ∙ ap (λ items. items ++ items_view here own rest) (sym (item_view-Child here own c)))
    item is

-- ---- the view of an element

view_by_sign-same : (own : Sign) (inside filled : Bool) (name : List ℕ) (attributes : List (List ℕ)) (items : List Item) → (own ≡ Deny → filled ≡ inside)
    → view_by_sign own inside name attributes items ≡ view_by_sign own filled name attributes items
view_by_sign-same Grant inside filled name attributes items same = refl
view_by_sign-same Deny inside filled name attributes items same = ap (λ b. view_by_sign Deny b name attributes items) (sym (same refl))

-- The view of an element follows from its sign, its name and attributes, and the views of its items.
pub view_from_is : (row : List MarkedStep) (above : Sign) (e : Element)
    → view_from row above e
    ≡ view_by_sign (sign_here (row_below e row) above) (is_filled (items_view (row_below e row) (sign_here (row_below e row) above) e.items)) e.name e.attributes
    (items_view (row_below e row) (sign_here (row_below e row) above) e.items)
view_from_is row above e =
    let own : Sign = sign_below row above e in
    let signs : Signs = signs_from row above e in
    view_from_filter row above e
    ∙ ap (λ s. s.view (signs_from row above e)) (filter_of_is e)
    ∙ view_by_sign-same own (grant_within (map filter_of_item e.items) signs 1) (is_filled (views own (map filter_of_item e.items) signs 1)) e.name e.attributes (views own (map filter_of_item e.items) signs 1)
    (λ deny. subst (λ s. is_filled (views s (map filter_of_item e.items) signs 1) ≡ grant_within (map filter_of_item e.items) signs 1) (sym deny) (views-empty e.items signs 1))
    ∙ ap (λ items. view_by_sign own (is_filled items) e.name e.attributes items) (unnumbered row above e e.items [] refl)

-- what the walk has at the end of an element is the element's view
pub view_at_end : (row here : List MarkedStep) (above own : Sign) (e : Element) (items : List Item)
    → here ≡ row_below e row → own ≡ sign_here here above → items ≡ items_view here own e.items
    → view_by_sign own (is_filled items) e.name e.attributes items ≡ view_from row above e
view_at_end row here above own e items live_is own_is items_are =
    let own_here : own ≡ sign_here (row_below e row) above = own_is ∙ ap (λ l. sign_here l above) live_is in
    ap (λ xs. view_by_sign own (is_filled xs) e.name e.attributes xs) (items_are ∙ ap (λ l. items_view l own e.items) live_is)
    ∙ ap (λ s. view_by_sign s (is_filled (items_view (row_below e row) s e.items)) e.name e.attributes (items_view (row_below e row) s e.items)) own_here
    ∙ sym (view_from_is row above e)
