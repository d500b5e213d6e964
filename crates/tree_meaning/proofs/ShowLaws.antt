-- The list of how elements appear in a view, related to the view itself. What is written by the list is the view's
-- text.
use Rattle.std.proofs.Common.{◌≡◌, ℕ, ◌+◌, ◌<◌, ◌≤◌, arith, length-append, suc, Bool, true, false, ◌||◌, Option, Some, None, List, [], ◌∷◌, ◌++◌, map, length, get_or, take, drop, drop-cons, is_some, refl, ap, sym, subst, ◌∙◌, append_assoc, append-nil, add-one, if◌then◌else◌}
use Rattle.std.proofs.Math.Seq.{take-append_seam, drop-append-add}
use Rattle.std.proofs.lemmas.List.{drop_all}
use Rattle.std.proofs.lemmas.Option.{same_Some}
use Rattle.std.proofs.lemmas.List.Folds.{list_any-append, flat_map-map}
use Rattle.std.specs.List.{concat, flat_map, list_any, slice_get}
use Rattle.acl_model.specs.Ascii.{left_parenthesis, right_parenthesis, hyphen, capital_a}
use Rattle.acl_model.specs.Text.{line, element_text, item_text, text_of_view}
use Rattle.acl_model.specs.Places.{children}
use Rattle.acl_model.specs.View.{is_grant, with_child, with_text, view_by_sign, doc_of, view}
use Rattle.acl_model.proofs.TextEquations.{element_text_is, item_text-Text, item_text-Child}
use Rattle.acl_model.proofs.ViewEquations.{item_cases, is_filled}
use Rattle.acl_model.proofs.GrantLaws.{none_is_not_some, children-Text, children-Child}
use Rattle.acl_model.proofs.Members.{Has, has_later}
use Rattle.acl_model.proofs.ByChildren.{by_children}
use Rattle.acl_model.specs.declared.document.Doc.{Doc}
use Rattle.acl_model.specs.declared.document.Element.{Element, out-Element, roll-out-Element}
use Rattle.acl_model.specs.declared.document.Item.{Item}
use Rattle.acl_model.specs.declared.document.Item.TheVariants.{Text, Child, rolls-Text, rolls-Child}
use Rattle.acl_model.specs.declared.document.Item.TheOpen.{Item-F}
use Rattle.acl_model.specs.declared.document.Item.TheFolds.{fold_out-Element, fold-roll-Item, para-roll-Item, para-roll-Element}
use Rattle.acl_model.specs.declared.rule.Rule.{Rule}
use Rattle.acl_model.specs.declared.rule.Sign.{Sign}
use Rattle.acl_model.specs.declared.rule.Sign.TheVariants.{Grant, Deny}
use Rattle.tree_meaning.specs.declared.shows.Show.{Show}
use Rattle.tree_meaning.specs.declared.shows.Show.TheVariants.{Whole, Dummy, Absent}
use Rattle.tree_meaning.specs.inside.StepMarks.{MarkedStep, begun_rule, row_below, sign_here, view_from, item_view, items_view}
use Rattle.tree_meaning.specs.inside.Shows.{is_shown, show_by_sign, with_show, shows_by_sign, Shows, shows_in_layer, shows_in_element, shows_from, shows_of_item, Written, written_in_layer, in_turn, around, written_by, written_in_element, written_of, written_of_item}
use Rattle.tree_meaning.proofs.MarkLaws.{view_is}
use Rattle.tree_meaning.proofs.ViewLaws.{item_view-Text, item_view-Child, view_from_is}

-- ---- the list, as equations

pub shows_of_item-Text : (bytes : List ℕ) (here : List MarkedStep) (own : Sign) → shows_of_item (Text bytes) here own ≡ []
unfolding shows_of_item
shows_of_item-Text bytes here own =
    ap {A = Shows} (λ f. f here own) (ap shows_of_item (sym (rolls-Text bytes)) ∙ para-roll-Item Shows Shows shows_in_layer shows_in_element (Item-F.Text bytes))

pub shows_of_item-Child : (e : Element) (here : List MarkedStep) (own : Sign) → shows_of_item (Child e) here own ≡ shows_from e here own
unfolding shows_of_item shows_from
shows_of_item-Child e here own =
    ap {A = Shows} (λ f. f here own) (ap shows_of_item (sym (rolls-Child e)) ∙ para-roll-Item Shows Shows shows_in_layer shows_in_element (Item-F.Child e))

pub ruleset show_item_equations = (shows_of_item-Text, shows_of_item-Child, append-nil)

firsts : (f : Item → Shows) (items : List Item) → map {A = Item × Shows} (λ item. item.0) (map {B = Item × Shows} (λ y. (y, f y)) items) ≡ items
firsts f [] = refl
firsts f (item ∷ items) = ap (λ xs. item ∷ xs) (firsts f items)

-- the entries of the items of an element, one after another
abbrev pub shows_of_items : List MarkedStep → Sign → List Item → List Show
shows_of_items here own items = flat_map (λ item. shows_of_item item here own) items

pub shows_from_is : (e : Element) (row : List MarkedStep) (above : Sign)
    → shows_from e row above ≡ shows_by_sign (sign_here (row_below e row) above) (shows_of_items (row_below e row) (sign_here (row_below e row) above) e.items)
unfolding shows_from shows_of_item
shows_from_is e row above =
    let told : (Element → List Show) = λ x. shows_by_sign (sign_here (row_below x row) above) (flat_map {X = Item × Shows} (λ item. item.1 (row_below x row) (sign_here (row_below x row) above)) (map (λ y. (y, shows_of_item y)) e.items)) in
    ap {A = Shows} (λ f. f row above) (ap shows_from (sym (roll-out-Element e)) ∙ para-roll-Element Shows Shows shows_in_layer shows_in_element (out-Element e))
    ∙ ap (λ items. told (record { name = e.name; attributes = e.attributes; items = items })) (firsts shows_of_item e.items)
    ∙ ap (shows_by_sign (sign_here (row_below e row) above)) (flat_map-map {A = Item} {B = Item × Shows} {C = Show} (λ item. item.1 (row_below e row) (sign_here (row_below e row) above)) (λ y. (y, shows_of_item y)) e.items)

-- ---- what is written, as equations

pub written_of_is : (e : Element) (shows : List Show) → written_of e shows ≡ written_by e.attributes e.name (map written_of_item e.items) shows
unfolding written_of written_of_item
written_of_is e shows = ap {A = List Show → Written} (λ f. f shows) (fold_out-Element (Bool → List Show → Written) (List Show → Written) written_in_layer written_in_element e)

pub written_of_item-Text : (bytes : List ℕ) (whole : Bool) (shows : List Show) → written_of_item (Text bytes) whole shows ≡ record { text = if whole then line hyphen bytes else []; rest = shows }
unfolding written_of_item
written_of_item-Text bytes whole shows =
    ap {A = Bool → List Show → Written} (λ f. f whole shows) (ap written_of_item (sym (rolls-Text bytes)) ∙ fold-roll-Item (Bool → List Show → Written) (List Show → Written) written_in_layer written_in_element (Item-F.Text bytes))

pub written_of_item-Child : (e : Element) (whole : Bool) (shows : List Show) → written_of_item (Child e) whole shows ≡ written_of e shows
unfolding written_of_item written_of
written_of_item-Child e whole shows =
    ap {A = Bool → List Show → Written} (λ f. f whole shows) (ap written_of_item (sym (rolls-Child e)) ∙ fold-roll-Item (Bool → List Show → Written) (List Show → Written) written_in_layer written_in_element (Item-F.Child e))

-- ---- whether something of an element is in the view

pub with_show-shown : (show : Show) (inside : List Show) → list_any is_shown (with_show show inside) ≡ is_shown show
with_show-shown Whole inside = refl
with_show-shown Dummy inside = refl
with_show-shown Absent inside = refl

abbrev TellsShown : Element → Type 0
TellsShown e = (row : List MarkedStep) (above : Sign) → list_any is_shown (shows_from e row above) ≡ is_some (view_from row above e)

filled_child : (o : Option Element) (items : List Item) → is_filled (with_child o [] ++ items) ≡ (is_some o || is_filled items)
filled_child None items = refl
filled_child (Some e) items = refl

items_shown : (items : List Item) (here : List MarkedStep) → ((c : Element) → Has (children items) c → TellsShown c) → list_any is_shown (shows_of_items here Deny items) ≡ is_filled (items_view here Deny items)
items_shown [] here each = refl
items_shown (item ∷ items) here each =
    item_cases (λ x. ((c : Element) → Has (children (x ∷ items)) c → TellsShown c) → list_any is_shown (shows_of_item x here Deny ++ shows_of_items here Deny items) ≡ is_filled (item_view here Deny x ++ items_view here Deny items))
    (λ bytes every.
    ap (λ s. list_any is_shown (s ++ shows_of_items here Deny items)) (shows_of_item-Text bytes here Deny)
    ∙ items_shown items here (λ c h. every c (subst (λ es. Has es c) (sym (children-Text bytes items)) h))
    ∙ sym (ap (λ v. is_filled (v ++ items_view here Deny items)) (item_view-Text here Deny bytes)))
    (λ e every.
    ap (λ s. list_any is_shown (s ++ shows_of_items here Deny items)) (shows_of_item-Child e here Deny)
    ∙ list_any-append is_shown (shows_from e here Deny) (shows_of_items here Deny items)
    ∙ ap (λ b. b || list_any is_shown (shows_of_items here Deny items)) (every e (subst (λ es. Has es e) (sym (children-Child e items)) (0, refl)) here Deny)
    ∙ ap (λ b. is_some (view_from here Deny e) || b) (items_shown items here (λ c h. every c (subst (λ es. Has es c) (sym (children-Child e items)) (has_later e c (children items) h))))
    ∙ sym (filled_child (view_from here Deny e) (items_view here Deny items))
    ∙ sym (ap (λ v. is_filled (v ++ items_view here Deny items)) (item_view-Child here Deny e)))
    item each

denied_shown : (filled : Bool) (name : List ℕ) (attributes : List (List ℕ)) (items : List Item) → is_shown (show_by_sign Deny filled) ≡ is_some (view_by_sign Deny filled name attributes items)
denied_shown true name attributes items = refl
denied_shown false name attributes items = refl

shown_by_sign : (own : Sign) (flag filled : Bool) (name : List ℕ) (attributes : List (List ℕ)) (items : List Item) → (own ≡ Deny → flag ≡ filled) → is_shown (show_by_sign own flag) ≡ is_some (view_by_sign own filled name attributes items)
shown_by_sign Grant flag filled name attributes items same = refl
shown_by_sign Deny flag filled name attributes items same = ap (λ b. is_shown (show_by_sign Deny b)) (same refl) ∙ denied_shown filled name attributes items

-- Where an element is denied, something inside it is shown exactly where its view has items.
inside_shown : (e : Element) (here : List MarkedStep) (own : Sign) → ((c : Element) → Has (children e.items) c → TellsShown c) → own ≡ Deny → list_any is_shown (shows_of_items here own e.items) ≡ is_filled (items_view here own e.items)
inside_shown e here own each deny = subst (λ s. list_any is_shown (shows_of_items here s e.items) ≡ is_filled (items_view here s e.items)) (sym deny) (items_shown e.items here each)

-- Something of an element is shown exactly where it is in the view.
element_shown : (e : Element) → TellsShown e
element_shown = by_children TellsShown (λ e each row above.
    let here : List MarkedStep = row_below e row in
    let own : Sign = sign_here here above in
    let inside : List Show = shows_of_items here own e.items in
    ap (list_any is_shown) (shows_from_is e row above)
    ∙ with_show-shown (show_by_sign own (list_any is_shown inside)) inside
    ∙ shown_by_sign own (list_any is_shown inside) (is_filled (items_view here own e.items)) e.name e.attributes (items_view here own e.items) (inside_shown e here own each)
    ∙ sym (ap is_some (view_from_is row above e)))

-- ---- what is written is the view's text

-- the text of an element, if it is there
abbrev text_of : Option Element → List ℕ
text_of None = []
text_of (Some e) = element_text e

abbrev IsWritten : Element → Type 0
IsWritten e = (row : List MarkedStep) (above : Sign) (rest : List Show) → written_of e (shows_from e row above ++ rest) ≡ record { text = text_of (view_from row above e); rest = rest }

turn-step : (item : Bool → List Show → Written) (items : List (Bool → List Show → Written)) (whole : Bool) (shows after rest : List Show) (first others : List ℕ)
    → item whole shows ≡ record { text = first; rest = after } → in_turn items whole after ≡ record { text = others; rest = rest } → in_turn (item ∷ items) whole shows ≡ record { text = first ++ others; rest = rest }
turn-step item items whole shows after rest first others own more =
    ap {A = Written} {B = Written} (λ w. record { text = w.text ++ (in_turn items whole w.rest).text; rest = (in_turn items whole w.rest).rest }) own
    ∙ ap {A = Written} {B = Written} (λ w. record { text = first ++ w.text; rest = w.rest }) more

text-shown : (own : Sign) (bytes : List ℕ) (items : List Item) → (if is_grant own then line hyphen bytes else []) ++ concat (map item_text items) ≡ concat (map item_text (with_text own bytes [] ++ items))
text-shown Grant bytes items = ap (λ text. text ++ concat (map item_text items)) (sym (item_text-Text bytes))
text-shown Deny bytes items = refl

child-shown : (o : Option Element) (items : List Item) → text_of o ++ concat (map item_text items) ≡ concat (map item_text (with_child o [] ++ items))
child-shown None items = refl
child-shown (Some e) items = ap (λ text. text ++ concat (map item_text items)) (sym (item_text-Child e))

items_written : (items : List Item) (here : List MarkedStep) (own : Sign) (rest : List Show) → ((c : Element) → Has (children items) c → IsWritten c)
    → in_turn (map written_of_item items) (is_grant own) (shows_of_items here own items ++ rest) ≡ record { text = concat (map item_text (items_view here own items)); rest = rest }
items_written [] here own rest each = refl
items_written (item ∷ items) here own rest each =
    let others : List (Bool → List Show → Written) = map written_of_item items in
    let after : List Show = shows_of_items here own items ++ rest in
    let more : List ℕ = concat (map item_text (items_view here own items)) in
    item_cases (λ x. ((c : Element) → Has (children (x ∷ items)) c → IsWritten c) → in_turn (written_of_item x ∷ others) (is_grant own) ((shows_of_item x here own ++ shows_of_items here own items) ++ rest) ≡ record { text = concat (map item_text (item_view here own x ++ items_view here own items)); rest = rest })
    (λ bytes every.
    ap (λ s. in_turn (written_of_item (Text bytes) ∷ others) (is_grant own) ((s ++ shows_of_items here own items) ++ rest)) (shows_of_item-Text bytes here own)
    ∙ turn-step (written_of_item (Text bytes)) others (is_grant own) after after rest (if is_grant own then line hyphen bytes else []) more
    (written_of_item-Text bytes (is_grant own) after) (items_written items here own rest (λ c h. every c (subst (λ es. Has es c) (sym (children-Text bytes items)) h)))
    ∙ ap {B = Written} (λ text. record { text = text; rest = rest }) (text-shown own bytes (items_view here own items) ∙ sym (ap (λ v. concat (map item_text (v ++ items_view here own items))) (item_view-Text here own bytes))))
    (λ e every.
    ap (λ s. in_turn (written_of_item (Child e) ∷ others) (is_grant own) ((s ++ shows_of_items here own items) ++ rest)) (shows_of_item-Child e here own)
    ∙ ap (in_turn (written_of_item (Child e) ∷ others) (is_grant own)) (append_assoc (shows_from e here own) (shows_of_items here own items) rest)
    ∙ turn-step (written_of_item (Child e)) others (is_grant own) (shows_from e here own ++ after) after rest (text_of (view_from here own e)) more
    (written_of_item-Child e (is_grant own) (shows_from e here own ++ after) ∙ every e (subst (λ es. Has es e) (sym (children-Child e items)) (0, refl)) here own after)
    (items_written items here own rest (λ c h. every c (subst (λ es. Has es c) (sym (children-Child e items)) (has_later e c (children items) h))))
    ∙ ap {B = Written} (λ text. record { text = text; rest = rest }) (child-shown (view_from here own e) (items_view here own items) ∙ sym (ap (λ v. concat (map item_text (v ++ items_view here own items))) (item_view-Child here own e))))
    item each

denied_written : (filled : Bool) (attributes : List (List ℕ)) (name : List ℕ) (items : List (Bool → List Show → Written)) (inside rest : List Show) (shown : List Item)
    → in_turn items false (inside ++ rest) ≡ record { text = concat (map item_text shown); rest = rest }
    → written_by attributes name items (with_show (show_by_sign Deny filled) inside ++ rest) ≡ record { text = text_of (view_by_sign Deny filled name attributes shown); rest = rest }
denied_written true attributes name items inside rest shown told =
    ap (around false attributes name) told
    ∙ ap {B = Written} (λ text. record { text = text; rest = rest }) (sym (element_text_is (record { name = hyphen ∷ []; attributes = []; items = shown })))
denied_written false attributes name items inside rest shown told = refl

written_by_sign : (own : Sign) (flag filled : Bool) (attributes : List (List ℕ)) (name : List ℕ) (items : List (Bool → List Show → Written)) (inside rest : List Show) (shown : List Item) → (own ≡ Deny → flag ≡ filled)
    → in_turn items (is_grant own) (inside ++ rest) ≡ record { text = concat (map item_text shown); rest = rest }
    → written_by attributes name items (with_show (show_by_sign own flag) inside ++ rest) ≡ record { text = text_of (view_by_sign own filled name attributes shown); rest = rest }
written_by_sign Grant flag filled attributes name items inside rest shown same told =
    ap (around true attributes name) told
    ∙ ap {B = Written} (λ text. record { text = text; rest = rest })
    (append_assoc (concat (map (line capital_a) attributes)) (line left_parenthesis name) (concat (map item_text shown) ++ line right_parenthesis name)
    ∙ sym (element_text_is (record { name = name; attributes = attributes; items = shown })))
written_by_sign Deny flag filled attributes name items inside rest shown same told =
    ap (λ b. written_by attributes name items (with_show (show_by_sign Deny b) inside ++ rest)) (same refl)
    ∙ denied_written filled attributes name items inside rest shown told

element_written : (e : Element) → IsWritten e
element_written = by_children IsWritten (λ e each row above rest.
    let here : List MarkedStep = row_below e row in
    let own : Sign = sign_here here above in
    let inside : List Show = shows_of_items here own e.items in
    ap (λ s. written_of e (s ++ rest)) (shows_from_is e row above)
    ∙ written_of_is e (shows_by_sign own inside ++ rest)
    ∙ written_by_sign own (list_any is_shown inside) (is_filled (items_view here own e.items)) e.attributes e.name (map written_of_item e.items) inside rest (items_view here own e.items)
    (inside_shown e here own (λ c h. element_shown c)) (items_written e.items here own rest each)
    ∙ ap {B = Written} (λ o. record { text = text_of o; rest = rest }) (sym (view_from_is row above e)))

text_of_doc : (o : Option Element) → text_of o ≡ text_of_view (doc_of o)
text_of_doc None = refl
text_of_doc (Some e) = refl

-- What is written from the root is the text of the view.
pub all_written : (d : Doc) (rules : List Rule) → (written_of d.root (shows_from d.root (flat_map begun_rule rules) Deny)).text ≡ text_of_view (view d rules)
all_written d rules =
    let row : List MarkedStep = flat_map begun_rule rules in
    ap (λ s. (written_of d.root s).text) (sym (append-nil (shows_from d.root row Deny)))
    ∙ ap {A = Written} (λ w. w.text) (element_written d.root row Deny [])
    ∙ text_of_doc (view_from row Deny d.root)
    ∙ ap text_of_view (view_is d rules)

-- ---- the first walk

-- the entry of an element in the list, after those before it
pub settled : (prefix inside : List Show) (show : Show) (at : ℕ) (shows : List Show) → at ≡ length prefix → shows ≡ prefix ++ Absent ∷ inside
    → take at shows ++ with_show show (drop (at + 1) shows) ≡ prefix ++ with_show show inside
settled prefix inside show at shows place is =
    ap (λ s. take at s ++ with_show show (drop (at + 1) s)) is
    ∙ ap (λ n. take n (prefix ++ Absent ∷ inside) ++ with_show show (drop (n + 1) (prefix ++ Absent ∷ inside))) place
    ∙ ap (λ s. s ++ with_show show (drop (length prefix + 1) (prefix ++ Absent ∷ inside))) (take-append_seam prefix (Absent ∷ inside))
    ∙ ap (λ s. prefix ++ with_show show s) (drop-append-add prefix (Absent ∷ inside) 1)

shows_next : (items : List Item) (i : ℕ) (item : Item) (here : List MarkedStep) (own : Sign) → i < length items → item ≡ get_or items i item
    → shows_of_items here own (drop i items) ≡ shows_of_item item here own ++ shows_of_items here own (drop (i + 1) items)
shows_next items i item here own within is =
    ap (shows_of_items here own) (drop-cons items i item within)
    ∙ ap (λ x. shows_of_item x here own ++ shows_of_items here own (drop (suc i) items)) (sym is)
    ∙ ap (λ n. shows_of_item item here own ++ shows_of_items here own (drop n items)) (sym (add-one i))

-- the entries of one more item
pub shows_step : (items : List Item) (i : ℕ) (item : Item) (here : List MarkedStep) (own : Sign) (now next all : List Show) → i < length items → item ≡ get_or items i item
    → next ≡ now ++ shows_of_item item here own → now ++ shows_of_items here own (drop i items) ≡ all → next ++ shows_of_items here own (drop (i + 1) items) ≡ all
shows_step items i item here own now next all within is more way =
    ap (λ s. s ++ shows_of_items here own (drop (i + 1) items)) more
    ∙ append_assoc now (shows_of_item item here own) (shows_of_items here own (drop (i + 1) items))
    ∙ ap (λ s. now ++ s) (sym (shows_next items i item here own within is))
    ∙ way

or_assoc : (a b c : Bool) → ((a || b) || c) ≡ (a || (b || c))
or_assoc true b c = refl
or_assoc false b c = refl

-- whether something is shown so far
pub shown_step : (items : List Item) (i : ℕ) (item : Item) (here : List MarkedStep) (own : Sign) (flag shown next all : Bool) → i < length items → item ≡ get_or items i item
    → next ≡ (flag || shown) → shown ≡ list_any is_shown (shows_of_item item here own) → (flag || list_any is_shown (shows_of_items here own (drop i items))) ≡ all
    → (next || list_any is_shown (shows_of_items here own (drop (i + 1) items))) ≡ all
shown_step items i item here own flag shown next all within is either told way =
    let others : Bool = list_any is_shown (shows_of_items here own (drop (i + 1) items)) in
    ap (λ b. b || others) (either ∙ ap (λ b. flag || b) told)
    ∙ or_assoc flag (list_any is_shown (shows_of_item item here own)) others
    ∙ ap (λ b. flag || b) (sym (list_any-append is_shown (shows_of_item item here own) (shows_of_items here own (drop (i + 1) items))) ∙ sym (ap (list_any is_shown) (shows_next items i item here own within is)))
    ∙ way

or_false : (b : Bool) → (b || false) ≡ b
or_false true = refl
or_false false = refl

-- after the last item, the entries of the element and of those inside it
pub told_is : (row here : List MarkedStep) (above own : Sign) (e : Element) (items : List Item) (i : ℕ) (flag : Bool) (show : Show)
    → here ≡ row_below e row → own ≡ sign_here here above → items ≡ e.items → length items ≤ i
    → (flag || list_any is_shown (shows_of_items here own (drop i items))) ≡ list_any is_shown (shows_of_items here own items) → show ≡ show_by_sign own flag
    → with_show show (shows_of_items here own items) ≡ shows_from e row above
told_is row here above own e items i flag show carried sign_is same past flag_way show_is =
    let flag_is : flag ≡ list_any is_shown (shows_of_items here own items) =
    sym (or_false flag) ∙ ap (λ xs. flag || list_any is_shown (shows_of_items here own xs)) (sym (drop_all i items past)) ∙ flag_way in
    ap (λ s. with_show s (shows_of_items here own items)) (show_is ∙ ap (show_by_sign own) flag_is)
    ∙ ap (λ xs. shows_by_sign own (shows_of_items here own xs)) same
    ∙ ap (λ s. shows_by_sign s (shows_of_items here s e.items)) sign_is
    ∙ ap (λ r. shows_by_sign (sign_here r above) (shows_of_items r (sign_here r above) e.items)) carried
    ∙ sym (shows_from_is e row above)

-- the list before it is settled
pub shows_before : (here : List MarkedStep) (own : Sign) (items : List Item) (i : ℕ) (prefix pushed shows : List Show) → length items ≤ i → pushed ≡ prefix ++ Absent ∷ []
    → shows ++ shows_of_items here own (drop i items) ≡ pushed ++ shows_of_items here own items → shows ≡ prefix ++ Absent ∷ shows_of_items here own items
shows_before here own items i prefix pushed shows past push way =
    sym (append-nil shows)
    ∙ ap (λ xs. shows ++ shows_of_items here own xs) (sym (drop_all i items past))
    ∙ way
    ∙ ap (λ s. s ++ shows_of_items here own items) push
    ∙ append_assoc prefix (Absent ∷ []) (shows_of_items here own items)

-- the list has an entry for the element
pub place_within : (prefix inside shows : List Show) (at : ℕ) → at ≡ length prefix → shows ≡ prefix ++ Absent ∷ inside → at < length shows
place_within prefix inside shows at place is =
    let long : length shows ≡ length prefix + suc (length inside) = ap length is ∙ length-append prefix (Absent ∷ inside) in
    omega (arith, place, long)

-- ---- the second walk

prefix_is : (first : Show) (shows : List Show) (e : Element) (show : Show) → slice_get (first ∷ shows) 0 ≡ Some show → written_of e (first ∷ shows) ≡ written_by e.attributes e.name (map written_of_item e.items) (show ∷ shows)
prefix_is first shows e show is = written_of_is e (first ∷ shows) ∙ ap (λ s. written_by e.attributes e.name (map written_of_item e.items) (s ∷ shows)) (same_Some first show is)

-- by a first entry that is whole, dummy or absent, or where the list has ended
pub whole_next : (e : Element) (shows : List Show) → slice_get shows 0 ≡ Some Whole → written_of e shows ≡ around true e.attributes e.name (in_turn (map written_of_item e.items) true (drop 1 shows))
whole_next e [] is = absurd (none_is_not_some Whole is)
whole_next e (first ∷ shows) is = prefix_is first shows e Whole is

pub dummy_next : (e : Element) (shows : List Show) → slice_get shows 0 ≡ Some Dummy → written_of e shows ≡ around false e.attributes e.name (in_turn (map written_of_item e.items) false (drop 1 shows))
dummy_next e [] is = absurd (none_is_not_some Dummy is)
dummy_next e (first ∷ shows) is = prefix_is first shows e Dummy is

pub absent_next : (e : Element) (shows : List Show) → slice_get shows 0 ≡ Some Absent → written_of e shows ≡ record { text = []; rest = drop 1 shows }
absent_next e [] is = absurd (none_is_not_some Absent is)
absent_next e (first ∷ shows) is = prefix_is first shows e Absent is

pub none_next : (e : Element) (shows : List Show) → slice_get shows 0 ≡ None → written_of e shows ≡ record { text = []; rest = drop 1 shows }
none_next e [] is = written_of_is e []
none_next e (first ∷ shows) is = absurd (none_is_not_some first (sym is))

-- one more item
pub turn_next : (items : List Item) (i : ℕ) (item : Item) (whole : Bool) (shows : List Show) → i < length items → item ≡ get_or items i item
    → in_turn (map written_of_item (drop i items)) whole shows ≡ in_turn (written_of_item item ∷ map written_of_item (drop (i + 1) items)) whole shows
turn_next items i item whole shows within is =
    ap (λ xs. in_turn (map written_of_item xs) whole shows) (drop-cons items i item within)
    ∙ ap (λ x. in_turn (written_of_item x ∷ map written_of_item (drop (suc i) items)) whole shows) (sym is)
    ∙ ap (λ n. in_turn (written_of_item item ∷ map written_of_item (drop n items)) whole shows) (sym (add-one i))
