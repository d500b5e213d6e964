-- A walk reads the flags of the predicates in order: at each element and at each item the next flags are its own.
use Rattle.std.proofs.Common.{◌≡◌, ℕ, ◌+◌, ◌-◌, ◌<◌, ◌≤◌, min, suc, zero, Bool, true, false, ◌&&◌, Option, Some, None, List, [], ◌∷◌, ◌++◌, take, drop, length, get_or, eqb, drop-cons, add-one, refl, ap, sym, subst, ◌∙◌, append-nil, append_assoc, arith}
use Rattle.std.proofs.Math.Seq.{take-append_seam, drop-append_seam}
use Rattle.std.proofs.lemmas.List.{drop_all, length-map, drop-drop, length-take, length-drop, get_or-take, get_or-drop, length-append}
use Rattle.std.proofs.lemmas.Option.{same_Some}
use borrow.Author.Tests.{eqb-true}
use Rattle.std.proofs.lemmas.List.Concat.{flat_map-append}
use Rattle.std.specs.List.{list_all, flat_map}
use Rattle.acl_model.specs.Places.{element_of}
use Rattle.acl_model.specs.Predicates.{holds, descendants, below_item}
use Rattle.acl_model.proofs.GrantLaws.{none_is_not_some}
use Rattle.acl_model.proofs.ViewEquations.{item_cases, element_of-Text, element_of-Child}
use Rattle.acl_model.proofs.ValueEquations.{below_item-Text, below_item-Child, descendants_is}
use Rattle.acl_model.specs.declared.document.Element.{Element}
use Rattle.acl_model.specs.declared.document.Item.{Item}
use Rattle.acl_model.specs.declared.document.Item.TheVariants.{Text, Child}
use Rattle.acl_model.specs.declared.path.Pred.{Pred}
use Rattle.predicate_walk.specs.declared.PredRef.{PredRef}
use Rattle.predicate_walk.specs.Truths.{truths, truths_at, preds_in}
use Rattle.tree_meaning.specs.declared.marks.Mark.{Mark}
use Rattle.tree_meaning.specs.inside.StepMarks.{MarkedStep, moved, no_step, row_below, wanted_of}
use Rattle.tree_meaning.specs.inside.Known.{StartsWith, preds_of_step, preds_of, flags_within, flags_of_item, flags_of_items}

-- ---- what a list begins with

-- After the first of two lists the other follows.
pub passed : (first rest flags : List Bool) → flags ≡ first ++ rest → drop (length first) flags ≡ rest
passed first rest flags is = ap (drop (length first)) is ∙ drop-append_seam first rest

-- A list that is two lists joined begins with the first.
pub starts : (first rest flags : List Bool) → flags ≡ first ++ rest → StartsWith first flags
starts first rest flags is = is ∙ ap (λ more. first ++ more) (sym (passed first rest flags is))

-- ---- a step keeps an element

all_set : (preds : List Pred) (e : Element)
    → list_all (λ flag. flag) (truths_at preds e) ≡ list_all (λ pred. holds pred e) preds
all_set [] e = refl
all_set (pred ∷ preds) e = ap (λ b. holds pred e && b) (all_set preds e)

-- A step has as many flags as predicates.
taken : (preds : List Pred) (e : Element) (flags : List Bool) → StartsWith (truths_at preds e) flags
    → take (length preds) flags ≡ truths_at preds e
taken preds e flags begins =
    ap (λ n. take n flags) (sym (length-map preds (λ pred. holds pred e)))
    ∙ ap (take (length (truths_at preds e))) begins
    ∙ take-append_seam (truths_at preds e) (drop (length (truths_at preds e)) flags)

-- All its predicates hold where all its flags are set.
pub kept : (preds : List Pred) (e : Element) (flags : List Bool) → StartsWith (truths_at preds e) flags
    → list_all (λ flag. flag) (take (length preds) flags) ≡ list_all (λ pred. holds pred e) preds
kept preds e flags begins = ap (list_all (λ flag. flag)) (taken preds e flags begins) ∙ all_set preds e

-- ---- reading flag by flag

-- the next of so many flags
next_flag : (flags self : List Bool) (at count n left : ℕ) → self ≡ drop at flags → n < min count left
    → left ≡ length flags - at → drop n (take count self) ≡ get_or flags (at + n) false ∷ drop (n + 1) (take count self)
next_flag flags self at count n left is within rest =
    let long : n < length (take count self) =
    omega (arith, length-take count self, ap length is, length-drop at flags, rest, within) in
    drop-cons (take count self) n false long
    ∙ ap (λ b. b ∷ drop (suc n) (take count self))
    (get_or-take count self n false (omega (arith, within)) ∙ ap (λ xs. get_or xs n false) is
    ∙ get_or-drop at flags n false)
    ∙ ap (λ m. get_or flags (at + n) false ∷ drop m (take count self)) (sym (add-one n))

-- One that isn't set ends it.
pub unset_ends : (flags self : List Bool) (at count n left : ℕ) (b all : Bool) → self ≡ drop at flags
    → n < min count left → left ≡ length flags - at → b ≡ get_or flags (at + n) false → b ≡ false
    → list_all (λ flag. flag) (drop n (take count self)) ≡ all → false ≡ all
unset_ends flags self at count n left b all is within rest has unset way =
    ap (λ f. f && list_all (λ flag. flag) (drop (n + 1) (take count self))) (sym unset ∙ has)
    ∙ ap (list_all (λ flag. flag)) (sym (next_flag flags self at count n left is within rest)) ∙ way

-- ---- further down

moved-preds : (e : Element) (before : Mark) (row : List MarkedStep) → preds_of (moved e before row) ≡ preds_of row
moved-preds e before [] = refl
moved-preds e before (m ∷ row) = ap (λ preds. preds_of_step m.step ++ preds) (moved-preds e m.mark row)

-- A row further down has the same predicates.
pub preds_below : (e : Element) (row : List MarkedStep) → preds_of (row_below e row) ≡ preds_of row
unfolding row_below
preds_below e row = moved-preds e no_step row

-- ---- elements and items

truths-items : (preds : List Pred) (items : List Item)
    → truths preds (flat_map below_item items) ≡ flags_of_items preds items
unfolding flags_of_item
truths-items preds [] = refl
truths-items preds (item ∷ items) =
    flat_map-append (truths_at preds) (below_item item) (flat_map below_item items)
    ∙ ap (λ flags. truths preds (below_item item) ++ flags) (truths-items preds items)

-- An element has its own flags, and then those of its items.
pub flags_within_is : (preds : List Pred) (e : Element)
    → flags_within preds e ≡ truths_at preds e ++ flags_of_items preds e.items
unfolding flags_within
flags_within_is preds e = ap (λ es. truths_at preds e ++ truths preds es) (descendants_is e)
    ∙ ap (λ flags. truths_at preds e ++ flags) (truths-items preds e.items)

-- A text has none.
pub flags_of_item-Text : (preds : List Pred) (bytes : List ℕ) → flags_of_item preds (Text bytes) ≡ []
unfolding flags_of_item
flags_of_item-Text preds bytes = ap (truths preds) (below_item-Text bytes)

-- A child element has those within it.
pub flags_of_item-Child : (preds : List Pred) (e : Element) → flags_of_item preds (Child e) ≡ flags_within preds e
unfolding flags_of_item flags_within
flags_of_item-Child preds e = ap (truths preds) (below_item-Child e)

-- Its own come first, then those of its items, and then all others.
element_parts : (preds : List Pred) (e : Element) (flags : List Bool) → StartsWith (flags_within preds e) flags
    → flags ≡ truths_at preds e ++ (flags_of_items preds e.items ++ drop (length (flags_within preds e)) flags)
element_parts preds e flags begins =
    let rest : List Bool = drop (length (flags_within preds e)) flags in
    begins
    ∙ ap (λ first. first ++ rest) (flags_within_is preds e)
    ∙ append_assoc (truths_at preds e) (flags_of_items preds e.items) rest

pub element_first : (preds : List Pred) (e : Element) (flags : List Bool) → StartsWith (flags_within preds e) flags
    → StartsWith (truths_at preds e) flags
element_first preds e flags begins =
    starts (truths_at preds e) (flags_of_items preds e.items ++ drop (length (flags_within preds e)) flags) flags
    (element_parts preds e flags begins)

-- After them those of its items come next, for the row at the element.
pub items_next : (row here : List MarkedStep) (e : Element) (items : List Item) (flags next : List Bool)
    → here ≡ row_below e row → items ≡ e.items → StartsWith (flags_within (preds_of row) e) flags
    → next ≡ drop (length (truths_at (preds_of row) e)) flags
    → next ≡ flags_of_items (preds_of here) items ++ drop (length (flags_within (preds_of row) e)) flags
items_next row here e items flags next same its begins more =
    let rest : List Bool = drop (length (flags_within (preds_of row) e)) flags in
    more
    ∙ passed (truths_at (preds_of row) e) (flags_of_items (preds_of row) e.items ++ rest) flags
    (element_parts (preds_of row) e flags begins)
    ∙ ap (λ ps. flags_of_items ps e.items ++ rest) (sym (ap preds_of same ∙ preds_below e row))
    ∙ ap (λ xs. flags_of_items (preds_of here) xs ++ rest) (sym its)

items_are : (preds : List Pred) (items : List Item) (i : ℕ) (item : Item) → i < length items
    → item ≡ get_or items i item
    → flags_of_items preds (drop i items) ≡ flags_of_item preds item ++ flags_of_items preds (drop (i + 1) items)
items_are preds items i item inside is =
    ap (flags_of_items preds) (drop-cons items i item inside)
    ∙ ap (λ x. flags_of_item preds x ++ flags_of_items preds (drop (suc i) items)) (sym is)
    ∙ ap (λ n. flags_of_item preds item ++ flags_of_items preds (drop n items)) (sym (add-one i))

-- Those of the next item come first, then those of the items after it.
item_parts : (preds : List Pred) (items : List Item) (i : ℕ) (item : Item) (flags rest : List Bool) → i < length items
    → item ≡ get_or items i item → flags ≡ flags_of_items preds (drop i items) ++ rest
    → flags ≡ flags_of_item preds item ++ (flags_of_items preds (drop (i + 1) items) ++ rest)
item_parts preds items i item flags rest inside is way =
    way
    ∙ ap (λ xs. xs ++ rest) (items_are preds items i item inside is)
    ∙ append_assoc (flags_of_item preds item) (flags_of_items preds (drop (i + 1) items)) rest

pub item_first : (preds : List Pred) (items : List Item) (i : ℕ) (item : Item) (flags rest : List Bool)
    → i < length items → item ≡ get_or items i item
    → flags ≡ flags_of_items preds (drop i items) ++ rest → StartsWith (flags_of_item preds item) flags
item_first preds items i item flags rest inside is way =
    starts (flags_of_item preds item) (flags_of_items preds (drop (i + 1) items) ++ rest) flags
    (item_parts preds items i item flags rest inside is way)

-- After them those of the items after it come next.
pub item_passed : (preds : List Pred) (items : List Item) (i : ℕ) (item : Item) (flags next rest : List Bool)
    → i < length items → item ≡ get_or items i item
    → flags ≡ flags_of_items preds (drop i items) ++ rest → next ≡ drop (length (flags_of_item preds item)) flags
    → next ≡ flags_of_items preds (drop (i + 1) items) ++ rest
item_passed preds items i item flags next rest inside is way more =
    more
    ∙ passed (flags_of_item preds item) (flags_of_items preds (drop (i + 1) items) ++ rest) flags
    (item_parts preds items i item flags rest inside is way)

-- After the last item none is left.
pub items_end : (preds : List Pred) (items : List Item) (i : ℕ) (flags rest : List Bool) → length items ≤ i
    → flags ≡ flags_of_items preds (drop i items) ++ rest → flags ≡ rest
items_end preds items i flags rest past way = way ∙ ap (λ xs. flags_of_items preds xs ++ rest) (drop_all i items past)

-- A whole document's list begins with the flags of its root.
pub whole_starts : (first flags : List Bool) → flags ≡ first → StartsWith first flags
whole_starts first flags is = starts first [] flags (is ∙ sym (append-nil first))

-- ---- skipping flags

-- To skip two lists is to skip one after the other.
dropped : (xs ys flags : List Bool) → drop (length (xs ++ ys)) flags ≡ drop (length ys) (drop (length xs) flags)
dropped xs ys flags = ap (λ n. drop n flags) (length-append xs ys) ∙ sym (drop-drop (length ys) (length xs) flags)

-- After its own flags an element has those of its items.
pub own_dropped : (preds : List PredRef) (e : Element) (items : List Item) (count : ℕ) (flags next : List Bool)
    → count ≡ length preds → items ≡ e.items → next ≡ drop count flags
    → drop (length (flags_of_items (preds_in preds) items)) next ≡ drop (length (flags_within (preds_in preds) e)) flags
own_dropped preds e items count flags next many its more =
    ap (λ xs. drop (length (flags_of_items (preds_in preds) xs)) next) its
    ∙ ap (drop (length (flags_of_items (preds_in preds) e.items)))
    (more
    ∙ ap (λ n. drop n flags)
    (many ∙ sym (length-map preds (λ r. r.pred.now)) ∙ sym (length-map (preds_in preds) (λ pred. holds pred e))))
    ∙ sym (dropped (truths_at (preds_in preds) e) (flags_of_items (preds_in preds) e.items) flags)
    ∙ ap (λ first. drop (length first) flags) (sym (flags_within_is (preds_in preds) e))

-- one more item
pub item_dropped : (preds : List Pred) (items : List Item) (i : ℕ) (item : Item) (flags next all : List Bool)
    → i < length items → item ≡ get_or items i item
    → next ≡ drop (length (flags_of_item preds item)) flags
    → drop (length (flags_of_items preds (drop i items))) flags ≡ all
    → drop (length (flags_of_items preds (drop (i + 1) items))) next ≡ all
item_dropped preds items i item flags next all inside is more way =
    ap (drop (length (flags_of_items preds (drop (i + 1) items)))) more
    ∙ sym (dropped (flags_of_item preds item) (flags_of_items preds (drop (i + 1) items)) flags)
    ∙ ap (λ first. drop (length first) flags) (sym (items_are preds items i item inside is))
    ∙ way

-- after the last one
pub items_dropped : (preds : List Pred) (items : List Item) (i : ℕ) (flags all : List Bool) → length items ≤ i
    → drop (length (flags_of_items preds (drop i items))) flags ≡ all → flags ≡ all
items_dropped preds items i flags all past way =
    ap (λ xs. drop (length (flags_of_items preds xs)) flags) (sym (drop_all i items past)) ∙ way

no_truths : (es : List Element) → truths [] es ≡ []
no_truths [] = refl
no_truths (e ∷ es) = no_truths es

-- Without predicates an element has no flags.
pub none_dropped : (preds : List PredRef) (e : Element) (flags : List Bool) → eqb (length preds) 0 ≡ true
    → flags ≡ drop (length (flags_within (preds_in preds) e)) flags
unfolding flags_within
none_dropped [] e flags none = ap (λ first. drop (length first) flags) (sym (no_truths (e ∷ descendants e)))
none_dropped (r ∷ preds) e flags none =
    let same : suc (length preds) ≡ 0 = eqb-true (suc (length preds)) 0 none in absurd (omega (arith, same))

-- ---- a child by its number

wanted_is : (o : Option Element) (k : ℕ) (e : Element) → wanted_of o k ≡ Some e → o ≡ Some e
wanted_is None k e is = is
wanted_is (Some x) zero e is = absurd (none_is_not_some e is)
wanted_is (Some x) (suc zero) e is = is
wanted_is (Some x) (suc (suc k)) e is = absurd (none_is_not_some e is)

-- An item that is an element has its flags.
flags_of_element : (preds : List Pred) (item : Item) (e : Element) → element_of item ≡ Some e
    → flags_of_item preds item ≡ flags_within preds e
flags_of_element preds item e is =
    item_cases (λ x. element_of x ≡ Some e → flags_of_item preds x ≡ flags_within preds e)
    (λ bytes found. absurd (none_is_not_some e (sym (element_of-Text bytes) ∙ found)))
    (λ c found.
    flags_of_item-Child preds c ∙ ap (flags_within preds) (same_Some c e (sym (element_of-Child c) ∙ found)))
    item is

-- Where an item is the child that is looked for, the child's flags come next.
pub child_starts : (preds : List Pred) (items : List Item) (i : ℕ) (item : Item) (k : ℕ) (e : Element)
    (flags rest : List Bool) → i < length items → item ≡ get_or items i item
    → wanted_of (element_of item) k ≡ Some e → flags ≡ flags_of_items preds (drop i items) ++ rest
    → StartsWith (flags_within preds e) flags
child_starts preds items i item k e flags rest inside is wanted way =
    subst (λ first. StartsWith first flags)
    (flags_of_element preds item e (wanted_is (element_of item) k e wanted))
    (item_first preds items i item flags rest inside is way)

-- After an element's own flags come those of its items.
pub children_start : (row : List MarkedStep) (preds : List Pred) (e : Element) (items : List Item)
    (flags next : List Bool) → preds ≡ preds_of row → items ≡ e.items → StartsWith (flags_within preds e) flags
    → next ≡ drop (length (truths_at (preds_of row) e)) flags → StartsWith (flags_of_items preds items) next
children_start row preds e items flags next same its begins more =
    let rest : List Bool = drop (length (flags_within preds e)) flags in
    starts (flags_of_items preds items) rest next
    (more
    ∙ ap (λ ps. drop (length (truths_at ps e)) flags) (sym same)
    ∙ passed (truths_at preds e) (flags_of_items preds e.items ++ rest) flags
    (element_parts preds e flags begins)
    ∙ ap (λ xs. flags_of_items preds xs ++ rest) (sym its))

-- After those of its items too, all flags of the element are read.
pub items_passed : (row here : List MarkedStep) (e : Element) (flags next last : List Bool)
    → here ≡ row_below e row → StartsWith (flags_within (preds_of row) e) flags
    → next ≡ drop (length (truths_at (preds_of row) e)) flags
    → last ≡ drop (length (flags_of_items (preds_of here) e.items)) next
    → last ≡ drop (length (flags_within (preds_of row) e)) flags
items_passed row here e flags next last same begins more end =
    end
    ∙ passed (flags_of_items (preds_of here) e.items) (drop (length (flags_within (preds_of row) e)) flags) next
    (items_next row here e e.items flags next same refl begins more)

-- the flags of the two kinds of items
pub ruleset item_flags = (flags_of_item-Text, flags_of_item-Child)

-- the laws for a walk that reads the flags
pub ruleset walk_steps = (element_first, items_next, item_first, item_passed, items_end, preds_below)

-- the laws for one that skips them
pub ruleset pass_steps = (own_dropped, item_dropped, items_dropped, none_dropped)
