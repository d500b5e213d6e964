-- The steps of the walk: one item after another, and the end of an element.
use Rattle.std.proofs.Common.{◌≡◌, ℕ, ◌+◌, ◌-◌, ◌<◌, ◌≤◌, suc, Bool, true, false, ◌&&◌, Option, None, Some, List, [], ◌∷◌, ◌++◌, map, length, get_or, take, drop, drop-cons, replicate, refl, ap, sym, ◌∙◌, append_assoc, append-nil, add-one, arith}
use Rattle.std.proofs.lemmas.List.{drop_all, drop_at, take_rest, length-map}
use Rattle.std.proofs.lemmas.List.Concat.{flat_map-append}
use Rattle.std.specs.List.{flat_map}
use Rattle.std.specs.Option.{option_map_or}
use Rattle.acl_bits.specs.Flags.{risen}
use Rattle.acl_model.specs.Places.{element_of}
use Rattle.acl_model.specs.Predicates.{descendants, below_item}
use Rattle.acl_model.specs.Values.{string_value, value_of_item}
use Rattle.acl_model.proofs.ValueEquations.{below_item-Text, below_item-Child, descendants_is, value_of_item-Text, value_of_item-Child}
use Rattle.acl_model.proofs.ViewEquations.{element_of-Text, element_of-Child}
use Rattle.acl_model.specs.declared.document.Element.{Element}
use Rattle.acl_model.specs.declared.document.Item.{Item}
use Rattle.acl_model.specs.declared.document.Item.TheVariants.{Text, Child}
use Rattle.acl_model.specs.declared.path.Pred.{Pred}
use Rattle.predicate_walk.specs.declared.truths.PredRef.{PredRef}
use Rattle.predicate_walk.specs.inside.States.{number_of_states, row_at, inner_row_at, clear_row, tests_of, deep_of, with_child, with_item, with_items}
use Rattle.predicate_walk.specs.inside.KeptTexts.{needs_texts, kept}
use Rattle.predicate_walk.specs.Truths.{truths_at, truths, preds_in}
use Rattle.predicate_walk.proofs.RowLaws.{length-answers, length-row_at}
use Rattle.predicate_walk.proofs.StateLaws.{inner_row}
use Rattle.predicate_walk.proofs.TextLaws.{kept_is}

-- ---- items

pub with_item-Text : (preds : List Pred) (row : List Bool) (bytes : List ℕ) → with_item preds row (Text bytes) ≡ row
unfolding with_item
with_item-Text preds row bytes = ap (λ o. option_map_or (with_child preds row) o row) (element_of-Text bytes)

pub with_item-Child : (preds : List Pred) (row : List Bool) (e : Element) → with_item preds row (Child e)
    ≡ with_child preds row e
unfolding with_item
with_item-Child preds row e = ap (λ o. option_map_or (with_child preds row) o row) (element_of-Child e)

pub ruleset item_equations =
    (with_item-Text, with_item-Child, below_item-Text, below_item-Child, value_of_item-Text, value_of_item-Child, append-nil)

length-risen : (before : Bool) (tests deep below own : List Bool) → length tests ≡ length own → length deep
    ≡ length own → length below ≡ length own → length (risen before tests deep below own) ≡ length own
unfolding risen
length-risen before [] deep below [] lt ld lb = refl
length-risen before [] deep below (o ∷ own) lt ld lb = absurd (omega (arith, lt))
length-risen before (t ∷ tests) [] below [] lt ld lb = absurd (omega (arith, lt))
length-risen before (t ∷ tests) [] below (o ∷ own) lt ld lb = absurd (omega (arith, ld))
length-risen before (t ∷ tests) (d ∷ deep) [] [] lt ld lb = absurd (omega (arith, lt))
length-risen before (t ∷ tests) (d ∷ deep) [] (o ∷ own) lt ld lb = absurd (omega (arith, lb))
length-risen before (t ∷ tests) (d ∷ deep) (b ∷ below) [] lt ld lb = absurd (omega (arith, lt))
length-risen before (t ∷ tests) (d ∷ deep) (b ∷ below) (o ∷ own) lt ld lb =
    ap (λ n. suc n) (length-risen b tests deep below own (omega (arith, lt)) (omega (arith, ld)) (omega (arith, lb)))

length-with_child : (preds : List Pred) (row : List Bool) (c : Element) → length row ≡ number_of_states preds
    → length (with_child preds row c) ≡ number_of_states preds
unfolding with_child
length-with_child preds row c long =
    length-risen false (tests_of c.name preds) (deep_of preds) (row_at preds c) row
    (length-answers _ preds ∙ sym long) (length-answers _ preds ∙ sym long) (length-row_at preds c ∙ sym long) ∙ long

-- An item keeps the row's length.
pub length-with_item : (preds : List Pred) (row next : List Bool) (item : Item) → length row ≡ number_of_states preds
    → next ≡ with_item preds row item → length next ≡ number_of_states preds
unfolding with_item
length-with_item preds row next item long is =
    ap length is
    ∙ elim (element_of item) as (λ o. length (option_map_or (with_child preds row) o row) ≡ number_of_states preds) [ None ↦ long | Some c ↦ length-with_child preds row c long ]

items_next : (items : List Item) (i : ℕ) (item : Item) → i < length items → item ≡ get_or items i item → drop i items
    ≡ item ∷ drop (i + 1) items
items_next items i item within is =
    drop-cons items i item within ∙ ap (λ x. x ∷ drop (suc i) items) (sym is)
    ∙ ap (λ n. item ∷ drop n items) (sym (add-one i))

-- the row after one more item
pub row_step : (preds : List Pred) (items : List Item) (i : ℕ) (item : Item) (row next all : List Bool)
    → i < length items → item ≡ get_or items i item → next ≡ with_item preds row item
    → with_items preds row (drop i items) ≡ all → with_items preds next (drop (i + 1) items) ≡ all
row_step preds items i item row next all within is more way =
    ap (λ r. with_items preds r (drop (i + 1) items)) more
    ∙ ap (with_items preds row) (sym (items_next items i item within is)) ∙ way

-- the texts and the flags after one more item
pub item_step : {T : Type 0} (f : Item → List T) (items : List Item) (i : ℕ) (item : Item) (now next all : List T)
    → i < length items → item ≡ get_or items i item → next ≡ now ++ f item
    → now ++ flat_map f (drop i items) ≡ all → next ++ flat_map f (drop (i + 1) items) ≡ all
item_step f items i item now next all within is more way =
    ap (λ s. s ++ flat_map f (drop (i + 1) items)) more
    ∙ append_assoc now (f item) (flat_map f (drop (i + 1) items))
    ∙ ap (λ s. now ++ flat_map f s) (sym (items_next items i item within is))
    ∙ way

item_end : {T : Type 0} (f : Item → List T) (items : List Item) (i : ℕ) (now all : List T) → length items ≤ i
    → now ++ flat_map f (drop i items) ≡ all → now ≡ all
item_end f items i now all past way =
    sym (append-nil now) ∙ ap (λ s. now ++ flat_map f s) (sym (drop_all i items past)) ∙ way

-- ---- the end of an element

-- After all items the row is that of what is inside the element.
pub row_end : (preds : List Pred) (e : Element) (items : List Item) (i : ℕ) (row clear : List Bool) → length items ≤ i
    → items ≡ e.items → clear ≡ clear_row preds
    → with_items preds row (drop i items) ≡ with_items preds clear items → row ≡ inner_row_at preds e
row_end preds e items i row clear past same is way =
    ap (with_items preds row) (sym (drop_all i items past)) ∙ way ∙ ap (λ c. with_items preds c items) is
    ∙ ap (with_items preds (clear_row preds)) same ∙ inner_row preds e

-- The string-value of an element follows the texts before it.
pub texts_end : (preds : List Pred) (e : Element) (items : List Item) (i : ℕ) (texts before : List ℕ)
    → length items ≤ i → items ≡ e.items
    → texts ++ flat_map (λ item. kept (needs_texts preds) (value_of_item item)) (drop i items)
    ≡ before ++ flat_map (λ item. kept (needs_texts preds) (value_of_item item)) items
    → texts ≡ before ++ kept (needs_texts preds) (string_value e)
texts_end preds e items i texts before past same way =
    item_end (λ item. kept (needs_texts preds) (value_of_item item)) items i texts _ past way
    ∙ ap (λ xs. before ++ flat_map (λ item. kept (needs_texts preds) (value_of_item item)) xs) same
    ∙ ap (λ s. before ++ s) (kept_is (needs_texts preds) e)

-- It is what the list has from the element's start on.
pub value_is : (before text texts : List ℕ) (start : ℕ) → start ≡ length before → texts ≡ before ++ text
    → take (length texts - start) (drop start texts) ≡ text
value_is before text texts start place is =
    take_rest texts start ∙ ap (drop start) is ∙ drop_at before text start (sym place)

all_truths : (preds : List Pred) (items : List Item) → flat_map (λ item. truths preds (below_item item)) items
    ≡ truths preds (flat_map below_item items)
all_truths preds [] = refl
all_truths preds (item ∷ items) =
    ap (λ s. truths preds (below_item item) ++ s) (all_truths preds items)
    ∙ sym (flat_map-append (truths_at preds) (below_item item) (flat_map below_item items))

-- The flags of the elements inside an element follow those before them.
pub flags_end : (preds : List Pred) (e : Element) (items : List Item) (i : ℕ) (flags before : List Bool)
    → length items ≤ i → items ≡ e.items
    → flags ++ flat_map (λ item. truths preds (below_item item)) (drop i items)
    ≡ before ++ flat_map (λ item. truths preds (below_item item)) items
    → flags ≡ before ++ truths preds (descendants e)
flags_end preds e items i flags before past same way =
    item_end (λ item. truths preds (below_item item)) items i flags _ past way
    ∙ ap (λ xs. before ++ flat_map (λ item. truths preds (below_item item)) xs) same
    ∙ ap (λ s. before ++ s) (all_truths preds e.items ∙ ap (truths preds) (sym (descendants_is e)))

pub count_is : (refs : List PredRef) (preds : List Pred) → preds_in refs ≡ preds → length refs ≡ length preds
count_is refs preds same = sym (length-map refs (λ r. r.pred.now)) ∙ ap length same

-- Without predicates there are no flags.
none_there : (es : List Element) → [] ≡ truths [] es
none_there [] = refl
none_there (e ∷ es) = none_there es

pub none_asked : (refs : List PredRef) (es : List Element) → length refs ≡ 0 → [] ≡ truths (preds_in refs) es
none_asked [] es none = none_there es
none_asked (r ∷ refs) es none = absurd (omega (arith, none))
