-- The open elements as they are stored in memory.
use Rattle.std.proofs.Common.{◌≡◌, ℕ, suc, ◌<◌, Option, Some, None, List, [], ◌∷◌, ◌++◌, length, take, get_or, map, reverse, ap, sym, subst, ◌∙◌, refl, arith}
use Rattle.std.proofs.lemmas.List.{reverse-append, length-reverse, length-map, take_all, nil_from_length, set-get_or}
use Rattle.std.proofs.Math.ListN.{set, length-set}
use Rattle.std.proofs.Math.Seq.{take-suc, take-suc-set}
use Rattle.acl_walk.specs.inside.OpenElements.{OpenElement, with_item, NothingLeft, Closes}
use Rattle.acl_model.specs.declared.document.Item.{Item}
use Rattle.acl_walk.specs.inside.LevelsInMemory.{open_element, open_elements}
use Rattle.acl_walk.specs.declared.levels.Level.{Level}

-- the model of no elements
pub open_elements-nil : open_elements [] ≡ []
unfolding open_elements
open_elements-nil = refl

-- the last one in memory is the innermost
pub open_elements-append : (levels : List Level) (level : Level) → open_elements (levels ++ (level ∷ [])) ≡ open_element level ∷ open_elements levels
unfolding open_elements
open_elements-append levels level = ap (map open_element) (reverse-append levels (level ∷ []))

-- the number of elements is the same
pub length-open_elements : (levels : List Level) → length (open_elements levels) ≡ length levels
unfolding open_elements
length-open_elements levels = length-map (reverse levels) open_element ∙ length-reverse levels

-- the innermost element and those around it
pub open_elements-last : (levels : List Level) (n : ℕ) (d : Level) → length levels ≡ suc n
    → open_elements levels ≡ open_element (get_or levels n d) ∷ open_elements (take n levels)
open_elements-last levels n d long =
    let whole : take (suc n) levels ≡ levels = take_all (suc n) levels (omega arith) in
    ap open_elements (sym whole ∙ take-suc levels n d (omega arith)) ∙ open_elements-append (take n levels) (get_or levels n d)

-- the same after the innermost one is written over
pub open_elements-set_last : (levels : List Level) (n : ℕ) (level : Level) → length levels ≡ suc n
    → open_elements (set levels n level) ≡ open_element level ∷ open_elements (take n levels)
open_elements-set_last levels n level long =
    let same : length (set levels n level) ≡ suc n = length-set levels n level ∙ long in
    let whole : take (suc n) (set levels n level) ≡ set levels n level = take_all (suc n) (set levels n level) (omega arith) in
    ap open_elements (sym whole ∙ take-suc-set levels n level (omega arith)) ∙ open_elements-append (take n levels) level

-- ---- what the calls do

-- new gives no elements
pub open_elements-none : (levels : List Level) → length levels ≡ 0 → open_elements levels ≡ []
open_elements-none levels none = ap open_elements (nil_from_length levels none) ∙ open_elements-nil

-- where none is open, none is closed
pub closes-none : (r : Option ℕ) (old : List OpenElement) (before after : List Level) → r ≡ None → open_elements before ≡ old
    → length before ≡ 0 → length after ≡ 0 → Closes r old (open_elements after)
closes-none r old before after is view none still =
    subst (λ x. Closes x old (open_elements after)) (sym is) (sym view ∙ open_elements-none before none, open_elements-none after still)

-- close removes the last one in memory
pub closes-last : (old : List OpenElement) (before after : List Level) (level : Level) → open_elements before ≡ old
    → before ≡ after ++ (level ∷ []) → Closes (Some level.tag) old (open_elements after)
closes-last old before after level view ends =
    subst (λ levels. Closes (Some level.tag) levels (open_elements after)) (sym (open_elements-append after level) ∙ ap open_elements (sym ends) ∙ view) (refl, refl)

-- no item is left where no element is open
pub left-none : (old : List OpenElement) (before : List Level) → open_elements before ≡ old → length before ≡ 0 → NothingLeft old
left-none old before view none = subst NothingLeft (sym (open_elements-none before none) ∙ view) tt

-- no item is left where the last element has none
pub left-last : (old : List OpenElement) (before : List Level) (n : ℕ) (level : Level) → open_elements before ≡ old → length before ≡ suc n
    → level ≡ get_or before n level → length level.items.now ≡ 0 → NothingLeft old
left-last old before n level view long last none =
    subst NothingLeft (sym (open_elements-last before n level long) ∙ view)
    (ap (λ (l : Level). l.items.now) (sym last) ∙ nil_from_length level.items.now none)

-- writing the last one over by itself changes nothing
pub same-last : (before : List Level) (n : ℕ) (level : Level) → level ≡ get_or before n level → set before n level ≡ before
same-last before n level last = ap (set before n) last ∙ set-get_or before n level

-- take_item takes the first item of the last element
pub takes-first : (old : List OpenElement) (before : List Level) (n : ℕ) (level rest : Level) (first : Item) → open_elements before ≡ old → length before ≡ suc n
    → level ≡ get_or before n level → level.items.now ≡ first ∷ rest.items.now → rest.tag ≡ level.tag
    → (old ≡ with_item first (open_elements (set before n rest))) × (0 < length (open_elements (set before n rest)))
takes-first old before n level rest first view long last begins same =
    let around : List OpenElement = open_elements (take n before) in
    let was : open_elements before ≡ open_element level ∷ around =
    open_elements-last before n level long ∙ ap (λ (l : Level). open_element l ∷ around) (sym last) in
    let now : open_elements (set before n rest) ≡ open_element rest ∷ around = open_elements-set_last before n rest long in
    let top : open_element level ≡ record { tag = rest.tag; items = first ∷ rest.items.now } = cc in
    (sym view ∙ was ∙ ap (λ (o : OpenElement). o ∷ around) top ∙ ap (with_item first) (sym now), omega (arith, ap length now))
