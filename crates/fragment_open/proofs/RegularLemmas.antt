-- Each opening of regular reads asked for its fragment and then for the siblings, from level 0 up.
use Rattle.std.proofs.Common.{◌≡◌, ℕ, zero, suc, ◌+◌, ◌≤◌, Bool, true, false, List, [], ◌∷◌, ◌++◌, length, take, map, refl, sym, ap, ◌∙◌, subst, inl, inr, arith, append_assoc, append-nil, length-append}
use Rattle.std.specs.Prelude.{nat_eq, fold, if◌then◌else◌}
use Rattle.acl_outside.specs.Outside.{StoreRead}
use Rattle.fragment_open.specs.Openings.{Opening, index_of, opening_at, with_read, with_sibling}
use Rattle.fragment_open.specs.Asks.{ask_of, goal_level, leaf_ask, opening_asks, sibling_asks}
use Rattle.fragment_open.proofs.TreeLemmas.{if_true, if_false}
use Rattle.fragment_open.proofs.KeyLemmas.{either}
use Rattle.fragment_open.proofs.ClimbLemmas.{length-map_ask, map_ask-append}
use Rattle.fragment_open.proofs.SinceLemmas.{AreSmall, small_asks}

-- ---- reads as their openings

-- the reads of openings, the oldest first
abbrev pub reads_in : List Opening → List StoreRead
reads_in [] = []
reads_in (o ∷ before) = reads_in before ++ (o.leaf ∷ o.siblings)

-- whether an ask is for a fragment's bytes
abbrev pub is_leaf : ℕ × ℕ → Bool
is_leaf a = nat_eq a.1 256

-- the number of asks for fragments
abbrev pub leaves : List (ℕ × ℕ) → ℕ
leaves [] = 0
leaves (a ∷ asks) = (if is_leaf a then 1 else 0) + leaves asks

-- each opening begins with a read of 256 bytes and has no other
abbrev pub AreProper : List Opening → Type 0
AreProper [] = Unit {0}
AreProper (o ∷ before) = (is_leaf (ask_of o.leaf) ≡ true) × (leaves (map ask_of o.siblings) ≡ 0) × AreProper before

leaves-append : (xs ys : List (ℕ × ℕ)) → leaves (xs ++ ys) ≡ leaves xs + leaves ys
leaves-append [] ys = omega arith
leaves-append (a ∷ xs) ys = let rest = leaves-append xs ys in omega (arith, rest)

one_leaf : (a : ℕ × ℕ) → is_leaf a ≡ true → ◌≡◌ {A = ℕ} (if is_leaf a then 1 else 0) 1
one_leaf a h = if_true (is_leaf a) 1 0 h

no_leaf : (a : ℕ × ℕ) → is_leaf a ≡ false → ◌≡◌ {A = ℕ} (if is_leaf a then 1 else 0) 0
no_leaf a h = if_false (is_leaf a) 1 0 h

-- read by read
reads_in-more : (os : List Opening) (r : StoreRead) → AreProper os → 1 ≤ length os → (reads_in (with_read os r) ≡ reads_in os ++ (r ∷ [])) × AreProper (with_read os r)
reads_in-more [] r proper some = absurd (omega (arith, some))
reads_in-more (o ∷ before) r proper some =
    let P : List Opening → Type 0 = λ os. (reads_in os ≡ reads_in (o ∷ before) ++ (r ∷ [])) × AreProper os in
    elim (either (nat_eq r.asked 256)) [
      | inl e ↦ subst P (sym (if_true (nat_eq r.asked 256) (opening_at r ∷ o ∷ before) (with_sibling o r ∷ before) e)) (refl, (e, refl, proper))
      | inr e ↦
          let none : leaves (map ask_of (o.siblings ++ (r ∷ []))) ≡ 0 =
          ap leaves (map_ask-append o.siblings (r ∷ [])) ∙ leaves-append (map ask_of o.siblings) (ask_of r ∷ []) ∙ omega (arith, proper.1, no_leaf (ask_of r) e) in
          subst P (sym (if_false (nat_eq r.asked 256) (opening_at r ∷ o ∷ before) (with_sibling o r ∷ before) e))
          (sym (append_assoc (reads_in before) (o.leaf ∷ o.siblings) (r ∷ [])), (proper.0, none, proper.2))
    ]

with_read-some : (os : List Opening) (r : StoreRead) → 1 ≤ length os → 1 ≤ length (with_read os r)
with_read-some [] r some = absurd (omega (arith, some))
with_read-some (o ∷ before) r some =
    elim (nat_eq r.asked 256) as (λ (v : Bool). 1 ≤ length (if v then opening_at r ∷ o ∷ before else with_sibling o r ∷ before)) [ true ↦ omega arith | false ↦ omega arith ]

reads_in-fold : (reads : List StoreRead) (os : List Opening) → AreProper os → 1 ≤ length os → (reads_in (fold with_read os reads) ≡ reads_in os ++ reads) × AreProper (fold with_read os reads)
reads_in-fold [] os proper some = (sym (append-nil (reads_in os)), proper)
reads_in-fold (r ∷ reads) os proper some =
    let one = reads_in-more os r proper some in
    let rest = reads_in-fold reads (with_read os r) one.1 (with_read-some os r some) in
    (rest.0 ∙ ap (λ (l : List StoreRead). l ++ reads) one.0 ∙ append_assoc (reads_in os) (r ∷ []) reads, rest.1)

-- reads that begin with a fragment's read are those of their openings
pub reads_in-openings : (r : StoreRead) (reads : List StoreRead) → is_leaf (ask_of r) ≡ true
    → (reads_in (fold with_read [] (r ∷ reads)) ≡ r ∷ reads) × AreProper (fold with_read [] (r ∷ reads))
reads_in-openings r reads leaf =
    let P : List Opening → Type 0 = λ os. (reads_in (fold with_read os reads) ≡ r ∷ reads) × AreProper (fold with_read os reads) in
    subst P (sym (if_true (nat_eq r.asked 256) (opening_at r ∷ []) [] leaf)) (reads_in-fold reads (opening_at r ∷ []) (leaf, refl, tt) (omega arith))

-- ---- asks that are aligned by their leaves

first_ask : List (ℕ × ℕ) → ℕ × ℕ → ℕ × ℕ
first_ask [] d = d
first_ask (a ∷ l) d = a

rest_asks : List (ℕ × ℕ) → List (ℕ × ℕ)
rest_asks [] = []
rest_asks (a ∷ l) = l

pub same_head : (a b : ℕ × ℕ) (xs ys : List (ℕ × ℕ)) → a ∷ xs ≡ b ∷ ys → a ≡ b
unfolding first_ask
same_head a b xs ys h = ap (λ (l : List (ℕ × ℕ)). first_ask l a) h

pub same_tail : (a b : ℕ × ℕ) (xs ys : List (ℕ × ℕ)) → a ∷ xs ≡ b ∷ ys → xs ≡ ys
unfolding rest_asks
same_tail a b xs ys h = ap rest_asks h

prefix : (xs ys : List (ℕ × ℕ)) (k : ℕ) → xs ≡ take k ys → xs ≡ take (length xs) ys
prefix [] ys k h = refl
prefix (x ∷ xs) ys zero h = absurd (omega (arith, ap length h))
prefix (x ∷ xs) [] (suc k) h = absurd (omega (arith, ap length h))
prefix (x ∷ xs) (y ∷ ys) (suc k) h = λ i. same_head x y xs (take k ys) h i ∷ prefix xs ys k (same_tail x y xs (take k ys) h) i

-- two lists, one a prefix of the other, are aligned where each has a leaf after the same number of leaves
aligned : (as' bs cs ds : List (ℕ × ℕ)) (a d : ℕ × ℕ) (k : ℕ) → is_leaf a ≡ true → is_leaf d ≡ true → leaves as' ≡ leaves cs → as' ++ (a ∷ bs) ≡ take k (cs ++ (d ∷ ds))
    → (as' ≡ cs) × (a ∷ bs ≡ take (length (a ∷ bs)) (d ∷ ds))
aligned [] bs [] ds a d k la ld same h = (refl, prefix (a ∷ bs) (d ∷ ds) k h)
aligned [] bs (c ∷ cs) ds a d zero la ld same h = absurd (omega (arith, ap length h))
aligned [] bs (c ∷ cs) ds a d (suc k) la ld same h =
    let is : is_leaf c ≡ true = ap is_leaf (sym (same_head a c bs (take k (cs ++ (d ∷ ds))) h)) ∙ la in
    absurd (omega (arith, same, one_leaf c is))
aligned (x ∷ as') bs [] ds a d zero la ld same h = absurd (omega (arith, ap length h))
aligned (x ∷ as') bs [] ds a d (suc k) la ld same h =
    let is : is_leaf x ≡ true = ap is_leaf (same_head x d (as' ++ (a ∷ bs)) (take k ds) h) ∙ ld in
    absurd (omega (arith, same, one_leaf x is))
aligned (x ∷ as') bs (c ∷ cs) ds a d zero la ld same h = absurd (omega (arith, ap length h))
aligned (x ∷ as') bs (c ∷ cs) ds a d (suc k) la ld same h =
    let here : x ≡ c = same_head x c (as' ++ (a ∷ bs)) (take k (cs ++ (d ∷ ds))) h in
    let equal : ◌≡◌ {A = ℕ} (if is_leaf x then 1 else 0) (if is_leaf c then 1 else 0) = ap (λ (b : ℕ × ℕ). if is_leaf b then 1 else 0) here in
    let rest = aligned as' bs cs ds a d k la ld (omega (arith, same, equal)) (same_tail x c (as' ++ (a ∷ bs)) (take k (cs ++ (d ∷ ds))) h) in
    ((λ i. here i ∷ rest.0 i), rest.1)

-- ---- regular reads, opening by opening

-- each opening, the newest first, asked for its fragment, and then for the first ones of its siblings up to its goal
abbrev pub AreAsked : ℕ → List Opening → Type 0
AreAsked n [] = Unit {0}
AreAsked n (o ∷ before) =
    (ask_of o.leaf ≡ leaf_ask (index_of o)) × (map ask_of o.siblings ≡ take (length o.siblings) (sibling_asks n (index_of o) (goal_level n (index_of o) (map index_of before))))
    × AreAsked n before

leaves-small : (asks : List (ℕ × ℕ)) → AreSmall asks → leaves asks ≡ 0
leaves-small [] small = refl
leaves-small (a ∷ asks) small =
    let other : is_leaf a ≡ false = ap (λ (k : ℕ). nat_eq k 256) small.0 in
    omega (arith, no_leaf a other, leaves-small asks small.1)

leaves-asks : (n : ℕ) (is : List ℕ) → leaves (opening_asks n is) ≡ length is
leaves-asks n [] = refl
leaves-asks n (i ∷ before) =
    leaves-append (opening_asks n before) (leaf_ask i ∷ sibling_asks n i (goal_level n i before))
    ∙ omega (arith, leaves-asks n before, one_leaf (leaf_ask i) refl, leaves-small (sibling_asks n i (goal_level n i before)) (small_asks n i (goal_level n i before)))

leaves-reads : (os : List Opening) → AreProper os → leaves (map ask_of (reads_in os)) ≡ length os
leaves-reads [] proper = refl
leaves-reads (o ∷ before) proper =
    ap leaves (map_ask-append (reads_in before) (o.leaf ∷ o.siblings))
    ∙ leaves-append (map ask_of (reads_in before)) (ask_of o.leaf ∷ map ask_of o.siblings)
    ∙ omega (arith, leaves-reads before proper.2, one_leaf (ask_of o.leaf) proper.0, proper.1)

length-indexes : (os : List Opening) → length (map index_of os) ≡ length os
length-indexes [] = refl
length-indexes (o ∷ os) = ap (λ (n : ℕ). suc n) (length-indexes os)

take_all_asks : (asks : List (ℕ × ℕ)) → take (length asks) asks ≡ asks
take_all_asks [] = refl
take_all_asks (a ∷ asks) = ap (λ (l : List (ℕ × ℕ)). a ∷ l) (take_all_asks asks)

pub asked_openings : (n : ℕ) (os : List Opening) (k : ℕ) → AreProper os → map ask_of (reads_in os) ≡ take k (opening_asks n (map index_of os)) → AreAsked n os
asked_openings n [] k proper h = tt
asked_openings n (o ∷ before) k proper h =
    let i : ℕ = index_of o in
    let idx : List ℕ = map index_of before in
    let both = aligned (map ask_of (reads_in before)) (map ask_of o.siblings) (opening_asks n idx) (sibling_asks n i (goal_level n i idx)) (ask_of o.leaf) (leaf_ask i) k proper.0 refl
    (leaves-reads before proper.2 ∙ sym (length-indexes before) ∙ sym (leaves-asks n idx))
    (sym (map_ask-append (reads_in before) (o.leaf ∷ o.siblings)) ∙ h) in (
      same_head (ask_of o.leaf) (leaf_ask i) (map ask_of o.siblings) (take (length (map ask_of o.siblings)) (sibling_asks n i (goal_level n i idx))) both.1,
      same_tail (ask_of o.leaf) (leaf_ask i) (map ask_of o.siblings) (take (length (map ask_of o.siblings)) (sibling_asks n i (goal_level n i idx))) both.1
          ∙ ap (λ (m : ℕ). take m (sibling_asks n i (goal_level n i idx))) (length-map_ask o.siblings),
      asked_openings n before (length (opening_asks n idx)) proper.2 (both.0 ∙ sym (take_all_asks (opening_asks n idx))),
    )

-- the first ask after the start is for a fragment
first-append : (xs ys : List (ℕ × ℕ)) (d : ℕ × ℕ) → 1 ≤ length xs → first_ask (xs ++ ys) d ≡ first_ask xs d
unfolding first_ask
first-append [] ys d some = absurd (omega (arith, some))
first-append (x ∷ xs) ys d some = refl

some_asks : (n i : ℕ) (before : List ℕ) → 1 ≤ length (opening_asks n (i ∷ before))
some_asks n i before = omega (arith, length-append (opening_asks n before) (leaf_ask i ∷ sibling_asks n i (goal_level n i before)))

first_leaf : (n i : ℕ) (before : List ℕ) (d : ℕ × ℕ) → is_leaf (first_ask (opening_asks n (i ∷ before)) d) ≡ true
unfolding first_ask
first_leaf n i [] d = refl
first_leaf n i (j ∷ before) d =
    ap is_leaf (first-append (opening_asks n (j ∷ before)) (leaf_ask i ∷ sibling_asks n i (goal_level n i (j ∷ before))) d (some_asks n j before)) ∙ first_leaf n j before d

first-take : (k : ℕ) (xs : List (ℕ × ℕ)) (a : ℕ × ℕ) (rest : List (ℕ × ℕ)) → a ∷ rest ≡ take k xs → first_ask xs a ≡ a
unfolding first_ask
first-take zero xs a rest h = absurd (omega (arith, ap length h))
first-take (suc k) [] a rest h = absurd (omega (arith, ap length h))
first-take (suc k) (x ∷ xs) a rest h = sym (same_head a x rest (take k xs) h)

pub regular-asked : (n : ℕ) (reads : List StoreRead) (k : ℕ) → map ask_of reads ≡ take k (opening_asks n (map index_of (fold with_read [] reads))) → AreAsked n (fold with_read [] reads) × (reads_in (fold with_read [] reads) ≡ reads)
regular-asked n [] k h = (tt, refl)
regular-asked n (r ∷ reads) k h =
    let os : List Opening = fold with_read [] (r ∷ reads) in
    let leaf : is_leaf (ask_of r) ≡ true = by (map index_of os) h in
    let split = reads_in-openings r reads leaf in
    (asked_openings n os k split.1 (ap (map ask_of) split.0 ∙ h), split.0)
  where
    by : (is : List ℕ) → ask_of r ∷ map ask_of reads ≡ take k (opening_asks n is) → is_leaf (ask_of r) ≡ true
    by [] e = absurd (omega (arith, ap length (prefix (ask_of r ∷ map ask_of reads) [] k e)))
    by (i ∷ before) e = ap is_leaf (sym (first-take k (opening_asks n (i ∷ before)) (ask_of r) (map ask_of reads) e)) ∙ first_leaf n i before (ask_of r)
