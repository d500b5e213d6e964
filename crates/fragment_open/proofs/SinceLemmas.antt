-- The reads of one opener, and the openings of reads that grew.
use Rattle.std.proofs.Common.{◌≡◌, ℕ, zero, suc, ◌≤◌, Bool, true, false, ◌||◌, List, [], ◌∷◌, ◌++◌, length, drop, map, refl, sym, ap, ◌∙◌, subst, arith, append_assoc, append-nil, true≢false}
use Rattle.std.specs.Prelude.{Option, Some, fold, nat_eq, if◌then◌else◌, is_some, option_and_then}
use Rattle.std.specs.List.{list_any, slice_get}
use Rattle.std.proofs.lemmas.List.Folds.{list_any-append}
use Rattle.acl_outside.specs.Outside.{StoreRead}
use Rattle.merkle_chunks.specs.declared.header.Header.{Header}
use Rattle.fragment_open.specs.Openings.{Opening, openings, opening_at, with_next, with_read, with_sibling}
use Rattle.fragment_open.specs.Asks.{ask_of, has_sibling, sibling_ask, sibling_asks}
use Rattle.fragment_open.specs.Served.{header_in, header_served, top_served, whole}
use Rattle.fragment_open.specs.inside.Climbing.{IsAsked}
use Rattle.fragment_open.specs.Settled.{is_start, since}
use Rattle.fragment_open.proofs.TreeLemmas.{if_true, if_false}
use Rattle.fragment_open.proofs.PathLemmas.{chained}
use Rattle.fragment_open.proofs.ClimbLemmas.{slice_get-longer}

-- ---- since the last start

since-none : (t : List StoreRead) → list_any is_start t ≡ false → since t ≡ t
unfolding since
since-none [] h = refl
since-none (r ∷ t) h = if_false (list_any is_start t) (since t) (r ∷ t) (no_second (is_start r) (list_any is_start t) h)
  where
    no_second : (a b : Bool) → (a || b) ≡ false → b ≡ false
    no_second true b h = absurd (true≢false h)
    no_second false b h = h

pub since-append : (a t : List StoreRead) → list_any is_start t ≡ false → since (a ++ t) ≡ since a ++ t
unfolding since
since-append [] t h = since-none t h
since-append (r ∷ a) t h =
    let same : list_any is_start (a ++ t) ≡ list_any is_start a = list_any-append is_start a t ∙ ap (λ (v : Bool). list_any is_start a || v) h ∙ or_false (list_any is_start a) in
    ap (λ (v : Bool). if v then since (a ++ t) else r ∷ (a ++ t)) same
    ∙ elim (list_any is_start a) as (λ (v : Bool). (if v then since (a ++ t) else r ∷ (a ++ t)) ≡ (if v then since a else r ∷ a) ++ t) [
      | true ↦ since-append a t h
      | false ↦ refl
    ]
  where
    or_false : (v : Bool) → (v || false) ≡ v
    or_false true = refl
    or_false false = refl

-- a start begins the reads of an opener
pub since-start : (a : List StoreRead) (r : StoreRead) (t : List StoreRead) → is_start r ≡ true → list_any is_start t ≡ false → since (a ++ (r ∷ t)) ≡ r ∷ t
unfolding since
since-start [] r t start h = if_false (list_any is_start t) (since t) (r ∷ t) h
since-start (x ∷ a) r t start h =
    if_true (list_any is_start (a ++ (r ∷ t))) (since (a ++ (r ∷ t))) (x ∷ (a ++ (r ∷ t)))
    (list_any-append is_start a (r ∷ t) ∙ ap (λ (v : Bool). list_any is_start a || (v || list_any is_start t)) start ∙ or_true (list_any is_start a))
    ∙ since-start a r t start h
  where
    or_true : (v : Bool) → (v || true) ≡ true
    or_true true = refl
    or_true false = refl

-- ---- what the reads of an opening asked for

abbrev pub AreSmall : List (ℕ × ℕ) → Type 0
AreSmall [] = Unit {0}
AreSmall (a ∷ asks) = (a.1 ≡ 32) × AreSmall asks

AreSmall-append : (xs ys : List (ℕ × ℕ)) → AreSmall xs → AreSmall ys → AreSmall (xs ++ ys)
AreSmall-append [] ys a b = b
AreSmall-append (x ∷ xs) ys a b = (a.0, AreSmall-append xs ys a.1 b)

pub small_asks : (n i l : ℕ) → AreSmall (sibling_asks n i l)
small_asks n i zero = tt
small_asks n i (suc l) =
    AreSmall-append (sibling_asks n i l) (sibling_ask n i l) (small_asks n i l)
    (elim (has_sibling n i l) as (λ (v : Bool). (place : ℕ) → AreSmall (if v then (place, 32) ∷ [] else [])) [
      | true ↦ λ place. (refl, tt)
      | false ↦ λ place. tt
    ] _)

AreSmall-of : (n i l : ℕ) (reads : List StoreRead) → map ask_of reads ≡ sibling_asks n i l → AreSmall (map ask_of reads)
AreSmall-of n i l reads same = subst AreSmall (sym same) (small_asks n i l)

small_no_start : (reads : List StoreRead) → AreSmall (map ask_of reads) → list_any is_start reads ≡ false
small_no_start [] h = refl
small_no_start (r ∷ reads) h = ap (λ (n : ℕ). nat_eq n 64 || list_any is_start reads) h.0 ∙ small_no_start reads h.1

pub asked-no_start : (n i l : ℕ) (o : Opening) (t : List StoreRead) → IsAsked n i l o t → list_any is_start t ≡ false
asked-no_start n i l o t a =
    ap (list_any is_start) a.all
    ∙ ap (λ (k : ℕ × ℕ). nat_eq k.1 64 || list_any is_start o.siblings) a.leaf
    ∙ small_no_start o.siblings (AreSmall-of n i l o.siblings a.siblings)

-- ---- openings

siblings_after : (reads : List StoreRead) (o : Opening) (os : List Opening) → AreSmall (map ask_of reads)
    → fold with_read (o ∷ os) reads ≡ record { leaf = o.leaf; siblings = o.siblings ++ reads } ∷ os
siblings_after [] o os h = let none : o.siblings ++ [] ≡ o.siblings = append-nil o.siblings in ap (λ (s : List StoreRead). record { leaf = o.leaf; siblings = s } ∷ os) (sym none)
siblings_after (r ∷ reads) o os h =
    let other : nat_eq r.asked 256 ≡ false = ap (λ (n : ℕ). nat_eq n 256) h.0 in
    ap (λ (l : List Opening). fold with_read l reads) (if_false (nat_eq r.asked 256) (opening_at r ∷ o ∷ os) (with_sibling o r ∷ os) other)
    ∙ siblings_after reads (with_sibling o r) os h.1
    ∙ ap (λ (s : List StoreRead). record { leaf = o.leaf; siblings = s } ∷ os) (append_assoc o.siblings (r ∷ []) reads)

pub fold-append : (os : List Opening) (xs ys : List StoreRead) → fold with_read os (xs ++ ys) ≡ fold with_read (fold with_read os xs) ys
fold-append os [] ys = refl
fold-append os (x ∷ xs) ys = fold-append (with_read os x) xs ys

pub drop_two : (xs ys : List StoreRead) → 2 ≤ length xs → drop 2 (xs ++ ys) ≡ drop 2 xs ++ ys
drop_two [] ys h = absurd (omega (arith, h))
drop_two (a ∷ []) ys h = absurd (omega (arith, h))
drop_two (a ∷ b ∷ xs) ys h = refl

-- the reads of an opening open its fragment
pub openings-more : (n i l : ℕ) (o : Opening) (s t : List StoreRead) → 2 ≤ length s → IsAsked n i l o t → openings (s ++ t) ≡ o ∷ openings s
unfolding openings
openings-more n i l o s t two a =
    let os : List Opening = fold with_read [] (drop 2 s) in
    let big : nat_eq o.leaf.asked 256 ≡ true = ap (λ (k : ℕ × ℕ). nat_eq k.1 256) a.leaf in
    ap (fold with_read []) (drop_two s t two)
    ∙ fold-append [] (drop 2 s) t
    ∙ ap (fold with_read os) a.all
    ∙ ap (λ (q : List Opening). fold with_read q o.siblings) (if_true (nat_eq o.leaf.asked 256) (opening_at o.leaf ∷ os) (with_next os o.leaf) big)
    ∙ siblings_after o.siblings (opening_at o.leaf) os (AreSmall-of n i l o.siblings a.siblings)

-- ---- the header and the top digest stay those of the first two reads

pub header_served-more : (s t : List StoreRead) (h : Header) → header_served s ≡ Some h → header_served (s ++ t) ≡ Some h
header_served-more s t h found =
    let bytes = chained header_in (option_and_then (whole 64) (slice_get s 0)) h found in
    let read = chained (whole 64) (slice_get s 0) bytes.0 bytes.1 in
    ap (λ (r : Option StoreRead). option_and_then header_in (option_and_then (whole 64) r)) (slice_get-longer s t 0 read.0 read.1)
    ∙ ap (option_and_then header_in) read.2 ∙ bytes.2

pub top_served-more : (s t : List StoreRead) (top : List ℕ) → top_served s ≡ Some top → top_served (s ++ t) ≡ Some top
top_served-more s t top found =
    let read = chained (whole 32) (slice_get s 1) top found in
    ap (option_and_then (whole 32)) (slice_get-longer s t 1 read.0 read.1) ∙ read.2

pub two_reads : (s : List StoreRead) (top : List ℕ) → top_served s ≡ Some top → 2 ≤ length s
two_reads [] top h = absurd (true≢false (sym (ap is_some h)))
two_reads (a ∷ []) top h = absurd (true≢false (sym (ap is_some h)))
two_reads (a ∷ b ∷ s) top h = omega arith
