-- The order in which the fragments of a file are opened.
use Rattle.std.proofs.Common.{◌≡◌, ℕ, suc, false, ◌+◌, ◌≤◌, List, [], ◌∷◌, ◌++◌, length, map, refl, sym, ap, ◌∙◌, subst, ◌⊎◌, inl, inr, arith, add-one, append-nil}
use Rattle.std.specs.Prelude.{Result, Ok, Err, Option, Some, None, IfSome}
use Rattle.std.specs.Option.{option_map_or}
use Rattle.acl_outside.specs.Outside.{StoreRead}
use Rattle.acl_outside.specs.declared.read_fault.ReadFault.{ReadFault}
use Rattle.acl_outside.specs.declared.read_fault.ReadFault.TheVariants.{BadFragment, BadHeader, BadIndex, StoreFault, StoreShort, WrongKey, WrongRoot}
use Rattle.merkle_chunks.specs.HeaderBytes.{fragment_count}
use Rattle.merkle_chunks.specs.declared.header.Header.{Header}
use Rattle.fragment_open.specs.declared.head.Head.{Head}
use Rattle.fragment_open.specs.declared.kept.Kept.{Kept}
use Rattle.fragment_open.specs.Asks.{ask_of, header_ask}
use Rattle.fragment_open.specs.Openings.{Opening, index_of, indexes, openings}
use Rattle.fragment_open.specs.Served.{fragments_served}
use Rattle.fragment_open.specs.Settled.{IsKept, IsSettled, Opens, Settled, is_start, since}
use Rattle.fragment_open.specs.Starting.{AreOfStart, IsNotStarted, IsStartCause}
use Rattle.fragment_open.specs.CallReads.{Told}
use Rattle.std.specs.List.{list_any}
use Rattle.fragment_open.proofs.ClimbLemmas.{Told-weaker}
use Rattle.fragment_open.proofs.StartLemmas.{no_openings}
use Rattle.file_reading.specs.declared.fault.FileFault.{FileFault}
use Rattle.file_reading.specs.declared.fault.FileFault.TheVariants.{Refused}
use Rattle.file_reading.specs.WholeFile.{numbers_below}
use Rattle.file_reading.specs.FileEnds.{GoesOnInOrder, OpensInOrder}
use Rattle.file_reading.proofs.ShownLemmas.{length_one, length_two}
use Rattle.file_reading.proofs.StreamLemmas.{of_start}

-- ---- a start that was refused opened none

pub few_reads : (root key : List ℕ) (fault : ReadFault) (reads : List StoreRead) → IsStartCause root key fault reads → length reads ≤ 2
few_reads root key BadHeader reads c = omega (arith, length_one root key reads c.0)
few_reads root key (StoreShort to) reads c = by c.1
  where
    by : (map ask_of reads ≡ header_ask ∷ []) ⊎ ((h : Header) × AreOfStart h reads) → length reads ≤ 2
    by (inl asked) = omega (arith, length_one root key reads asked)
    by (inr of) = length_two root key reads of.0 of.1
few_reads root key StoreFault reads (inl none) = omega (arith, ap length none)
few_reads root key StoreFault reads (inr read) = omega (arith, length_one root key reads read.1.asked)
few_reads root key (WrongRoot want made) reads c = length_two root key reads c.3.0 c.3.1
few_reads root key (WrongKey want made) reads c = length_two root key reads c.4.0 c.4.1
few_reads root key (BadFragment index want made) reads c = absurd c
few_reads root key BadIndex reads c = absurd c

pub not_started_order : (T : Type 0) (root key : List ℕ) (fault : ReadFault) (a b : Option (List StoreRead)) → Told a b (IsNotStarted root key fault) → Told a b (OpensInOrder {T = T} (Err (Refused fault)))
not_started_order T root key fault a b told =
    Told-weaker a b (IsNotStarted root key fault) (OpensInOrder {T = T} (Err (Refused fault))) told
    (λ t n. (0, ap (map index_of) (no_openings t (few_reads root key fault t n.1))))

-- ---- one more fragment

-- the fragments opened since `before` are the first `count` ones, where the store tells what it served then and now
abbrev pub AreFirstAfter : ℕ → Option (List StoreRead) → Option (List StoreRead) → Type 0
AreFirstAfter count before now = IfSome before (λ old. IfSome now (λ new. indexes (since new) ≡ numbers_below count ++ indexes (since old)))

pub none_yet : (a : Option (List StoreRead)) → AreFirstAfter 0 a a
none_yet None = tt
none_yet (Some x) = refl

pub one_more : {T : Type 0} (done : T) (i : ℕ) (a b c : Option (List StoreRead)) → Told a b (λ more. list_any is_start more ≡ false) → AreFirstAfter i a b → Opens (Ok done) i b c → AreFirstAfter (i + 1) a c
one_more done i None b c t p o = tt
one_more done i (Some x) None c t p o = absurd t
one_more done i (Some x) (Some y) None t p o = tt
one_more done i (Some x) (Some y) (Some z) t p o =
    o ∙ ap (λ (l : List ℕ). i ∷ l) p ∙ ap (λ (n : ℕ). numbers_below n ++ indexes (since x)) (sym (add-one i))

pub one_less : {U : Type 0} (T : Type 0) (fault : ReadFault) (i : ℕ) (a b c : Option (List StoreRead)) → Told a b (λ more. list_any is_start more ≡ false) → AreFirstAfter i a b → Opens {T = T} (Err fault) i b c
    → (result : Result U FileFault) (made : FileFault) → result ≡ Err made → GoesOnInOrder result a c
one_less {U} T fault i a b c told p o result made is = subst (λ (r : Result U FileFault). GoesOnInOrder r a c) (sym is) (by a b c told p o)
  where
    last : (x y z : List StoreRead) → indexes (since y) ≡ numbers_below i ++ indexes (since x) → (indexes (since z) ≡ i ∷ indexes (since y)) ⊎ (indexes (since z) ≡ indexes (since y))
        → (count : ℕ) × (indexes (since z) ≡ numbers_below count ++ indexes (since x))
    last x y z p (inl o) = (suc i, o ∙ ap (λ (l : List ℕ). i ∷ l) p)
    last x y z p (inr o) = (i, o ∙ p)

    by : (x y z : Option (List StoreRead)) → Told x y (λ more. list_any is_start more ≡ false) → AreFirstAfter i x y → Opens {T = T} (Err fault) i y z → GoesOnInOrder {T = U} (Err made) x z
    by None y z t p o = tt
    by (Some x) None z t p o = absurd t
    by (Some x) (Some y) None t p o = tt
    by (Some x) (Some y) (Some z) t p o = last x y z p o

-- memory ran out after so many fragments
pub stopped_order : {U : Type 0} (count : ℕ) (a c : Option (List StoreRead)) → AreFirstAfter count a c → (result : Result U FileFault) (made : FileFault) → result ≡ Err made → GoesOnInOrder result a c
stopped_order {U} count a c p result made is = subst (λ (r : Result U FileFault). GoesOnInOrder r a c) (sym is) (by a c p)
  where
    by : (x z : Option (List StoreRead)) → AreFirstAfter count x z → GoesOnInOrder {T = U} (Err made) x z
    by None z p = tt
    by (Some x) None p = tt
    by (Some x) (Some z) p = (count, p)

-- all of them were opened
pub whole_order : {U : Type 0} (value : U) (start now : Head) (same : now ≡ start) (kept : Option Kept) (fault : Option ReadFault) (quiet : fault ≡ None) (count : ℕ) (a c : Option (List StoreRead))
    → count ≡ fragment_count start.header → Settled c now.header now.top kept fault → AreFirstAfter count a c → GoesOnInOrder (Ok value) a c
whole_order value start now same kept fault quiet count a c all is p = by a c (of_start start now same kept c fault quiet is) p
  where
    by : (x z : Option (List StoreRead)) → Settled z start.header start.top kept None → AreFirstAfter count x z → GoesOnInOrder (Ok value) x z
    by None z s p = tt
    by (Some x) None s p = tt
    by (Some x) (Some z) s p =
        let served : fragments_served (since z) ≡ fragment_count start.header = ap (λ (o : Option Header). option_map_or fragment_count o 0) s.header_is in
        p ∙ ap (λ (n : ℕ). numbers_below n ++ indexes (since x)) (all ∙ sym served)

-- ---- an opener that opened no fragment before

pub nothing_kept : (n : ℕ) (os : List Opening) → IsKept n None os → os ≡ []
nothing_kept n [] is = refl
nothing_kept n (o ∷ os) is = absurd is

pub fresh_order : {U : Type 0} (result : Result U FileFault) (h : Header) (top : List ℕ) (a c : Option (List StoreRead)) → Settled a h top None None → Told a c (λ more. list_any is_start more ≡ false)
    → GoesOnInOrder result a c → IfSome c (λ all. OpensInOrder result (since all))
fresh_order result h top a c is told goes = by result a c is told goes
  where
    none : (x : List StoreRead) → IsSettled h top None (since x) → indexes (since x) ≡ []
    none x s = ap (map index_of) (nothing_kept (fragment_count h) (openings (since x)) s.kept_is)

    by : {U : Type 0} (r : Result U FileFault) (x z : Option (List StoreRead)) → Settled x h top None None → Told x z (λ more. list_any is_start more ≡ false) → GoesOnInOrder r x z
        → IfSome z (λ all. OpensInOrder r (since all))
    by r None None s t g = tt
    by r None (Some z) s t g = absurd t
    by r (Some x) None s t g = tt
    by (Ok value) (Some x) (Some z) s t g =
        g ∙ ap (λ (l : List ℕ). numbers_below (fragments_served (since z)) ++ l) (none x s) ∙ append-nil (numbers_below (fragments_served (since z)))
    by (Err fault) (Some x) (Some z) s t g =
        (g.0, g.1 ∙ ap (λ (l : List ℕ). numbers_below g.0 ++ l) (none x s) ∙ append-nil (numbers_below g.0))

-- ---- from the stream to the document

still_some : {X : Type 0} (o : Option X) (P Q : X → Type 0) → IfSome o P → ((x : X) → P x → Q x) → IfSome o Q
still_some None P Q p more = tt
still_some (Some x) P Q p more = more x p

pub err_order : (A B : Type 0) (fault other : FileFault) (served : Option (List StoreRead)) → IfSome served (λ all. OpensInOrder {T = A} (Err fault) (since all)) → IfSome served (λ all. OpensInOrder {T = B} (Err other) (since all))
err_order A B fault other served order =
    still_some served (λ all. OpensInOrder {T = A} (Err fault) (since all)) (λ all. OpensInOrder {T = B} (Err other) (since all)) order (λ all o. o)

pub ok_order : (A : Type 0) (value : A) (B : Type 0) (result : Result B FileFault) (served : Option (List StoreRead)) → IfSome served (λ all. OpensInOrder (Ok value) (since all)) → IfSome served (λ all. OpensInOrder result (since all))
ok_order A value B result served order =
    still_some served (λ all. OpensInOrder (Ok value) (since all)) (λ all. OpensInOrder result (since all)) order (λ all o. by result all o)
  where
    by : (r : Result B FileFault) (all : List StoreRead) → OpensInOrder (Ok value) (since all) → OpensInOrder r (since all)
    by (Ok other) all o = o
    by (Err fault) all o = (fragments_served (since all), o)
