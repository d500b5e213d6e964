-- An opener's further reads were checked, and their plain bytes are the stream.
use Rattle.std.proofs.Common.{◌≡◌, ℕ, zero, suc, ◌+◌, ◌<◌, Bool, false, List, [], ◌++◌, length, map, refl, sym, ap, ◌∙◌, subst, ◌⊎◌, inl, inr, arith, append_assoc, append-nil}
use Rattle.std.specs.Prelude.{Option, Some, None, Result, Ok, Err, IfSome, Vec}
use Rattle.std.specs.declared.alloc.Global.{Global}
use Rattle.std.specs.List.{list_all, list_any}
use Rattle.std.proofs.lemmas.List.{length-append}
use Rattle.sha2.specs.Sha256.{sha256}
use Rattle.acl_outside.specs.Outside.{StoreRead}
use Rattle.acl_outside.specs.declared.read_fault.ReadFault.{ReadFault}
use Rattle.acl_outside.specs.declared.read_fault.ReadFault.TheVariants.{BadFragment, BadHeader, BadIndex, StoreFault, StoreShort, WrongKey, WrongRoot}
use Rattle.merkle_chunks.specs.HeaderBytes.{fragment_count}
use Rattle.merkle_chunks.specs.File.{key_check}
use Rattle.merkle_chunks.specs.declared.header.Header.{Header}
use Rattle.fragment_open.specs.declared.head.Head.{Head}
use Rattle.fragment_open.specs.declared.kept.Kept.{Kept}
use Rattle.fragment_open.specs.Checked.{AreVerifiedUnder, AllFoldUnlessRefused, refuses_fragment}
use Rattle.fragment_open.specs.Hashed.{folded}
use Rattle.fragment_open.specs.Openings.{index_of, indexes, openings}
use Rattle.fragment_open.specs.Plain.{plain_in, plain_served}
use Rattle.fragment_open.specs.Served.{fragments_served, header_served}
use Rattle.fragment_open.specs.Settled.{AddsPlain, IsSettled, CompletesNone, Settled, is_start, root_by, since}
use Rattle.fragment_open.specs.CallReads.{Told, is_whole}
use Rattle.fragment_open.proofs.CheckedLemmas.{settled-checked}
use Rattle.fragment_open.proofs.FetchLemmas.{count_served}
use Rattle.fragment_open.proofs.SinceLemmas.{header_served-more, since-append}
use Rattle.file_reading.specs.declared.fault.FileFault.{FileFault}
use Rattle.file_reading.specs.declared.fault.FileFault.TheVariants.{NoMemory, Refused}
use Rattle.file_reading.specs.WholeFile.{IsUnfinished, numbers_below}
use Rattle.file_reading.specs.FileEnds.{GoesOnInOrder, GoesOnReading, ReadsAfter, StreamEnds, StreamShown, is_bad_fragment}
use Rattle.file_reading.proofs.OrderLemmas.{AreFirstAfter, nothing_kept}
use Rattle.file_reading.proofs.StreamLemmas.{of_start}

pub length-numbers_below : (n : ℕ) → length (numbers_below n) ≡ n
length-numbers_below zero = refl
length-numbers_below (suc n) = ap suc (length-numbers_below n)

-- ---- the plain bytes

-- the plain bytes of the fragments opened are those opened before, followed by a stream
abbrev pub HasPlain : List ℕ → List ℕ → Option (List StoreRead) → Option (List StoreRead) → Type 0
HasPlain key stream before now = IfSome before (λ old. IfSome now (λ new. plain_served key (since new) ≡ plain_served key (since old) ++ stream))

pub plain_none : (key : List ℕ) (a : Option (List StoreRead)) → HasPlain key [] a a
plain_none key None = tt
plain_none key (Some x) = sym (append-nil (plain_served key (since x)))

pub plain_one_more : {T : Type 0} (done : T) (start now : Head) → now ≡ start → (stream fragment : List ℕ) (a b c : Option (List StoreRead)) → Told a b (λ more. list_any is_start more ≡ false)
    → HasPlain start.key stream a b → AddsPlain (Ok done) now.key fragment b c → HasPlain start.key (stream ++ fragment) a c
plain_one_more {T} done start now same stream fragment a b c told p o = by a b c told p (subst P same o)
  where
    P : Head → Type 0
    P h = AddsPlain (Ok done) h.key fragment b c

    by : (x y z : Option (List StoreRead)) → Told x y (λ more. list_any is_start more ≡ false) → HasPlain start.key stream x y → AddsPlain (Ok done) start.key fragment y z → HasPlain start.key (stream ++ fragment) x z
    by None y z t q r = tt
    by (Some x) None z t q r = absurd t
    by (Some x) (Some y) None t q r = tt
    by (Some x) (Some y) (Some z) t q r =
        r ∙ ap (λ (l : List ℕ). l ++ fragment) q ∙ append_assoc (plain_served start.key (since x)) stream fragment

-- ---- the openings were checked

module _ (start now : Head) (same : now ≡ start) (kept : Option Kept) (fault : Option ReadFault) (quiet : fault ≡ None) where
  -- the openings of an opener that refused none
  pub good_checked : (served : Option (List StoreRead)) → Settled served now.header now.top kept fault → (refused : Bool) → IfSome served (λ all. AllFoldUnlessRefused refused (since all))
  good_checked served is refused = by served (of_start start now same kept served fault quiet is)
    where
      by : (s : Option (List StoreRead)) → Settled s start.header start.top kept None → IfSome s (λ all. AllFoldUnlessRefused refused (since all))
      by None is = tt
      by (Some all) is = settled-checked start.header start.top kept (since all) refused is

  -- a stream was read
  pub whole_reading : (stream : Vec ℕ Global) (a c : Option (List StoreRead)) → Settled c now.header now.top kept fault → HasPlain start.key stream.items a c
      → GoesOnReading (Ok stream) start.header start.top start.key a c
  whole_reading stream a c is plain = by a c (of_start start now same kept c fault quiet is) plain
    where
      by : (x z : Option (List StoreRead)) → Settled z start.header start.top kept None → HasPlain start.key stream.items x z → GoesOnReading (Ok stream) start.header start.top start.key x z
      by None z s p = tt
      by (Some x) None s p = tt
      by (Some x) (Some z) s p = (record { header_is = s.header_is; top_is = s.top_is; root_is = refl; good = s.good }, p)

  -- a fragment of a stream was refused
  pub fetch_reading : (i : ℕ) → i < fragment_count start.header → (a b c : Option (List StoreRead)) → Told a b (λ more. list_any is_start more ≡ false) → Settled b now.header now.top kept fault
      → Told b c (λ more. list_any is_start more ≡ false) → AreFirstAfter i a b → (refused : ReadFault) → (◌≡◌ {A = Result (Unit {0}) ReadFault} (Err refused) (Err StoreFault) → CompletesNone b c)
      → (result : Result (Vec ℕ Global) FileFault) (made : FileFault) → result ≡ Err made → made ≡ Refused refused → GoesOnReading result start.header start.top start.key a c
  fetch_reading i lt a b c before is told order refused none result made result_is made_is =
      subst (λ (r : Result (Vec ℕ Global) FileFault). GoesOnReading r start.header start.top start.key a c) (sym (result_is ∙ ap (λ (f : FileFault). Err f) made_is)) (by refused none)
    where
      anyway : (x z : Option (List StoreRead)) → IfSome x (λ old. IfSome z (λ new. Unit {0}))
      anyway None z = tt
      anyway (Some x) None = tt
      anyway (Some x) (Some z) = tt

      stopped : (x y z : Option (List StoreRead)) → Told x y (λ more. list_any is_start more ≡ false) → Settled y start.header start.top kept None → Told y z (λ more. list_any is_start more ≡ false)
          → AreFirstAfter i x y → CompletesNone y z → GoesOnReading (Err (Refused StoreFault)) start.header start.top start.key x z
      stopped None y z t s u o n = tt
      stopped (Some x) None z t s u o n = absurd t
      stopped (Some x) (Some y) None t s u o n = tt
      stopped (Some x) (Some y) (Some z) t s u o (inr folds) = inr folds
      stopped (Some x) (Some y) (Some z) t s u o (inl opened) =
          let grown : since z ≡ since y ++ u.0 = ap since u.1 ∙ since-append y u.0 u.2 in
          let count : fragments_served (since z) ≡ fragment_count start.header =
          count_served start.header (since z) (ap header_served grown ∙ header_served-more (since y) u.0 start.header s.header_is) in
          let long : length (indexes (since z)) ≡ i + length (indexes (since x)) =
          ap length (opened ∙ o) ∙ length-append (numbers_below i) (indexes (since x)) ∙ ap (λ (m : ℕ). m + length (indexes (since x))) (length-numbers_below i) in
          inl (omega (arith, long, count, lt))

      by : (f : ReadFault) → (◌≡◌ {A = Result (Unit {0}) ReadFault} (Err f) (Err StoreFault) → CompletesNone b c) → GoesOnReading (Err (Refused f)) start.header start.top start.key a c
      by StoreFault n = stopped a b c before (of_start start now same kept b fault quiet is) told order (n refl)
      by BadHeader n = anyway a c
      by (WrongRoot want wrong) n = anyway a c
      by (WrongKey want wrong) n = anyway a c
      by (StoreShort to) n = anyway a c
      by (BadFragment index want wrong) n = anyway a c
      by BadIndex n = anyway a c

-- openings that were checked for a fragment's answer were checked for the file's answer
pub fault_checked : (refused : ReadFault) (served : Option (List StoreRead)) → IfSome served (λ all. AllFoldUnlessRefused (refuses_fragment refused) (since all))
    → (result : Result (Vec ℕ Global) FileFault) (made : FileFault) → result ≡ Err made → made ≡ Refused refused → IfSome served (λ all. AllFoldUnlessRefused (is_bad_fragment result) (since all))
fault_checked refused served checked result made result_is made_is =
    subst (λ (v : Bool). IfSome served (λ all. AllFoldUnlessRefused v (since all))) (sym (ap is_bad_fragment (result_is ∙ ap (λ (f : FileFault). Err f) made_is))) checked

-- memory ran out
pub stopped_reading : (h : Header) (top key : List ℕ) (a c : Option (List StoreRead)) (result : Result (Vec ℕ Global) FileFault) (made : FileFault) → result ≡ Err made → made ≡ NoMemory → GoesOnReading result h top key a c
stopped_reading h top key a c result made result_is made_is =
    subst (λ (r : Result (Vec ℕ Global) FileFault). GoesOnReading r h top key a c) (sym (result_is ∙ ap (λ (f : FileFault). Err f) made_is)) (by a c)
  where
    by : (x z : Option (List StoreRead)) → GoesOnReading (Err NoMemory) h top key x z
    by None z = tt
    by (Some x) None = tt
    by (Some x) (Some z) = tt

-- ---- an opener that opened no fragment before

plain_of_none : (key : List ℕ) (reads : List StoreRead) → openings reads ≡ [] → plain_served key reads ≡ []
unfolding plain_served
plain_of_none key reads none = ap (plain_in key) none

pub fresh_shown : (result : Result (Vec ℕ Global) FileFault) (h : Header) (top key : List ℕ) → key_check key ≡ h.check → (a c : Option (List StoreRead)) → Settled a h top None None
    → Told a c (λ more. list_any is_start more ≡ false) → IfSome c (λ all. StreamEnds result h top key (since all)) → GoesOnInOrder result a c → GoesOnReading result h top key a c
    → IfSome c (λ all. StreamShown result h top key (since all))
fresh_shown result h top key check a c is told ends order goes = by result a c is told ends order goes
  where
    none : (x : List StoreRead) → IsSettled h top None (since x) → openings (since x) ≡ []
    none x s = nothing_kept (fragment_count h) (openings (since x)) s.kept_is

    no_plain : (x : List StoreRead) → IsSettled h top None (since x) → plain_served key (since x) ≡ []
    no_plain x s = plain_of_none key (since x) (none x s)

    no_indexes : (x : List StoreRead) → IsSettled h top None (since x) → indexes (since x) ≡ []
    no_indexes x s = ap (map index_of) (none x s)

    failed : (x : List StoreRead) (reads : List StoreRead) → IsSettled h top None (since x)
        → (length (indexes reads) < fragments_served reads + length (indexes (since x))) ⊎ (folded sha256 reads ≡ None) → IsUnfinished reads
    failed x reads s (inl few) = inl (omega (arith, few, ap length (no_indexes x s)))
    failed x reads s (inr folds) = inr folds

    by : (r : Result (Vec ℕ Global) FileFault) (x z : Option (List StoreRead)) → Settled x h top None None → Told x z (λ more. list_any is_start more ≡ false)
        → IfSome z (λ all. StreamEnds r h top key (since all)) → GoesOnInOrder r x z → GoesOnReading r h top key x z → IfSome z (λ all. StreamShown r h top key (since all))
    by r None None s t e o g = tt
    by r None (Some z) s t e o g = absurd t
    by r (Some x) None s t e o g = tt
    by (Ok stream) (Some x) (Some z) s t e o g = (
      record {
        checked = g.0;
        check_is = check;
        all_whole = e.all_whole;
        in_order = o ∙ ap (λ (l : List ℕ). numbers_below (fragments_served (since z)) ++ l) (no_indexes x s) ∙ append-nil (numbers_below (fragments_served (since z)))
            ∙ ap numbers_below (count_served h (since z) g.0.header_is);
      },
      sym (g.1 ∙ ap (λ (l : List ℕ). l ++ stream.items) (no_plain x s)),
    )
    by (Err (Refused StoreFault)) (Some x) (Some z) s t e o g = failed x (since z) s g
    by (Err (Refused BadHeader)) (Some x) (Some z) s t e o g = tt
    by (Err (Refused (WrongRoot want made))) (Some x) (Some z) s t e o g = tt
    by (Err (Refused (WrongKey want made))) (Some x) (Some z) s t e o g = tt
    by (Err (Refused (StoreShort to))) (Some x) (Some z) s t e o g = tt
    by (Err (Refused (BadFragment index want made))) (Some x) (Some z) s t e o g = tt
    by (Err (Refused BadIndex)) (Some x) (Some z) s t e o g = tt
    by (Err NoMemory) (Some x) (Some z) s t e o g = tt
