-- Where the reads show a refusal of a file, this refusal is the answer.
use Rattle.std.proofs.Common.{◌≡◌, ℕ, ◌+◌, ◌≤◌, Bool, true, false, ◌&&◌, List, [], ◌∷◌, ◌++◌, length, map, refl, sym, ap, ◌∙◌, subst, ◌⊎◌, inl, inr, arith, true≢false}
use Rattle.std.specs.Prelude.{Result, Ok, Err, Option, Some, None, is_some, option_map, option_and_then, IfSome}
use Rattle.std.specs.List.{list_all, list_any, slice_get}
use Rattle.std.proofs.lemmas.Bool.{eq-eqb}
use Rattle.sha2.specs.Sha256.{sha256}
use Rattle.acl_outside.specs.Outside.{StoreRead}
use Rattle.acl_outside.specs.declared.read_fault.ReadFault.{ReadFault}
use Rattle.acl_outside.specs.declared.read_fault.ReadFault.TheVariants.{BadFragment, BadHeader, BadIndex, StoreFault, StoreShort, WrongKey, WrongRoot}
use Rattle.merkle_chunks.specs.File.{key_check}
use Rattle.merkle_chunks.specs.HeaderBytes.{fragment_count, header_bytes}
use Rattle.merkle_chunks.specs.Strings.{root_string}
use Rattle.merkle_chunks.specs.declared.header.Header.{Header}
use Rattle.fragment_open.specs.declared.head.Head.{Head}
use Rattle.fragment_open.specs.declared.kept.Kept.{Kept}
use Rattle.fragment_open.specs.Asks.{ask_of, header_ask, top_ask}
use Rattle.fragment_open.specs.Openings.{index_of}
use Rattle.fragment_open.specs.Served.{header_in, header_served, root_served, top_served, whole}
use Rattle.fragment_open.specs.Settled.{FetchEnds, FoldAsWanted, IsFetchCause, Settled, is_start, root_by, since}
use Rattle.fragment_open.specs.Starting.{AreOfStart, IsNotStarted, IsStartCause, IsUnder}
use Rattle.fragment_open.specs.CallReads.{IsCut, Told, is_whole}
use Rattle.fragment_open.proofs.ClashLemmas.{both_true}
use Rattle.fragment_open.proofs.ClimbLemmas.{Told-weaker, cut-not_whole, first_asked, length-map_ask, less-neq, one_short}
use Rattle.fragment_open.proofs.FetchLemmas.{settled-unrefused}
use Rattle.fragment_open.proofs.PathLemmas.{chained, same_value, whole-length}
use Rattle.fragment_open.proofs.SinceLemmas.{header_served-more, since-append, top_served-more}
use Rattle.fragment_open.proofs.StartLemmas.{no_openings, root_served-is}
use Rattle.fragment_open.proofs.TreeLemmas.{if_true, if_false}
use Rattle.file_reading.specs.declared.fault.FileFault.{FileFault}
use Rattle.file_reading.specs.declared.fault.FileFault.TheVariants.{Refused}
use Rattle.file_reading.specs.FileEnds.{IsRefusedWhereShown, IsShown, first_short}
use Rattle.file_reading.proofs.StreamLemmas.{of_start}

pub no_value : {A : Type 0} (o : Option A) (x : A) → o ≡ None → o ≡ Some x → ⊥
no_value o x none some = true≢false (sym (ap is_some (sym none ∙ some)))

-- ---- the first short read

whole-none_short : (reads : List StoreRead) → list_all is_whole reads ≡ true → first_short reads ≡ None
whole-none_short [] all = refl
whole-none_short (r ∷ reads) all =
    let p = both_true (is_whole r) (list_all is_whole reads) all in
    if_true (is_whole r) (first_short reads) (Some (r.at + length r.bytes)) p.0 ∙ whole-none_short reads p.1

cut-first_short : (to : ℕ) (reads : List StoreRead) → IsCut to reads → first_short reads ≡ Some to
cut-first_short to reads c = ap first_short c.all ∙ after c.before c.whole ∙ ap (λ (n : ℕ). Some n) (sym c.place)
  where
    after : (before : List StoreRead) → list_all is_whole before ≡ true → first_short (before ++ (c.last ∷ [])) ≡ Some (c.last.at + length c.last.bytes)
    after [] all = if_false (is_whole c.last) None (Some (c.last.at + length c.last.bytes)) (less-neq (length c.last.bytes) c.last.asked c.short)
    after (x ∷ before) all =
        let p = both_true (is_whole x) (list_all is_whole before) all in
        if_true (is_whole x) (first_short (before ++ (c.last ∷ []))) (Some (x.at + length x.bytes)) p.0 ∙ after before p.1

not_short : (reads : List StoreRead) (to : ℕ) → list_all is_whole reads ≡ true → first_short reads ≡ Some to → ⊥
not_short reads to all short = no_value (first_short reads) to (whole-none_short reads all) short

-- ---- the first reads

abbrev second_asked : List (ℕ × ℕ) → ℕ
second_asked [] = 0
second_asked (a ∷ []) = 0
second_asked (a ∷ b ∷ asks) = b.1

asked_length : (reads : List StoreRead) (asks : List (ℕ × ℕ)) → map ask_of reads ≡ asks → length reads ≡ length asks
asked_length reads asks same = sym (length-map_ask reads) ∙ ap length same

-- a short read of the header, and no other read, served no header
header_short : (reads : List StoreRead) → map ask_of reads ≡ header_ask ∷ [] → list_all is_whole reads ≡ false → option_and_then (whole 64) (slice_get reads 0) ≡ None
header_short [] asked short = refl
header_short (r ∷ []) asked short = one_short 64 r (ap first_asked asked) short
header_short (r ∷ q ∷ reads) asked short = absurd (omega (arith, asked_length (r ∷ q ∷ reads) (header_ask ∷ []) asked))

-- a short second read of the two reads of a start served no top digest
top_short : (reads : List StoreRead) (h : Header) → AreOfStart h reads → list_all is_whole reads ≡ false → top_served reads ≡ None
top_short [] h of short = refl
top_short (r ∷ []) h of short = refl
top_short (r ∷ q ∷ []) h of short =
    let bytes = chained header_in (whole 64 r) h of.served in
    let long : length r.bytes ≡ r.asked =
    ap length (whole-length 64 r bytes.0 bytes.1).1 ∙ (whole-length 64 r bytes.0 bytes.1).0 ∙ sym (ap first_asked of.asked) in
    one_short 32 q (ap second_asked of.asked) (ap (λ (v : Bool). v && list_all is_whole (q ∷ [])) (sym (eq-eqb (length r.bytes) r.asked long)) ∙ short)
top_short (r ∷ q ∷ p ∷ reads) h of short = absurd (omega (arith, asked_length (r ∷ q ∷ p ∷ reads) (header_ask ∷ top_ask (fragment_count h) ∷ []) of.asked))

no_top : (reads : List StoreRead) → length reads ≤ 1 → top_served reads ≡ None
no_top [] few = refl
no_top (r ∷ []) few = refl
no_top (r ∷ q ∷ reads) few = absurd (omega (arith, few))

no_root-header : (reads : List StoreRead) → header_served reads ≡ None → root_served reads ≡ None
no_root-header reads none = ap (option_and_then (λ (h : Header). option_map (root_string (header_bytes h)) (top_served reads))) none

no_root-top : (reads : List StoreRead) → top_served reads ≡ None → root_served reads ≡ None
no_root-top reads none = ap (λ (top : Option (List ℕ)). option_and_then (λ (h : Header). option_map (root_string (header_bytes h)) top) (header_served reads)) none ∙ by (header_served reads)
  where
    by : (o : Option Header) → option_and_then (λ (h : Header). option_map (root_string (header_bytes h)) None) o ≡ None
    by None = refl
    by (Some h) = refl

module _ (root key : List ℕ) (reads : List StoreRead) where
  -- ---- what isn't shown

  -- without a root string served no other root or key is shown
  rootless : root_served reads ≡ None → (want made : List ℕ) → (IsShown root key (WrongRoot want made) reads → ⊥) × (IsShown root key (WrongKey want made) reads → ⊥)
  rootless none want made =
      let nothing : option_map sha256 (root_served reads) ≡ None = ap (option_map sha256) none in
      (λ s. no_value (option_map sha256 (root_served reads)) made nothing s.0, λ s. no_value (option_map sha256 (root_served reads)) root nothing s.0)

  -- two reads open no fragment
  fragmentless : length reads ≤ 2 → (index : ℕ) (want made : List ℕ) → IsShown root key (BadFragment index want made) reads → ⊥
  fragmentless few index want made s =
      let none : index ∷ s.0.0 ≡ [] = sym s.0.1 ∙ ap (map index_of) (no_openings reads few) in
      omega (arith, ap length none)

  unrefused : FoldAsWanted reads → (index : ℕ) (want made : List ℕ) → IsShown root key (BadFragment index want made) reads → ⊥
  unrefused as_wanted index want made s = s.3 (same_value want made (sym s.2 ∙ as_wanted made s.1))

  -- ---- after a start under the root and the key

  after_start : {T : Type 0} (result : Result T FileFault) (h : Header) (top : List ℕ) → header_served reads ≡ Some h → top_served reads ≡ Some top → root_by h top ≡ root → key_check key ≡ h.check
      → ((to : ℕ) → first_short reads ≡ Some to → result ≡ Err (Refused (StoreShort to)))
      → ((index : ℕ) (want made : List ℕ) → IsShown root key (BadFragment index want made) reads → result ≡ Err (Refused (BadFragment index want made)))
      → IsRefusedWhereShown result root key reads
  after_start {T} result h top header_is top_is root_is check short bad fault shown = by fault shown
    where
      root_made : option_map sha256 (root_served reads) ≡ Some root
      root_made = ap (option_map sha256) (root_served-is h top reads header_is top_is) ∙ ap (λ (d : List ℕ). Some d) root_is

      by : (f : ReadFault) → IsShown root key f reads → result ≡ Err (Refused f)
      by BadHeader s = absurd (no_value (header_served reads) h s.1 header_is)
      by (WrongRoot want made) s = absurd (s.2 (s.1 ∙ same_value root made (sym root_made ∙ s.0)))
      by (WrongKey want made) s =
          absurd (s.3 (same_value want h.check (sym s.1 ∙ ap (option_map (λ (x : Header). x.check)) header_is) ∙ sym check ∙ sym s.2))
      by (StoreShort to) s = short to s
      by (BadFragment index want made) s = bad index want made s
      by StoreFault s = absurd s
      by BadIndex s = absurd s

  -- whole reads that show no refusal of the newest opening show no other one
  after_good : {T : Type 0} (result : Result T FileFault) (h : Header) (top : List ℕ) → header_served reads ≡ Some h → top_served reads ≡ Some top → root_by h top ≡ root → key_check key ≡ h.check
      → list_all is_whole reads ≡ true → FoldAsWanted reads → IsRefusedWhereShown result root key reads
  after_good result h top header_is top_is root_is check all as_wanted =
      after_start result h top header_is top_is root_is check
      (λ to s. absurd (not_short reads to all s))
      (λ index want made s. absurd (unrefused as_wanted index want made s))

  -- ---- a fragment that was refused

  abbrev first_number : List ℕ → ℕ
  first_number [] = 0
  first_number (n ∷ numbers) = n

  fetch_refused : {T : Type 0} (h : Header) (top : List ℕ) → header_served reads ≡ Some h → top_served reads ≡ Some top → root_by h top ≡ root → key_check key ≡ h.check
      → (index : ℕ) (fault : ReadFault) → IsFetchCause index fault reads → IsRefusedWhereShown {T = T} (Err (Refused fault)) root key reads
  fetch_refused {T} h top header_is top_is root_is check index (StoreShort to) c =
      after_start (Err (Refused (StoreShort to))) h top header_is top_is root_is check
      (λ other s. ap (λ (n : ℕ). Err (Refused (StoreShort n))) (same_value to other (sym (cut-first_short to reads c.0) ∙ s)))
      (λ i want made s. absurd (unrefused c.1 i want made s))
  fetch_refused {T} h top header_is top_is root_is check index StoreFault c =
      after_good (Err (Refused StoreFault)) h top header_is top_is root_is check c.0 c.1
  fetch_refused {T} h top header_is top_is root_is check index (BadFragment refused want made) c =
      after_start (Err (Refused (BadFragment refused want made))) h top header_is top_is root_is check
      (λ to s. absurd (not_short reads to c.1 s))
      (λ i wants makes s.
      let same : refused ≡ i = c.0 ∙ ap first_number (sym c.2.1 ∙ s.0.1) in
      let want_same : want ≡ wants = same_value want wants (sym c.4 ∙ s.2) in
      let made_same : made ≡ makes = same_value made makes (sym c.3 ∙ s.1) in
      λ j. Err (Refused (BadFragment (same j) (want_same j) (made_same j))))
  fetch_refused h top header_is top_is root_is check index BadHeader c = absurd c
  fetch_refused h top header_is top_is root_is check index (WrongRoot want made) c = absurd c
  fetch_refused h top header_is top_is root_is check index (WrongKey want made) c = absurd c
  fetch_refused h top header_is top_is root_is check index BadIndex c = absurd c

  -- ---- a start that was refused

  -- what two reads that served no root string show
  rootless_start : {T : Type 0} (result : Result T FileFault) → root_served reads ≡ None → length reads ≤ 2 → (IsShown root key BadHeader reads → result ≡ Err (Refused BadHeader))
      → ((to : ℕ) → first_short reads ≡ Some to → result ≡ Err (Refused (StoreShort to))) → IsRefusedWhereShown result root key reads
  rootless_start result none few header short fault shown = by fault shown
    where
      by : (f : ReadFault) → IsShown root key f reads → result ≡ Err (Refused f)
      by BadHeader s = header s
      by (WrongRoot want made) s = absurd ((rootless none want made).0 s)
      by (WrongKey want made) s = absurd ((rootless none want made).1 s)
      by (StoreShort to) s = short to s
      by (BadFragment index want made) s = absurd (fragmentless few index want made s)
      by StoreFault s = absurd s
      by BadIndex s = absurd s

  header_there : (h : Header) → header_served reads ≡ Some h → IsShown root key BadHeader reads → ⊥
  header_there h there s = no_value (header_served reads) h s.1 there

  pub length_two : (h : Header) → AreOfStart h reads → length reads ≤ 2
  length_two h of = omega (arith, asked_length reads (header_ask ∷ top_ask (fragment_count h) ∷ []) of.asked)

  pub length_one : map ask_of reads ≡ header_ask ∷ [] → length reads ≤ 1
  length_one asked = omega (arith, asked_length reads (header_ask ∷ []) asked)

  no_bytes : (o : Option (List ℕ)) → o ≡ None → is_some o ≡ true → ⊥
  no_bytes o none there = true≢false (sym there ∙ ap is_some none)

  -- the only answer that is shown by reads of which the last one is short
  short_is : {T : Type 0} (to : ℕ) → IsCut to reads → (other : ℕ) → first_short reads ≡ Some other → ◌≡◌ {A = Result T FileFault} (Err (Refused (StoreShort to))) (Err (Refused (StoreShort other)))
  short_is to cut other s = ap (λ (n : ℕ). Err (Refused (StoreShort n))) (same_value to other (sym (cut-first_short to reads cut) ∙ s))

  start_refused : {T : Type 0} (fault : ReadFault) → IsStartCause root key fault reads → IsRefusedWhereShown {T = T} (Err (Refused fault)) root key reads
  start_refused {T} BadHeader c =
      rootless_start (Err (Refused BadHeader)) (no_root-header reads c.1) (omega (arith, length_one c.0)) (λ s. refl) (λ to s. absurd (not_short reads to c.2 s))
  start_refused {T} (StoreShort to) c = by c.1
    where
      by : (map ask_of reads ≡ header_ask ∷ []) ⊎ ((h : Header) × AreOfStart h reads) → IsRefusedWhereShown {T = T} (Err (Refused (StoreShort to))) root key reads
      by (inl asked) =
          let none : option_and_then (whole 64) (slice_get reads 0) ≡ None = header_short reads asked (cut-not_whole to reads c.0) in
          rootless_start (Err (Refused (StoreShort to))) (no_root-header reads (ap (option_and_then header_in) none)) (omega (arith, length_one asked))
          (λ s. absurd (no_bytes (option_and_then (whole 64) (slice_get reads 0)) none s.0)) (short_is to c.0)
      by (inr of) =
          rootless_start (Err (Refused (StoreShort to))) (no_root-top reads (top_short reads of.0 of.1 (cut-not_whole to reads c.0))) (length_two of.0 of.1)
          (λ s. absurd (header_there of.0 of.1.served s)) (short_is to c.0)
  start_refused {T} StoreFault (inl none) =
      let nothing : option_and_then (whole 64) (slice_get reads 0) ≡ None = ap (λ (l : List StoreRead). option_and_then (whole 64) (slice_get l 0)) none in
      let few : length reads ≡ 0 = ap length none in
      rootless_start (Err (Refused StoreFault)) (no_root-header reads (ap (option_and_then header_in) nothing)) (omega (arith, few))
      (λ s. absurd (no_bytes (option_and_then (whole 64) (slice_get reads 0)) nothing s.0)) (λ to s. absurd (not_short reads to (ap (list_all is_whole) none) s))
  start_refused {T} StoreFault (inr read) =
      rootless_start (Err (Refused StoreFault)) (no_root-top reads (no_top reads (length_one read.1.asked))) (omega (arith, length_one read.1.asked))
      (λ s. absurd (header_there read.0 read.1.served s)) (λ to s. absurd (not_short reads to read.1.all_whole s))
  start_refused {T} (WrongRoot want made) c = by
    where
      by : (f : ReadFault) → IsShown root key f reads → ◌≡◌ {A = Result T FileFault} (Err (Refused (WrongRoot want made))) (Err (Refused f))
      by BadHeader s = absurd (header_there c.3.0 c.3.1.served s)
      by (WrongRoot wants makes) s =
          let want_same : want ≡ wants = c.1 ∙ sym s.1 in
          let made_same : made ≡ makes = same_value made makes (sym c.0 ∙ s.0) in
          λ j. Err (Refused (WrongRoot (want_same j) (made_same j)))
      by (WrongKey wants makes) s = absurd (c.2 (c.1 ∙ same_value root made (sym s.0 ∙ c.0)))
      by (StoreShort to) s = absurd (not_short reads to c.4 s)
      by (BadFragment i wants makes) s = absurd (fragmentless (length_two c.3.0 c.3.1) i wants makes s)
      by StoreFault s = absurd s
      by BadIndex s = absurd s
  start_refused {T} (WrongKey want made) c = by
    where
      by : (f : ReadFault) → IsShown root key f reads → ◌≡◌ {A = Result T FileFault} (Err (Refused (WrongKey want made))) (Err (Refused f))
      by BadHeader s = absurd (header_there c.4.0 c.4.1.served s)
      by (WrongRoot wants makes) s = absurd (s.2 (s.1 ∙ same_value root makes (sym c.0 ∙ s.0)))
      by (WrongKey wants makes) s =
          let want_same : want ≡ wants = same_value want wants (sym c.1 ∙ s.1) in
          let made_same : made ≡ makes = c.2 ∙ sym s.2 in
          λ j. Err (Refused (WrongKey (want_same j) (made_same j)))
      by (StoreShort to) s = absurd (not_short reads to c.5 s)
      by (BadFragment i wants makes) s = absurd (fragmentless (length_two c.4.0 c.4.1) i wants makes s)
      by StoreFault s = absurd s
      by BadIndex s = absurd s
  start_refused (BadFragment index want made) c = absurd c
  start_refused BadIndex c = absurd c

-- ---- what contracts see of a store

pub not_started_exact : (T : Type 0) (root key : List ℕ) (fault : ReadFault) (a b : Option (List StoreRead)) → Told a b (IsNotStarted root key fault)
    → Told a b (λ reads. IsRefusedWhereShown {T = T} (Err (Refused fault)) root key reads)
not_started_exact T root key fault a b told =
    Told-weaker a b (IsNotStarted root key fault) (λ reads. IsRefusedWhereShown {T = T} (Err (Refused fault)) root key reads) told (λ t n. start_refused root key t fault n.1)

module _ (start now : Head) (same : now ≡ start) (kept : Option Kept) (fault : Option ReadFault) (quiet : fault ≡ None) where
  -- the reads of an opener that refused none show nothing
  pub good_exact : {T : Type 0} (result : Result T FileFault) (served : Option (List StoreRead)) → Settled served now.header now.top kept fault
      → IfSome served (λ all. IsRefusedWhereShown result (root_by start.header start.top) start.key (since all))
  good_exact result served is = by served (of_start start now same kept served fault quiet is)
    where
      by : (s : Option (List StoreRead)) → Settled s start.header start.top kept None → IfSome s (λ all. IsRefusedWhereShown result (root_by start.header start.top) start.key (since all))
      by None is = tt
      by (Some all) is =
          after_good (root_by start.header start.top) start.key (since all) result start.header start.top is.header_is is.top_is refl start.right_key is.all_whole
          (settled-unrefused start.header start.top kept (since all) is)

  -- and those of one that refused a fragment show this refusal
  pub fetch_exact : {U : Type 0} (T : Type 0) (a b : Option (List StoreRead)) → Settled a now.header now.top kept fault → Told a b (λ more. list_any is_start more ≡ false) → (i : ℕ) (bytes : List ℕ) (refused : ReadFault)
      → IfSome b (λ all. FetchEnds {T = T} (Err refused) i now.header now.top now.key bytes (since all)) → (result : Result U FileFault) (made : FileFault) → result ≡ Err made → made ≡ Refused refused
      → IfSome b (λ all. IsRefusedWhereShown result (root_by start.header start.top) start.key (since all))
  fetch_exact {U} T a b is told i bytes refused ends result made result_is made_is = by a b (of_start start now same kept a fault quiet is) told ends
    where
      by : (x y : Option (List StoreRead)) → Settled x start.header start.top kept None → Told x y (λ more. list_any is_start more ≡ false)
          → IfSome y (λ all. FetchEnds {T = T} (Err refused) i now.header now.top now.key bytes (since all))
          → IfSome y (λ all. IsRefusedWhereShown result (root_by start.header start.top) start.key (since all))
      by None None s t e = tt
      by None (Some y) s t e = absurd t
      by (Some x) None s t e = absurd t
      by (Some x) (Some y) s t e =
          let grown : since y ≡ since x ++ t.0 = ap since t.1 ∙ since-append x t.0 t.2 in
          let P : Result U FileFault → Type 0 = λ r. IsRefusedWhereShown r (root_by start.header start.top) start.key (since y) in
          subst P (sym (result_is ∙ ap (λ (f : FileFault). Err f) made_is))
          (fetch_refused (root_by start.header start.top) start.key (since y) start.header start.top
          (ap header_served grown ∙ header_served-more (since x) t.0 start.header s.header_is) (ap top_served grown ∙ top_served-more (since x) t.0 start.top s.top_is)
          refl start.right_key i refused e.1)

-- ---- from the stream to the document

same_fault : {A : Type 0} (one other : FileFault) → ◌≡◌ {A = Result A FileFault} (Err one) (Err other) → one ≡ other
same_fault one other h = cc

abbrev is_good : {A : Type 0} → Result A FileFault → Bool
is_good (Ok value) = true
is_good (Err fault) = false

still_some : {X : Type 0} (o : Option X) (P Q : X → Type 0) → IfSome o P → ((x : X) → P x → Q x) → IfSome o Q
still_some None P Q p more = tt
still_some (Some x) P Q p more = more x p

module _ (root key : List ℕ) (h : Header) (top taken : List ℕ) (under : IsUnder root key h top taken) (served : Option (List StoreRead)) where
  -- a statement about the root and the key in the head is true of those that were given
  exact_under : {A : Type 0} (result : Result A FileFault) → IfSome served (λ all. IsRefusedWhereShown result (root_by h top) taken (since all)) → IfSome served (λ all. IsRefusedWhereShown result root key (since all))
  exact_under result exact =
      let P : List ℕ → Type 0 = λ r. IfSome served (λ all. IsRefusedWhereShown result r taken (since all)) in
      let Q : List ℕ → Type 0 = λ k. IfSome served (λ all. IsRefusedWhereShown result root k (since all)) in
      subst Q under.key_is (subst P under.root_is exact)

  pub err_exact : (A B : Type 0) (fault : FileFault) → IfSome served (λ all. IsRefusedWhereShown {T = A} (Err fault) (root_by h top) taken (since all))
      → IfSome served (λ all. IsRefusedWhereShown {T = B} (Err fault) root key (since all))
  err_exact A B fault exact =
      still_some served (λ all. IsRefusedWhereShown {T = A} (Err fault) root key (since all)) (λ all. IsRefusedWhereShown {T = B} (Err fault) root key (since all)) (exact_under (Err fault) exact)
      (λ all e shown s. ap (λ (f : FileFault). Err f) (same_fault {A = A} fault (Refused shown) (e shown s)))

  pub ok_exact : {A B : Type 0} (value : A) (result : Result B FileFault) → IfSome served (λ all. IsRefusedWhereShown {T = A} (Ok value) (root_by h top) taken (since all))
      → IfSome served (λ all. IsRefusedWhereShown result root key (since all))
  ok_exact {A} {B} value result exact =
      still_some served (λ all. IsRefusedWhereShown {T = A} (Ok value) root key (since all)) (λ all. IsRefusedWhereShown result root key (since all)) (exact_under (Ok value) exact)
      (λ all e shown s. absurd (true≢false (ap is_good (e shown s))))
