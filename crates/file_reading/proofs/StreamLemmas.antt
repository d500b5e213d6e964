-- The first fragments of a stream, and the stream that all of them make.
use Rattle.std.proofs.Common.{◌≡◌, ℕ, ◌+◌, ◌*◌, ◌/◌, ◌<◌, ◌≤◌, true, false, List, ◌++◌, [], length, take, get_or, refl, sym, ap, ◌∙◌, subst, arith, take_all}
use Rattle.std.specs.Prelude.{Option, Some, None, Result, Ok, Err, IfSome, Vec, ◌||◌}
use Rattle.std.specs.declared.alloc.Global.{Global}
use Rattle.std.specs.List.{list_any}
use Rattle.std.proofs.lemmas.List.Folds.{list_any-append}
use Rattle.std.proofs.Math.Seq.{take-add}
use Rattle.acl_model.specs.Document.{is_document}
use Rattle.acl_model.specs.Stream.{plain}
use Rattle.acl_model.specs.declared.document.Doc.{Doc}
use Rattle.aes_block.specs.Aes.{AreBytes}
use Rattle.acl_outside.specs.Outside.{StoreRead}
use Rattle.merkle_chunks.specs.HeaderBytes.{IsInRange, fragment_count}
use Rattle.merkle_chunks.specs.File.{HasRoot, document_header, file_root}
use Rattle.merkle_chunks.specs.Table.{fragments}
use Rattle.merkle_chunks.specs.declared.header.Header.{Header}
use Rattle.merkle_chunks.proofs.FileLemmas.{length-plain}
use Rattle.merkle_chunks.proofs.PieceLemmas.{get_or-first_chunks}
use Rattle.fragment_open.specs.declared.kept.Kept.{Kept}
use Rattle.fragment_open.specs.Clash.{reads_clash}
use Rattle.acl_outside.specs.declared.read_fault.ReadFault.{ReadFault}
use Rattle.acl_outside.specs.declared.read_fault.ReadFault.TheVariants.{BadFragment, BadHeader, BadIndex, StoreFault, StoreShort, WrongKey, WrongRoot}
use Rattle.fragment_open.specs.declared.head.Head.{Head}
use Rattle.fragment_open.specs.Served.{IsRegular}
use Rattle.fragment_open.specs.Settled.{AreHeld, FetchEnds, IsFetchCause, IsFetched, IsSettled, Settled, is_start, root_by, since}
use Rattle.fragment_open.specs.CallReads.{Told}
use Rattle.fragment_open.proofs.ClimbLemmas.{Told-none, Told-trans}
use Rattle.file_reading.specs.declared.fault.FileFault.{FileFault}
use Rattle.file_reading.specs.declared.fault.FileFault.TheVariants.{Refused}
use Rattle.fragment_open.specs.Starting.{HoldsDocument}
use Rattle.fragment_open.proofs.DocumentLemmas.{header-agrees}
use Rattle.fragment_open.proofs.FetchLemmas.{settled-regular}
use Rattle.fragment_open.proofs.SinceLemmas.{since-append}
use Rattle.file_reading.specs.FileEnds.{AreFirst, HeldEnds, IsHonestFault, IsStreamCause, IsStreamFault, IsStreamRead, OfHeldDocument, StreamEnds}
use Rattle.fragment_open.proofs.ClashGrowth.{clash-before}

-- a fragment follows those before it
fragment_after : (i : ℕ) (bytes : List ℕ) → 256 * (i + 1) ≤ length bytes → take (256 * i) bytes ++ get_or (fragments bytes) i [] ≡ take (256 * (i + 1)) bytes
fragment_after i bytes le =
    let lt : i < length bytes / 256 = omega (arith, le) in
    let next : 256 * (i + 1) ≡ 256 * i + 256 = omega arith in
    ap (λ (l : List ℕ). take (256 * i) bytes ++ l) (get_or-first_chunks 256 (length bytes / 256) i bytes lt)
    ∙ sym (take-add (256 * i) 256 bytes)
    ∙ ap (λ (n : ℕ). take n bytes) (sym next)

-- one more fragment of a stream
pub fragment_more : (d : Doc) (key : List ℕ) (h : Header) (i : ℕ) (stream fragment : List ℕ) → h ≡ document_header d key → i < fragment_count h
    → stream ≡ take (256 * i) (plain d) → fragment ≡ get_or (fragments (plain d)) i [] → stream ++ fragment ≡ take (256 * (i + 1)) (plain d)
fragment_more d key h i stream fragment same lt so_far next =
    let long : length (plain d) ≡ 256 * fragment_count h = length-plain d key ∙ ap (λ (g : Header). 256 * fragment_count g) (sym same) in
    (λ j. so_far j ++ next j) ∙ fragment_after i (plain d) (omega (arith, long, lt))

-- all fragments are the stream
pub all_fragments : (d : Doc) (key : List ℕ) (h : Header) (n : ℕ) (stream : List ℕ) → h ≡ document_header d key → n ≡ fragment_count h
    → stream ≡ take (256 * n) (plain d) → stream ≡ plain d
all_fragments d key h n stream same count all =
    let long : length (plain d) ≡ 256 * n = length-plain d key ∙ ap (λ (g : Header). 256 * fragment_count g) (sym same) ∙ ap (λ (m : ℕ). 256 * m) (sym count) in
    all ∙ take_all (256 * n) (plain d) (omega (arith, long))

module _ (h : Header) (top key : List ℕ) (key_bytes : AreBytes 16 key) (range : IsInRange h) (kept : Option Kept) where
  -- the header of settled reads is that of each document whose file has the root, unless there is a clash with it
  header_is : (d : Doc) (reads : List StoreRead) → IsSettled h top kept reads → is_document d ≡ true → HasRoot d key (root_by h top) → reads_clash reads d key ≡ false → h ≡ document_header d key
  header_is d reads is document has none = header-agrees d key h top reads document key_bytes range is.header_is is.top_is has none

  -- one more fragment of the stream of each document
  pub first-more : (x more y : List StoreRead) (i : ℕ) (stream fragment : List ℕ) → IsSettled h top kept (since x) → y ≡ x ++ more → list_any is_start more ≡ false
      → i < fragment_count h → AreFirst (root_by h top) key i stream (since x) → IsFetched i h top key fragment (since y) → AreFirst (root_by h top) key (i + 1) (stream ++ fragment) (since y)
  first-more x more y i stream fragment is grown no_start lt so_far fetched d document has none =
      let same : since y ≡ since x ++ more = ap since grown ∙ since-append x more no_start in
      let before : reads_clash (since x) d key ≡ false =
      clash-before h top (since x) more is.header_is is.top_is d key (ap (λ (l : List StoreRead). reads_clash l d key) (sym same) ∙ none) in
      fragment_more d key h i stream fragment (header_is d (since x) is document has before) lt (so_far d document has before) (fetched.gives d document has none)

  -- the whole stream
  pub stream-read : (reads : List StoreRead) (n : ℕ) (stream : List ℕ) → IsSettled h top kept reads → n ≡ fragment_count h → AreFirst (root_by h top) key n stream reads
      → IsStreamRead h (root_by h top) key stream reads
  stream-read reads n stream is count all = record {
    regular = settled-regular h top kept reads is;
    all_whole = is.all_whole;
    gives = λ d document has none.
        let same : h ≡ document_header d key = header_is d reads is document has none in
        (same, all_fragments d key h n stream same count (all d document has none));
  }

-- ---- what contracts see of a store

still_some : {X : Type 0} (o : Option X) (P Q : X → Type 0) → IfSome o P → ((x : X) → P x → Q x) → IfSome o Q
still_some None P Q p more = tt
still_some (Some x) P Q p more = more x p

-- reads without a start, followed by reads without one, are without one
pub grown-more : (a b c : Option (List StoreRead)) → Told a b (λ more. list_any is_start more ≡ false) → Told b c (λ more. list_any is_start more ≡ false) → Told a c (λ more. list_any is_start more ≡ false)
grown-more a b c p q =
    Told-trans a b c (λ more. list_any is_start more ≡ false) (λ more. list_any is_start more ≡ false) (λ more. list_any is_start more ≡ false) p q
    (λ t u one other. list_any-append is_start t u ∙ (λ j. one j || other j))

pub grown-none : (a : Option (List StoreRead)) → Told a a (λ more. list_any is_start more ≡ false)
grown-none a = Told-none a (λ more. list_any is_start more ≡ false) refl

-- why a fragment was refused is why a stream was
pub fetch_fault : (T : Type 0) (i : ℕ) (h : Header) (top key bytes : List ℕ) (fault : ReadFault) (served : Option (List StoreRead))
    → IfSome served (λ all. FetchEnds {T = T} (Err fault) i h top key bytes (since all)) → IfSome served (λ all. IsStreamFault (Refused fault) (since all))
fetch_fault T i h top key bytes fault served ends =
    still_some served (λ all. FetchEnds {T = T} (Err fault) i h top key bytes (since all)) (λ all. IsStreamFault (Refused fault) (since all)) ends (λ all e. (e.0, of_cause fault (since all) e.1))
  where
    of_cause : (f : ReadFault) (reads : List StoreRead) → IsFetchCause i f reads → IsStreamCause f reads
    of_cause (BadFragment refused want made) reads c =
        let P : ℕ → Type 0 = λ n. IsFetchCause n (BadFragment refused want made) reads in subst P (sym c.0) c
    of_cause (StoreShort to) reads c = c.0
    of_cause StoreFault reads c = c.0
    of_cause BadHeader reads c = c
    of_cause (WrongRoot want made) reads c = c
    of_cause (WrongKey want made) reads c = c
    of_cause BadIndex reads c = c

-- how the reading of a stream ended in a fault
pub ended_told : (result : Result (Vec ℕ Global) FileFault) (made fault : FileFault) → result ≡ Err made → made ≡ fault → (h : Header) (top key : List ℕ) (served : Option (List StoreRead))
    → IfSome served (λ all. IsStreamFault fault (since all)) → IfSome served (λ all. StreamEnds result h top key (since all))
ended_told result made fault is same h top key served ends =
    let P : Result (Vec ℕ Global) FileFault → Type 0 = λ r. IfSome served (λ all. StreamEnds r h top key (since all)) in
    subst P (sym (is ∙ ap (λ (f : FileFault). Err f) same)) ends

pub held_ended : (result : Result (Vec ℕ Global) FileFault) (made fault : FileFault) → result ≡ Err made → made ≡ fault → (d : Doc) → IsHonestFault fault → HeldEnds result d
held_ended result made fault is same d honest =
    let P : Result (Vec ℕ Global) FileFault → Type 0 = λ r. HeldEnds r d in
    subst P (sym (is ∙ ap (λ (f : FileFault). Err f) same)) honest

module _ (start now : Head) (same : now ≡ start) (kept : Option Kept) where
  pub of_start : (served : Option (List StoreRead)) (fault : Option ReadFault) → fault ≡ None → Settled served now.header now.top kept fault → Settled served start.header start.top kept None
  of_start served fault quiet is =
      let P : Head → Type 0 = λ h. Settled served h.header h.top kept None in
      subst P same (subst (Settled served now.header now.top kept) quiet is)

  -- an opener that refused none has regular reads
  pub regular_told : (served : Option (List StoreRead)) (fault : Option ReadFault) → fault ≡ None → Settled served now.header now.top kept fault → IfSome served (λ all. IsRegular (since all))
  regular_told served fault quiet is = by served (of_start served fault quiet is)
    where
      by : (s : Option (List StoreRead)) → Settled s start.header start.top kept None → IfSome s (λ all. IsRegular (since all))
      by None is = tt
      by (Some all) is = settled-regular start.header start.top kept (since all) is

  -- one more fragment
  pub first_told : (a b : Option (List StoreRead)) (fault : Option ReadFault) → fault ≡ None → Settled a now.header now.top kept fault → Told a b (λ more. list_any is_start more ≡ false)
      → (T : Type 0) (done : T) (i : ℕ) (stream fragment : List ℕ) → i < fragment_count start.header
      → IfSome a (λ all. AreFirst (root_by start.header start.top) start.key i stream (since all))
      → IfSome b (λ all. FetchEnds (Ok done) i now.header now.top now.key fragment (since all))
      → IfSome b (λ all. AreFirst (root_by start.header start.top) start.key (i + 1) (stream ++ fragment) (since all))
  first_told a b fault quiet is told T done i stream fragment lt so_far fetched =
      let P : Head → Type 0 = λ h. IfSome b (λ all. IsFetched i h.header h.top h.key fragment (since all)) in
      by a b (of_start a fault quiet is) told so_far (subst P same fetched)
    where
      by : (x y : Option (List StoreRead)) → Settled x start.header start.top kept None → Told x y (λ more. list_any is_start more ≡ false)
          → IfSome x (λ all. AreFirst (root_by start.header start.top) start.key i stream (since all))
          → IfSome y (λ all. IsFetched i start.header start.top start.key fragment (since all))
          → IfSome y (λ all. AreFirst (root_by start.header start.top) start.key (i + 1) (stream ++ fragment) (since all))
      by None None s t p f = tt
      by None (Some y) s t p f = absurd t
      by (Some x) None s t p f = absurd t
      by (Some x) (Some y) s t p f = first-more start.header start.top start.key start.key_bytes start.range kept x t.0 y i stream fragment s t.1 t.2 lt p f

  -- the whole stream
  pub stream_told : (served : Option (List StoreRead)) (fault : Option ReadFault) → fault ≡ None → Settled served now.header now.top kept fault → (n : ℕ) (stream : List ℕ) → n ≡ fragment_count start.header
      → IfSome served (λ all. AreFirst (root_by start.header start.top) start.key n stream (since all))
      → IfSome served (λ all. IsStreamRead start.header (root_by start.header start.top) start.key stream (since all))
  stream_told served fault quiet is n stream count all = by served (of_start served fault quiet is) all
    where
      by : (s : Option (List StoreRead)) → Settled s start.header start.top kept None → IfSome s (λ all. AreFirst (root_by start.header start.top) start.key n stream (since all))
          → IfSome s (λ all. IsStreamRead start.header (root_by start.header start.top) start.key stream (since all))
      by None is all = tt
      by (Some reads) is all = stream-read start.header start.top start.key start.key_bytes start.range kept (since reads) n stream is count all

  -- ---- what a store that holds the file gives

  module _ (a b : Option (List ℕ)) (constant : b ≡ a) where
    held_now : (d : Doc) → HoldsDocument a d start.key → HoldsDocument b d now.key
    held_now d is =
        let P : Head → Type 0 = λ h. HoldsDocument b d h.key in
        subst P (sym same) (record { holds = constant ∙ is.holds; document = is.document; stream = is.stream; key_bytes = is.key_bytes })

    root_now : (d : Doc) → file_root d start.key ≡ root_by start.header start.top → file_root d now.key ≡ root_by now.header now.top
    root_now d is = let P : Head → Type 0 = λ h. file_root d h.key ≡ root_by h.header h.top in subst P (sym same) is

    header_held : AreHeld b now.header now.top now.key kept → (d : Doc) → HoldsDocument a d start.key → file_root d start.key ≡ root_by start.header start.top → start.header ≡ document_header d start.key
    header_held held d is root =
        let P : Head → Type 0 = λ h. h.header ≡ document_header d h.key in
        subst P same ((held d (held_now d is) (root_now d root)).0.header_is)

    pub held_more : AreHeld b now.header now.top now.key kept → (i : ℕ) (stream fragment : List ℕ) → i < fragment_count start.header
        → OfHeldDocument a (root_by start.header start.top) start.key (λ d. stream ≡ take (256 * i) (plain d))
        → ((d : Doc) → HoldsDocument b d now.key → file_root d now.key ≡ root_by now.header now.top → fragment ≡ get_or (fragments (plain d)) i [])
        → OfHeldDocument a (root_by start.header start.top) start.key (λ d. stream ++ fragment ≡ take (256 * (i + 1)) (plain d))
    held_more held i stream fragment lt so_far next d is root =
        fragment_more d start.key start.header i stream fragment (header_held held d is root) lt (so_far d is root) (next d (held_now d is) (root_now d root))

    pub held_fault : (P : Doc → Type 0) → ((d : Doc) → HoldsDocument b d now.key → file_root d now.key ≡ root_by now.header now.top → P d) → OfHeldDocument a (root_by start.header start.top) start.key P
    held_fault P all d is root = all d (held_now d is) (root_now d root)

    pub held_all : AreHeld b now.header now.top now.key kept → (n : ℕ) (stream : List ℕ) → n ≡ fragment_count start.header
        → OfHeldDocument a (root_by start.header start.top) start.key (λ d. stream ≡ take (256 * n) (plain d)) → OfHeldDocument a (root_by start.header start.top) start.key (λ d. stream ≡ plain d)
    held_all held n stream count all d is root = all_fragments d start.key start.header n stream (header_held held d is root) count (all d is root)
