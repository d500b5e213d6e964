-- A start on a store: the reads of the header and the top digest.
use Rattle.std.proofs.Common.{◌≡◌, ◌≢◌, ℕ, ◌+◌, ◌<◌, ◌≤◌, true, List, [], ◌∷◌, ◌++◌, length, take, drop, map, refl, sym, ap, ◌∙◌, subst, inl, inr, arith, append-nil}
use Rattle.std.specs.Prelude.{nat_lt, Result, MatchResult, Option, Some, None, option_map, option_and_then, IfSome, Ok, Err}
use Rattle.std.specs.List.{list_all, slice_get}
use Rattle.std.proofs.lemmas.Bool.{eq-eqb}
use Rattle.std.proofs.lemmas.Result.{MatchResult-weaker}
use Rattle.sha2.specs.Sha256.{sha256}
use Rattle.sha2.proofs.Facts256.{length-sha256}
use Rattle.acl_model.specs.declared.document.Doc.{Doc}
use Rattle.acl_outside.specs.Outside.{StoreRead}
use Rattle.acl_outside.specs.declared.read_fault.ReadFault.{ReadFault}
use Rattle.acl_outside.specs.declared.read_fault.ReadFault.TheVariants.{BadHeader, StoreFault, StoreShort, WrongKey, WrongRoot}
use Rattle.merkle_chunks.specs.HeaderBytes.{IsInRange, fragment_count, header_bytes}
use Rattle.merkle_chunks.specs.File.{cipher_fragments, document_header, file, file_root}
use Rattle.merkle_chunks.specs.Strings.{root_string}
use Rattle.merkle_chunks.specs.Table.{IsNode, level_count, node_place, root_digest, top_digest, top_level}
use Rattle.merkle_chunks.specs.declared.header.Header.{Header}
use Rattle.merkle_chunks.proofs.CountLemmas.{counts-le, top_level-is, top_level-low}
use Rattle.merkle_chunks.proofs.FileLemmas.{header_of_file, length-cipher_fragments, length-file}
use Rattle.merkle_chunks.proofs.Places.{one_header}
use Rattle.merkle_chunks.proofs.RangeLemmas.{document_header-in_range}
use Rattle.fragment_open.specs.Openings.{index_of, indexes, openings}
use Rattle.fragment_open.specs.Asks.{ask_of, header_ask, top_ask}
use Rattle.fragment_open.specs.Served.{IsRegular, asks_by, fragments_served, header_in, header_served, root_served, top_served, whole}
use Rattle.fragment_open.specs.CallReads.{GivesWhole, ReadsWhole, Told, is_whole}
use Rattle.fragment_open.specs.Held.{HoldsFile, IsStoreFault, digest_held}
use Rattle.fragment_open.specs.Starting.{AreOfStart, HoldsDocument, IsHead, IsHeadFault, IsHeadOf, IsHeaderRead, IsNoHeader, IsNoTop, IsNotStarted, IsStarted, IsTopRead}
use Rattle.fragment_open.proofs.ClashLemmas.{and_true}
use Rattle.fragment_open.proofs.TreeLemmas.{digest_in, if_true}
use Rattle.fragment_open.proofs.HeaderLemmas.{header_in-is, header_in-of}
use Rattle.fragment_open.proofs.HeldLemmas.{fault_within, node_fault, node_given}
use Rattle.fragment_open.proofs.KeyLemmas.{top_digest-is}
use Rattle.fragment_open.proofs.PathLemmas.{chained}
use Rattle.fragment_open.proofs.ClimbLemmas.{Told-trans, Told-weaker, all_whole-append, cut-after, length-map_ask, map_ask-append, slice_get-after, slice_get-longer}

-- ---- the header's read

module _ (into : List ℕ) (u : Unit {0}) (reads : List StoreRead) (size : length into ≡ 64) (h : ReadsWhole {T = Unit {0}} (Ok u) 0 into reads) where
  header_asked : map ask_of reads ≡ header_ask ∷ []
  header_asked = ap (map ask_of) h ∙ ap (λ (n : ℕ). (0, n) ∷ []) size

  header_whole : list_all is_whole reads ≡ true
  header_whole = ap (list_all is_whole) h ∙ and_true _ true (eq-eqb (length into) (length into) refl) refl

  served_is : header_served reads ≡ header_in into
  served_is = ap header_served h ∙ ap (option_and_then header_in) (if_true _ (Some into) None (eq-eqb (length into) 64 size))

  pub header_read : (header : Header) → IsInRange header → header_bytes header ≡ into → IsHeaderRead header reads
  header_read header range same = record { asked = header_asked; served = served_is ∙ header_in-is header into range same; all_whole = header_whole }

  none_if : (o : Option Header) → ((header : Header) → o ≡ Some header → ⊥) → o ≡ None
  none_if None no'where = refl
  none_if (Some header) no'where = absurd (no'where header refl)

  pub header_bad : ((header : Header) → IsInRange header → header_bytes header ≢ into) → IsNoHeader BadHeader reads
  header_bad off =
      (header_asked, served_is ∙ none_if (header_in into) (λ header found. let is = header_in-of header into found in off header is.0 is.1), header_whole)

module _ (d : Doc) (key : List ℕ) (held : Option (List ℕ)) (is : HoldsDocument held d key) where
  theirs : IsInRange (document_header d key)
  theirs = document_header-in_range d is.document is.stream key

  -- a store that holds a document's file gives its header
  pub header_given : (into : List ℕ) (u : Unit {0}) → length into ≡ 64 → IfSome held (GivesWhole {T = Unit {0}} (Ok u) 0 into) → into ≡ header_bytes (document_header d key)
  header_given into u size h =
      let Q : Option (List ℕ) → Type 0 = λ o. IfSome o (GivesWhole {T = Unit {0}} (Ok u) 0 into) in
      let given : into ≡ take (length into) (drop 0 (file d key)) = subst Q is.holds h in
      given ∙ ap (λ (n : ℕ). take n (drop 0 (file d key))) size ∙ header_of_file d key

  pub header_fault : (into : List ℕ) (fault : ReadFault) → length into ≡ 64 → IfSome held (GivesWhole {T = Unit {0}} (Err fault) 0 into) → IsStoreFault fault
  header_fault into fault size h =
      let Q : Option (List ℕ) → Type 0 = λ o. IfSome o (GivesWhole {T = Unit {0}} (Err fault) 0 into) in
      fault_within fault 0 into (file d key) (omega (arith, size, length-file d key)) (subst Q is.holds h)

  pub header_theirs : (header : Header) (into : List ℕ) → IsInRange header → header_bytes header ≡ into → into ≡ header_bytes (document_header d key) → header ≡ document_header d key
  header_theirs header into range same given = one_header header (document_header d key) range theirs (same ∙ given)

  pub header_there : (into : List ℕ) → into ≡ header_bytes (document_header d key) → ((header : Header) → IsInRange header → header_bytes header ≢ into) → ⊥
  header_there into given off = off (document_header d key) theirs (sym given)

  -- the file has the number of fragments that this header gives
  pub holds_file : (header : Header) → header ≡ document_header d key → HoldsFile held (fragment_count header) d key
  holds_file header same = record { holds = is.holds; count = ap fragment_count same ∙ sym (length-cipher_fragments d key is.key_bytes) }

-- ---- the top digest's read

pub top_node : (n : ℕ) → 1 ≤ n → IsNode n (top_level n) 0
top_node n some = record { on_level = omega arith; within = omega (arith, (top_level-is n some).single) }

pub top_fits : (n place : ℕ) → n ≤ 131072 → place ≡ node_place n (top_level n) 0 → place + 32 < 18446744073709551616
top_fits n place few at = omega (arith, at, few, counts-le n (top_level n), top_level-low n few)

module _ (d : Doc) (key : List ℕ) (n : ℕ) (held : Option (List ℕ)) (is : HoldsFile held n d key) (some : 1 ≤ n) where
  pub top_given : (place : ℕ) (into : List ℕ) → place ≡ node_place n (top_level n) 0 → length into ≡ 32 → IfSome held (GivesWhole {T = Unit {0}} (Ok tt) place into) → into ≡ digest_held d key (top_level n) 0
  top_given place into at size h =
      let P : ℕ → Type 0 = λ m. 0 < level_count m (top_level n) in
      let lt : 0 < level_count n (top_level n) = omega (arith, (top_level-is n some).single) in
      node_given d key n held is (top_level n) 0 place into (omega arith) lt at size h
      ∙ digest_in sha256 (cipher_fragments d key) (top_level n) 0 (subst P is.count lt)

  pub top_fault : (place : ℕ) (into : List ℕ) (fault : ReadFault) → place ≡ node_place n (top_level n) 0 → length into ≡ 32 → IfSome held (GivesWhole {T = Unit {0}} (Err fault) place into) → IsStoreFault fault
  top_fault place into fault at size h = node_fault d key n held is (top_level n) 0 place into fault (omega arith) (omega (arith, (top_level-is n some).single)) at size h

-- ---- a whole start

header_served-longer : (t u : List StoreRead) (h : Header) → header_served t ≡ Some h → header_served (t ++ u) ≡ Some h
header_served-longer t u h found =
    let bytes = chained header_in (option_and_then (whole 64) (slice_get t 0)) h found in
    let read = chained (whole 64) (slice_get t 0) bytes.0 bytes.1 in
    ap (λ (r : Option StoreRead). option_and_then header_in (option_and_then (whole 64) r)) (slice_get-longer t u 0 read.0 read.1)
    ∙ ap (option_and_then header_in) read.2 ∙ bytes.2

asked-length : (reads : List StoreRead) (asks : List (ℕ × ℕ)) → map ask_of reads ≡ asks → length reads ≡ length asks
asked-length reads asks same = sym (length-map_ask reads) ∙ ap length same

pub started : (h : Header) (top : List ℕ) (t u : List StoreRead) → IsHeaderRead h t → IsTopRead (fragment_count h) top u → IsStarted h top (t ++ u)
started h top t u a b = record {
  asked = map_ask-append t u ∙ (λ i. a.asked i ++ b.asked i);
  header_is = header_served-longer t u h a.served;
  top_is = ap (option_and_then (whole 32)) (slice_get-after t u 1 (sym (asked-length t (header_ask ∷ []) a.asked))) ∙ b.served;
  all_whole = all_whole-append t u a.all_whole b.all_whole;
}

-- at most two reads open nothing
pub no_openings : (reads : List StoreRead) → length reads ≤ 2 → openings reads ≡ []
unfolding openings
no_openings [] few = refl
no_openings (a ∷ []) few = refl
no_openings (a ∷ b ∷ []) few = refl
no_openings (a ∷ b ∷ c ∷ reads) few = absurd (omega (arith, few))

regular_start : (reads : List StoreRead) (h : Option Header) → header_served reads ≡ h → map ask_of reads ≡ take (length reads) (asks_by h []) → length reads ≤ 2 → IsRegular reads
regular_start reads h served asked few =
    let none : indexes reads ≡ [] = ap (map index_of) (no_openings reads few) in
    record {
      follows = asked ∙ (λ i. take (length reads) (asks_by (sym served i) (sym none i)));
      within = ap (list_all (λ index. nat_lt index (fragments_served reads))) none;
    }

pub header_fails : (root key : List ℕ) (fault : ReadFault) (reads : List StoreRead) → IsNoHeader fault reads → IsNotStarted root key fault reads
header_fails root key BadHeader reads h =
    let one : length reads ≡ 1 = asked-length reads (header_ask ∷ []) h.0 in
    (regular_start reads None h.1 (h.0 ∙ ap (λ (n : ℕ). take n (header_ask ∷ [])) (sym one)) (omega (arith, one)), h)
header_fails root key (StoreShort to) reads h =
    let one : length reads ≡ 1 = asked-length reads (header_ask ∷ []) h.0 in
    (regular_start reads None h.1 (h.0 ∙ ap (λ (n : ℕ). take n (header_ask ∷ [])) (sym one)) (omega (arith, one)), (h.2, inl h.0))
header_fails root key StoreFault reads h =
    let P : List StoreRead → Type 0 = λ r. IsNotStarted root key StoreFault r in
    subst P (sym h) (regular_start [] None refl refl (omega arith), inl refl)
header_fails root key _ reads h = absurd h

pub top_fails : (root key : List ℕ) (h : Header) (fault : ReadFault) (t u : List StoreRead) → IsHeaderRead h t → IsNoTop (fragment_count h) fault u → IsNotStarted root key fault (t ++ u)
top_fails root key h (StoreShort to) t u a b =
    let asked : map ask_of (t ++ u) ≡ header_ask ∷ top_ask (fragment_count h) ∷ [] = map_ask-append t u ∙ (λ i. a.asked i ++ b.0 i) in
    let two : length (t ++ u) ≡ 2 = asked-length (t ++ u) (header_ask ∷ top_ask (fragment_count h) ∷ []) asked in (
      regular_start (t ++ u) (Some h) (header_served-longer t u h a.served) (asked ∙ ap (λ (n : ℕ). take n (header_ask ∷ top_ask (fragment_count h) ∷ [])) (sym two)) (omega (arith, two)),
      (
        cut-after to t u a.all_whole b.1,
        inr (h, record { served = header_served-longer t u h a.served; asked = asked }),
      ),
    )
top_fails root key h StoreFault t u a b =
    let one : length t ≡ 1 = asked-length t (header_ask ∷ []) a.asked in
    let same : t ++ u ≡ t = ap (λ (s : List StoreRead). t ++ s) b ∙ append-nil t in
    let P : List StoreRead → Type 0 = λ r. IsNotStarted root key StoreFault r in
    subst P (sym same) (regular_start t (Some h) a.served (a.asked ∙ ap (λ (n : ℕ). take n (header_ask ∷ top_ask (fragment_count h) ∷ [])) (sym one)) (omega (arith, one)), inr (h, a))
top_fails root key h _ t u a b = absurd b

pub regular_started : (h : Header) (top : List ℕ) (reads : List StoreRead) → IsStarted h top reads → IsRegular reads
regular_started h top reads s =
    let two : length reads ≡ 2 = asked-length reads (header_ask ∷ top_ask (fragment_count h) ∷ []) s.asked in
    regular_start reads (Some h) s.header_is (s.asked ∙ ap (λ (n : ℕ). take n (header_ask ∷ top_ask (fragment_count h) ∷ [])) (sym two)) (omega (arith, two))

-- the root string served is made of the header and the top digest
pub root_served-is : (h : Header) (top : List ℕ) (reads : List StoreRead) → header_served reads ≡ Some h → top_served reads ≡ Some top → root_served reads ≡ Some (root_string (header_bytes h) top)
root_served-is h top reads a b = (λ i. option_and_then (λ x. option_map (root_string (header_bytes x)) (b i)) (a i))

of_start : (h : Header) (top : List ℕ) (reads : List StoreRead) → IsStarted h top reads → AreOfStart h reads
of_start h top reads s = record { served = s.header_is; asked = s.asked }

pub head_fails : (root key : List ℕ) (h : Header) (top : List ℕ) (fault : ReadFault) (reads : List StoreRead) → IsStarted h top reads → IsHeadFault root key h.check (sha256 (root_string (header_bytes h) top)) fault
    → IsNotStarted root key fault reads
head_fails root key h top (WrongRoot want made) reads s f = (
  regular_started h top reads s,
  (ap (option_map sha256) (root_served-is h top reads s.header_is s.top_is) ∙ ap (λ (d : List ℕ). Some d) (sym f.1), f.0, f.2, (h, of_start h top reads s), s.all_whole),
)
head_fails root key h top (WrongKey want made) reads s f = (
  regular_started h top reads s,
  (
    ap (option_map sha256) (root_served-is h top reads s.header_is s.top_is) ∙ ap (λ (d : List ℕ). Some d) f.0,
    ap (option_map (λ (x : Header). x.check)) s.header_is ∙ ap (λ (d : List ℕ). Some d) (sym f.1),
    f.2,
    f.3,
    (h, of_start h top reads s),
    s.all_whole,
  ),
)
head_fails root key h top _ reads s f = absurd f

-- where a store holds a document's file, the root and the key check are the file's
pub head_held : (d : Doc) (root key : List ℕ) (held : Option (List ℕ)) (h : Header) (top : List ℕ) (fault : ReadFault) → HoldsDocument held d key → file_root d key ≡ root → h ≡ document_header d key
    → top ≡ digest_held d key (top_level (fragment_count h)) 0 → IsHeadFault root key h.check (sha256 (root_string (header_bytes h) top)) fault → IsStoreFault fault
unfolding file_root root_digest
head_held d root key held h top (WrongRoot want made) is same header digest f =
    let c : List (List ℕ) = cipher_fragments d key in
    let count : fragment_count h ≡ length c = (holds_file d key held is h header).count in
    let some : 1 ≤ length c = omega (arith, count, ap fragment_count header, (document_header-in_range d is.document is.stream key).tree) in
    let theirs : top ≡ top_digest sha256 c = digest ∙ ap (λ (n : ℕ). digest_held d key (top_level n) 0) count ∙ sym (top_digest-is sha256 length-sha256 c some) in
    absurd (f.2 (f.0 ∙ sym same ∙ (λ i. sha256 (root_string (header_bytes (sym header i)) (sym theirs i))) ∙ sym f.1))
head_held d root key held h top (WrongKey want made) is same header digest f = absurd (f.3 (f.1 ∙ ap (λ (x : Header). x.check) header ∙ sym f.2))
head_held d root key held h top _ is same header digest f = absurd f

-- ---- in the form of the code's contracts

pub told_no_header : (root key : List ℕ) (a b : Option (List StoreRead)) (fault : ReadFault) → Told a b (IsNoHeader fault) → Told a b (IsNotStarted root key fault)
told_no_header root key a b fault p = Told-weaker a b (IsNoHeader fault) (IsNotStarted root key fault) p (header_fails root key fault)

module _ (root key : List ℕ) (h : Header) (n : ℕ) (count : n ≡ fragment_count h) (a b c : Option (List StoreRead)) where
  pub told_no_top : (fault : ReadFault) → Told a b (IsHeaderRead h) → Told b c (IsNoTop n fault) → Told a c (IsNotStarted root key fault)
  told_no_top fault p q =
      Told-trans a b c (IsHeaderRead h) (IsNoTop n fault) (IsNotStarted root key fault) p q
      (λ t u x y. let P : ℕ → Type 0 = λ m. IsNoTop m fault u in top_fails root key h fault t u x (subst P count y))

  pub told_started : {T : Type 0} (top : List ℕ) (result : Result T ReadFault) (header_of : T → Header) (top_of : T → List ℕ) (key_of : T → List ℕ) → Told a b (IsHeaderRead h) → Told b c (IsTopRead n top)
      → MatchResult result (λ head. IsHead root key h top (header_of head) (top_of head) (key_of head) (sha256 (root_string (header_bytes h) top))) (λ fault. IsHeadFault root key h.check (sha256 (root_string (header_bytes h) top)) fault)
      → Told a c (λ reads. MatchResult result (λ head. IsStarted (header_of head) (top_of head) reads) (λ fault. IsNotStarted root key fault reads))
  told_started top result header_of top_of key_of p q checked =
      Told-trans a b c (IsHeaderRead h) (IsTopRead n top) _ p q
      (λ t u x y.
      let P : ℕ → Type 0 = λ m. IsTopRead m top u in
      let s : IsStarted h top (t ++ u) = started h top t u x (subst P count y) in
      MatchResult-weaker result checked
      (λ head is. let Q : Header → Type 0 = λ k. IsStarted k (top_of head) (t ++ u) in subst Q (sym is.header_is) (subst (λ d. IsStarted h d (t ++ u)) (sym is.top_is) s))
      (λ fault f. head_fails root key h top fault (t ++ u) s f))

pub held_started : {T : Type 0} (d : Doc) (root key : List ℕ) (h : Header) (n : ℕ) (held : Option (List ℕ)) (top : List ℕ) (result : Result T ReadFault) (header_of : T → Header) (top_of : T → List ℕ) (key_of : T → List ℕ)
    → n ≡ fragment_count h → HoldsDocument held d key → file_root d key ≡ root → h ≡ document_header d key → top ≡ digest_held d key (top_level n) 0
    → MatchResult result (λ head. IsHead root key h top (header_of head) (top_of head) (key_of head) (sha256 (root_string (header_bytes h) top))) (λ fault. IsHeadFault root key h.check (sha256 (root_string (header_bytes h) top)) fault)
    → MatchResult result (λ head. IsHeadOf d key (header_of head) (top_of head)) (λ fault. IsStoreFault fault)
held_started d root key h n held top result header_of top_of key_of count is same header digest checked =
    let theirs : top ≡ digest_held d key (top_level (fragment_count h)) 0 = digest ∙ ap (λ (m : ℕ). digest_held d key (top_level m) 0) count in
    MatchResult-weaker result checked
    (λ head k. record { header_is = k.header_is ∙ header; top_is = k.top_is ∙ theirs ∙ ap (λ (x : Header). digest_held d key (top_level (fragment_count x)) 0) (sym k.header_is) })
    (λ fault f. head_held d root key held h top fault is same header theirs f)
