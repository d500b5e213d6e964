-- How the reading of a file ends, given its start, its stream and its document.
use Rattle.std.proofs.Common.{◌≡◌, ℕ, Bool, true, false, ◌||◌, List, [], ◌∷◌, ◌++◌, length, map, refl, sym, ap, ◌∙◌, subst, ◌⊎◌, inl, inr, arith, append_assoc, true≢false}
use Rattle.std.specs.Prelude.{Option, Some, None, nat_eq, Ok, Err, IfSome}
use Rattle.std.specs.List.{list_all, list_any}
use Rattle.std.proofs.lemmas.List.Folds.{list_any-append}
use Rattle.acl_model.specs.Document.{is_document}
use Rattle.acl_model.specs.Stream.{has_stream, plain}
use Rattle.acl_model.specs.declared.document.Doc.{Doc}
use Rattle.acl_outside.specs.Outside.{StoreRead}
use Rattle.acl_outside.specs.declared.read_fault.ReadFault.{ReadFault}
use Rattle.acl_outside.specs.declared.read_fault.ReadFault.TheVariants.{BadFragment, BadHeader, BadIndex, StoreFault, StoreShort, WrongKey, WrongRoot}
use Rattle.merkle_chunks.specs.File.{HasRoot, document_header, file_root}
use Rattle.merkle_chunks.specs.HeaderBytes.{fragment_count}
use Rattle.merkle_chunks.specs.declared.header.Header.{Header}
use Rattle.skip_decode.specs.StreamOf.{IsStreamOf}
use Rattle.fragment_open.specs.Asks.{ask_of, top_ask}
use Rattle.fragment_open.specs.Checked.{AllFoldUnlessRefused}
use Rattle.fragment_open.specs.Clash.{reads_clash}
use Rattle.fragment_open.specs.Plain.{plain_served}
use Rattle.fragment_open.specs.Settled.{is_start, root_by, since}
use Rattle.fragment_open.specs.Starting.{HoldsDocument, IsNotStarted, IsStartCause, IsStarted, IsUnder}
use Rattle.fragment_open.specs.CallReads.{Told, is_whole}
use Rattle.fragment_open.proofs.CheckedLemmas.{unopened-folds, unrefused-checked}
use Rattle.fragment_open.proofs.ClimbLemmas.{Told-weaker}
use Rattle.fragment_open.proofs.KeyLemmas.{either}
use Rattle.fragment_open.proofs.SinceLemmas.{since-start}
use Rattle.fragment_open.proofs.StartLemmas.{no_openings}
use Rattle.file_reading.specs.declared.fault.FileFault.{FileFault}
use Rattle.file_reading.specs.declared.fault.FileFault.TheVariants.{NoMemory, Refused}
use Rattle.tag_dictionary.specs.declared.fault.DictFault.{DictFault}
use Rattle.tag_dictionary.specs.declared.fault.DictFault.TheVariants as index
use Rattle.file_reading.specs.inside.FileFaults.{fault_of_index}
use Rattle.file_reading.specs.WholeFile.{IsWholeFile}
use Rattle.file_reading.specs.FileEnds.{FileEnds, IsFileCause, IsStreamFault, IsStreamRead, StreamShown}
use Rattle.file_reading.proofs.ShownLemmas.{length_one}
use Rattle.file_reading.proofs.WholeLemmas.{one_of}

-- ---- a start that was refused

cause_of : (root key : List ℕ) (fault : ReadFault) (reads : List StoreRead) → IsStartCause root key fault reads → IsFileCause root key fault reads
cause_of root key BadHeader reads c = c
cause_of root key (WrongRoot want made) reads c = c
cause_of root key (WrongKey want made) reads c = c
cause_of root key (StoreShort to) reads c = c.0
cause_of root key StoreFault reads (inl none) = (ap (list_all is_whole) none, inr (unopened-folds reads (no_openings reads (omega (arith, ap length none)))))
cause_of root key StoreFault reads (inr read) =
    (read.1.all_whole, inr (unopened-folds reads (no_openings reads (omega (arith, length_one root key reads read.1.asked)))))
cause_of root key (BadFragment index want made) reads c = absurd c
cause_of root key BadIndex reads c = absurd c

pub not_started-ends : (root key : List ℕ) (fault : ReadFault) (a b : Option (List StoreRead)) → Told a b (IsNotStarted root key fault) → Told a b (FileEnds (Err (Refused fault)) root key)
not_started-ends root key fault a b told =
    Told-weaker a b (IsNotStarted root key fault) (FileEnds (Err (Refused fault)) root key) told (λ t n. (n.0, cause_of root key fault t n.1))

-- ---- a stream that was not read

pub stream_fault-ends : (root key : List ℕ) (fault : FileFault) (h : Header) (top taken : List ℕ) (reads : List StoreRead) → IsStreamFault fault reads → StreamShown (Err fault) h top taken reads
    → FileEnds (Err fault) root key reads
stream_fault-ends root key NoMemory h top taken reads f s = f
stream_fault-ends root key (Refused (StoreShort to)) h top taken reads f s = f
stream_fault-ends root key (Refused StoreFault) h top taken reads f s = (f.0, (f.1, s))
stream_fault-ends root key (Refused (BadFragment index want made)) h top taken reads f s = f
stream_fault-ends root key (Refused BadHeader) h top taken reads f s = absurd f.1
stream_fault-ends root key (Refused (WrongRoot want made)) h top taken reads f s = absurd f.1
stream_fault-ends root key (Refused (WrongKey want made)) h top taken reads f s = absurd f.1
stream_fault-ends root key (Refused BadIndex) h top taken reads f s = absurd f.1

-- ---- a stream that was read

-- the stream and the header of a document are those of it
pub stream_of : (d : Doc) (key : List ℕ) (h : Header) (stream : List ℕ) → is_document d ≡ true → has_stream d ≡ true → h ≡ document_header d key → stream ≡ plain d → IsStreamOf d stream h
stream_of d key h stream document defined same bytes = record {
  document = document;
  within = defined;
  bytes = bytes;
  tree = ap (λ (g : Header). g.tree) same;
  tags = ap (λ (g : Header). g.tags) same;
  dictionary = ap (λ (g : Header). g.dictionary) same;
  depth = ap (λ (g : Header). g.depth) same;
}

module _ (h : Header) (root key stream : List ℕ) (reads : List StoreRead) (read : IsStreamRead h root key stream reads) (top : List ℕ)
    (whole_file : IsWholeFile root key h top reads) (plain_is : stream ≡ plain_served key reads) where
  pub document-ends : (doc : Doc) → IsStreamOf doc stream h → FileEnds (Ok doc) root key reads
  document-ends doc is = record {
    regular = read.regular;
    all_whole = read.all_whole;
    shows = record { header = h; top = top; whole_file = whole_file; stream = subst (λ (l : List ℕ). IsStreamOf doc l h) plain_is is };
    gives = λ d document has none.
        let same = read.gives d document has none in
        one_of doc d stream h is (stream_of d key h stream document has.defined same.0 same.1);
  }

  pub index-ends : ((d : Doc) → ¬ IsStreamOf d stream h) → FileEnds (Err (Refused BadIndex)) root key reads
  index-ends bad = (
    read.regular,
    (
      read.all_whole,
      λ d document has. found d document has (either (reads_clash reads d key)),
      record { header = h; top = top; whole_file = whole_file; no_stream = λ d is. bad d (subst (λ (l : List ℕ). IsStreamOf d l h) (sym plain_is) is) },
    ),
  )
    where
      found : (d : Doc) → is_document d ≡ true → HasRoot d key root → (reads_clash reads d key ≡ true) ⊎ (reads_clash reads d key ≡ false) → reads_clash reads d key ≡ true
      found d document has (inl e) = e
      found d document has (inr none) = let same = read.gives d document has none in absurd (bad d (stream_of d key h stream document has.defined same.0 same.1))

  pub memory-ends : FileEnds (Err NoMemory) root key reads
  memory-ends = read.regular

-- ---- the reads of a whole file

-- the reads of a start begin those of an opener
since-started : (h : Header) (top : List ℕ) (a g more : List StoreRead) → IsStarted h top g → list_any is_start more ≡ false → since (a ++ (g ++ more)) ≡ g ++ more
since-started h top a [] more s none = absurd (true≢false (sym (ap is_pair s.asked)))
  where
    is_pair : List (ℕ × ℕ) → Bool
    is_pair [] = false
    is_pair (x ∷ xs) = true
since-started h top a (r ∷ g) more s none =
    since-start a r (g ++ more) (ap (λ (asks : List (ℕ × ℕ)). first_is asks) s.asked)
    (list_any-append is_start g more ∙ ap (λ (v : Bool). v || list_any is_start more) (no_start g (ap after s.asked)) ∙ none)
  where
    first_is : List (ℕ × ℕ) → Bool
    first_is [] = true
    first_is (x ∷ xs) = nat_eq x.1 64

    after : List (ℕ × ℕ) → List (ℕ × ℕ)
    after [] = []
    after (x ∷ xs) = xs

    any_start : List (ℕ × ℕ) → Bool
    any_start asks = list_any (λ (x : ℕ × ℕ). nat_eq x.1 64) asks

    asked_start : (l : List StoreRead) → list_any is_start l ≡ any_start (map ask_of l)
    asked_start [] = refl
    asked_start (x ∷ l) = ap (λ (v : Bool). nat_eq x.asked 64 || v) (asked_start l)

    no_start : (l : List StoreRead) → map ask_of l ≡ top_ask (fragment_count h) ∷ [] → list_any is_start l ≡ false
    no_start l same = asked_start l ∙ ap any_start same

pub told-since : (h : Header) (top : List ℕ) (a b c : Option (List StoreRead)) (P : List StoreRead → Type 0)
    → Told a b (IsStarted h top) → Told b c (λ more. list_any is_start more ≡ false) → IfSome c (λ all. P (since all)) → Told a c P
told-since h top None None None P s m p = tt
told-since h top None None (Some c) P s m p = absurd m
told-since h top None (Some b) c P s m p = absurd s
told-since h top (Some a) None c P s m p = absurd s
told-since h top (Some a) (Some b) None P s m p = absurd m
told-since h top (Some a) (Some b) (Some c) P s m p =
    let all : c ≡ a ++ (s.0 ++ m.0) = m.1 ∙ ap (λ (l : List StoreRead). l ++ m.0) s.1 ∙ append_assoc a s.0 m.0 in
    (s.0 ++ m.0, all, subst P (ap since all ∙ since-started h top a s.0 m.0 s.2 m.2) p)

-- ---- what contracts see of a store

still_some : {X : Type 0} (o : Option X) (P Q : X → Type 0) → IfSome o P → ((x : X) → P x → Q x) → IfSome o Q
still_some None P Q p more = tt
still_some (Some x) P Q p more = more x p

both : {X : Type 0} (o : Option X) (P Q : X → Type 0) → IfSome o P → IfSome o Q → IfSome o (λ x. P x × Q x)
both None P Q p q = tt
both (Some x) P Q p q = (p, q)

pub stream_fault_told : (root key : List ℕ) (fault : FileFault) (h : Header) (top taken : List ℕ) (served : Option (List StoreRead)) → IfSome served (λ all. IsStreamFault fault (since all))
    → IfSome served (λ all. StreamShown (Err fault) h top taken (since all)) → IfSome served (λ all. FileEnds (Err fault) root key (since all))
stream_fault_told root key fault h top taken served ends shown =
    still_some served (λ all. IsStreamFault fault (since all) × StreamShown (Err fault) h top taken (since all)) (λ all. FileEnds (Err fault) root key (since all))
    (both served (λ all. IsStreamFault fault (since all)) (λ all. StreamShown (Err fault) h top taken (since all)) ends shown)
    (λ all e. stream_fault-ends root key fault h top taken (since all) e.0 e.1)

-- what is shown of a stream that was read
abbrev IsShownRead : Header → List ℕ → List ℕ → List ℕ → List ℕ → List StoreRead → Type 0
IsShownRead h top root key stream reads = IsStreamRead h root key stream reads × (IsWholeFile root key h top reads × (stream ≡ plain_served key reads))

-- where no fragment was refused, the openings were checked for each answer
pub decoded_checked : (served : Option (List StoreRead)) (refused : Bool) → IfSome served (λ all. AllFoldUnlessRefused false (since all)) → IfSome served (λ all. AllFoldUnlessRefused refused (since all))
decoded_checked served refused checked =
    still_some served (λ all. AllFoldUnlessRefused false (since all)) (λ all. AllFoldUnlessRefused refused (since all)) checked (λ all c. unrefused-checked (since all) refused c)

module _ (root key : List ℕ) (h : Header) (top taken : List ℕ) (under : IsUnder root key h top taken) where
  -- a stream that was read is one under the given root and key
  read_under : (stream : List ℕ) (served : Option (List StoreRead)) → IfSome served (λ all. IsShownRead h top (root_by h top) taken stream (since all)) → IfSome served (λ all. IsShownRead h top root key stream (since all))
  read_under stream served read =
      let P : List ℕ → Type 0 = λ r. IfSome served (λ all. IsShownRead h top r taken stream (since all)) in
      let Q : List ℕ → Type 0 = λ k. IfSome served (λ all. IsShownRead h top root k stream (since all)) in
      subst Q under.key_is (subst P under.root_is read)

  module _ (stream bytes : List ℕ) (g : Header) (bytes_are : bytes ≡ stream) (header_is : g ≡ h) (served : Option (List StoreRead))
      (read : IfSome served (λ all. IsStreamRead h (root_by h top) taken stream (since all)))
      (shown : IfSome served (λ all. IsWholeFile (root_by h top) taken h top (since all) × (stream ≡ plain_served taken (since all)))) where
    both_under : IfSome served (λ all. IsShownRead h top root key stream (since all))
    both_under =
        read_under stream served
        (both served (λ all. IsStreamRead h (root_by h top) taken stream (since all)) (λ all. IsWholeFile (root_by h top) taken h top (since all) × (stream ≡ plain_served taken (since all))) read shown)

    of_stream : (d : Doc) → IsStreamOf d bytes g → IsStreamOf d stream h
    of_stream d is =
        let P : Header → Type 0 = λ x. IsStreamOf d stream x in
        subst P header_is (subst (λ (l : List ℕ). IsStreamOf d l g) bytes_are is)

    of_bytes : (d : Doc) → IsStreamOf d stream h → IsStreamOf d bytes g
    of_bytes d is =
        let P : Header → Type 0 = λ x. IsStreamOf d bytes x in
        subst P (sym header_is) (subst (λ (l : List ℕ). IsStreamOf d l h) (sym bytes_are) is)

    pub document_told : (doc : Doc) → IsStreamOf doc bytes g → IfSome served (λ all. FileEnds (Ok doc) root key (since all))
    document_told doc is =
        still_some served (λ all. IsShownRead h top root key stream (since all)) (λ all. FileEnds (Ok doc) root key (since all)) both_under
        (λ all r. document-ends h root key stream (since all) r.0 top r.1.0 r.1.1 doc (of_stream doc is))

    pub index_told : (fault : DictFault) → (fault ≡ index.BadIndex → (d : Doc) → ¬ IsStreamOf d bytes g) → IfSome served (λ all. FileEnds (Err (fault_of_index fault)) root key (since all))
    index_told index.BadIndex bad =
        still_some served (λ all. IsShownRead h top root key stream (since all)) (λ all. FileEnds (Err (Refused BadIndex)) root key (since all)) both_under
        (λ all r. index-ends h root key stream (since all) r.0 top r.1.0 r.1.1 (λ d is. bad refl d (of_bytes d is)))
    index_told index.NoMemory bad =
        still_some served (λ all. IsShownRead h top root key stream (since all)) (λ all. FileEnds (Err NoMemory) root key (since all)) both_under
        (λ all r. memory-ends h root key stream (since all) r.0 top r.1.0 r.1.1)

  -- ---- what a store that holds the file gives

  module _ (a b : Option (List ℕ)) (constant : b ≡ a) (d : Doc) (is : HoldsDocument a d key) (root_is : file_root d key ≡ root) where
    pub holds_so : HoldsDocument b d taken
    holds_so =
        let P : List ℕ → Type 0 = λ k. HoldsDocument b d k in
        subst P (sym under.key_is) (record { holds = constant ∙ is.holds; document = is.document; stream = is.stream; key_bytes = is.key_bytes })

    pub root_so : file_root d taken ≡ root_by h top
    root_so = ap (file_root d) under.key_is ∙ root_is ∙ sym under.root_is

    pub document_held : (stream bytes : List ℕ) (g : Header) (doc : Doc) → bytes ≡ stream → g ≡ h → h ≡ document_header d key → stream ≡ plain d → IsStreamOf doc bytes g → doc ≡ d
    document_held stream bytes g doc bytes_are header_is same all of =
        one_of doc d bytes g of (stream_of d key g bytes is.document is.stream (header_is ∙ same) (bytes_are ∙ all))
