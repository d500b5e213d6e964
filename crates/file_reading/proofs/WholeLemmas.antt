-- What the reads show of a whole file, and what the answer is then.
use Rattle.std.proofs.Common.{◌≡◌, ℕ, ◌≤◌, true, false, List, [], ◌∷◌, length, map, refl, sym, ap, ◌∙◌, subst, ◌⊎◌, inl, inr, arith, true≢false}
use Rattle.std.specs.Prelude.{Option, Some, None, Result, Ok, Err, is_some, option_map}
use Rattle.sha2.specs.Sha256.{sha256}
use Rattle.acl_model.specs.declared.document.Doc.{Doc}
use Rattle.acl_outside.specs.Outside.{StoreRead}
use Rattle.acl_outside.specs.declared.read_fault.ReadFault.{ReadFault}
use Rattle.acl_outside.specs.declared.read_fault.ReadFault.TheVariants.{BadFragment, BadHeader, BadIndex, StoreFault, StoreShort, WrongKey, WrongRoot}
use Rattle.merkle_chunks.specs.HeaderBytes.{fragment_count}
use Rattle.merkle_chunks.specs.declared.header.Header.{Header}
use Rattle.skip_decode.specs.StreamOf.{IsStreamOf}
use Rattle.skip_decode.proofs.Depths.{one_document}
use Rattle.fragment_open.specs.Checked.{AllFoldUnlessRefused}
use Rattle.fragment_open.specs.Good.{AllFoldAsWanted}
use Rattle.fragment_open.specs.Hashed.{folded, folded_in}
use Rattle.fragment_open.specs.Openings.{Opening, index_of, openings}
use Rattle.fragment_open.specs.Plain.{plain_served}
use Rattle.fragment_open.specs.Served.{fragments_served, header_served, root_served}
use Rattle.fragment_open.specs.Starting.{IsNotStarted}
use Rattle.fragment_open.specs.CallReads.{Told}
use Rattle.fragment_open.proofs.CheckedLemmas.{unopened-checked}
use Rattle.fragment_open.proofs.ClimbLemmas.{Told-weaker, cut-not_whole}
use Rattle.fragment_open.proofs.FetchLemmas.{count_served, good-unrefused}
use Rattle.fragment_open.proofs.HeaderLemmas.{served_range}
use Rattle.fragment_open.proofs.PathLemmas.{same_value}
use Rattle.fragment_open.proofs.StartLemmas.{no_openings, root_served-is}
use Rattle.file_reading.specs.declared.fault.FileFault.{FileFault}
use Rattle.file_reading.specs.declared.fault.FileFault.TheVariants.{NoMemory, Refused}
use Rattle.file_reading.specs.WholeFile.{IsUnfinished, IsWholeFile, numbers_below}
use Rattle.file_reading.specs.FileEnds.{FileEnds, IsBadIndexOrNoMemory, IsFileCause, IsGivenWhereShown, IsRefusedWithoutDocument, is_bad_fragment}
use Rattle.file_reading.proofs.OrderLemmas.{few_reads}
use Rattle.file_reading.proofs.ReadingLemmas.{length-numbers_below}
use Rattle.file_reading.proofs.ShownLemmas.{no_value}

pub one_of : (d e : Doc) (stream : List ℕ) (h : Header) → IsStreamOf d stream h → IsStreamOf e stream h → d ≡ e
one_of d e stream h one other =
    one_document d e one.document other.document one.within other.within (sym one.bytes ∙ other.bytes) (sym one.dictionary ∙ other.dictionary) (sym one.tree ∙ other.tree)

-- ---- a whole file is refused only for its stream

module _ (root key : List ℕ) (h : Header) (top : List ℕ) (reads : List StoreRead) (w : IsWholeFile root key h top reads) where
  count : fragments_served reads ≡ fragment_count h
  count = count_served h reads w.checked.header_is

  some_fragment : 1 ≤ fragment_count h
  some_fragment = let range = served_range h reads w.checked.header_is in omega (arith, range.tree)

  unfinished-not : IsUnfinished reads → ⊥
  unfolding folded
  unfinished-not (inl few) = omega (arith, few, count, ap length w.in_order, length-numbers_below (fragment_count h))
  unfinished-not (inr none) =
      by (openings reads) w.checked.good w.in_order (ap (λ (m : ℕ). folded_in sha256 m (openings reads)) (sym count) ∙ none)
    where
      by : (os : List Opening) → AllFoldAsWanted sha256 (fragment_count h) top os → map index_of os ≡ numbers_below (fragment_count h) → folded_in sha256 (fragment_count h) os ≡ None → ⊥
      by [] good order nothing = omega (arith, some_fragment, ap length order, length-numbers_below (fragment_count h))
      by (o ∷ os) good order nothing = true≢false (sym good.1 ∙ ap is_some nothing)

  root_made : option_map sha256 (root_served reads) ≡ Some root
  root_made = ap (option_map sha256) (root_served-is h top reads w.checked.header_is w.checked.top_is) ∙ ap (λ (d : List ℕ). Some d) w.checked.root_is

  pub whole-refused : (fault : ReadFault) → IsFileCause root key fault reads → fault ≡ BadIndex
  whole-refused BadIndex c = refl
  whole-refused (StoreShort to) c = absurd (true≢false (sym w.all_whole ∙ cut-not_whole to reads c))
  whole-refused StoreFault c = absurd (unfinished-not c.1)
  whole-refused (BadFragment index want made) c =
      absurd (c.5 (same_value want made (sym c.4 ∙ good-unrefused h top reads w.checked.header_is w.checked.top_is w.checked.good made c.3)))
  whole-refused BadHeader c = absurd (no_value (header_served reads) h c.1 w.checked.header_is)
  whole-refused (WrongRoot want made) c = absurd (c.2 (c.1 ∙ same_value root made (sym root_made ∙ c.0)))
  whole-refused (WrongKey want made) c =
      absurd (c.3 (same_value want h.check (sym c.1 ∙ ap (option_map (λ (x : Header). x.check)) w.checked.header_is) ∙ sym w.check_is ∙ sym c.2))

-- ---- the answer

module _ (root key : List ℕ) (reads : List StoreRead) where
  of_served : (d : Doc) (g h : Header) → header_served reads ≡ Some g → header_served reads ≡ Some h → IsStreamOf d (plain_served key reads) g → IsStreamOf d (plain_served key reads) h
  of_served d g h one other is =
      let P : Header → Type 0 = λ x. IsStreamOf d (plain_served key reads) x in
      subst P (same_value g h (sym one ∙ other)) is

  pub no_document-ends : (result : Result Doc FileFault) → FileEnds result root key reads → IsRefusedWithoutDocument result root key reads
  no_document-ends (Ok doc) e n =
      absurd (n.no_stream doc (of_served doc e.shows.header n.header e.shows.whole_file.checked.header_is n.whole_file.checked.header_is e.shows.stream))
  no_document-ends (Err NoMemory) e n = tt
  no_document-ends (Err (Refused fault)) e n =
      let P : ReadFault → Type 0 = λ f. IsBadIndexOrNoMemory {T = Doc} (Err (Refused f)) in
      subst P (sym (whole-refused root key n.header n.top reads n.whole_file fault e.1)) tt

  pub document-given : (result : Result Doc FileFault) → FileEnds result root key reads → IsGivenWhereShown result root key reads
  document-given (Ok doc) e d s =
      one_of doc d (plain_served key reads) s.header (of_served doc e.shows.header s.header e.shows.whole_file.checked.header_is s.whole_file.checked.header_is e.shows.stream) s.stream
  document-given (Err NoMemory) e d s = tt
  document-given (Err (Refused fault)) e d s =
      let P : ReadFault → Type 0 = λ f. IsFileCause root key f reads in
      let c : IsFileCause root key BadIndex reads = subst P (whole-refused root key s.header s.top reads s.whole_file fault e.1) e.1 in
      let n = c.2 in
      absurd (n.no_stream d (of_served d s.header n.header s.whole_file.checked.header_is n.whole_file.checked.header_is s.stream))

-- ---- what contracts see of a store

module _ (root key : List ℕ) (result : Result Doc FileFault) (a b : Option (List StoreRead)) (told : Told a b (FileEnds result root key)) where
  pub no_document_told : Told a b (λ reads. IsRefusedWithoutDocument result root key reads)
  no_document_told =
      Told-weaker a b (FileEnds result root key) (λ reads. IsRefusedWithoutDocument result root key reads) told (λ t e. no_document-ends root key t result e)

  pub given_told : Told a b (λ reads. IsGivenWhereShown result root key reads)
  given_told = Told-weaker a b (FileEnds result root key) (λ reads. IsGivenWhereShown result root key reads) told (λ t e. document-given root key t result e)

-- a start that was refused opened nothing
pub not_started_checked : (root key : List ℕ) (fault : ReadFault) (a b : Option (List StoreRead)) → Told a b (IsNotStarted root key fault)
    → (result : Result Doc FileFault) → Told a b (λ reads. AllFoldUnlessRefused (is_bad_fragment result) reads)
not_started_checked root key fault a b told result =
    Told-weaker a b (IsNotStarted root key fault) (λ reads. AllFoldUnlessRefused (is_bad_fragment result) reads) told
    (λ t n. unopened-checked t (is_bad_fragment result) (no_openings t (few_reads root key fault t n.1)))
