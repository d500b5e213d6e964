-- An opener that is sound for a document was sound for it before, and its fragments are those of the document.
use Rattle.std.proofs.Common.{◌≡◌, ℕ, Bool, true, false, ◌||◌, not, List, [], ◌++◌, sym, ap, ◌∙◌, inl, inr, true≢false}
use Rattle.std.specs.Prelude.{Option, Some, None, IfSome, slice_index_or}
use Rattle.std.specs.List.{list_any}
use Rattle.std.proofs.lemmas.Slice.Eq.{bytes_eq-Decides}
use Rattle.acl_model.specs.Document.{is_document}
use Rattle.acl_model.specs.Stream.{plain}
use Rattle.acl_model.specs.declared.document.Doc.{Doc}
use Rattle.aes_block.specs.Aes.{AreBytes}
use Rattle.acl_outside.specs.Outside.{StoreRead}
use Rattle.merkle_chunks.specs.HeaderBytes.{IsInRange}
use Rattle.merkle_chunks.specs.File.{HasRoot, document_header, file, file_root}
use Rattle.merkle_chunks.specs.Table.{fragments}
use Rattle.merkle_chunks.specs.declared.header.Header.{Header}
use Rattle.fragment_open.specs.declared.kept.Kept.{Kept}
use Rattle.fragment_open.specs.CallReads.{Told}
use Rattle.fragment_open.specs.Clash.{reads_clash}
use Rattle.fragment_open.specs.Settled.{AreHeld, IsFetched, IsSettled, Settled, is_start, root_by, since}
use Rattle.fragment_open.specs.Sound.{IsOrigin, sound_for, tells_file}
use Rattle.fragment_open.specs.Starting.{HoldsDocument}
use Rattle.fragment_open.proofs.ClashGrowth.{clash-before}
use Rattle.fragment_open.proofs.DocumentLemmas.{header-agrees}
use Rattle.fragment_open.proofs.KeyLemmas.{either}
use Rattle.fragment_open.proofs.SinceLemmas.{since-append}

-- ---- why an opener is sound

module _ (held : Option (List ℕ)) (d : Doc) (key : List ℕ) where
  -- a store that tells the file holds it
  file_told : tells_file held d key ≡ true → held ≡ Some (file d key)
  file_told e = by held e
    where
      by : (o : Option (List ℕ)) → tells_file o d key ≡ true → o ≡ Some (file d key)
      by None e = absurd (true≢false (sym e))
      by (Some bytes) e = ap (λ (l : List ℕ). Some l) ((bytes_eq-Decides bytes (file d key)).0 e)

  -- what follows from reads without a clash, and from a store that holds the file, is true of a sound opener
  sound-by : (P : Type 0) (served : Option (List StoreRead))
      → IfSome served (λ all. reads_clash (since all) d key ≡ false → P) → (held ≡ Some (file d key) → P)
      → sound_for served held d key ≡ true → P
  sound-by P None reads by_file sound = by_file (file_told sound)
  sound-by P (Some all) reads by_file sound =
      elim (either (reads_clash (since all) d key)) [
        | inl e ↦ by_file (file_told (sym (ap (λ (v : Bool). not v || tells_file held d key) e) ∙ sound))
        | inr none ↦ reads none
      ]

-- ---- an opener that is sound was sound before

module _ (h : Header) (top : List ℕ) (kept : Option Kept) (held : Option (List ℕ)) (d : Doc) (key : List ℕ) where
  -- where the earlier reads have a clash, the later ones have it too
  clash-after : (x more y : List StoreRead) → IsSettled h top kept (since x) → y ≡ x ++ more
      → list_any is_start more ≡ false → reads_clash (since x) d key ≡ true → reads_clash (since y) d key ≡ true
  clash-after x more y is grown no_start clash =
      let same : since y ≡ since x ++ more = ap since grown ∙ since-append x more no_start in
      let longer = ap (λ (l : List StoreRead). reads_clash l d key) same in
      elim (either (reads_clash (since y) d key)) [
        | inl e ↦ e
        | inr none ↦
            let before = clash-before h top (since x) more is.header_is is.top_is d key (sym longer ∙ none) in
            absurd (true≢false (sym clash ∙ before))
      ]

  pub sound-before : (a b : Option (List StoreRead)) → Settled a h top kept None
      → Told a b (λ more. list_any is_start more ≡ false)
      → sound_for b held d key ≡ true → sound_for a held d key ≡ true
  sound-before None None is told sound = sound
  sound-before None (Some y) is told sound = absurd told
  sound-before (Some x) None is told sound = absurd told
  sound-before (Some x) (Some y) is told sound =
      let P : Bool → Bool = λ v. not v || tells_file held d key in
      elim (either (reads_clash (since x) d key)) [
        | inl clash ↦ ap P clash ∙ sym (ap P (clash-after x told.0 y is told.1 told.2 clash)) ∙ sound
        | inr none ↦ ap P none
      ]

-- ---- the documents for which it is sound

module _ (h : Header) (top key : List ℕ) (key_bytes : AreBytes 16 key) (d : Doc) (document : is_document d ≡ true)
    (has : HasRoot d key (root_by h top)) where
  holds_document : (held : Option (List ℕ)) → held ≡ Some (file d key) → HoldsDocument held d key
  holds_document held holds =
      record { holds = holds; document = document; stream = has.defined; key_bytes = key_bytes }

  -- their file has the header
  pub is-origin : IsInRange h → (kept : Option Kept) (served : Option (List StoreRead)) (held : Option (List ℕ))
      → Settled served h top kept None → AreHeld held h top key kept
      → sound_for served held d key ≡ true → IsOrigin h top key d
  is-origin range kept served held settled are_held sound =
      let of_held = λ (holds : held ≡ Some (file d key)).
      (are_held d (holds_document held holds) has.same).0.header_is in
      let same = sound-by held d key (h ≡ document_header d key) served (by served settled) of_held sound in
      record { document = document; has_root = has; header_is = sym same }
    where
      by : (s : Option (List StoreRead)) → Settled s h top kept None
          → IfSome s (λ all. reads_clash (since all) d key ≡ false → h ≡ document_header d key)
      by None is = tt
      by (Some all) is = λ none.
          header-agrees d key h top (since all) document key_bytes range is.header_is is.top_is has none

  -- a fragment that was fetched is theirs
  pub fetched-is : (i : ℕ) (bytes : List ℕ) (served : Option (List StoreRead)) (held : Option (List ℕ))
      → IfSome served (λ all. IsFetched i h top key bytes (since all))
      → ((e : Doc) → HoldsDocument held e key → file_root e key ≡ root_by h top
      → bytes ≡ slice_index_or (fragments (plain e)) i [])
      → sound_for served held d key ≡ true → bytes ≡ slice_index_or (fragments (plain d)) i []
  fetched-is i bytes served held fetched of_held sound =
      sound-by held d key (bytes ≡ slice_index_or (fragments (plain d)) i []) served (by served fetched)
      (λ holds. of_held d (holds_document held holds) has.same) sound
    where
      by : (s : Option (List StoreRead)) → IfSome s (λ all. IsFetched i h top key bytes (since all))
          → IfSome s (λ all. reads_clash (since all) d key ≡ false → bytes ≡ slice_index_or (fragments (plain d)) i [])
      by None f = tt
      by (Some all) f = f.gives d document has
