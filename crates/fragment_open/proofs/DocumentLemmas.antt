-- Good reads under a document's root: without a clash they are of the document's file.
use Rattle.std.proofs.Common.{◌≡◌, ℕ, ◌<◌, ◌≤◌, true, false, List, [], ◌∷◌, length, get_or, refl, sym, ap, ◌∙◌, subst, arith}
use Rattle.std.specs.Prelude.{Option, Some, option_map, option_to_list, Contains}
use Rattle.std.specs.Option.{option_map_or}
use Rattle.std.proofs.lemmas.List.Elements.{Contains-append_left, Contains-append_right}
use Rattle.sha2.specs.Sha256.{sha256}
use Rattle.sha2.proofs.Facts256.{length-sha256}
use Rattle.acl_model.specs.Document.{is_document}
use Rattle.acl_model.specs.Stream.{plain}
use Rattle.acl_model.specs.declared.document.Doc.{Doc}
use Rattle.aes_block.specs.Aes.{AreBytes}
use Rattle.acl_outside.specs.Outside.{StoreRead}
use Rattle.merkle_chunks.specs.HeaderBytes.{IsInRange, fragment_count, header_bytes}
use Rattle.merkle_chunks.specs.File.{HasRoot, cipher_fragments, document_header, file_root, file_strings}
use Rattle.merkle_chunks.specs.Strings.{StringName, root, root_string}
use Rattle.merkle_chunks.specs.Table.{all_strings, fragments, root_digest, top_digest}
use Rattle.merkle_chunks.specs.declared.header.Header.{Header}
use Rattle.merkle_chunks.proofs.FileLemmas.{length-cipher_fragments, length-header_bytes, length-key_check}
use Rattle.merkle_chunks.proofs.Places.{one_header}
use Rattle.merkle_chunks.proofs.RangeLemmas.{document_header-in_range}
use Rattle.merkle_chunks.proofs.StreamBytes.{fragment_unlocks}
use Rattle.position_cipher.specs.Fragments.{unlocked_fragment}
use Rattle.fragment_open.specs.Openings.{Opening, index_of, openings}
use Rattle.fragment_open.specs.Served.{fragments_served, header_served, root_served, top_served}
use Rattle.fragment_open.specs.Hashed.{hashed, hashed_in}
use Rattle.fragment_open.specs.Good.{AllFoldAsWanted}
use Rattle.fragment_open.specs.Clash.{has_clash, reads_clash}
use Rattle.fragment_open.specs.Settled.{root_by}
use Rattle.fragment_open.proofs.KeyLemmas.{fragment-agrees, root-agrees}
use Rattle.fragment_open.proofs.StartLemmas.{root_served-is}

module _ (d : Doc) (key : List ℕ) (h : Header) (top : List ℕ) (reads : List StoreRead) (is : is_document d ≡ true) (key_bytes : AreBytes 16 key) (range : IsInRange h)
    (header_is : header_served reads ≡ Some h) (top_is : top_served reads ≡ Some top) (has : HasRoot d key (root_by h top)) (none : reads_clash reads d key ≡ false) where
  dh : Header
  dh = document_header d key

  theirs : IsInRange (document_header d key)
  theirs = document_header-in_range d is has.defined key

  long : length (header_bytes (document_header d key)) ≡ 64
  long = length-header_bytes (document_header d key) (length-key_check key)

  count : length (cipher_fragments d key) ≡ fragment_count (document_header d key)
  count = length-cipher_fragments d key key_bytes

  some : 1 ≤ length (cipher_fragments d key)
  some = omega (arith, count, theirs.tree)

  agrees : has_clash sha256 (hashed sha256 reads) (all_strings sha256 (header_bytes (document_header d key)) (cipher_fragments d key)) ≡ false
  unfolding reads_clash file_strings
  agrees = none

  root_there : Contains (hashed sha256 reads) (root, root_string (header_bytes h) top)
  unfolding hashed
  root_there =
      let string : option_to_list (option_map (λ s. (root, s)) (root_served reads)) ≡ (root, root_string (header_bytes h) top) ∷ [] =
      ap (λ (o : Option (List ℕ)). option_to_list (option_map (λ s. (root, s)) o)) (root_served-is h top reads header_is top_is) in
      let P : List (StringName × List ℕ) → Type 0 = λ l. Contains l (root, root_string (header_bytes h) top) in
      Contains-append_left (option_to_list (option_map (λ s. (root, s)) (root_served reads))) (hashed_in sha256 (fragments_served reads) (openings reads)) (root, root_string (header_bytes h) top)
      (subst P (sym string) (0, omega arith, refl))

  root_same : sha256 (root_string (header_bytes h) top) ≡ root_digest sha256 (header_bytes (document_header d key)) (cipher_fragments d key)
  unfolding file_root
  root_same = sym has.same

  both : (header_bytes h ≡ header_bytes (document_header d key)) × (top ≡ top_digest sha256 (cipher_fragments d key))
  both = root-agrees sha256 length-sha256 (cipher_fragments d key) some (header_bytes (document_header d key)) long (hashed sha256 reads) agrees
      (header_bytes h) top (length-header_bytes h range.check) root_there root_same

  -- the header served is the document's
  pub header-agrees : h ≡ document_header d key
  header-agrees = one_header h (document_header d key) range theirs both.0

  fragments_same : fragments_served reads ≡ length (cipher_fragments d key)
  fragments_same = ap (λ (o : Option Header). option_map_or fragment_count o 0) header_is ∙ ap fragment_count header-agrees ∙ sym count

  opened_there : (s : StringName × List ℕ) → Contains (hashed_in sha256 (length (cipher_fragments d key)) (openings reads)) s → Contains (hashed sha256 reads) s
  unfolding hashed
  opened_there s within =
      let P : ℕ → Type 0 = λ n. Contains (hashed_in sha256 n (openings reads)) s in
      Contains-append_right (option_to_list (option_map (λ s. (root, s)) (root_served reads))) (hashed_in sha256 (fragments_served reads) (openings reads)) s (subst P (sym fragments_same) within)

  -- the newest opening read the file's fragment
  pub newest-agrees : (o : Opening) (before : List Opening) → openings reads ≡ o ∷ before → AllFoldAsWanted sha256 (fragment_count h) top (openings reads) → o.leaf.bytes ≡ get_or (cipher_fragments d key) (index_of o) []
  newest-agrees o before newest good =
      let P : List Opening → Type 0 = λ os. AllFoldAsWanted sha256 (fragment_count h) top os in
      let Q : ℕ → Type 0 = λ n. AllFoldAsWanted sha256 n top (o ∷ before) in
      let R : List Opening → Type 0 = λ os. (s : StringName × List ℕ) → Contains (hashed_in sha256 (length (cipher_fragments d key)) os) s → Contains (hashed sha256 reads) s in
      fragment-agrees sha256 length-sha256 (cipher_fragments d key) some (header_bytes (document_header d key)) long (hashed sha256 reads) agrees top o before both.1
      (subst Q (ap fragment_count header-agrees ∙ sym count) (subst P newest good))
      (subst R newest opened_there)

  -- so the deciphered bytes are the document's
  pub fragment_is : (i : ℕ) (o : Opening) (before : List Opening) (bytes into : List ℕ) → i < fragment_count h → index_of o ≡ i → o.leaf.bytes ≡ bytes → openings reads ≡ o ∷ before → AllFoldAsWanted sha256 (fragment_count h) top (openings reads)
      → into ≡ unlocked_fragment key i bytes → into ≡ get_or (fragments (plain d)) i []
  fragment_is i o before bytes into lt index same newest good unlocked =
      let within : i < length (cipher_fragments d key) = omega (arith, lt, count, ap fragment_count header-agrees) in
      unlocked
      ∙ ap (unlocked_fragment key i) (sym same ∙ newest-agrees o before newest good ∙ ap (λ (k : ℕ). get_or (cipher_fragments d key) k []) index)
      ∙ fragment_unlocks d key i is key_bytes within
