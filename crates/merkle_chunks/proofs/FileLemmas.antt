-- The file of a document under a key: the offsets of its parts, and how they are enciphered.
use Rattle.std.proofs.Common.{refl, ◌≡◌, ℕ, ◌+◌, ◌-◌, ◌*◌, ◌/◌, ◌%◌, ◌<◌, ◌≤◌, List, [], ◌∷◌, ◌++◌, length, take, drop, get_or, replicate, sym, ap, ◌∙◌, arith, length-append}
use Rattle.std.specs.Prelude.{Some}
use Rattle.std.specs.List.{concat, slice_get}
use Rattle.std.specs.Simd.{first_chunks}
use Rattle.std.proofs.lemmas.List.{ext_get_or, take_all, length-take-le, length-replicate}
use Rattle.sha2.specs.Sha256.{sha256}
use Rattle.sha2.proofs.Facts256.{length-sha256}
use Rattle.acl_model.specs.Dictionary.{dictionary, dictionary_section}
use Rattle.acl_model.specs.Stream.{filled_fragments, plain, tree_section}
use Rattle.acl_model.specs.declared.document.Doc.{Doc}
use Rattle.aes_block.specs.Aes.{AreBytes}
use Rattle.position_cipher.specs.Fragments.{each_block, locked_block, locked_fragment}
use Rattle.merkle_chunks.specs.HeaderBytes.{header_bytes, fragment_count}
use Rattle.merkle_chunks.specs.Strings.{leaf, leaf_string, root, StringName, spot, root_string}
use Rattle.merkle_chunks.specs.Table.{all_strings, file_bytes, table_bytes, count_below, IsNode, digest_count, node_place, node_of, strings_at, digests_at, table_levels, fragments, top_level, top_digest, root_digest}
use Rattle.merkle_chunks.specs.File.{key_check, document_header, cipher_stream, cipher_fragments, file, file_root, file_strings}
use Rattle.merkle_chunks.specs.declared.header.Header.{Header}
use Rattle.merkle_chunks.proofs.PieceLemmas.{AreSized, length-first_chunks, sized-first_chunks, concat-first_chunks}
use Rattle.merkle_chunks.proofs.CountLemmas.{top_level-is}
use Rattle.merkle_chunks.proofs.TableLemmas.{get_or-leaf_strings}
use Rattle.merkle_chunks.proofs.LayoutLemmas.{header_in_file, length-file_bytes, fragment_in_file, node_in_file, digest_in_file}
use Rattle.merkle_chunks.proofs.CipherLemmas.{length-locked_block, length-each_block, fragment_of_blocks}
use Rattle.merkle_chunks.proofs.NameLemmas.{string_at_place, one_place}

-- ---- lengths

pub length-key_check : (key : List ℕ) → length (key_check key) ≡ 16
unfolding key_check
length-key_check key = length-take-le 16 (sha256 (4 ∷ key)) (omega (arith, length-sha256 (4 ∷ key)))

pub length-header_bytes : (h : Header) → length h.check ≡ 16 → length (header_bytes h) ≡ 64
length-header_bytes h check = omega (arith, length-append h.check (replicate 24 0), length-replicate {A = ℕ} 24 0, check)

pub sized-fragments : (bytes : List ℕ) → AreSized 256 (fragments bytes)
sized-fragments bytes = sized-first_chunks 256 (length bytes / 256) bytes (omega arith)

pub length-fragments : (bytes : List ℕ) → length (fragments bytes) ≡ length bytes / 256
length-fragments bytes = length-first_chunks 256 (length bytes / 256) bytes

-- whole fragments are joined again
joined_fragments : (bytes : List ℕ) → length bytes % 256 ≡ 0 → concat (fragments bytes) ≡ bytes
joined_fragments bytes whole = concat-first_chunks 256 (length bytes / 256) bytes ∙ take_all (256 * (length bytes / 256)) bytes (omega arith)

-- filled up with zeros, bytes have the length of whole fragments
length-filled_fragments : (bytes : List ℕ) → length (filled_fragments bytes) ≡ 256 * ((length bytes + 255) / 256)
length-filled_fragments bytes =
    length-append bytes (replicate ((256 - length bytes % 256) % 256) 0)
    ∙ omega (arith, length-replicate {A = ℕ} ((256 - length bytes % 256) % 256) 0)

module _ (d : Doc) (key : List ℕ) where
  header : List ℕ
  header = header_bytes (document_header d key)

  long : length header ≡ 64
  unfolding header
  long = length-header_bytes (document_header d key) (length-key_check key)

  pub length-plain : length (plain d) ≡ 256 * fragment_count (document_header d key)
  length-plain =
      length-filled_fragments (dictionary_section (dictionary d) ++ tree_section d)
      ∙ omega (arith, length-append (dictionary_section (dictionary d)) (tree_section d))

  -- ---- offsets

  pub header_of_file : take 64 (file d key) ≡ header_bytes (document_header d key)
  unfolding file header
  header_of_file = header_in_file sha256 length-sha256 header (cipher_fragments d key) long (sized-fragments (cipher_stream d key))

  pub length-file : length (file d key) ≡ 64 + 256 * length (cipher_fragments d key) + 32 * digest_count (length (cipher_fragments d key))
  unfolding file header
  length-file = length-file_bytes sha256 length-sha256 header (cipher_fragments d key) long (sized-fragments (cipher_stream d key))

  pub fragment_of_file : (i : ℕ) → i < length (cipher_fragments d key) → take 256 (drop (64 + 256 * i) (file d key)) ≡ get_or (cipher_fragments d key) i []
  unfolding file header
  fragment_of_file = fragment_in_file sha256 length-sha256 header (cipher_fragments d key) long (sized-fragments (cipher_stream d key))

  pub node_of_file : (l k : ℕ) → IsNode (length (cipher_fragments d key)) l k
      → node_of (table_levels sha256 (cipher_fragments d key)) l k ≡ Some (take 32 (drop (node_place (length (cipher_fragments d key)) l k) (file d key)))
  unfolding file header
  node_of_file = node_in_file sha256 length-sha256 header (cipher_fragments d key) long (sized-fragments (cipher_stream d key))

  pub digest_of_file : (l k : ℕ) → IsNode (length (cipher_fragments d key)) l k
      → take 32 (drop (node_place (length (cipher_fragments d key)) l k) (file d key)) ≡ get_or (digests_at sha256 (cipher_fragments d key) l) k []
  unfolding file header
  digest_of_file = digest_in_file sha256 length-sha256 header (cipher_fragments d key) long (sized-fragments (cipher_stream d key))

  -- the root is that of the header and of the digest at the top's offset
  pub root_of_file : 1 ≤ length (cipher_fragments d key)
      → file_root d key ≡ sha256 (root_string (take 64 (file d key)) (take 32 (drop (node_place (length (cipher_fragments d key)) (top_level (length (cipher_fragments d key))) 0) (file d key))))
  unfolding file_root root_digest top_digest header
  root_of_file some =
      let n : ℕ = length (cipher_fragments d key) in
      let top : IsNode n (top_level n) 0 = record { on_level = omega arith; within = omega (arith, (top_level-is n some).single) } in
      λ i. sha256 (root_string (sym header_of_file i) (sym (digest_of_file (top_level n) 0 top) i))

  -- ---- names

  pub string_of_name : (l k : ℕ) → IsNode (length (cipher_fragments d key)) l k
      → slice_get (file_strings d key) (1 + (count_below (length (cipher_fragments d key)) l + k)) ≡ Some (spot l k, get_or (strings_at sha256 (cipher_fragments d key) l) k [])
  unfolding file_strings header
  string_of_name = string_at_place sha256 (cipher_fragments d key) header

  pub string_of_root : slice_get (file_strings d key) 0 ≡ Some (root, root_string (header_bytes (document_header d key)) (top_digest sha256 (cipher_fragments d key)))
  unfolding file_strings all_strings
  string_of_root = refl

  pub string_of_leaf : (i : ℕ) → i < length (cipher_fragments d key) → slice_get (file_strings d key) (1 + i) ≡ Some (leaf i, leaf_string i (get_or (cipher_fragments d key) i []))
  unfolding strings_at
  string_of_leaf i lt =
      let place : 1 + i ≡ 1 + (0 + i) = omega arith in
      let here : 0 + i ≡ i = omega arith in
      ap (slice_get (file_strings d key)) place
      ∙ string_of_name 0 i (record { on_level = omega arith; within = lt })
      ∙ ap (λ (string : List ℕ). Some (spot 0 i, string)) (get_or-leaf_strings 0 i (cipher_fragments d key) lt ∙ ap (λ (k : ℕ). leaf_string k (get_or (cipher_fragments d key) i [])) here)

  pub one_name : (p q : ℕ) (s t : StringName × List ℕ) → slice_get (file_strings d key) p ≡ Some s → slice_get (file_strings d key) q ≡ Some t → s.0 ≡ t.0 → p ≡ q
  unfolding file_strings header
  one_name = one_place sha256 (cipher_fragments d key) header

  -- ---- fragments

  module _ (is_key : AreBytes 16 key) where
    blocks : (number : ℕ) (block : List ℕ) → length (locked_block key number block) ≡ 16
    blocks number block = length-locked_block key block number is_key

    pub length-cipher_stream : length (cipher_stream d key) ≡ 256 * fragment_count (document_header d key)
    unfolding cipher_stream
    length-cipher_stream = length-each_block (locked_block key) blocks 0 (length (plain d) / 16) (plain d) ∙ omega (arith, length-plain)

    pub length-cipher_fragments : length (cipher_fragments d key) ≡ fragment_count (document_header d key)
    length-cipher_fragments = length-fragments (cipher_stream d key) ∙ omega (arith, length-cipher_stream)

    pub fragment_is_locked : (i : ℕ) → i < length (cipher_fragments d key) → get_or (cipher_fragments d key) i [] ≡ locked_fragment key i (get_or (fragments (plain d)) i [])
    unfolding cipher_stream
    fragment_is_locked i lt =
        let n : ℕ = fragment_count (document_header d key) in
        let many : length (cipher_stream d key) / 256 ≡ n = omega (arith, length-cipher_stream) in
        let blocks_all : length (plain d) / 16 ≡ 16 * n = omega (arith, length-plain) in
        let whole : n ≡ length (plain d) / 256 = omega (arith, length-plain) in
        ap (λ (m : ℕ). get_or (first_chunks 256 m (cipher_stream d key)) i []) many
        ∙ ap (λ (m : ℕ). get_or (first_chunks 256 n (each_block (locked_block key) 0 m (plain d))) i []) blocks_all
        ∙ fragment_of_blocks (locked_block key) blocks n i (plain d) (omega (arith, length-cipher_fragments))
        ∙ ap (λ (m : ℕ). locked_fragment key i (get_or (first_chunks 256 m (plain d)) i [])) whole

    -- ---- how a file is made

    -- the enciphered stream is cut into whole fragments
    pub cipher_fragments-joined : concat (cipher_fragments d key) ≡ cipher_stream d key
    cipher_fragments-joined = joined_fragments (cipher_stream d key) (omega (arith, length-cipher_stream))

    pub file_is : file d key ≡ header_bytes (document_header d key) ++ (cipher_stream d key ++ table_bytes (table_levels sha256 (cipher_fragments d key)))
    unfolding file file_bytes
    file_is = ap (λ (cipher : List ℕ). header_bytes (document_header d key) ++ (cipher ++ table_bytes (table_levels sha256 (cipher_fragments d key)))) cipher_fragments-joined

    -- bytes are the enciphered stream where each fragment of them is the enciphered one
    pub cipher_stream-made : (cipher : List ℕ) → length cipher ≡ length (plain d)
        → ((i : ℕ) → i < length (fragments (plain d)) → get_or (fragments cipher) i [] ≡ locked_fragment key i (get_or (fragments (plain d)) i []))
        → cipher ≡ cipher_stream d key
    cipher_stream-made cipher long each =
        let many : length (fragments cipher) ≡ length (cipher_fragments d key) =
        omega (arith, length-fragments cipher, length-cipher_fragments, length-plain) in
        let same : fragments cipher ≡ cipher_fragments d key =
        ext_get_or [] (fragments cipher) (cipher_fragments d key) many
        (λ i lt. each i (omega (arith, many, length-cipher_fragments, length-fragments (plain d), length-plain)) ∙ sym (fragment_is_locked i (omega (arith, many)))) in
        sym (joined_fragments cipher (omega (arith, length-plain))) ∙ ap concat same ∙ cipher_fragments-joined
