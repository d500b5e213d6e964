-- A file consists of its header, the enciphered stream and the table of digests.
use Rattle.std.proofs.Common.{◌≡◌, ℕ, suc, ◌+◌, ◌-◌, ◌*◌, ◌/◌, ◌≤◌, true, List, ◌++◌, length, length-append, take, drop, replicate, take_all, refl, sym, subst, ap, ◌∙◌, arith, append_assoc}
use Rattle.std.proofs.lemmas.List.{take_at, drop_at}
use Rattle.sha2.specs.Sha256.{sha256}
use Rattle.acl_model.specs.Document.{is_document}
use Rattle.acl_model.specs.Stream.{plain}
use Rattle.acl_model.specs.declared.document.Doc.{Doc}
use Rattle.aes_block.specs.Aes.{AreBytes}
use Rattle.merkle_chunks.specs.HeaderBytes.{IsInRange, fragment_count, header_bytes}
use Rattle.merkle_chunks.specs.Strings.{root_string}
use Rattle.merkle_chunks.specs.Table.{digest_count, fragments, root_digest, table_bytes, table_levels, top_digest, top_level}
use Rattle.merkle_chunks.specs.File.{cipher_stream, document_header, file, file_root, key_check}
use Rattle.merkle_chunks.specs.declared.header.Header.{Header}
use Rattle.merkle_chunks.proofs.CountLemmas.{counts-le, top_level-low}
use Rattle.merkle_chunks.proofs.FileLemmas.{file_is, length-header_bytes, length-key_check, length-plain}
use Rattle.merkle_chunks.proofs.Places.{same_header}
use Rattle.merkle_chunks.proofs.RangeLemmas.{document_header-in_range}
use Rattle.skip_encode.specs.EncodedFile.{locked_stream}
use Rattle.skip_encode.specs.inside.Measured.{IsMeasured}
use Rattle.skip_encode.specs.declared.measured.Measured.{Measured}

-- ---- the header

-- The numbers of a measured document and its key check are its file's header.
pub header-is : (d : Doc) (key check : List ℕ) (m : Measured) → IsMeasured d m → check ≡ key_check key
    → ◌≡◌ {A = Header} (record { tree = m.tree; dictionary = m.dictionary; tags = m.tags; depth = m.depth; check = check }) (document_header d key)
header-is d key check m are is =
    same_header (document_header d key) m.tree m.dictionary m.tags m.depth check are.tree_length are.dictionary_length are.count are.levels is

-- The numbers of this header are in the ranges of their types.
pub header-fits : (d : Doc) (key check : List ℕ) (m : Measured) → is_document d ≡ true → IsMeasured d m → check ≡ key_check key
    → IsInRange (record { tree = m.tree; dictionary = m.dictionary; tags = m.tags; depth = m.depth; check = check })
header-fits d key check m good are is = subst IsInRange (sym (header-is d key check m are is)) (document_header-in_range d good are.defined key)

-- ---- lengths

-- The table for at most 131,072 fragments takes at most 8,390,000 bytes.
pub table-short : (n : ℕ) → n ≤ 131072 → 32 * digest_count n ≤ 8390000
table-short n few = omega (arith, counts-le n (suc (top_level n)), top_level-low n few)

-- The stream of a document has the length that follows from its measures, and the header has 64 bytes.
pub length-stream : (d : Doc) (key : List ℕ) (m : Measured) (stream : ℕ) → IsMeasured d m → stream ≡ 256 * ((m.tree + m.dictionary + 255) / 256)
    → length (plain d) ≡ stream
length-stream d key m stream are is =
    length-plain d key ∙ ap (λ (h : Header). 256 * fragment_count h) (sym (header-is d key (key_check key) m are refl)) ∙ sym is

pub length-prefix : (d : Doc) (key prefix : List ℕ) → prefix ≡ header_bytes (document_header d key) → length prefix ≡ 64
length-prefix d key prefix is = ap length is ∙ length-header_bytes (document_header d key) (length-key_check key)

-- the contents of a file before it is enciphered: the header, the stream, and zeros where the table will be
module _ (prefix stream file : List ℕ) (n end long : ℕ) (is : file ≡ take end (prefix ++ stream) ++ replicate (end - long) 0) (size : length prefix ≡ 64) (wide : length stream ≡ n) (room : 64 + n ≤ end) where
  zeros : List ℕ
  zeros = replicate (end - long) 0

  parts : file ≡ prefix ++ (stream ++ zeros)
  unfolding zeros
  parts =
      is
      ∙ ap (λ (l : List ℕ). l ++ zeros) (take_all end (prefix ++ stream) (omega (arith, length-append prefix stream)))
      ∙ append_assoc prefix stream zeros

  pub prefix-in : take 64 file ≡ prefix
  prefix-in = ap (take 64) parts ∙ take_at prefix (stream ++ zeros) 64 size

  pub stream-in : take n (drop 64 file) ≡ stream
  stream-in = ap (λ (l : List ℕ). take n (drop 64 l)) parts ∙ ap (take n) (drop_at prefix (stream ++ zeros) 64 size) ∙ take_at stream zeros n wide

-- ---- the file

module _ (d : Doc) (key : List ℕ) (is_key : AreBytes 16 key) where
  -- The stream, enciphered, is the document's `cipher_stream`.
  pub cipher-is : (k stream : List ℕ) → k ≡ key → stream ≡ plain d → locked_stream k stream ≡ cipher_stream d key
  unfolding cipher_stream
  cipher-is k stream same is = λ i. locked_stream (same i) (is i)

  -- The header, the enciphered stream and the table are the document's file.
  pub file-made : (prefix cipher new : List ℕ) → prefix ≡ header_bytes (document_header d key) → cipher ≡ cipher_stream d key
      → new ≡ prefix ++ (cipher ++ table_bytes (table_levels sha256 (fragments cipher))) → new ≡ file d key
  file-made prefix cipher new before is made =
      made ∙ (λ i. before i ++ (is i ++ table_bytes (table_levels sha256 (fragments (is i))))) ∙ sym (file_is d key is_key)

  -- Its root is the digest of the header and the top digest.
  pub root-made : (prefix cipher top root : List ℕ) → prefix ≡ header_bytes (document_header d key) → cipher ≡ cipher_stream d key
      → top ≡ top_digest sha256 (fragments cipher) → root ≡ sha256 (root_string prefix top) → root ≡ file_root d key
  unfolding file_root root_digest
  root-made prefix cipher top root before is over made =
      made ∙ (λ i. sha256 (root_string (before i) ((over ∙ ap (λ (l : List ℕ). top_digest sha256 (fragments l)) is) i)))
