-- The file of a document under a key: its header, its enciphered stream, and the table of digests. Defined by this
-- project; SHA-256 is that of FIPS 180-4. The definitions are meant for a document that has a stream.
use Rattle.std.specs.Prelude.{◌≡◌, ℕ, ◌/◌, true, List, ◌∷◌, length, take}
use Rattle.sha2.specs.Sha256.{sha256}
use Rattle.acl_model.specs.Dictionary.{dictionary, dictionary_section}
use Rattle.acl_model.specs.Stream.{plain, tree_section, has_stream, depth}
use Rattle.acl_model.specs.declared.document.Doc.{Doc}
use Rattle.position_cipher.specs.Fragments.{locked_block, each_block}
use Rattle.merkle_chunks.specs.HeaderBytes.{header_bytes}
use Rattle.merkle_chunks.specs.Strings.{StringName}
use Rattle.merkle_chunks.specs.Table.{fragments, all_strings, root_digest, file_bytes}
use Rattle.merkle_chunks.specs.declared.header.Header.{Header}

-- the key check, by which a reader sees that its key is the right one: the first 16 bytes of the digest of the byte 4
-- followed by the key
unfoldable pub key_check : List ℕ → List ℕ
key_check key = take 16 (sha256 (4 ∷ key))

-- the header of a document's file: the lengths of its tree and dictionary sections, the number of its names, its depth,
-- and the key check
abbrev pub document_header : Doc → List ℕ → Header
document_header d key = record {
  tree = length (tree_section d);
  dictionary = length (dictionary_section (dictionary d));
  tags = length (dictionary d);
  depth = depth d;
  check = key_check key;
}

-- the enciphered stream: the blocks of 16 bytes of the plain stream, each enciphered with its number in the whole
-- stream
unfoldable pub cipher_stream : Doc → List ℕ → List ℕ
cipher_stream d key = each_block (locked_block key) 0 (length (plain d) / 16) (plain d)

-- its fragments of 256 bytes
abbrev pub cipher_fragments : Doc → List ℕ → List (List ℕ)
cipher_fragments d key = fragments (cipher_stream d key)

-- the file of a document under a key
unfoldable pub file : Doc → List ℕ → List ℕ
file d key = file_bytes sha256 (header_bytes (document_header d key)) (cipher_fragments d key)

-- the strings that are hashed for it, each with its name
unfoldable pub file_strings : Doc → List ℕ → List (StringName × List ℕ)
file_strings d key = all_strings sha256 (header_bytes (document_header d key)) (cipher_fragments d key)

-- its root
unfoldable pub file_root : Doc → List ℕ → List ℕ
file_root d key = root_digest sha256 (header_bytes (document_header d key)) (cipher_fragments d key)

-- The document has a stream, and the root of its file under the key is `root`.
pub record HasRoot (d : Doc) (key root : List ℕ) : Type 0 where
  pub defined : has_stream d ≡ true
  pub same : file_root d key ≡ root
