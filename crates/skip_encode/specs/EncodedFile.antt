-- The encoder's answer for a document and a key: the document's file, and its root. Defined by this project.
use Rattle.std.specs.Prelude.{◌≡◌, ℕ, ◌/◌, true, List, length}
use Rattle.acl_model.specs.Stream.{has_stream}
use Rattle.acl_model.specs.declared.document.Doc.{Doc}
use Rattle.position_cipher.specs.Fragments.{each_block, locked_block}
use Rattle.merkle_chunks.specs.File.{file, file_root}
use Rattle.skip_encode.specs.declared.encoded.Encoded.{Encoded}

-- The document has a stream, and the answer contains the bytes of its file under a key, and the root of that file.
pub record IsFileOf (d : Doc) (key : List ℕ) (e : Encoded) : Type 0 where
  pub defined : has_stream d ≡ true
  pub bytes : e.bytes ≡ file d key
  pub root : e.root ≡ file_root d key

-- A stream, enciphered: each block of 16 bytes is enciphered with its number, counted from 0 over the whole stream.
abbrev pub locked_stream : List ℕ → List ℕ → List ℕ
locked_stream key stream = each_block (locked_block key) 0 (length stream / 16) stream
