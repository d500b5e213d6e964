-- For which documents an opener is sound: it has met no clash with them, so its fragments are
-- theirs. Defined by this project.
use Rattle.std.specs.Prelude.{◌≡◌, ℕ, Bool, true, false, ◌||◌, not, bytes_eq, Option, Some, None, List}
use Rattle.acl_model.specs.Document.{is_document}
use Rattle.acl_model.specs.declared.document.Doc.{Doc}
use Rattle.acl_outside.specs.Outside.{StoreRead}
use Rattle.merkle_chunks.specs.File.{HasRoot, document_header, file}
use Rattle.merkle_chunks.specs.declared.header.Header.{Header}
use Rattle.fragment_open.specs.Clash.{reads_clash}
use Rattle.fragment_open.specs.Settled.{root_by, since}

-- whether the store tells its good reads, and those since the opener's start have no clash with a
-- document under a key
abbrev pub agrees_with : Option (List StoreRead) → Doc → List ℕ → Bool
agrees_with None d key = false
agrees_with (Some all) d key = not (reads_clash (since all) d key)

-- whether the store tells that it holds the file of a document under a key
abbrev pub tells_file : Option (List ℕ) → Doc → List ℕ → Bool
tells_file None d key = false
tells_file (Some held) d key = bytes_eq held (file d key)

-- whether an opener is sound for a document under a key, by its store's good reads and the bytes that
-- it holds: the reads have no clash with the document, or the bytes are its file
abbrev pub sound_for : Option (List StoreRead) → Option (List ℕ) → Doc → List ℕ → Bool
sound_for served held d key = agrees_with served d key || tells_file held d key

-- The document is an origin of an opener, one that it may be reading. Its file under the key has the
-- header, and the root made of the header and the top digest.
pub record IsOrigin (header : Header) (top key : List ℕ) (d : Doc) : Type 0 where
  pub document : is_document d ≡ true
  pub has_root : HasRoot d key (root_by header top)
  pub header_is : document_header d key ≡ header
