-- Whether bytes and the numbers of a header are those of a document. The format is defined by this project, after the
-- Skip index (VLDB 2004).
use Rattle.std.specs.Prelude.{◌≡◌, ℕ, true, List, length}
use Rattle.merkle_chunks.specs.declared.header.Header.{Header}
use Rattle.acl_model.specs.declared.document.Doc.{Doc}
use Rattle.acl_model.specs.Document.{is_document}
use Rattle.acl_model.specs.Dictionary.{dictionary, dictionary_section}
use Rattle.acl_model.specs.Stream.{has_stream, plain, tree_section, depth}

-- The document is valid and has a stream, and the bytes are that stream. The header contains the lengths of the
-- document's tree and dictionary sections, the number of its names, and its depth. The header's key check may be any.
pub record IsStreamOf (d : Doc) (stream : List ℕ) (header : Header) : Type 0 where
  pub document : is_document d ≡ true
  pub within : has_stream d ≡ true
  pub bytes : stream ≡ plain d
  pub tree : header.tree ≡ length (tree_section d)
  pub tags : header.tags ≡ length (dictionary d)
  pub dictionary : header.dictionary ≡ length (dictionary_section (dictionary d))
  pub depth : header.depth ≡ depth d
