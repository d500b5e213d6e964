-- How a document is read from its stream in memory, and when the stream is that of the document which was read. Defined
-- by this project.
use Rattle.std.specs.Prelude.{◌≡◌, ℕ, ◌+◌, ◌≤◌, ◌%◌, true, Option, List, length, take}
use Rattle.acl_model.specs.Dictionary.{dictionary}
use Rattle.acl_model.specs.Document.{is_document, height}
use Rattle.acl_model.specs.Limits.{most_names, most_open_elements, most_stream_bytes}
use Rattle.acl_model.specs.Stream.{filled_fragments}
use Rattle.acl_model.specs.declared.document.Doc.{Doc}
use Rattle.merkle_chunks.specs.declared.header.Header.{Header}
use Rattle.skip_decode.specs.Building.{built}
use Rattle.skip_decode.specs.Positions.{Numbers, first_position}
use Rattle.skip_decode.specs.StreamEvents.{events_from}

-- The bytes after the first `count` of a stream are the zeros that fill its last fragment.
abbrev pub IsFilled : List ℕ → ℕ → Type 0
IsFilled stream count = stream ≡ filled_fragments (take count stream)

-- The bytes and the header may be those of a document: there are whole fragments, no more than the longest stream has,
-- with room for both sections and only the fill after them. The numbers of names and levels are ones that a document can
-- have.
pub record IsFormed (stream : List ℕ) (header : Header) : Type 0 where
  pub whole : length stream % 256 ≡ 0
  pub few : length stream ≤ most_stream_bytes
  pub names : header.tags ≤ most_names
  pub deep : header.depth ≤ most_open_elements
  pub within : header.dictionary + header.tree ≤ length stream
  pub filled : IsFilled stream (header.dictionary + header.tree)

-- the document that the events of a stream build, by these names and numbers
abbrev pub document_read : List (List ℕ) → Numbers → List ℕ → Option Doc
document_read names k stream = built names (events_from k stream (first_position k))

-- The document is valid. Its dictionary has these names, in this order, and so many elements or more are nested in each
-- other.
pub record IsOfDictionary (d : Doc) (own : List (List ℕ)) (levels : ℕ) : Type 0 where
  pub document : is_document d ≡ true
  pub names : dictionary d ≡ own
  pub deep : levels ≤ height d.root
