-- What `encode` writes: the file of a document under the document key, and its root as a note. Defined by this project.
use Rattle.std.specs.Prelude.{ℕ, Result, Ok, Err, List, [], ◌∷◌, ◌++◌, codes}
use Rattle.hex.specs.Hex.{encode_lower}
use Rattle.acl_model.specs.Ascii.{line_feed}
use Rattle.acl_model.specs.declared.document.Doc.{Doc}
use Rattle.licence.specs.declared.keys.Keys.{Keys}
use Rattle.merkle_chunks.specs.File.{file, file_root}
use Rattle.acl_outcome.specs.declared.outcome.Outcome.{Outcome}
use Rattle.acl_run.specs.Readers.{keys_of, encodable_of}

-- the line of a root: `root `, its hexadecimal digits in lower case, and a line feed
unfoldable pub root_line : List ℕ → List ℕ
root_line root = codes "root " ++ (encode_lower root ++ (line_feed ∷ []))

-- the file of the document under the document key, where keys and document were read; else no bytes
abbrev pub file_of : Result Keys Outcome → Result Doc Outcome → List ℕ
file_of (Ok keys) (Ok d) = file d keys.document
file_of (Ok keys) (Err refusal) = []
file_of (Err refusal) (Ok d) = []
file_of (Err refusal) (Err other) = []

-- the line of that file's root, where keys and document were read; else no bytes
abbrev pub root_of_file : Result Keys Outcome → Result Doc Outcome → List ℕ
root_of_file (Ok keys) (Ok d) = root_line (file_root d keys.document)
root_of_file (Ok keys) (Err refusal) = []
root_of_file (Err refusal) (Ok d) = []
root_of_file (Err refusal) (Err other) = []

-- the file that `encode` is to write for these bytes of keys and these bytes of a document
abbrev pub encode_text : List ℕ → List ℕ → List ℕ
encode_text secret lines = file_of (keys_of secret) (encodable_of lines)

-- the note that `encode` is to write for them
abbrev pub encode_note : List ℕ → List ℕ → List ℕ
encode_note secret lines = root_of_file (keys_of secret) (encodable_of lines)
