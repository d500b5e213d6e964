-- The limits of documents, paths, licences and keys. All are defined by this project.
use Rattle.std.specs.Prelude.{ℕ}

-- ---- documents

-- bytes of a name: a dictionary writes the length in one byte
abbrev pub most_name_bytes : ℕ
most_name_bytes = 255

-- attributes of an element: a stream writes the count in two bytes
abbrev pub most_attributes : ℕ
most_attributes = 65535

-- elements that are open at once, the root counted
abbrev pub most_open_elements : ℕ
most_open_elements = 255

-- bytes of a document's lines: 32 MiB
abbrev pub most_document_bytes : ℕ
most_document_bytes = 33554432

-- ---- streams

-- names of a dictionary: the number of a name fits in one byte
abbrev pub most_names : ℕ
most_names = 256

-- bytes of a dictionary section and a tree section together: 32 MiB
abbrev pub most_stream_bytes : ℕ
most_stream_bytes = 33554432

-- ---- paths

-- bytes of a path as it is written
abbrev pub most_path_bytes : ℕ
most_path_bytes = 1024

-- bytes of a literal, without its quotes
abbrev pub most_literal_bytes : ℕ
most_literal_bytes = 255

-- digits of a whole number, leading zeros counted: its value fits in 64 bits
abbrev pub most_digits : ℕ
most_digits = 18

-- ---- licences and keys

-- rules of a licence
abbrev pub most_rules : ℕ
most_rules = 64

-- steps of all paths of a licence together, and steps of the path of a query
abbrev pub most_steps : ℕ
most_steps = 256

-- steps of predicates, counted in the same way
abbrev pub most_pred_steps : ℕ
most_pred_steps = 256

-- predicates, counted in the same way
abbrev pub most_preds : ℕ
most_preds = 64

-- bytes of a rule's id
abbrev pub most_id_bytes : ℕ
most_id_bytes = 32

-- bytes of a licence's user
abbrev pub most_user_bytes : ℕ
most_user_bytes = 255

-- bytes of a key file, of a licence, and of the body of a licence: 128 KiB
abbrev pub most_key_bytes : ℕ
most_key_bytes = 131072
