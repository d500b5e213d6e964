-- The lengths of a file's parts: a header, the fragments, and the table of digests. Defined by this project.
use Rattle.std.specs.Prelude.{ℕ}
pub use Rattle.acl_model.specs.Stream.{fragment_len}

-- the number of bytes of a header
abbrev pub header_len : ℕ
header_len = 64

-- the number of bytes of a SHA-256 digest
abbrev pub digest_len : ℕ
digest_len = 32

-- the number of fragments of a chunk
abbrev pub chunk_fragments : ℕ
chunk_fragments = 16

-- the level of the table with a digest for each chunk: 2^4 is 16
abbrev pub chunk_level : ℕ
chunk_level = 4

-- the most fragments of a file: 32 MiB in fragments of 256 bytes
abbrev pub most_fragments : ℕ
most_fragments = 131072

-- the most levels of a table above its leaves: 2^17 is 131,072
abbrev pub most_top_level : ℕ
most_top_level = 17
