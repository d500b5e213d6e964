-- The header of a file, byte by byte. Defined by this project.
use Rattle.std.specs.Prelude.{◌≡◌, ℕ, ◌+◌, ◌*◌, ◌/◌, ◌≤◌, List, ◌++◌, length, replicate, codes}
use Rattle.std.specs.Int.{w16, w32, w64, to_be_bytes}
use Rattle.acl_model.specs.Limits.{most_names, most_open_elements, most_stream_bytes}
use Rattle.merkle_chunks.specs.declared.header.Header.{Header}

-- the bytes that each file begins with
abbrev pub magic : List ℕ
magic = codes "SKIPIDX1"

-- The numbers of a header are in their ranges: a tree of at least one byte, 1 to 256 names, 1 to 255 open elements, and
-- a key check of 16 bytes. The dictionary has two bytes for the number of names and at least two for each name. Tree
-- and dictionary have at most 33,554,432 bytes together.
pub record IsInRange (h : Header) : Type 0 where
  pub tree : 1 ≤ h.tree
  pub some_tags : 1 ≤ h.tags
  pub few_tags : h.tags ≤ most_names
  pub dictionary : 2 + 2 * h.tags ≤ h.dictionary
  pub some_depth : 1 ≤ h.depth
  pub low_depth : h.depth ≤ most_open_elements
  pub together : h.tree + h.dictionary ≤ most_stream_bytes
  pub check : length h.check ≡ 16

-- the 64 bytes of a header: the magic, the tree's length, the dictionary's length, the number of names, the depth, the
-- key check, and zeros; each number is big-endian
abbrev pub header_bytes : Header → List ℕ
header_bytes h =
    magic ++ (to_be_bytes w64 h.tree ++ (to_be_bytes w32 h.dictionary ++ (to_be_bytes w16 h.tags
    ++ (to_be_bytes w16 h.depth ++ (h.check ++ replicate 24 0)))))

-- the number of fragments of 256 bytes for tree and dictionary: their length divided by 256, rounded up
abbrev pub fragment_count : Header → ℕ
fragment_count h = (h.tree + h.dictionary + 255) / 256
