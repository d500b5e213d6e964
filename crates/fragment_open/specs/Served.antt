-- What a store served a reader as the header and the top digest, and whether the reads were those that an opener makes.
-- Defined by this project.
use Rattle.std.specs.Prelude.{◌≡◌, ℕ, ◌+◌, ◌*◌, Bool, true, ◌&&◌, nat_eq, nat_lt, nat_le, if◌then◌else◌, bytes_eq, Option, Some, None, option_map, option_and_then, List, [], ◌∷◌, length, map, take, drop, slice_index_or}
use Rattle.std.specs.Int.{w16, w32, w64, from_be_bytes}
use Rattle.std.specs.List.{list_all, slice_get}
use Rattle.std.specs.Option.{option_map_or}
use Rattle.acl_model.specs.Limits.{most_names, most_open_elements, most_stream_bytes}
use Rattle.acl_outside.specs.Outside.{StoreRead}
use Rattle.merkle_chunks.specs.HeaderBytes.{fragment_count, header_bytes}
use Rattle.merkle_chunks.specs.Strings.{root_string}
use Rattle.merkle_chunks.specs.declared.header.Header.{Header}
use Rattle.fragment_open.specs.Openings.{indexes}
use Rattle.fragment_open.specs.Asks.{ask_of, header_ask, opening_asks, top_ask}

-- ---- the header served

-- the numbers at the offsets of a header's fields
abbrev pub header_at : List ℕ → Header
header_at bytes = record {
  tree = from_be_bytes w64 (slice_index_or bytes 8 0 ∷ slice_index_or bytes 9 0 ∷ slice_index_or bytes 10 0 ∷ slice_index_or bytes 11 0
      ∷ slice_index_or bytes 12 0 ∷ slice_index_or bytes 13 0 ∷ slice_index_or bytes 14 0 ∷ slice_index_or bytes 15 0 ∷ []);
  dictionary = from_be_bytes w32 (slice_index_or bytes 16 0 ∷ slice_index_or bytes 17 0 ∷ slice_index_or bytes 18 0 ∷ slice_index_or bytes 19 0 ∷ []);
  tags = from_be_bytes w16 (slice_index_or bytes 20 0 ∷ slice_index_or bytes 21 0 ∷ []);
  depth = from_be_bytes w16 (slice_index_or bytes 22 0 ∷ slice_index_or bytes 23 0 ∷ []);
  check = take 16 (drop 24 bytes);
}

-- whether the numbers of a header are in their ranges
abbrev pub is_in_range : Header → Bool
is_in_range h =
    nat_le 1 h.tree && (nat_le 1 h.tags && (nat_le h.tags most_names && (nat_le (2 + 2 * h.tags) h.dictionary
    && (nat_le 1 h.depth && (nat_le h.depth most_open_elements && (nat_le (h.tree + h.dictionary) most_stream_bytes && nat_eq (length h.check) 16))))))

-- the header with these bytes, where there is one
unfoldable pub header_in : List ℕ → Option Header
header_in bytes =
    let h = header_at bytes in
    if is_in_range h && bytes_eq (header_bytes h) bytes then Some h else None

-- the bytes of a read, where it gave `size` of them
abbrev pub whole : ℕ → StoreRead → Option (List ℕ)
whole size read = if nat_eq (length read.bytes) size then Some read.bytes else None

-- the header served: that of the 64 bytes of the first read, where there is one
abbrev pub header_served : List StoreRead → Option Header
header_served reads = option_and_then header_in (option_and_then (whole 64) (slice_get reads 0))

-- the top digest served: the bytes of the second read, where there are 32
abbrev pub top_served : List StoreRead → Option (List ℕ)
top_served reads = option_and_then (whole 32) (slice_get reads 1)

-- the number of fragments according to the header served, or 0 without one
abbrev pub fragments_served : List StoreRead → ℕ
fragments_served reads = option_map_or fragment_count (header_served reads) 0

-- the root string served: it is made of the header and the top digest, where both were served
abbrev pub root_served : List StoreRead → Option (List ℕ)
root_served reads = option_and_then (λ h. option_map (root_string (header_bytes h)) (top_served reads)) (header_served reads)

-- ---- the reads that an opener makes

-- what an opener asks for, given the header served and the indexes of the fragments (the newest first): the header, and
-- where one was served, the top digest and the openings
abbrev pub asks_by : Option Header → List ℕ → List (ℕ × ℕ)
asks_by None before = header_ask ∷ []
asks_by (Some h) before = header_ask ∷ top_ask (fragment_count h) ∷ opening_asks (fragment_count h) before

-- The reads are regular: what they asked for is a prefix of what an opener asks for, given the header served and the
-- openings. Each fragment of these exists according to that header.
pub record IsRegular (reads : List StoreRead) : Type 0 where
  pub follows : map ask_of reads ≡ take (length reads) (asks_by (header_served reads) (indexes reads))
  pub within : list_all (λ index. nat_lt index (fragments_served reads)) (indexes reads) ≡ true
