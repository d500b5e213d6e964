-- How a text or a raw attribute is cut into pieces. Defined by this project.
use Rattle.std.specs.Prelude.{ℕ, zero, suc, ◌-◌, ◌/◌, ◌<◌, ◌≤◌, Bool, true, false, List, [], ◌∷◌, ◌++◌, length, take, drop}
use Rattle.acl_bits.specs.declared.piece.Piece.{Piece}

-- the piece with these bytes, marked as the last or not
abbrev pub piece_of : List ℕ → Bool → Piece
piece_of bytes last = record { bytes = record { items = bytes }; last = last }

-- The bytes are those of the pieces together. No piece has more than 256 bytes, none is empty unless it is
-- the only one, and only the last is marked.
pub data Joins : List ℕ → List Piece → Type 0 where
  alone : (bytes : List ℕ) → length bytes ≤ 256 → Joins bytes (piece_of bytes true ∷ [])
  onward : (prefix back : List ℕ) (pieces : List Piece)
      → 0 < length prefix → length prefix ≤ 256 → 0 < length back → Joins back pieces
      → Joins (prefix ++ back) (piece_of prefix false ∷ pieces)

-- n pieces of 256 bytes, and the rest as the last piece
unfoldable pub cut_after : ℕ → List ℕ → List Piece
cut_after zero bytes = piece_of bytes true ∷ []
cut_after (suc n) bytes = piece_of (take 256 bytes) false ∷ cut_after n (drop 256 bytes)

-- the pieces of bytes that are cut after each 256: all but the last are full, and the last is empty only
-- where there are no bytes
unfoldable pub pieces : List ℕ → List Piece
pieces bytes = cut_after ((length bytes - 1) / 256) bytes
