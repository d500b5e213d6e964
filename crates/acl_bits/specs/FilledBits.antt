-- Bit strings, and the bytes that hold them, the highest bit of each byte first. Defined by this project.
use Rattle.std.specs.Prelude.{◌≡◌, ℕ, zero, suc, ◌+◌, ◌-◌, ◌*◌, ◌/◌, ◌%◌, ◌^◌, ◌<◌, ◌≤◌, bit_and, bit_or, Bool, true, false, ◌==◌, List, [], ◌∷◌, ◌++◌, length, take, drop, replicate, slice_index}
use Rattle.std.specs.Int.{bit_at}

-- whether bit `place` of the value is 1; bit 0 is the lowest
abbrev pub has_bit : ℕ → ℕ → Bool
has_bit value place = bit_at value place == 1

-- the n lowest bits of the value, the highest of them first
unfoldable pub bits_of : ℕ → ℕ → List Bool
bits_of zero value = []
bits_of (suc n) value = has_bit value n ∷ bits_of n value

-- a bit as a digit
abbrev pub digit : Bool → ℕ
digit false = 0
digit true = 1

-- the number whose binary digits are those of `high`, followed by the bits
unfoldable pub number_after : ℕ → List Bool → ℕ
number_after high [] = high
number_after high (bit ∷ bits) = number_after (2 * high + digit bit) bits

-- the number whose binary digits are the bits, the highest first
abbrev pub number_of : List Bool → ℕ
number_of bits = number_after 0 bits

-- the bits of the bytes, the highest bit of each byte first
unfoldable pub bits_of_bytes : List ℕ → List Bool
bits_of_bytes [] = []
bits_of_bytes (byte ∷ bytes) = bits_of 8 byte ++ bits_of_bytes bytes

-- the bits, padded at the end with zero bits to a whole number of bytes
abbrev pub filled_bits : List Bool → List Bool
filled_bits bits = bits ++ replicate ((8 - length bits % 8) % 8) false

-- the first n bytes that the bits make, eight bits to a byte
unfoldable pub first_bytes : ℕ → List Bool → List ℕ
first_bytes zero bits = []
first_bytes (suc n) bits = number_of (take 8 bits) ∷ first_bytes n (drop 8 bits)

-- the bytes of the bits, the last byte padded with zero bits
unfoldable pub bytes_of : List Bool → List ℕ
bytes_of bits = first_bytes (length (filled_bits bits) / 8) (filled_bits bits)

-- ---- a bit by its index in bytes

-- the bit with the index `place`, counted from the highest bit of the first byte; false past the end of the bytes
unfoldable pub bit_in : List ℕ → ℕ → Bool
bit_in bytes place = has_bit (slice_index bytes (place / 8)) (7 - place % 8)

-- The forty bytes hold a string of `len` bits: `len` is at most 320, and all bits after the string are zero.
pub record HoldBits (bytes : List ℕ) (len : ℕ) : Type 0 where
  pub forty : length bytes ≡ 40
  pub fit : (k : ℕ) → slice_index bytes k < 256
  pub within : len ≤ 320
  pub clear : (place : ℕ) → len ≤ place → bit_in bytes place ≡ false

-- `new` is `old`, with the 40 lowest bits of the window combined by bitwise `or` with the five bytes from index
-- `first` on. Bits of the window past the end of `old` are dropped.
pub record LaysOver (old new : List ℕ) (first window : ℕ) : Type 0 where
  pub long : length new ≡ length old
  pub fit : (k : ℕ) → slice_index new k < 256
  pub written : (k : ℕ) → first ≤ k → k < first + 5 → k < length old
      → slice_index new k
      ≡ bit_or (slice_index old k) (bit_and (window / 2 ^ (32 - 8 * (k - first))) 0xff)
  pub before : (k : ℕ) → k < first → slice_index new k ≡ slice_index old k
  pub after : (k : ℕ) → first + 5 ≤ k → slice_index new k ≡ slice_index old k

-- The window is below 2 ^ 40, and its 40 bits are the first 40 bits of the bytes.
pub record IsWindow (window : ℕ) (bytes : List ℕ) : Type 0 where
  pub small : window < 2 ^ 40
  pub bits : (place : ℕ) → place < 40 → has_bit window (39 - place) ≡ bit_in bytes place
