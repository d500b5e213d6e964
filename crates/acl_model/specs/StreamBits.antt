-- The bits of a number, and the bytes of bits, the highest bit of each byte first. Defined by this project. `acl_bits`
-- has the same definitions for programs, and a law of `skip_encode` proves that they agree.
use Rattle.std.specs.Prelude.{ℕ, zero, suc, ◌+◌, ◌-◌, ◌*◌, ◌/◌, ◌%◌, Bool, true, false, ◌==◌, List, [], ◌∷◌, ◌++◌, length, take, drop, replicate}
use Rattle.std.specs.Int.{bit_at}

-- the n lowest bits of a number, the highest of them first
unfoldable pub bits_of : ℕ → ℕ → List Bool
bits_of zero value = []
bits_of (suc n) value = (bit_at value n == 1) ∷ bits_of n value

-- a bit as a digit
abbrev pub digit : Bool → ℕ
digit false = 0
digit true = 1

-- the number whose binary digits are those of `high`, followed by the bits
unfoldable pub number_after : ℕ → List Bool → ℕ
number_after high [] = high
number_after high (bit ∷ bits) = number_after (2 * high + digit bit) bits

-- the bits, padded at the end with zero bits to a whole number of bytes
abbrev pub filled_bits : List Bool → List Bool
filled_bits bits = bits ++ replicate ((8 - length bits % 8) % 8) false

-- the first n bytes that the bits make, eight bits to a byte
unfoldable pub first_bytes : ℕ → List Bool → List ℕ
first_bytes zero bits = []
first_bytes (suc n) bits = number_after 0 (take 8 bits) ∷ first_bytes n (drop 8 bits)

-- the bytes of the bits, the last byte padded with zero bits
unfoldable pub bytes_of : List Bool → List ℕ
bytes_of bits = first_bytes (length (filled_bits bits) / 8) (filled_bits bits)
