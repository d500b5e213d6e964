-- The definitions on bits of `acl_model` and of `acl_bits` are the same.
use mir.Val.{bool_byte}
use Rattle.std.proofs.Common.{◌≡◌, ℕ, zero, suc, ◌+◌, ◌*◌, ◌/◌, ◌==◌, Bool, true, false, List, [], ◌∷◌, length, take, drop, refl, ap, ◌∙◌}
use Rattle.std.specs.Int.{bit_at}
use Rattle.acl_model.specs.StreamBits.{bits_of, digit, number_after, filled_bits, first_bytes, bytes_of}
use Rattle.acl_bits.specs.FilledBits.{bits_of as string_of, number_after as value_after, first_bytes as first_packed, bytes_of as packed}

-- The bits of a number are the same by both definitions.
pub bits_of-same : (n value : ℕ) → bits_of n value ≡ string_of n value
unfolding bits_of string_of
bits_of-same zero value = refl
bits_of-same (suc n) value = ap (λ l. (bit_at value n == 1) ∷ l) (bits_of-same n value)

-- The number of bits is the same by both definitions.
pub number_after-same : (high : ℕ) (bits : List Bool) → number_after high bits ≡ value_after high bits
unfolding number_after value_after
number_after-same high [] = refl
number_after-same high (bit ∷ bits) = number_after-same (2 * high + digit bit) bits

-- The first bytes of bits are the same by both definitions.
first_bytes-same : (n : ℕ) (bits : List Bool) → first_bytes n bits ≡ first_packed n bits
unfolding first_bytes first_packed
first_bytes-same zero bits = refl
first_bytes-same (suc n) bits =
    ap (λ b. b ∷ first_bytes n (drop 8 bits)) (number_after-same 0 (take 8 bits))
    ∙ ap (λ l. value_after 0 (take 8 bits) ∷ l) (first_bytes-same n (drop 8 bits))

-- The bytes of bits are the same by both definitions.
pub bytes_of-same : (bits : List Bool) → bytes_of bits ≡ packed bits
unfolding bytes_of packed
bytes_of-same bits = first_bytes-same (length (filled_bits bits) / 8) (filled_bits bits)

-- A bit, taken as the number 0 or 1, has that bit as its one digit.
pub one_bit : (bit : Bool) → string_of 1 (bool_byte bit) ≡ bit ∷ []
unfolding string_of
one_bit false = refl
one_bit true = refl
