-- A field that was written at the start of bytes or bits is read as what was written.
use Rattle.std.proofs.Common.{◌≡◌, ℕ, zero, suc, ◌+◌, ◌*◌, ◌/◌, ◌^◌, ◌<◌, Bool, true, false, cond, nat_le, None, Some, List, [], ◌∷◌, ◌++◌, length, take, drop, refl, ap, sym, ◌∙◌, arith, length-append, append_assoc, take_at, drop_at}
use Rattle.std.proofs.lemmas.Bool.Decides.{nat_tests}
use Rattle.acl_bits.specs.FilledBits.{bits_of_bytes, number_of, number_after, first_bytes, bytes_of, bits_of, filled_bits, has_bit}
use Rattle.acl_bits.proofs.BitStrings.{bits_of_bytes-bytes_of, number_of-bits_of, length-bits_of}
use Rattle.acl_model.specs.StreamBits as model
use Rattle.skip_decode.specs.inside.HeadReading.{take_bits}

-- There are enough elements for a prefix of the list.
enough : {A : Type 0} (n : ℕ) (prefix back : List A) → length prefix ≡ n → nat_le n (length (prefix ++ back)) ≡ true
enough n prefix back long = let whole = length-append prefix back in grind (arith, nat_tests, whole)

-- The first bits are returned as their number, and those after them.
pub take_bits-prefix : (n : ℕ) (prefix back : List Bool) → length prefix ≡ n → take_bits n (prefix ++ back) ≡ Some (number_of prefix, back)
unfolding take_bits
take_bits-prefix n prefix back long =
    ap (λ b. cond b (Some (number_of (take n (prefix ++ back)), drop n (prefix ++ back))) None) (enough n prefix back long)
    ∙ ap (λ l. Some (number_of l, drop n (prefix ++ back))) (take_at prefix back n long)
    ∙ ap (λ l. Some (number_of prefix, l)) (drop_at prefix back n long)

-- The bits of a number are read as that number.
pub take_bits-number : (n value : ℕ) (back : List Bool) → value < 2 ^ n → take_bits n (bits_of n value ++ back) ≡ Some (value, back)
take_bits-number n value back fits =
    take_bits-prefix n (bits_of n value) back (length-bits_of n value)
    ∙ ap (λ v. Some (v, back)) (number_of-bits_of n value fits)

-- ---- the definitions on bits in `acl_model` and `acl_bits` are the same

pub bits_same : (n value : ℕ) → model.bits_of n value ≡ bits_of n value
unfolding model.bits_of bits_of
bits_same zero value = refl
bits_same (suc n) value = ap (λ l. has_bit value n ∷ l) (bits_same n value)

pub number_same : (high : ℕ) (bits : List Bool) → model.number_after high bits ≡ number_after high bits
unfolding model.number_after number_after
number_same high [] = refl
number_same high (true ∷ bits) = number_same (2 * high + 1) bits
number_same high (false ∷ bits) = number_same (2 * high + 0) bits

first_same : (n : ℕ) (bits : List Bool) → model.first_bytes n bits ≡ first_bytes n bits
unfolding model.first_bytes first_bytes
first_same zero bits = refl
first_same (suc n) bits =
    ap (λ b. b ∷ model.first_bytes n (drop 8 bits)) (number_same 0 (take 8 bits))
    ∙ ap (λ l. number_of (take 8 bits) ∷ l) (first_same n (drop 8 bits))

-- The bits of the bytes made from bits are those bits, filled with zeros to whole bytes.
pub bits_of_bytes-model : (bits : List Bool) → bits_of_bytes (model.bytes_of bits) ≡ filled_bits bits
unfolding model.bytes_of bytes_of
bits_of_bytes-model bits =
    ap bits_of_bytes (first_same (length (filled_bits bits) / 8) (filled_bits bits)) ∙ bits_of_bytes-bytes_of bits

-- The bits of a number are read as that number, by the definitions of `acl_model`.
pub take_bits-model : (n value : ℕ) (back : List Bool) → value < 2 ^ n → take_bits n (model.bits_of n value ++ back) ≡ Some (value, back)
take_bits-model n value back fits = ap (λ l. take_bits n (l ++ back)) (bits_same n value) ∙ take_bits-number n value back fits

-- The bits of concatenated bytes are the bits of each, concatenated.
pub bits_of_bytes-append : (prefix back : List ℕ) → bits_of_bytes (prefix ++ back) ≡ bits_of_bytes prefix ++ bits_of_bytes back
unfolding bits_of_bytes
bits_of_bytes-append [] back = refl
bits_of_bytes-append (b ∷ prefix) back =
    ap (λ l. bits_of 8 b ++ l) (bits_of_bytes-append prefix back) ∙ sym (append_assoc (bits_of 8 b) (bits_of_bytes prefix) (bits_of_bytes back))
