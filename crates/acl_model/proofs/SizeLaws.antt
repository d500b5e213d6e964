-- How many bytes heads and segments have.
use Rattle.std.proofs.Common.{◌≡◌, ℕ, zero, suc, ◌+◌, ◌-◌, ◌/◌, ◌%◌, Bool, false, List, [], ◌∷◌, ◌++◌, length, length-append, append_assoc, replicate, drop, map, refl, ap, sym, ◌∙◌, arith}
use Rattle.std.proofs.lemmas.List.{length-map, length-replicate}
use Rattle.acl_model.specs.StreamBits.{bits_of, filled_bits, first_bytes, bytes_of}
use Rattle.acl_model.specs.Width.{binary_length}
use Rattle.acl_model.specs.Stream.{Segment, segment_bytes, bytes_of_segments, size, has_member, rank, set_bits, head_bits}

-- `bits_of` has as many bits as were asked for
pub length-bits_of : (n value : ℕ) → length (bits_of n value) ≡ n
unfolding bits_of
length-bits_of zero value = refl
length-bits_of (suc n) value = ap suc (length-bits_of n value)

-- `first_bytes` has as many bytes as were asked for
length-first_bytes : (n : ℕ) (bits : List Bool) → length (first_bytes n bits) ≡ n
unfolding first_bytes
length-first_bytes zero bits = refl
length-first_bytes (suc n) bits = ap suc (length-first_bytes n (drop 8 bits))

length-filled_bits : (bits : List Bool) → length (filled_bits bits) ≡ length bits + (8 - length bits % 8) % 8
length-filled_bits bits = length-append bits (replicate ((8 - length bits % 8) % 8) false) ∙ ap (λ n. length bits + n) (length-replicate ((8 - length bits % 8) % 8) false)

whole_bytes : (n : ℕ) → (n + (8 - n % 8) % 8) / 8 ≡ (n + 7) / 8
whole_bytes n = omega arith

-- the number of bytes of bits: eight bits to a byte, rounded up
pub length-bytes_of : (bits : List Bool) → length (bytes_of bits) ≡ (length bits + 7) / 8
unfolding bytes_of
length-bytes_of bits =
    length-first_bytes (length (filled_bits bits) / 8) (filled_bits bits)
    ∙ ap (λ n. n / 8) (length-filled_bits bits) ∙ whole_bytes (length bits)

-- the number of bits of a head
pub length-head_bits : (members : List ℕ) (w tag : ℕ) (below : List ℕ) (long : ℕ)
    → length (head_bits members w tag below long) ≡ 1 + (binary_length (length members - 1) + (length (set_bits members below) + w))
unfolding head_bits
length-head_bits members w tag below long =
    let number : length (bits_of (binary_length (length members - 1)) (rank members tag)) ≡ binary_length (length members - 1) = length-bits_of (binary_length (length members - 1)) (rank members tag) in
    let long_bits : length (bits_of w long) ≡ w = length-bits_of w long in
    let split : length (bits_of (binary_length (length members - 1)) (rank members tag) ++ (set_bits members below ++ bits_of w long))
    ≡ length (bits_of (binary_length (length members - 1)) (rank members tag)) + length (set_bits members below ++ bits_of w long) =
    length-append (bits_of (binary_length (length members - 1)) (rank members tag)) (set_bits members below ++ bits_of w long) in
    let rest : length (set_bits members below ++ bits_of w long) ≡ length (set_bits members below) + length (bits_of w long) = length-append (set_bits members below) (bits_of w long) in
    omega arith

-- where an element has element children, its tag set takes one bit more than the parent's set has members
pub length-set_bits : (members : List ℕ) (n : ℕ) (below : List ℕ) → length (set_bits members (n ∷ below)) ≡ 1 + length members
length-set_bits members n below = let long : length (map (has_member (n ∷ below)) members) ≡ length members = length-map members (has_member (n ∷ below)) in omega arith

-- the bytes of segments that follow others
pub bytes_of_segments-append : (xs ys : List Segment) → bytes_of_segments (xs ++ ys) ≡ bytes_of_segments xs ++ bytes_of_segments ys
bytes_of_segments-append [] ys = refl
bytes_of_segments-append (x ∷ xs) ys = ap (λ l. segment_bytes x ++ l) (bytes_of_segments-append xs ys) ∙ sym (append_assoc (segment_bytes x) (bytes_of_segments xs) (bytes_of_segments ys))

-- the number of these bytes
pub size-append : (xs ys : List Segment) → size (xs ++ ys) ≡ size xs + size ys
unfolding size
size-append xs ys = ap length (bytes_of_segments-append xs ys) ∙ length-append (bytes_of_segments xs) (bytes_of_segments ys)

-- one segment more
pub size-cons : (x : Segment) (xs : List Segment) → size (x ∷ xs) ≡ length (segment_bytes x) + size xs
unfolding size
size-cons x xs = length-append (segment_bytes x) (bytes_of_segments xs)

pub size-nil : size [] ≡ 0
unfolding size
size-nil = refl
