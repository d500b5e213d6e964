-- The first bit of a head is read from its bytes, whatever bytes follow.
use Rattle.std.proofs.Common.{◌≡◌, ℕ, ◌-◌, ◌%◌, Bool, true, false, Some, List, ◌∷◌, ◌++◌, length, replicate, refl, ap, ◌∙◌, append_assoc}
use Rattle.acl_bits.specs.FilledBits.{bits_of_bytes}
use Rattle.acl_model.specs.StreamBits as model
use Rattle.acl_model.specs.Width.{binary_length}
use Rattle.acl_model.specs.Stream.{rank, set_bits, head_bits}
use Rattle.skip_decode.specs.inside.HeadReading.{take_bits}
use Rattle.skip_decode.proofs.Taking.{bits_of_bytes-append, bits_of_bytes-model}
use Rattle.skip_decode.proofs.Heads.{one_bit}

-- The bits of a head are a first bit, which is 1, and the others.
opened : (members : List ℕ) (w tag : ℕ) (below : List ℕ) (long : ℕ)
    → head_bits members w tag below long ≡ true ∷ (model.bits_of (binary_length (length members - 1)) (rank members tag) ++ (set_bits members below ++ model.bits_of w long))
unfolding head_bits
opened members w tag below long = refl

-- the bits of a head after the first, followed by the bits of the bytes after the head
unfoldable pub bits_after : List ℕ → ℕ → ℕ → List ℕ → ℕ → List ℕ → List Bool
bits_after members w tag below long bytes =
    model.bits_of (binary_length (length members - 1)) (rank members tag)
    ++ (set_bits members below ++ (model.bits_of w long
    ++ (replicate ((8 - length (head_bits members w tag below long) % 8) % 8) false ++ bits_of_bytes bytes)))

-- The first bit of a head is 1.
pub first_bit : (members : List ℕ) (w tag : ℕ) (below : List ℕ) (long : ℕ) (bytes : List ℕ)
    → take_bits 1 (bits_of_bytes (model.bytes_of (head_bits members w tag below long) ++ bytes)) ≡ Some (1, bits_after members w tag below long bytes)
unfolding bits_after
first_bit members w tag below long bytes =
    let bits : List Bool = head_bits members w tag below long in
    let fill : List Bool = replicate ((8 - length bits % 8) % 8) false in
    let number : List Bool = model.bits_of (binary_length (length members - 1)) (rank members tag) in
    let all : bits_of_bytes (model.bytes_of bits ++ bytes) ≡ (bits ++ fill) ++ bits_of_bytes bytes =
    bits_of_bytes-append (model.bytes_of bits) bytes ∙ ap (λ l. l ++ bits_of_bytes bytes) (bits_of_bytes-model bits) in
    ap (take_bits 1) (all ∙ ap (λ l. (l ++ fill) ++ bits_of_bytes bytes) (opened members w tag below long) ∙ regroup true number (set_bits members below) (model.bits_of w long) fill (bits_of_bytes bytes))
    ∙ one_bit true (number ++ (set_bits members below ++ (model.bits_of w long ++ (fill ++ bits_of_bytes bytes))))
  where
    regroup : (x : Bool) (a b c d e : List Bool) → ((x ∷ (a ++ (b ++ c))) ++ d) ++ e ≡ x ∷ (a ++ (b ++ (c ++ (d ++ e))))
    regroup x a b c d e = ap (λ l. x ∷ l) (simp append_assoc)
