-- How the bits of an element's head are read: the number of its name, its tag set, and the length of its content.
-- Defined by this project.
use Rattle.std.specs.Prelude.{ℕ, ◌+◌, ◌-◌, ◌/◌, Bool, nat_eq, nat_le, ◌||◌, Option, None, Some, List, [], ◌∷◌, length, take, drop, slice_get, if◌then◌else◌}
use Rattle.std.specs.Option.{option_and_then, option_map}
use Rattle.acl_bits.specs.FilledBits.{number_of}
use Rattle.acl_bits.specs.Row.{row_of, is_member}
use Rattle.acl_model.specs.Width.{binary_length}
use Rattle.skip_decode.specs.declared.head.Head.{Head}

-- ---- bits

-- the number whose binary digits are the first n bits, the most significant first, and the bits after them
unfoldable pub take_bits : ℕ → List Bool → Option (ℕ × List Bool)
take_bits n bits = if nat_le n (length bits) then Some (number_of (take n bits), drop n bits) else None

-- ---- heads

-- a set with one more number
unfoldable pub with_number : List ℕ → ℕ → List ℕ
with_number numbers n = row_of (λ m. nat_eq m n || is_member numbers m)

-- Reads one bit for each member: the set `below` with the members whose bit is 1, and the bits after.
unfoldable pub take_members : List ℕ → List ℕ → List Bool → Option (List ℕ × List Bool)
take_members [] below bits = Some (below, bits)
take_members (m ∷ members) below bits =
    option_and_then (λ b. take_members members (if nat_eq b.0 1 then with_number below m else below) b.1) (take_bits 1 bits)

-- the set, if it isn't empty
unfoldable pub not_empty : List ℕ × List Bool → Option (List ℕ × List Bool)
not_empty read = if nat_eq (length read.0) 0 then None else Some read

-- An element's tag set. Where the bit `inner` is 1, it has one bit for each of the parent's members, and isn't empty. Else
-- it is the empty set.
unfoldable pub take_below : List ℕ → ℕ → List Bool → Option (List ℕ × List Bool)
take_below members inner bits =
    if nat_eq inner 1 then option_and_then not_empty (take_members members [] bits) else Some ([], bits)

-- the size of a head in bytes, with `number` bits for the tag and `w` bits for the length
abbrev pub head_bytes : ℕ → ℕ → ℕ → ℕ → ℕ
head_bytes members number inner w = (2 + number + (if nat_eq inner 1 then members else 0) + w + 7) / 8

-- Reads the bits of a head after the first: the tag's index in the parent's members, a bit that is 1 where a tag set
-- follows, that set, and the content's length in w bits. Returns the bits after it too.
unfoldable pub take_head_on : List ℕ → ℕ → List Bool → Option (Head × List Bool)
take_head_on members w bits =
    option_and_then (λ number.
    option_and_then (λ tag.
    option_and_then (λ inner.
    option_and_then (λ below.
    option_map (λ long. (
      record {
        tag = tag;
        below = below.0;
        long = long.0;
        bytes = head_bytes (length members) (binary_length (length members - 1)) inner.0 w;
      },
      long.1,
    )) (take_bits w below.1))
    (take_below members inner.0 inner.1))
    (take_bits 1 number.1))
    (slice_get members number.0))
    (take_bits (binary_length (length members - 1)) bits)
