-- The head of an element, read from the bytes of a stream. Each head has one spelling: the unused bits of its last byte
-- are zero, and a tag set that is written isn't empty. The format is defined by this project (VLDB 2004: the Skip index
-- has tags, descendant tag sets and sizes relative to the parent).
use Rattle.std.specs.Prelude.{ℕ, ◌+◌, ◌-◌, ◌/◌, Bool, nat_eq, nat_le, if◌then◌else◌, Option, None, Some, List, length, take}
use Rattle.std.specs.Option.{option_and_then, option_map}
use Rattle.acl_bits.specs.FilledBits.{number_of, bits_of_bytes}
use Rattle.acl_model.specs.Width.{binary_length}
use Rattle.skip_decode.specs.declared.head.Head.{Head}
use Rattle.skip_decode.specs.inside.HeadReading.{take_bits, head_bytes, take_head_on}

-- the first n bytes, where a content still has so many: `left` is the number of its bytes that are left
unfoldable pub take_within : ℕ → ℕ → List ℕ → Option (List ℕ)
take_within left n bytes = if nat_le n left then Some (take n bytes) else None

-- how many bits the number of a name takes in a parent whose tag set has so many members
abbrev pub number_width : ℕ → ℕ
number_width members = binary_length (members - 1)

-- The bit of a head that is 1 where a tag set follows. Before it are the first bit, which must be 1, and the number of
-- the name.
unfoldable pub inner_bit : ℕ → List ℕ → Option ℕ
inner_bit number bytes =
    option_and_then (λ first.
    if nat_eq first.0 1
    then option_and_then (λ named. option_map (λ inner. inner.0) (take_bits 1 named.1)) (take_bits number first.1)
    else None)
    (take_bits 1 (bits_of_bytes bytes))

-- the same bit, from the first bytes of a head, no more than hold it
unfoldable pub inner_at : ℕ → ℕ → List ℕ → Option ℕ
inner_at number left bytes = option_and_then (inner_bit number) (take_within left ((9 + number) / 8) bytes)

-- the head, if the bits after it in its last byte are zero
abbrev pub filled_head : Head × List Bool → Option Head
filled_head read = if nat_eq (number_of read.1) 0 then Some read.0 else None

-- the head that these bytes are, in a parent with this tag set and lengths in w bits
unfoldable pub whole_head : List ℕ → ℕ → List ℕ → Option Head
whole_head members w bytes =
    option_and_then (λ first.
    if nat_eq first.0 1 then option_and_then filled_head (take_head_on members w first.1) else None)
    (take_bits 1 (bits_of_bytes bytes))

-- The head at the start of the bytes. Its size depends on whether a tag set follows, so that bit is read first.
unfoldable pub head_at : List ℕ → ℕ → ℕ → List ℕ → Option Head
head_at members w left bytes =
    option_and_then (λ inner.
    option_and_then (whole_head members w)
    (take_within left (head_bytes (length members) (number_width (length members)) inner w) bytes))
    (inner_at (number_width (length members)) left bytes)
