-- The bytes of parts and contents, and that a content's width follows from its length.
use Rattle.std.proofs.Common.{◌≡◌, ℕ, zero, suc, ◌+◌, ◌^◌, ◌<◌, ◌≤◌, ◌⊎◌, inl, inr, ⊎_elim, Bool, true, cond, nat_lt, List, [], ◌∷◌, ◌++◌, length, map, refl, ap, ◌∙◌, arith, append-nil, length-append, w16}
use Rattle.std.specs.Int.{to_be_bytes}
use Rattle.std.specs.List.{flat_map}
use Rattle.std.proofs.lemmas.Bool.{cases_Bool}
use Rattle.std.proofs.lemmas.Bool.Decides.{nat_tests}
use Rattle.acl_model.specs.StreamBits.{bytes_of}
use Rattle.acl_model.specs.Width.{first_from, least_width, binary_length, IsLeastWidth}
use Rattle.acl_model.specs.Stream.{attribute, bytes_of_segments, size, head_bits, measured_bytes, Part, Branch, text_part, element_part, part_segments, content_at}
use Rattle.acl_model.proofs.WidthLaws.{least_width-least, binary_length-least}
use Rattle.acl_model.proofs.SizeLaws.{length-bytes_of, length-head_bits, bytes_of_segments-append}

-- ---- widths

-- The search finds the first number that passes, or the one after the last.
first_found : (test : ℕ → Bool) (more from : ℕ)
    → (first_from test more from ≤ from + more) × ((test (first_from test more from) ≡ true) ⊎ (first_from test more from ≡ from + more))
unfolding first_from
first_found test zero from = (omega arith, inr (omega arith))
first_found test (suc more) from = ⊎_elim
    (λ passes.
    let here : first_from test (suc more) from ≡ from = ap (λ b. cond b from (first_from test more (from + 1))) passes in
    (omega (arith, here), inl (ap test here ∙ passes)))
    (λ fails.
    let on : first_from test (suc more) from ≡ first_from test more (from + 1) = ap (λ b. cond b from (first_from test more (from + 1))) fails in
    let later = first_found test more (from + 1) in
    let within = later.0 in (
      omega (arith, on, within),
      elim later.1 [
        | inl found ↦ inl (ap test on ∙ found)
        | inr end ↦ inr (omega (arith, on, end))
      ],
    ))
    (cases_Bool (test from))

-- A width is the least that the length fits, and at most 32.
pub record IsWidth (size : ℕ → ℕ) (w : ℕ) : Type 0 where
  pub within : w ≤ 32
  pub least : IsLeastWidth size w

pub width_found : (size : ℕ → ℕ) → size (least_width size) < 2 ^ 31 → IsWidth size (least_width size)
unfolding least_width
width_found size small =
    let found = first_found (λ w. nat_lt (size w) (2 ^ w)) 32 0 in
    let below = found.0 in
    elim found.1 [
      | inl passes ↦
          let fits : size (least_width size) < 2 ^ least_width size = grind (arith, nat_tests) in
          record { within = omega (arith, below); least = least_width-least size (least_width size) (omega (arith, below)) fits }
      | inr end ↦
          let last : least_width size ≡ 32 = omega (arith, end) in
          let fits : size 32 < 2 ^ 32 = (let same : size (least_width size) ≡ size 32 = ap size last in omega (arith, same, small)) in
          record { within = omega (arith, below); least = least_width-least size 32 (omega arith) fits }
    ]

-- Where the length doesn't fall as the width grows and is below 2^31, the width is the number of its binary digits.
pub width_known : (size : ℕ → ℕ) → ((v w : ℕ) → v ≤ w → size v ≤ size w) → size (least_width size) < 2 ^ 31
    → binary_length (size (least_width size)) ≡ least_width size
width_known size grows small =
    let found = width_found size small in
    binary_length-least size (least_width size) (λ v below. grows v (least_width size) below) found.within found.least

-- ---- parts

-- the bytes of a part
unfoldable pub part_bytes : List ℕ → ℕ → Part → List ℕ
part_bytes members w part = bytes_of_segments (part_segments members w part)

-- The bytes of a text are its length and its bytes.
pub part_bytes-text : (members : List ℕ) (w : ℕ) (bytes : List ℕ) → part_bytes members w (text_part bytes) ≡ measured_bytes bytes
unfolding part_bytes
part_bytes-text members w bytes = append-nil (measured_bytes bytes)

-- The bytes of an element are those of its head and then of its content.
pub part_bytes-element : (members : List ℕ) (w : ℕ) (b : Branch)
    → part_bytes members w (element_part b) ≡ bytes_of (head_bits members w b.tag b.below (size b.content)) ++ bytes_of_segments b.content
unfolding part_bytes
part_bytes-element members w b =
    ap (λ l. bytes_of (head_bits members w b.tag b.below (size b.content)) ++ l)
    (bytes_of_segments-append b.content _ ∙ append-nil (bytes_of_segments b.content))

-- The bytes of parts are the bytes of each, concatenated.
parts_bytes : (members : List ℕ) (w : ℕ) (parts : List Part) → bytes_of_segments (flat_map (part_segments members w) parts) ≡ flat_map (part_bytes members w) parts
unfolding part_bytes
parts_bytes members w [] = refl
parts_bytes members w (part ∷ parts) =
    bytes_of_segments-append (part_segments members w part) (flat_map (part_segments members w) parts)
    ∙ ap (λ l. bytes_of_segments (part_segments members w part) ++ l) (parts_bytes members w parts)

attributes_bytes : (raws : List (List ℕ)) → bytes_of_segments (map attribute raws) ≡ flat_map measured_bytes raws
attributes_bytes [] = refl
attributes_bytes (raw ∷ raws) = ap (λ l. measured_bytes raw ++ l) (attributes_bytes raws)

-- The bytes of a content are the number of attributes, each attribute, and then the parts.
pub content_bytes : (tag : ℕ) (members : List ℕ) (attributes : List (List ℕ)) (parts : List Part) (w : ℕ)
    → bytes_of_segments (content_at tag members attributes parts w) ≡ to_be_bytes w16 (length attributes) ++ (flat_map measured_bytes attributes ++ flat_map (part_bytes members w) parts)
content_bytes tag members attributes parts w =
    ap (λ l. to_be_bytes w16 (length attributes) ++ l)
    (bytes_of_segments-append (map attribute attributes) _
    ∙ ap (λ l. l ++ bytes_of_segments (flat_map (part_segments members w) parts)) (attributes_bytes attributes)
    ∙ ap (λ l. flat_map measured_bytes attributes ++ l) (parts_bytes members w parts))

-- ---- lengths don't fall as widths grow

head_grows : (members : List ℕ) (tag : ℕ) (below : List ℕ) (long v w : ℕ) → v ≤ w
    → length (bytes_of (head_bits members v tag below long)) ≤ length (bytes_of (head_bits members w tag below long))
head_grows members tag below long v w more =
    let one = length-bytes_of (head_bits members v tag below long) in
    let other = length-bytes_of (head_bits members w tag below long) in
    let bits = length-head_bits members v tag below long in
    let more_bits = length-head_bits members w tag below long in
    omega (arith, one, other, bits, more_bits, more)

pub part_grows : (members : List ℕ) (part : Part) (v w : ℕ) → v ≤ w → length (part_bytes members v part) ≤ length (part_bytes members w part)
part_grows members (text_part bytes) v w more =
    let one = ap length (part_bytes-text members v bytes) in
    let other = ap length (part_bytes-text members w bytes) in
    omega (arith, one, other)
part_grows members (element_part b) v w more =
    let one = ap length (part_bytes-element members v b) ∙ length-append (bytes_of (head_bits members v b.tag b.below (size b.content))) (bytes_of_segments b.content) in
    let other = ap length (part_bytes-element members w b) ∙ length-append (bytes_of (head_bits members w b.tag b.below (size b.content))) (bytes_of_segments b.content) in
    let heads = head_grows members b.tag b.below (size b.content) v w more in
    omega (arith, one, other, heads)

pub parts_grow : (members : List ℕ) (parts : List Part) (v w : ℕ) → v ≤ w → length (flat_map (part_bytes members v) parts) ≤ length (flat_map (part_bytes members w) parts)
parts_grow members [] v w more = omega arith
parts_grow members (part ∷ parts) v w more =
    let one = length-append (part_bytes members v part) (flat_map (part_bytes members v) parts) in
    let other = length-append (part_bytes members w part) (flat_map (part_bytes members w) parts) in
    let first = part_grows members part v w more in
    let rest = parts_grow members parts v w more in
    omega (arith, one, other, first, rest)

-- the length of a content in bytes
pub content_size : (tag : ℕ) (members : List ℕ) (attributes : List (List ℕ)) (parts : List Part) (w : ℕ)
    → size (content_at tag members attributes parts w) ≡ 2 + (length (flat_map measured_bytes attributes) + length (flat_map (part_bytes members w) parts))
unfolding size
content_size tag members attributes parts w =
    ap length (content_bytes tag members attributes parts w)
    ∙ length-append (to_be_bytes w16 (length attributes)) (flat_map measured_bytes attributes ++ flat_map (part_bytes members w) parts)
    ∙ ap (λ n. 2 + n) (length-append (flat_map measured_bytes attributes) (flat_map (part_bytes members w) parts))

pub content_grows : (tag : ℕ) (members : List ℕ) (attributes : List (List ℕ)) (parts : List Part) (v w : ℕ) → v ≤ w
    → size (content_at tag members attributes parts v) ≤ size (content_at tag members attributes parts w)
content_grows tag members attributes parts v w more =
    let one = content_size tag members attributes parts v in
    let other = content_size tag members attributes parts w in
    let rest = parts_grow members parts v w more in
    omega (arith, one, other, rest)
