-- A width is the least one where lengths in one bit less don't serve: each child has at least 3 bytes, and its head is
-- shorter by at most a byte for a bit less, so that fewer bits don't serve either.
use Rattle.std.proofs.Common.{◌≡◌, ℕ, zero, suc, ◌+◌, ◌*◌, ◌^◌, ◌<◌, ◌≤◌, nat_lt, nat_eq, List, [], ◌∷◌, length, refl, ap, ◌∙◌, subst, arith, ⊎_elim, length-append}
use Rattle.std.specs.List.{flat_map}
use Rattle.std.proofs.lemmas.Bool.{cases_Bool}
use Rattle.std.proofs.lemmas.Bool.Decides.{nat_tests}
use Rattle.acl_model.specs.StreamBits.{bytes_of}
use Rattle.acl_model.specs.Stream.{bytes_of_segments, size, head_bits, Part, Branch, text_part, element_part}
use Rattle.acl_model.specs.Width.{least_width, binary_length, IsLeastWidth}
use Rattle.acl_model.proofs.SizeLaws.{length-bytes_of, length-head_bits}
use Rattle.acl_model.proofs.WidthLaws.{least_width-least, least_width-one}
use Rattle.skip_decode.proofs.Sizes.{part_bytes, part_bytes-text, part_bytes-element}

-- ---- the number of binary digits

-- The digits of a number that isn't 0: so many bits hold it, and one less doesn't.
pub record Digits (n : ℕ) : Type 0 where
  pub lower : ℕ
  pub is : binary_length n ≡ suc lower
  pub within : suc lower ≤ 32
  pub fits : n < 2 ^ suc lower
  pub least : 2 ^ lower ≤ n

found : (n : ℕ) → n < 2 ^ 32 → IsLeastWidth (λ w. n) (binary_length n)
found n small = least_width-least (λ w. n) 32 (omega arith) small

-- A number of at most 32 bits has at most 32 digits.
pub digits_within : (n : ℕ) → n < 2 ^ 32 → binary_length n ≤ 32
digits_within n small = ⊎_elim
    (λ above. let more = (found n small).least 32 (grind (arith, nat_tests, above)) in
    absurd (omega (arith, more, small)))
    (λ other. grind (arith, nat_tests, other))
    (cases_Bool (nat_lt 32 (binary_length n)))

pub digits_of : (n : ℕ) → 1 ≤ n → n < 2 ^ 32 → Digits n
digits_of n some small = by_width (binary_length n) refl
  where
    by_width : (w : ℕ) → binary_length n ≡ w → Digits n
    by_width zero is = let fits = subst (λ v. n < 2 ^ v) is (found n small).fits in absurd (omega (arith, fits, some))
    by_width (suc lower) is =
        let fits = subst (λ v. n < 2 ^ v) is (found n small).fits in
        let least = (found n small).least lower (omega (arith, is)) in
        let within = digits_within n small in
        record { lower = lower; is = is; within = omega (arith, is, within); fits = fits; least = least }

-- ---- the least width

module _ (f : ℕ → ℕ) (children : ℕ) (shrinks : (v : ℕ) → f (suc v) ≤ f v + children)
    (wide : (v : ℕ) → 3 * children ≤ f v) where
  -- Where so many bits don't serve, one bit less doesn't either.
  one_less : (v : ℕ) → 2 ^ suc v ≤ f (suc v) → 2 ^ v ≤ f v
  one_less v more =
      let shorter = shrinks v in
      let least = wide v in
      omega (arith, more, shorter, least)

  none_serves : (w v : ℕ) → v ≤ w → 2 ^ w ≤ f w → 2 ^ v ≤ f v
  none_serves zero v below more = let same : zero ≡ v = omega (arith, below) in subst (λ u. 2 ^ u ≤ f u) same more
  none_serves (suc w) v below more = ⊎_elim
      (λ same. let equal : suc w ≡ v = grind (arith, nat_tests, same) in subst (λ u. 2 ^ u ≤ f u) equal more)
      (λ other. none_serves w v (grind (arith, nat_tests, other, below)) (one_less w more))
      (cases_Bool (nat_eq (suc w) v))

  -- So a width is the least where it serves and one bit less doesn't.
  pub width_is : (lower : ℕ) → suc lower ≤ 32 → f (suc lower) < 2 ^ suc lower → 2 ^ lower ≤ f lower
      → least_width f ≡ suc lower
  width_is lower within fits least =
      least_width-one f (least_width f) (suc lower) (least_width-least f (suc lower) within fits)
      (record { fits = fits; least = λ v below. none_serves lower v (omega (arith, below)) least })

-- ---- parts

-- Each element among the parts has a content of at least two bytes.
abbrev pub AreWide : List Part → Type 0
AreWide [] = Unit {0}
AreWide (text_part bytes ∷ parts) = AreWide parts
AreWide (element_part b ∷ parts) = (2 ≤ size b.content) × AreWide parts

-- how many of the parts are elements
abbrev pub elements_in : List Part → ℕ
elements_in [] = 0
elements_in (text_part bytes ∷ parts) = elements_in parts
elements_in (element_part b ∷ parts) = suc (elements_in parts)

element_long : (members : List ℕ) (v : ℕ) (b : Branch)
    → length (part_bytes members v (element_part b))
    ≡ length (bytes_of (head_bits members v b.tag b.below (size b.content))) + size b.content
unfolding size
element_long members v b =
    ap (λ (l : List ℕ). length l) (part_bytes-element members v b)
    ∙ length-append (bytes_of (head_bits members v b.tag b.below (size b.content))) (bytes_of_segments b.content)

-- With one bit less, parts are shorter by at most a byte for each element.
pub parts_shrink : (members : List ℕ) (v : ℕ) (parts : List Part)
    → length (flat_map (part_bytes members (suc v)) parts)
    ≤ length (flat_map (part_bytes members v) parts) + elements_in parts
parts_shrink members v [] = omega arith
parts_shrink members v (text_part bytes ∷ parts) =
    let one = length-append (part_bytes members v (text_part bytes)) (flat_map (part_bytes members v) parts) in
    let other = length-append (part_bytes members (suc v) (text_part bytes))
    (flat_map (part_bytes members (suc v)) parts) in
    let same = ap (λ (l : List ℕ). length l) (part_bytes-text members v bytes) in
    let too = ap (λ (l : List ℕ). length l) (part_bytes-text members (suc v) bytes) in
    let rest = parts_shrink members v parts in
    omega (arith, one, other, same, too, rest)
parts_shrink members v (element_part b ∷ parts) =
    let one = length-append (part_bytes members v (element_part b)) (flat_map (part_bytes members v) parts) in
    let other = length-append (part_bytes members (suc v) (element_part b))
    (flat_map (part_bytes members (suc v)) parts) in
    let thin = element_long members v b in
    let long = element_long members (suc v) b in
    let thin_head = length-bytes_of (head_bits members v b.tag b.below (size b.content)) in
    let long_head = length-bytes_of (head_bits members (suc v) b.tag b.below (size b.content)) in
    let thin_bits = length-head_bits members v b.tag b.below (size b.content) in
    let long_bits = length-head_bits members (suc v) b.tag b.below (size b.content) in
    let rest = parts_shrink members v parts in
    omega (arith, one, other, thin, long, thin_head, long_head, thin_bits, long_bits, rest)

-- Each element has at least 3 bytes.
pub parts_wide : (members : List ℕ) (v : ℕ) (parts : List Part) → AreWide parts
    → 3 * elements_in parts ≤ length (flat_map (part_bytes members v) parts)
parts_wide members v [] wide = omega arith
parts_wide members v (text_part bytes ∷ parts) wide =
    let one = length-append (part_bytes members v (text_part bytes)) (flat_map (part_bytes members v) parts) in
    let rest = parts_wide members v parts wide in
    omega (arith, one, rest)
parts_wide members v (element_part b ∷ parts) wide =
    let one = length-append (part_bytes members v (element_part b)) (flat_map (part_bytes members v) parts) in
    let long = element_long members v b in
    let head = length-bytes_of (head_bits members v b.tag b.below (size b.content)) in
    let bits = length-head_bits members v b.tag b.below (size b.content) in
    let two = wide.0 in
    let rest = parts_wide members v parts wide.1 in
    omega (arith, one, long, head, bits, two, rest)
