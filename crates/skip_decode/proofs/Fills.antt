-- The fill at the end of a stream: zeros up to a whole number of fragments.
use Rattle.std.proofs.Common.{◌≡◌, ℕ, zero, suc, ◌-◌, ◌%◌, ◌<◌, ◌≤◌, true, nat_eq, List, [], ◌∷◌, ◌++◌, length, take, drop, replicate, refl, ap, sym, ◌∙◌, arith, length-take-le, length-drop, drop_at, take_at, take-append-drop}
use Rattle.std.specs.Cmp.{first_so, second_so}
use Rattle.std.specs.List.{list_all}
use Rattle.std.proofs.lemmas.Bool.Decides.{nat_tests}
use Rattle.std.proofs.lemmas.List.{take_all}
use Rattle.acl_model.specs.Stream.{filled_fragments}
use Rattle.skip_decode.specs.inside.Reading.{IsFilled}

-- Bytes that are all zero are so many zeros.
zeros_are : (bytes : List ℕ) → list_all (λ b. nat_eq b 0) bytes ≡ true → bytes ≡ replicate (length bytes) 0
zeros_are [] zeros = refl
zeros_are (b ∷ bytes) zeros =
    let first : nat_eq b 0 ≡ true = first_so (nat_eq b 0) (list_all (λ c. nat_eq c 0) bytes) zeros in
    let none : b ≡ 0 = grind (arith, nat_tests, first) in
    ap (λ c. c ∷ bytes) none
    ∙ ap (λ l. 0 ∷ l) (zeros_are bytes (second_so (nat_eq b 0) (list_all (λ c. nat_eq c 0) bytes) zeros))

are_zeros : (n : ℕ) → list_all (λ b. nat_eq b 0) (replicate n 0) ≡ true
are_zeros zero = refl
are_zeros (suc n) = are_zeros n

-- the number of zeros after so many bytes
abbrev fill_of : ℕ → ℕ
fill_of n = (256 - n % 256) % 256

-- the bytes after the first `count`
pub rest_is : (stream : List ℕ) (count : ℕ) → take (length stream - count) (drop count stream) ≡ drop count stream
rest_is stream count =
    let long = length-drop count stream in
    take_all (length stream - count) (drop count stream) (omega (arith, long))

module _ (stream : List ℕ) (count : ℕ) (whole : length stream % 256 ≡ 0) (within : count ≤ length stream) where
  front_long : length (take count stream) ≡ count
  front_long = length-take-le count stream within

  -- Fewer zeros than a fragment has, up to its end, are the fill.
  pub filled-so : length (drop count stream) < 256 → list_all (λ b. nat_eq b 0) (drop count stream) ≡ true
      → IsFilled stream count
  filled-so less zeros =
      let back : List ℕ = drop count stream in
      let long : length back ≡ length stream - count = length-drop count stream in
      let same : length back ≡ fill_of count = omega (arith, less, long, whole, within) in
      sym (take-append-drop count stream)
      ∙ ap (λ l. take count stream ++ l)
      (zeros_are back zeros ∙ ap (λ n. replicate n 0) (same ∙ ap fill_of (sym front_long)))

  -- The fill has only zeros.
  pub zeros-filled : IsFilled stream count → list_all (λ b. nat_eq b 0) (drop count stream) ≡ true
  zeros-filled filled =
      let back : List ℕ = replicate (fill_of (length (take count stream))) 0 in
      ap (list_all (λ b. nat_eq b 0)) (ap (drop count) filled ∙ drop_at (take count stream) back count front_long)
      ∙ are_zeros (fill_of (length (take count stream)))

-- Bytes that are filled have the fill after them.
pub filled_is : (bytes stream : List ℕ) (count : ℕ) → stream ≡ filled_fragments bytes → count ≡ length bytes
    → IsFilled stream count
filled_is bytes stream count is long =
    let back : List ℕ = replicate (fill_of (length bytes)) 0 in
    is ∙ ap filled_fragments (sym (ap (take count) is ∙ take_at bytes back count (sym long)))
