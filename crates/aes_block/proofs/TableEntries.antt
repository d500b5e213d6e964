-- Each table entry is what the definitions give, proved by computing the entry for each byte.
use Rattle.std.proofs.Common.{◌≡◌, ℕ, ◌<◌, [], ◌∷◌, Bool, true, ◌&&◌, get_or, refl, eqb, eqb-true}
use Rattle.std.proofs.lemmas.Bool.{and_parts}
use Rattle.aes_block.specs.Field.{product, remainder, mul, squares_product, field_inverse, power_of_x}
use Rattle.aes_block.specs.Aes.{sub_byte, inverse_sub_byte}
use Rattle.aes_block.specs.inside.ColumnWords.{word_byte, word_bytes}
use Rattle.aes_block.specs.declared.tables.TheConstants.{SUB_BYTE, INVERSE_SUB_BYTE, MIX_FIRST, MIX_SECOND, MIX_THIRD, MIX_FOURTH, INVERSE_MIX_FIRST, INVERSE_MIX_SECOND, INVERSE_MIX_THIRD, INVERSE_MIX_FOURTH}
use Rattle.aes_block.specs.declared.schedule.TheConstants.{ROUND_CONSTANTS}
use Rattle.aes_block.proofs.Bytes.{passes_below, passed, same_below}

sub_byte_table : passes_below 256 (λ x. eqb (get_or SUB_BYTE x 0) (sub_byte x)) ≡ true
unfolding mul product remainder squares_product field_inverse sub_byte
sub_byte_table = refl

pub sub_byte_at : (x : ℕ) → x < 256 → get_or SUB_BYTE x 0 ≡ sub_byte x
sub_byte_at = same_below 256 (λ x. get_or SUB_BYTE x 0) sub_byte sub_byte_table

inverse_sub_byte_table : passes_below 256 (λ x. eqb (get_or INVERSE_SUB_BYTE x 0) (inverse_sub_byte x)) ≡ true
unfolding mul product remainder squares_product field_inverse inverse_sub_byte
inverse_sub_byte_table = refl

pub inverse_sub_byte_at : (x : ℕ) → x < 256 → get_or INVERSE_SUB_BYTE x 0 ≡ inverse_sub_byte x
inverse_sub_byte_at = same_below 256 (λ x. get_or INVERSE_SUB_BYTE x 0) inverse_sub_byte inverse_sub_byte_table

round_constants_table : passes_below 10 (λ j. eqb (get_or ROUND_CONSTANTS j 0) (power_of_x j)) ≡ true
unfolding mul product remainder power_of_x
round_constants_table = refl

pub round_constant_at : (j : ℕ) → j < 10 → get_or ROUND_CONSTANTS j 0 ≡ power_of_x j
round_constant_at = same_below 10 (λ j. get_or ROUND_CONSTANTS j 0) power_of_x round_constants_table

-- the bytes of a word are four multiples of a byte
abbrev is_multiple : ℕ → ℕ → ℕ → ℕ → ℕ → ℕ → Bool
is_multiple a b c d word byte =
    eqb (word_byte word 0) (mul a byte) && (eqb (word_byte word 1) (mul b byte)
    && (eqb (word_byte word 2) (mul c byte) && eqb (word_byte word 3) (mul d byte)))

multiples : (a b c d word byte : ℕ) → is_multiple a b c d word byte ≡ true
    → word_bytes word ≡ mul a byte ∷ mul b byte ∷ mul c byte ∷ mul d byte ∷ []
multiples a b c d word byte all =
    let first = and_parts (eqb (word_byte word 0) (mul a byte)) _ all in
    let second = and_parts (eqb (word_byte word 1) (mul b byte)) _ first.1 in
    let third = and_parts (eqb (word_byte word 2) (mul c byte)) _ second.1 in
    λ i. eqb-true (word_byte word 0) (mul a byte) first.0 i ∷ eqb-true (word_byte word 1) (mul b byte) second.0 i
    ∷ eqb-true (word_byte word 2) (mul c byte) third.0 i ∷ eqb-true (word_byte word 3) (mul d byte) third.1 i ∷ []

mix_first_table : passes_below 256 (λ x. is_multiple 2 1 1 3 (get_or MIX_FIRST x 0) (sub_byte x)) ≡ true
unfolding mul product remainder squares_product field_inverse sub_byte
mix_first_table = refl

pub mix_first_at : (x : ℕ) → x < 256 → word_bytes (get_or MIX_FIRST x 0) ≡ mul 2 (sub_byte x) ∷ mul 1 (sub_byte x) ∷ mul 1 (sub_byte x) ∷ mul 3 (sub_byte x) ∷ []
mix_first_at x lt = multiples 2 1 1 3 (get_or MIX_FIRST x 0) (sub_byte x)
    (passed 256 (λ y. is_multiple 2 1 1 3 (get_or MIX_FIRST y 0) (sub_byte y)) mix_first_table x lt)

mix_second_table : passes_below 256 (λ x. is_multiple 3 2 1 1 (get_or MIX_SECOND x 0) (sub_byte x)) ≡ true
unfolding mul product remainder squares_product field_inverse sub_byte
mix_second_table = refl

pub mix_second_at : (x : ℕ) → x < 256 → word_bytes (get_or MIX_SECOND x 0) ≡ mul 3 (sub_byte x) ∷ mul 2 (sub_byte x) ∷ mul 1 (sub_byte x) ∷ mul 1 (sub_byte x) ∷ []
mix_second_at x lt = multiples 3 2 1 1 (get_or MIX_SECOND x 0) (sub_byte x)
    (passed 256 (λ y. is_multiple 3 2 1 1 (get_or MIX_SECOND y 0) (sub_byte y)) mix_second_table x lt)

mix_third_table : passes_below 256 (λ x. is_multiple 1 3 2 1 (get_or MIX_THIRD x 0) (sub_byte x)) ≡ true
unfolding mul product remainder squares_product field_inverse sub_byte
mix_third_table = refl

pub mix_third_at : (x : ℕ) → x < 256 → word_bytes (get_or MIX_THIRD x 0) ≡ mul 1 (sub_byte x) ∷ mul 3 (sub_byte x) ∷ mul 2 (sub_byte x) ∷ mul 1 (sub_byte x) ∷ []
mix_third_at x lt = multiples 1 3 2 1 (get_or MIX_THIRD x 0) (sub_byte x)
    (passed 256 (λ y. is_multiple 1 3 2 1 (get_or MIX_THIRD y 0) (sub_byte y)) mix_third_table x lt)

mix_fourth_table : passes_below 256 (λ x. is_multiple 1 1 3 2 (get_or MIX_FOURTH x 0) (sub_byte x)) ≡ true
unfolding mul product remainder squares_product field_inverse sub_byte
mix_fourth_table = refl

pub mix_fourth_at : (x : ℕ) → x < 256 → word_bytes (get_or MIX_FOURTH x 0) ≡ mul 1 (sub_byte x) ∷ mul 1 (sub_byte x) ∷ mul 3 (sub_byte x) ∷ mul 2 (sub_byte x) ∷ []
mix_fourth_at x lt = multiples 1 1 3 2 (get_or MIX_FOURTH x 0) (sub_byte x)
    (passed 256 (λ y. is_multiple 1 1 3 2 (get_or MIX_FOURTH y 0) (sub_byte y)) mix_fourth_table x lt)

inverse_mix_first_table : passes_below 256 (λ x. is_multiple 14 9 13 11 (get_or INVERSE_MIX_FIRST x 0) (inverse_sub_byte x)) ≡ true
unfolding mul product remainder squares_product field_inverse inverse_sub_byte
inverse_mix_first_table = refl

pub inverse_mix_first_at : (x : ℕ) → x < 256 → word_bytes (get_or INVERSE_MIX_FIRST x 0) ≡ mul 14 (inverse_sub_byte x) ∷ mul 9 (inverse_sub_byte x) ∷ mul 13 (inverse_sub_byte x) ∷ mul 11 (inverse_sub_byte x) ∷ []
inverse_mix_first_at x lt = multiples 14 9 13 11 (get_or INVERSE_MIX_FIRST x 0) (inverse_sub_byte x)
    (passed 256 (λ y. is_multiple 14 9 13 11 (get_or INVERSE_MIX_FIRST y 0) (inverse_sub_byte y)) inverse_mix_first_table x lt)

inverse_mix_second_table : passes_below 256 (λ x. is_multiple 11 14 9 13 (get_or INVERSE_MIX_SECOND x 0) (inverse_sub_byte x)) ≡ true
unfolding mul product remainder squares_product field_inverse inverse_sub_byte
inverse_mix_second_table = refl

pub inverse_mix_second_at : (x : ℕ) → x < 256 → word_bytes (get_or INVERSE_MIX_SECOND x 0) ≡ mul 11 (inverse_sub_byte x) ∷ mul 14 (inverse_sub_byte x) ∷ mul 9 (inverse_sub_byte x) ∷ mul 13 (inverse_sub_byte x) ∷ []
inverse_mix_second_at x lt = multiples 11 14 9 13 (get_or INVERSE_MIX_SECOND x 0) (inverse_sub_byte x)
    (passed 256 (λ y. is_multiple 11 14 9 13 (get_or INVERSE_MIX_SECOND y 0) (inverse_sub_byte y)) inverse_mix_second_table x lt)

inverse_mix_third_table : passes_below 256 (λ x. is_multiple 13 11 14 9 (get_or INVERSE_MIX_THIRD x 0) (inverse_sub_byte x)) ≡ true
unfolding mul product remainder squares_product field_inverse inverse_sub_byte
inverse_mix_third_table = refl

pub inverse_mix_third_at : (x : ℕ) → x < 256 → word_bytes (get_or INVERSE_MIX_THIRD x 0) ≡ mul 13 (inverse_sub_byte x) ∷ mul 11 (inverse_sub_byte x) ∷ mul 14 (inverse_sub_byte x) ∷ mul 9 (inverse_sub_byte x) ∷ []
inverse_mix_third_at x lt = multiples 13 11 14 9 (get_or INVERSE_MIX_THIRD x 0) (inverse_sub_byte x)
    (passed 256 (λ y. is_multiple 13 11 14 9 (get_or INVERSE_MIX_THIRD y 0) (inverse_sub_byte y)) inverse_mix_third_table x lt)

inverse_mix_fourth_table : passes_below 256 (λ x. is_multiple 9 13 11 14 (get_or INVERSE_MIX_FOURTH x 0) (inverse_sub_byte x)) ≡ true
unfolding mul product remainder squares_product field_inverse inverse_sub_byte
inverse_mix_fourth_table = refl

pub inverse_mix_fourth_at : (x : ℕ) → x < 256 → word_bytes (get_or INVERSE_MIX_FOURTH x 0) ≡ mul 9 (inverse_sub_byte x) ∷ mul 13 (inverse_sub_byte x) ∷ mul 11 (inverse_sub_byte x) ∷ mul 14 (inverse_sub_byte x) ∷ []
inverse_mix_fourth_at x lt = multiples 9 13 11 14 (get_or INVERSE_MIX_FOURTH x 0) (inverse_sub_byte x)
    (passed 256 (λ y. is_multiple 9 13 11 14 (get_or INVERSE_MIX_FOURTH y 0) (inverse_sub_byte y)) inverse_mix_fourth_table x lt)
