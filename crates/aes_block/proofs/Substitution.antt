-- The two substitutions undo each other, and map bytes to bytes.
use Rattle.std.proofs.Common.{◌≡◌, ℕ, ◌<◌, true, refl, eqb, ltb}
use Rattle.aes_block.specs.Field.{product, remainder, mul, squares_product, field_inverse}
use Rattle.aes_block.specs.Aes.{sub_byte, inverse_sub_byte}
use Rattle.aes_block.proofs.Bytes.{passes_below, same_below, bounded_below}

sub_byte_test : passes_below 256 (λ x. ltb (sub_byte x) 256) ≡ true
unfolding mul product remainder squares_product field_inverse sub_byte
sub_byte_test = refl

pub sub_byte-lt : (x : ℕ) → x < 256 → sub_byte x < 256
sub_byte-lt = bounded_below 256 256 sub_byte sub_byte_test

inverse_sub_byte_test : passes_below 256 (λ x. ltb (inverse_sub_byte x) 256) ≡ true
unfolding mul product remainder squares_product field_inverse inverse_sub_byte
inverse_sub_byte_test = refl

pub inverse_sub_byte-lt : (x : ℕ) → x < 256 → inverse_sub_byte x < 256
inverse_sub_byte-lt = bounded_below 256 256 inverse_sub_byte inverse_sub_byte_test

undone_test : passes_below 256 (λ x. eqb (inverse_sub_byte (sub_byte x)) x) ≡ true
unfolding mul product remainder squares_product field_inverse sub_byte inverse_sub_byte
undone_test = refl

pub inverse_sub_byte-sub_byte : (x : ℕ) → x < 256 → inverse_sub_byte (sub_byte x) ≡ x
inverse_sub_byte-sub_byte = same_below 256 (λ x. inverse_sub_byte (sub_byte x)) (λ x. x) undone_test

redone_test : passes_below 256 (λ x. eqb (sub_byte (inverse_sub_byte x)) x) ≡ true
unfolding mul product remainder squares_product field_inverse sub_byte inverse_sub_byte
redone_test = refl

pub sub_byte-inverse_sub_byte : (x : ℕ) → x < 256 → sub_byte (inverse_sub_byte x) ≡ x
sub_byte-inverse_sub_byte = same_below 256 (λ x. sub_byte (inverse_sub_byte x)) (λ x. x) redone_test
