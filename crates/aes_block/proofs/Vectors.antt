-- The examples of FIPS 197 (2001, updated 2023). They fail to check if a step of the definitions is wrong.
use Rattle.std.proofs.Common.{◌≡◌, refl}
use Rattle.aes_block.specs.Field.{product, remainder, mul, squares_product, field_inverse, power_of_x}
use Rattle.aes_block.specs.Aes.{sub_byte, xor_bytes, shift_rows, mix_columns, words_of_bytes, expanded_words, key_expansion, round_key, full_rounds, cipher_with, cipher}
use Rattle.aes_block.specs.inside.Examples.{example_block, example_key_128, example_cipher_128, example_key_256, example_cipher_256}

-- 57 times 83 is c1 (4.2)
pub mul_example : mul 0x57 0x83 ≡ 0xc1
unfolding mul product remainder
mul_example = refl

-- the substitution of 53 is ed (5.1.1)
pub sub_byte_example : sub_byte 0x53 ≡ 0xed
unfolding mul product remainder squares_product field_inverse sub_byte
sub_byte_example = refl

-- the cipher of appendix C.1
pub cipher_128 : cipher example_key_128 example_block ≡ example_cipher_128
unfolding mul product remainder squares_product field_inverse power_of_x sub_byte xor_bytes shift_rows mix_columns words_of_bytes expanded_words key_expansion round_key full_rounds cipher_with cipher
cipher_128 = refl

-- the cipher of appendix C.3
pub cipher_256 : cipher example_key_256 example_block ≡ example_cipher_256
unfolding mul product remainder squares_product field_inverse power_of_x sub_byte xor_bytes shift_rows mix_columns words_of_bytes expanded_words key_expansion round_key full_rounds cipher_with cipher
cipher_256 = refl
