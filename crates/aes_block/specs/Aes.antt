-- The block cipher of FIPS 197 (2001, updated 2023) and its inverse. A key is the list of its 16, 24 or 32 bytes, and
-- its length determines the number of rounds. Section numbers are those of that edition.
use Rattle.std.specs.Prelude.{◌≡◌, ◌<◌, ℕ, zero, suc, ◌+◌, ◌-◌, ◌*◌, ◌/◌, ◌%◌, ◌==◌, ◌&&◌, nat_lt, if◌then◌else◌, List, [], ◌∷◌, ◌++◌, length, map, bit_xor, slice_index, slice_index_or}
use Rattle.aes_block.specs.Field.{coefficient, mul, field_inverse, power_of_x}

-- The list consists of n numbers, each below 256 (3.3).
pub record AreBytes (n : ℕ) (bytes : List ℕ) : Type 0 where
  pub count : length bytes ≡ n
  pub fit : (k : ℕ) → slice_index bytes k < 256

-- The substitution

-- the byte whose bit i is f i (3.2)
abbrev pub byte_of_bits : (ℕ → ℕ) → ℕ
byte_of_bits f = f 0 + 2 * f 1 + 4 * f 2 + 8 * f 3 + 16 * f 4 + 32 * f 5 + 64 * f 6 + 128 * f 7

-- bit i of a byte, where i is counted modulo 8 (5.1.1)
abbrev pub bit : ℕ → ℕ → ℕ
bit b i = coefficient b (i % 8)

-- the affine map: each bit of the result is the sum modulo 2 of five bits of the byte and one bit of the constant 63
-- (5.1.1)
abbrev pub affine_map : ℕ → ℕ
affine_map b = byte_of_bits (λ i.
    (bit b i + bit b (i + 4) + bit b (i + 5) + bit b (i + 6) + bit b (i + 7) + bit 0x63 i) % 2)

-- the inverse of the affine map: each bit of the result is the sum modulo 2 of three bits of the byte and one bit of
-- the constant 05. Defined by this project; the standard gives the inverse substitution as a table (5.3.2).
abbrev pub inverse_affine_map : ℕ → ℕ
inverse_affine_map b = byte_of_bits (λ i.
    (bit b (i + 2) + bit b (i + 5) + bit b (i + 7) + bit 0x05 i) % 2)

-- SBox(), the substitution of a byte: the inverse in the field, followed by the affine map (5.1.1)
unfoldable pub sub_byte : ℕ → ℕ
sub_byte b = affine_map (field_inverse b)

-- InvSBox(), the inverse substitution of a byte: the inverse of the affine map, followed by the inverse in the field
-- (5.3.2)
unfoldable pub inverse_sub_byte : ℕ → ℕ
inverse_sub_byte b = field_inverse (inverse_affine_map b)

-- The state

-- the byte in row r and column c of a state; a state is the list of its 16 bytes, column by column (3.4)
abbrev pub cell : List ℕ → ℕ → ℕ → ℕ
cell s r c = slice_index s (r + 4 * c)

-- column c, whose byte in row r is f r c (3.5)
abbrev pub column : (ℕ → ℕ → ℕ) → ℕ → List ℕ
column f c = f 0 c ∷ f 1 c ∷ f 2 c ∷ f 3 c ∷ []

-- the state whose byte in row r and column c is f r c (3.4)
abbrev pub state : (ℕ → ℕ → ℕ) → List ℕ
state f = column f 0 ++ (column f 1 ++ (column f 2 ++ column f 3))

-- the sum of two lists, byte by byte: their exclusive or (4.1)
unfoldable pub xor_bytes : List ℕ → List ℕ → List ℕ
xor_bytes [] ys = []
xor_bytes (x ∷ xs) [] = []
xor_bytes (x ∷ xs) (y ∷ ys) = bit_xor x y ∷ xor_bytes xs ys

-- SubBytes(): each byte of the state is substituted (5.1.1)
abbrev pub sub_bytes : List ℕ → List ℕ
sub_bytes s = map sub_byte s

-- ShiftRows(): row r of the state is rotated to the left by r bytes (5.1.2)
unfoldable pub shift_rows : List ℕ → List ℕ
shift_rows s = state (λ r c. cell s r ((c + r) % 4))

-- the sum of four bytes (4.1)
abbrev pub xor4 : ℕ → ℕ → ℕ → ℕ → ℕ
xor4 a b c d = bit_xor (bit_xor (bit_xor a b) c) d

-- byte i of a fixed word of four bytes, where i is counted modulo 4 (4.3)
abbrev pub word_entry : List ℕ → ℕ → ℕ
word_entry a i = slice_index a (i % 4)

-- byte r of the product of the word b0 to b3 by the matrix of a fixed word (4.3)
abbrev pub word_product_row : List ℕ → ℕ → ℕ → ℕ → ℕ → ℕ → ℕ
word_product_row a r b0 b1 b2 b3 =
    xor4 (mul (word_entry a r) b0) (mul (word_entry a (r + 3)) b1)
    (mul (word_entry a (r + 2)) b2) (mul (word_entry a (r + 1)) b3)

-- the product of the word b0 to b3 by the matrix of a fixed word (4.3)
abbrev pub word_product : List ℕ → ℕ → ℕ → ℕ → ℕ → List ℕ
word_product a b0 b1 b2 b3 =
    word_product_row a 0 b0 b1 b2 b3 ∷ word_product_row a 1 b0 b1 b2 b3
    ∷ word_product_row a 2 b0 b1 b2 b3 ∷ word_product_row a 3 b0 b1 b2 b3 ∷ []

-- column c of a state, multiplied by the matrix of a fixed word (4.3)
abbrev pub times_column : List ℕ → List ℕ → ℕ → List ℕ
times_column a s c = word_product a (cell s 0 c) (cell s 1 c) (cell s 2 c) (cell s 3 c)

-- a state, each column multiplied by the matrix of a fixed word (4.3)
abbrev pub times_columns : List ℕ → List ℕ → List ℕ
times_columns a s =
    times_column a s 0 ++ (times_column a s 1 ++ (times_column a s 2 ++ times_column a s 3))

-- the fixed word of MixColumns(): 02, 01, 01, 03 (5.1.3)
abbrev pub mix_word : List ℕ
mix_word = 0x02 ∷ 0x01 ∷ 0x01 ∷ 0x03 ∷ []

-- the fixed word of InvMixColumns(): 0e, 09, 0d, 0b (5.3.3)
abbrev pub inverse_mix_word : List ℕ
inverse_mix_word = 0x0e ∷ 0x09 ∷ 0x0d ∷ 0x0b ∷ []

-- MixColumns(): each column of the state is multiplied by the matrix of its fixed word (5.1.3)
unfoldable pub mix_columns : List ℕ → List ℕ
mix_columns s = times_columns mix_word s

-- AddRoundKey(): the round key is added to the state (5.1.4)
abbrev pub add_round_key : List ℕ → List ℕ → List ℕ
add_round_key s key = xor_bytes s key

-- InvShiftRows(): row r of the state is rotated to the right by r bytes (5.3.1)
unfoldable pub inverse_shift_rows : List ℕ → List ℕ
inverse_shift_rows s = state (λ r c. cell s r ((c + (4 - r)) % 4))

-- InvSubBytes(): each byte of the state is replaced by its inverse substitution (5.3.2)
abbrev pub inverse_sub_bytes : List ℕ → List ℕ
inverse_sub_bytes s = map inverse_sub_byte s

-- InvMixColumns(): each column of the state is multiplied by the matrix of its fixed word (5.3.3)
unfoldable pub inverse_mix_columns : List ℕ → List ℕ
inverse_mix_columns s = times_columns inverse_mix_word s

-- The round keys

-- Nk, the number of words in a key (5)
abbrev pub key_words : List ℕ → ℕ
key_words key = length key / 4

-- Nr, the number of rounds (5)
abbrev pub round_count : List ℕ → ℕ
round_count key = key_words key + 6

-- word i of a list of words, each of four bytes (3.5)
abbrev pub word : List (List ℕ) → ℕ → List ℕ
word words i = slice_index_or words i []

-- word i of a list of bytes: its four bytes from 4 * i on (3.5)
abbrev pub word_of_bytes : List ℕ → ℕ → List ℕ
word_of_bytes bytes i = column (cell bytes) i

-- the first n words of a list of bytes (3.5)
unfoldable pub words_of_bytes : List ℕ → ℕ → List (List ℕ)
words_of_bytes bytes zero = []
words_of_bytes bytes (suc n) = words_of_bytes bytes n ++ word_of_bytes bytes n ∷ []

-- RotWord(): the word rotated to the left by one byte (5.2)
abbrev pub rot_word : List ℕ → List ℕ
rot_word [] = []
rot_word (b ∷ bs) = bs ++ b ∷ []

-- SubWord(): each byte of a word is substituted (5.2)
abbrev pub sub_word : List ℕ → List ℕ
sub_word w = map sub_byte w

-- Rcon[j], the constant of round j: x^(j-1) in the field, followed by 00, 00, 00 (5.2)
abbrev pub rcon : ℕ → List ℕ
rcon j = power_of_x (j - 1) ∷ 0x00 ∷ 0x00 ∷ 0x00 ∷ []

-- what is added to word i - nk to give word i, computed from word i - 1; nk is Nk (5.2)
abbrev pub expansion_step : ℕ → ℕ → List ℕ → List ℕ
expansion_step nk i before =
    if i % nk == 0 then xor_bytes (sub_word (rot_word before)) (rcon (i / nk))
    else (if nat_lt 6 nk && (i % nk == 4) then sub_word before else before)

-- word i, computed from the words before it: word i - nk plus the result of `expansion_step`; nk is Nk (5.2)
abbrev pub next_word : ℕ → List (List ℕ) → ℕ → List ℕ
next_word nk words i = xor_bytes (word words (i - nk)) (expansion_step nk i (word words (i - 1)))

-- the words of a key, followed by n further words (5.2)
unfoldable pub expanded_words : List ℕ → ℕ → List (List ℕ)
expanded_words key zero = words_of_bytes key (key_words key)
expanded_words key (suc n) =
    expanded_words key n
    ++ next_word (key_words key) (expanded_words key n) (key_words key + n) ∷ []

-- KeyExpansion(): the 4 * (Nr + 1) words w of a key (5.2)
unfoldable pub key_expansion : List ℕ → List (List ℕ)
key_expansion key = expanded_words key (4 * (round_count key + 1) - key_words key)

-- the round key: the words of the expansion from 4 * round to 4 * round + 3 (5.1.4)
unfoldable pub round_key : List (List ℕ) → ℕ → List ℕ
round_key words round =
    word words (4 * round) ++ (word words (4 * round + 1)
    ++ (word words (4 * round + 2) ++ word words (4 * round + 3)))

-- The cipher and its inverse

-- the state after the first round key and n full rounds (5.1)
unfoldable pub full_rounds : List (List ℕ) → List ℕ → ℕ → List ℕ
full_rounds words block zero = add_round_key block (round_key words 0)
full_rounds words block (suc n) =
    add_round_key (mix_columns (shift_rows (sub_bytes (full_rounds words block n))))
    (round_key words (suc n))

-- the cipher of a block under a list of words, with a number of rounds; the last round doesn't mix columns (5.1)
unfoldable pub cipher_with : List (List ℕ) → ℕ → List ℕ → List ℕ
cipher_with words rounds block =
    add_round_key (shift_rows (sub_bytes (full_rounds words block (rounds - 1))))
    (round_key words rounds)

-- Cipher(): the cipher of a block under a key (5.1)
unfoldable pub cipher : List ℕ → List ℕ → List ℕ
cipher key block = cipher_with (key_expansion key) (round_count key) block

-- the state after the inverse's full rounds, from round n down to round 1 (5.3)
unfoldable pub inverse_rounds : List (List ℕ) → List ℕ → ℕ → List ℕ
inverse_rounds words s zero = s
inverse_rounds words s (suc n) = inverse_rounds words
    (inverse_mix_columns (add_round_key (inverse_sub_bytes (inverse_shift_rows s))
    (round_key words (suc n)))) n

-- the inverse cipher of a block under a list of words, with a number of rounds (5.3)
unfoldable pub inverse_cipher_with : List (List ℕ) → ℕ → List ℕ → List ℕ
inverse_cipher_with words rounds block =
    add_round_key (inverse_sub_bytes (inverse_shift_rows
    (inverse_rounds words (add_round_key block (round_key words rounds)) (rounds - 1))))
    (round_key words 0)

-- InvCipher(): the inverse cipher of a block under a key (5.3)
unfoldable pub inverse_cipher : List ℕ → List ℕ → List ℕ
inverse_cipher key block = inverse_cipher_with (key_expansion key) (round_count key) block
