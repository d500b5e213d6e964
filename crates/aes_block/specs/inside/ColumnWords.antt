-- A state as four numbers of 32 bits, one for each column, with row 0 in the highest byte. They are the words of
-- FIPS 197 (2001, updated 2023), 3.5, as this project stores them.
use Rattle.std.specs.Prelude.{ℕ, ◌+◌, ◌*◌, List, ◌++◌, slice_index}
use Rattle.std.specs.Int.{w32, to_be_bytes}
use Rattle.aes_block.specs.Aes.{word_product}

-- the four bytes of a word, big-endian. Defined by this project.
abbrev pub word_bytes : ℕ → List ℕ
word_bytes w = to_be_bytes w32 w

-- byte i of a word, counted from the highest. Defined by this project.
abbrev pub word_byte : ℕ → ℕ → ℕ
word_byte w i = slice_index (word_bytes w) i

-- the block of a state: the bytes of its four words in order. Defined by this project.
abbrev pub block_of_words : List ℕ → List ℕ
block_of_words words =
    word_bytes (slice_index words 0) ++ (word_bytes (slice_index words 1)
    ++ (word_bytes (slice_index words 2) ++ word_bytes (slice_index words 3)))

-- the round key as a block: the bytes of the four words from 4 * round on (5.1.4)
abbrev pub block_of_round : List ℕ → ℕ → List ℕ
block_of_round words round =
    word_bytes (slice_index words (4 * round)) ++ (word_bytes (slice_index words (4 * round + 1))
    ++ (word_bytes (slice_index words (4 * round + 2))
    ++ word_bytes (slice_index words (4 * round + 3))))

-- a word, multiplied by the matrix of a fixed word (4.3)
abbrev pub times_word : List ℕ → ℕ → List ℕ
times_word a w = word_product a (word_byte w 0) (word_byte w 1) (word_byte w 2) (word_byte w 3)
