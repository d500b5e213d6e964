-- Fragments of a stream, each enciphered with its position, so that equal blocks at different positions have different
-- ciphers. A block is 16 bytes, and a fragment is 16 blocks. Blocks are numbered over the whole stream, from 0. The
-- format is defined by this project; the block cipher is AES (FIPS 197, 2001, updated 2023).
use Rattle.std.specs.Prelude.{ℕ, zero, suc, ◌+◌, ◌*◌, List, [], ◌++◌, take, drop}
use Rattle.std.specs.Int.{w128, to_be_bytes}
use Rattle.aes_block.specs.Aes.{cipher, inverse_cipher, xor_bytes}

-- the mask of a block: its number in 16 bytes, big-endian
abbrev pub block_mask : ℕ → List ℕ
block_mask number = to_be_bytes w128 number

-- the enciphered block with a number: the cipher of the exclusive or of the plain block and the mask
unfoldable pub locked_block : List ℕ → ℕ → List ℕ → List ℕ
locked_block key number plain = cipher key (xor_bytes plain (block_mask number))

-- the deciphered block with a number: the exclusive or of the block's inverse cipher and the mask
unfoldable pub unlocked_block : List ℕ → ℕ → List ℕ → List ℕ
unlocked_block key number bytes = xor_bytes (inverse_cipher key bytes) (block_mask number)

-- the results of a function for n blocks, concatenated; the function gets the number of a block and its bytes, and the
-- number of the first block is given
unfoldable pub each_block : (ℕ → List ℕ → List ℕ) → ℕ → ℕ → List ℕ → List ℕ
each_block f number zero bytes = []
each_block f number (suc n) bytes =
    f number (take 16 bytes) ++ each_block f (number + 1) n (drop 16 bytes)

-- the enciphered fragment with an index: its 16 blocks are enciphered with the numbers from 16 * index on
abbrev pub locked_fragment : List ℕ → ℕ → List ℕ → List ℕ
locked_fragment key index bytes = each_block (locked_block key) (16 * index) 16 bytes

-- the deciphered fragment with an index: its 16 blocks are deciphered with the same numbers
abbrev pub unlocked_fragment : List ℕ → ℕ → List ℕ → List ℕ
unlocked_fragment key index bytes = each_block (unlocked_block key) (16 * index) 16 bytes
