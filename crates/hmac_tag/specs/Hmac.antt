-- HMAC with SHA-256 as a function on lists of bytes. Section numbers are those of FIPS 198-1 (2008). The comments give
-- its names: B, K0, ipad, opad, text.
use Rattle.std.specs.Prelude.{ℕ, if◌then◌else◌, ◌-◌, nat_eq, nat_lt, List, [], ◌∷◌, ◌++◌, length, replicate, bit_xor}
use Rattle.sha2.specs.Sha256.{sha256}

-- B, the bytes of an input block of the hash (2.3); SHA-256 has 64
abbrev pub block_len : ℕ
block_len = 64

-- ipad, the inner pad: the byte 36 repeated B times (2.3)
abbrev pub inner_pad : List ℕ
inner_pad = replicate block_len 0x36

-- opad, the outer pad: the byte 5C repeated B times (2.3)
abbrev pub outer_pad : List ℕ
outer_pad = replicate block_len 0x5C

-- the exclusive or of two byte strings of the same length (2.3)
abbrev pub exclusive_or : List ℕ → List ℕ → List ℕ
exclusive_or [] ys = []
exclusive_or (x ∷ xs) [] = []
exclusive_or (x ∷ xs) (y ∷ ys) = bit_xor x y ∷ exclusive_or xs ys

-- a string, padded at the end with zeros to B bytes (4, steps 2 and 3)
abbrev pub zero_filled_bytes : List ℕ → List ℕ
zero_filled_bytes bytes = bytes ++ replicate (block_len - length bytes) 0

-- K0, the block of a key. A key of B bytes is its own block (4, step 1). A longer key is replaced by its digest, padded
-- with zeros (step 2), and a shorter key is padded with zeros (step 3).
unfoldable pub block_key : List ℕ → List ℕ
block_key key =
    if nat_eq (length key) block_len then key
    else (if nat_lt block_len (length key) then zero_filled_bytes (sha256 key)
    else zero_filled_bytes key)

-- the tag of a text under a key: H((K0 ⊕ opad) || H((K0 ⊕ ipad) || text)) (4, steps 4 to 9)
unfoldable pub hmac : List ℕ → List ℕ → List ℕ
hmac key text =
    sha256 (exclusive_or (block_key key) outer_pad
    ++ sha256 (exclusive_or (block_key key) inner_pad ++ text))
