-- Enciphering and deciphering undo each other, block by block, and different numbers have different masks.
use Rattle.std.proofs.Common.{◌≡◌, ◌≢◌, ℕ, zero, suc, ◌+◌, ◌*◌, ◌/◌, ◌%◌, ◌^◌, ◌<◌, List, [], ◌∷◌, ◌++◌, length, take, drop, get_or, refl, sym, ap, ◌∙◌, arith, pow-suc, length-append}
use Rattle.std.proofs.Math.Nat.{div-div-eq-div-mul}
use Rattle.std.proofs.lemmas.List.{take_all, drop_all, take-append-le, drop-append-le, length-take-le, length-drop, take-append-drop, nil_from_length}
use lib.Bits.{xor_comm}
use Rattle.std.specs.Int.{byte_at, bytes_high_first}
use Rattle.aes_block.specs.Aes.{AreBytes, cipher, inverse_cipher, xor_bytes}
use Rattle.aes_block.proofs.KeyStates.{AllBytes_from_each, AreBytes-IsState, IsState-AreBytes, AreBytes-cipher, AreBytes-inverse_cipher, deciphered, enciphered}
use Rattle.aes_block.proofs.States.{AllBytes, AllBytes-append, IsState, IsState-add_round_key, add_round_key_undone, byte_lt}
use Rattle.position_cipher.specs.Fragments.{block_mask, each_block, locked_block, locked_fragment, unlocked_block, unlocked_fragment}

-- ---- the masks

low_byte : (n : ℕ) → n % 256 < 256
low_byte n = omega arith

-- a mask is sixteen bytes
IsState-block_mask : (number : ℕ) → IsState (block_mask number)
IsState-block_mask number = record {
  size = refl;
  bytes = (low_byte _, (low_byte _, (low_byte _, (low_byte _, (low_byte _, (low_byte _, (low_byte _, (low_byte _, (low_byte _, (low_byte _, (low_byte _, (low_byte _, (low_byte _, (low_byte _, (low_byte _, (low_byte _, tt))))))))))))))));
}

byte_of : (k n : ℕ) → byte_at k n ≡ n / 256 ^ k % 256
byte_of zero n = let whole : n / 1 ≡ n = omega arith in ap (λ (x : ℕ). x % 256) (sym whole)
byte_of (suc k) n = refl

-- n / p is its lowest byte plus 256 times the rest
byte_and_above : (n p : ℕ) → n / p ≡ n / p % 256 + n / (p * 256) * 256
byte_and_above n p = omega (arith, div-div-eq-div-mul n p 256)

-- two numbers are equal where their k lowest bytes are, and the parts above these
same_from_bytes : (k m n : ℕ) → bytes_high_first k m ≡ bytes_high_first k n → m / 256 ^ k ≡ n / 256 ^ k → m ≡ n
same_from_bytes zero m n bytes above = omega (arith, above)
same_from_bytes (suc k) m n bytes above =
    let p : ℕ = 256 ^ k in
    let here : m / p % 256 ≡ n / p % 256 =
    sym (byte_of k m) ∙ ap (λ (l : List ℕ). get_or l 0 0) bytes ∙ byte_of k n in
    let next : m / (p * 256) ≡ n / (p * 256) =
    sym (ap (λ (x : ℕ). m / x) (pow-suc 256 k)) ∙ above ∙ ap (λ (x : ℕ). n / x) (pow-suc 256 k) in
    same_from_bytes k m n (ap (drop 1) bytes)
    (byte_and_above m p ∙ (λ i. here i + next i * 256) ∙ sym (byte_and_above n p))

-- different numbers below 2^128 have different masks
pub masks_differ : (m n : ℕ) → m < 2 ^ 128 → n < 2 ^ 128 → m ≢ n → block_mask m ≢ block_mask n
masks_differ m n small also other same =
    let none : m / 256 ^ 16 ≡ 0 = omega (arith, small) in
    let none_either : n / 256 ^ 16 ≡ 0 = omega (arith, also) in
    other (same_from_bytes 16 m n same (none ∙ sym none_either))

-- ---- one block

module _ (key : List ℕ) (is_key : AreBytes 16 key) (number : ℕ) (block : List ℕ) (is : IsState block) where
  mask : List ℕ
  mask = block_mask number

  sum : IsState (xor_bytes block (block_mask number))
  sum = IsState-add_round_key block (block_mask number) is (IsState-block_mask number)

  found : IsState (inverse_cipher key block)
  found = IsState-AreBytes (inverse_cipher key block) (AreBytes-inverse_cipher key block is_key (AreBytes-IsState block is))

  -- a locked block is a block
  IsState-locked_block : IsState (locked_block key number block)
  unfolding locked_block
  IsState-locked_block =
      IsState-AreBytes (cipher key (xor_bytes block (block_mask number)))
      (AreBytes-cipher key (xor_bytes block (block_mask number)) is_key (AreBytes-IsState (xor_bytes block (block_mask number)) sum))

  -- an unlocked block is a block
  IsState-unlocked_block : IsState (unlocked_block key number block)
  unfolding unlocked_block
  IsState-unlocked_block = IsState-add_round_key (inverse_cipher key block) (block_mask number) found (IsState-block_mask number)

  -- deciphering an enciphered block gives the block
  unlocked-locked_block : unlocked_block key number (locked_block key number block) ≡ block
  unfolding locked_block unlocked_block
  unlocked-locked_block =
      ap (λ (b : List ℕ). xor_bytes b (block_mask number))
      (deciphered key (xor_bytes block (block_mask number)) is_key (AreBytes-IsState (xor_bytes block (block_mask number)) sum))
      ∙ add_round_key_undone block (block_mask number) is (IsState-block_mask number)

  -- enciphering a deciphered block gives the block
  locked-unlocked_block : locked_block key number (unlocked_block key number block) ≡ block
  unfolding locked_block unlocked_block
  locked-unlocked_block =
      ap (cipher key) (add_round_key_undone (inverse_cipher key block) (block_mask number) found (IsState-block_mask number))
      ∙ enciphered key block is_key (AreBytes-IsState block is)

-- ---- one block at two numbers

xor_bytes-comm : (xs ys : List ℕ) → length xs ≡ length ys → xor_bytes xs ys ≡ xor_bytes ys xs
unfolding xor_bytes
xor_bytes-comm [] [] same = refl
xor_bytes-comm [] (y ∷ ys) same = absurd (omega arith)
xor_bytes-comm (x ∷ xs) [] same = absurd (omega arith)
xor_bytes-comm (x ∷ xs) (y ∷ ys) same = λ i. xor_comm x y i ∷ xor_bytes-comm xs ys (omega arith) i

-- the mask is the exclusive or of the masked block and the block
mask_of_sum : (block mask : List ℕ) → IsState block → IsState mask → xor_bytes (xor_bytes block mask) block ≡ mask
mask_of_sum block mask is also =
    ap (λ (b : List ℕ). xor_bytes b block) (xor_bytes-comm block mask (is.size ∙ sym also.size))
    ∙ add_round_key_undone mask block also is

-- a block that is enciphered with different numbers below 2^128 gives different blocks
pub locked_blocks_differ : (key block : List ℕ) (m n : ℕ) → AreBytes 16 key → AreBytes 16 block → m < 2 ^ 128 → n < 2 ^ 128 → m ≢ n
    → locked_block key m block ≢ locked_block key n block
unfolding locked_block
locked_blocks_differ key block m n is_key is_block small also other same =
    let is : IsState block = IsState-AreBytes block is_block in
    let sum : (k : ℕ) → AreBytes 16 (xor_bytes block (block_mask k)) =
    λ k. AreBytes-IsState (xor_bytes block (block_mask k)) (IsState-add_round_key block (block_mask k) is (IsState-block_mask k)) in
    let sums : xor_bytes block (block_mask m) ≡ xor_bytes block (block_mask n) =
    sym (deciphered key (xor_bytes block (block_mask m)) is_key (sum m))
    ∙ ap (inverse_cipher key) same
    ∙ deciphered key (xor_bytes block (block_mask n)) is_key (sum n) in
    masks_differ m n small also other
    (sym (mask_of_sum block (block_mask m) is (IsState-block_mask m))
    ∙ ap (λ (b : List ℕ). xor_bytes b block) sums
    ∙ mask_of_sum block (block_mask n) is (IsState-block_mask n))

-- ---- block by block

AllBytes-take : (n : ℕ) (xs : List ℕ) → AllBytes xs → AllBytes (take n xs)
AllBytes-take zero xs all = tt
AllBytes-take (suc n) [] all = tt
AllBytes-take (suc n) (x ∷ xs) all = (all.0, AllBytes-take n xs all.1)

AllBytes-drop : (n : ℕ) (xs : List ℕ) → AllBytes xs → AllBytes (drop n xs)
AllBytes-drop zero xs all = all
AllBytes-drop (suc n) [] all = tt
AllBytes-drop (suc n) (x ∷ xs) all = AllBytes-drop n xs all.1

-- the function maps blocks to blocks
abbrev GivesBlocks : (ℕ → List ℕ → List ℕ) → Type 0
GivesBlocks f = (number : ℕ) (block : List ℕ) → IsState block → IsState (f number block)

IsState-first : (n : ℕ) (xs : List ℕ) → length xs ≡ 16 * suc n → AllBytes xs → IsState (take 16 xs)
IsState-first n xs size all = record {
  size = length-take-le 16 xs (omega arith);
  bytes = AllBytes-take 16 xs all;
}

length-each_block : (f : ℕ → List ℕ → List ℕ) → GivesBlocks f → (number n : ℕ) (xs : List ℕ) → length xs ≡ 16 * n → AllBytes xs
    → length (each_block f number n xs) ≡ 16 * n
unfolding each_block
length-each_block f gives number zero xs size all = refl
length-each_block f gives number (suc n) xs size all =
    let first = gives number (take 16 xs) (IsState-first n xs size all) in
    let rest = length-each_block f gives (number + 1) n (drop 16 xs) (omega (arith, length-drop 16 xs)) (AllBytes-drop 16 xs all) in
    length-append (f number (take 16 xs)) (each_block f (number + 1) n (drop 16 xs)) ∙ omega (arith, first.size, rest)

AllBytes-each_block : (f : ℕ → List ℕ → List ℕ) → GivesBlocks f → (number n : ℕ) (xs : List ℕ) → length xs ≡ 16 * n → AllBytes xs
    → AllBytes (each_block f number n xs)
unfolding each_block
AllBytes-each_block f gives number zero xs size all = tt
AllBytes-each_block f gives number (suc n) xs size all =
    AllBytes-append (f number (take 16 xs)) (each_block f (number + 1) n (drop 16 xs))
    (gives number (take 16 xs) (IsState-first n xs size all)).bytes
    (AllBytes-each_block f gives (number + 1) n (drop 16 xs) (omega (arith, length-drop 16 xs)) (AllBytes-drop 16 xs all))

-- where g undoes f for each block, it does so for a list of blocks
each_block-each_block : (f g : ℕ → List ℕ → List ℕ) → GivesBlocks f
    → ((number : ℕ) (block : List ℕ) → IsState block → g number (f number block) ≡ block)
    → (number n : ℕ) (xs : List ℕ) → length xs ≡ 16 * n → AllBytes xs
    → each_block g number n (each_block f number n xs) ≡ xs
unfolding each_block
each_block-each_block f g gives back number zero xs size all = sym (nil_from_length xs (omega arith))
each_block-each_block f g gives back number (suc n) xs size all =
    let first : IsState (take 16 xs) = IsState-first n xs size all in
    let made : List ℕ = f number (take 16 xs) in
    let rest : List ℕ = each_block f (number + 1) n (drop 16 xs) in
    let is : IsState made = gives number (take 16 xs) first in
    let prefix : take 16 (made ++ rest) ≡ made =
    take-append-le 16 made rest (omega (arith, is.size)) ∙ take_all 16 made (omega (arith, is.size)) in
    let after : drop 16 (made ++ rest) ≡ rest =
    drop-append-le 16 made rest (omega (arith, is.size)) ∙ ap (λ (l : List ℕ). l ++ rest) (drop_all 16 made (omega (arith, is.size))) in
    (λ i. g number (prefix i) ++ each_block g (number + 1) n (after i))
    ∙ (λ i. back number (take 16 xs) first i ++ each_block-each_block f g gives back (number + 1) n (drop 16 xs) (omega (arith, length-drop 16 xs)) (AllBytes-drop 16 xs all) i)
    ∙ take-append-drop 16 xs

-- ---- a fragment

module _ (key bytes : List ℕ) (index : ℕ) (is_key : AreBytes 16 key) (is : AreBytes 256 bytes) where
  all : AllBytes bytes
  all = AllBytes_from_each bytes is.fit

  -- deciphering an enciphered fragment gives the fragment
  pub unlocked-locked_fragment : unlocked_fragment key index (locked_fragment key index bytes) ≡ bytes
  unlocked-locked_fragment =
      each_block-each_block (locked_block key) (unlocked_block key) (IsState-locked_block key is_key) (unlocked-locked_block key is_key)
      (16 * index) 16 bytes is.count all

  -- enciphering a deciphered fragment gives the fragment
  pub locked-unlocked_fragment : locked_fragment key index (unlocked_fragment key index bytes) ≡ bytes
  locked-unlocked_fragment =
      each_block-each_block (unlocked_block key) (locked_block key) (IsState-unlocked_block key is_key) (locked-unlocked_block key is_key)
      (16 * index) 16 bytes is.count all

  -- an enciphered fragment is 256 bytes
  pub AreBytes-locked_fragment : AreBytes 256 (locked_fragment key index bytes)
  AreBytes-locked_fragment = record {
    count = length-each_block (locked_block key) (IsState-locked_block key is_key) (16 * index) 16 bytes is.count all;
    fit = byte_lt (locked_fragment key index bytes)
        (AllBytes-each_block (locked_block key) (IsState-locked_block key is_key) (16 * index) 16 bytes is.count all);
  }

  -- a deciphered fragment is 256 bytes
  pub AreBytes-unlocked_fragment : AreBytes 256 (unlocked_fragment key index bytes)
  AreBytes-unlocked_fragment = record {
    count = length-each_block (unlocked_block key) (IsState-unlocked_block key is_key) (16 * index) 16 bytes is.count all;
    fit = byte_lt (unlocked_fragment key index bytes)
        (AllBytes-each_block (unlocked_block key) (IsState-unlocked_block key is_key) (16 * index) 16 bytes is.count all);
  }
