-- The enciphered stream has the length of the plain one, and its fragments are enciphered one by one.
use Rattle.std.proofs.Common.{◌≡◌, ℕ, zero, suc, ◌+◌, ◌-◌, ◌*◌, ◌<◌, ◌≤◌, List, [], ◌∷◌, ◌++◌, length, take, drop, get_or, replicate, refl, sym, ap, ◌∙◌, arith, lit<, append_assoc, length-append}
use Rattle.std.specs.Simd.{first_chunks}
use Rattle.std.proofs.lemmas.List.{take_at, drop_at, take-take, drop-take, drop-drop}
use Rattle.aes_block.specs.Aes.{AreBytes, cipher, cipher_with, xor_bytes, shift_rows}
use Rattle.aes_block.proofs.KeyStates.{AreBytes-cipher}
use Rattle.position_cipher.specs.Fragments.{block_mask, each_block, locked_block}
use Rattle.merkle_chunks.proofs.PieceLemmas.{get_or-first_chunks}

-- ---- an enciphered block has 16 bytes, whatever the plain block

length-xor_bytes-same : (xs zs ys : List ℕ) → length xs ≡ length zs → length (xor_bytes xs ys) ≡ length (xor_bytes zs ys)
unfolding xor_bytes
length-xor_bytes-same [] [] ys same = refl
length-xor_bytes-same [] (z ∷ zs) ys same = absurd (omega arith)
length-xor_bytes-same (x ∷ xs) [] ys same = absurd (omega arith)
length-xor_bytes-same (x ∷ xs) (z ∷ zs) [] same = refl
length-xor_bytes-same (x ∷ xs) (z ∷ zs) (y ∷ ys) same = ap (λ (n : ℕ). suc n) (length-xor_bytes-same xs zs ys (omega arith))

-- the last round writes 16 bytes
length-shift_rows : (s t : List ℕ) → length (shift_rows s) ≡ length (shift_rows t)
unfolding shift_rows
length-shift_rows s t = refl

zeros_fit : (n k : ℕ) → get_or (replicate n 0) k 0 < 256
zeros_fit zero k = lit< tt
zeros_fit (suc n) zero = lit< tt
zeros_fit (suc n) (suc k) = zeros_fit n k

zero_block : List ℕ
zero_block = replicate 16 0

zero_bytes : AreBytes 16 zero_block
unfolding zero_block
zero_bytes = record { count = refl; fit = zeros_fit 16 }

pub length-cipher : (key block : List ℕ) → AreBytes 16 key → length (cipher key block) ≡ 16
unfolding cipher cipher_with
length-cipher key block is_key =
    length-xor_bytes-same _ _ _ (length-shift_rows _ _) ∙ (AreBytes-cipher key zero_block is_key zero_bytes).count

pub length-locked_block : (key block : List ℕ) (number : ℕ) → AreBytes 16 key → length (locked_block key number block) ≡ 16
unfolding locked_block
length-locked_block key block number is_key = length-cipher key (xor_bytes block (block_mask number)) is_key

-- ---- block after block

module _ (f : ℕ → List ℕ → List ℕ) (gives : (number : ℕ) (block : List ℕ) → length (f number block) ≡ 16) where
  pub length-each_block : (number n : ℕ) (bytes : List ℕ) → length (each_block f number n bytes) ≡ 16 * n
  unfolding each_block
  length-each_block number zero bytes = refl
  length-each_block number (suc n) bytes =
      length-append (f number (take 16 bytes)) (each_block f (number + 1) n (drop 16 bytes))
      ∙ omega (arith, gives number (take 16 bytes), length-each_block (number + 1) n (drop 16 bytes))

  -- the first blocks, and those after them
  pub each_block-split : (number a b : ℕ) (bytes : List ℕ) → each_block f number (a + b) bytes ≡ each_block f number a bytes ++ each_block f (number + a) b (drop (16 * a) bytes)
  unfolding each_block
  each_block-split number zero b bytes =
      let none : 0 + b ≡ b = omega arith in
      let here : number ≡ number + 0 = omega arith in
      let start : 0 ≡ 16 * 0 = omega arith in
      ap (λ (n : ℕ). each_block f number n bytes) none ∙ (λ i. each_block f (here i) b (drop (start i) bytes))
  each_block-split number (suc a) b bytes =
      let more : suc a + b ≡ suc (a + b) = omega arith in
      let there : number + 1 + a ≡ number + suc a = omega arith in
      let past : 16 + 16 * a ≡ 16 * suc a = omega arith in
      ap (λ (n : ℕ). each_block f number n bytes) more
      ∙ ap (λ (l : List ℕ). f number (take 16 bytes) ++ l) (each_block-split (number + 1) a b (drop 16 bytes))
      ∙ sym (append_assoc (f number (take 16 bytes)) (each_block f (number + 1) a (drop 16 bytes)) (each_block f (number + 1 + a) b (drop (16 * a) (drop 16 bytes))))
      ∙ (λ i. each_block f number (suc a) bytes ++ each_block f (there i) b ((drop-drop (16 * a) 16 bytes ∙ ap (λ (k : ℕ). drop k bytes) past) i))

  -- blocks depend on their own bytes alone
  pub each_block-prefix : (number n m : ℕ) (bytes : List ℕ) → 16 * n ≤ m → each_block f number n (take m bytes) ≡ each_block f number n bytes
  unfolding each_block
  each_block-prefix number zero m bytes fits = refl
  each_block-prefix number (suc n) m bytes fits =
      let split : 16 + (m - 16) ≡ m = omega arith in
      (λ i. f number (take-take 16 m bytes (omega arith) i)
      ++ each_block f (number + 1) n ((ap (λ (k : ℕ). drop 16 (take k bytes)) (sym split) ∙ drop-take 16 (m - 16) bytes) i))
      ∙ ap (λ (l : List ℕ). f number (take 16 bytes) ++ l) (each_block-prefix (number + 1) n (m - 16) (drop 16 bytes) (omega arith))

  -- a fragment of all blocks has those of the fragment, numbered from its first
  pub fragment_of_blocks : (m i : ℕ) (bytes : List ℕ) → i < m
      → get_or (first_chunks 256 m (each_block f 0 (16 * m) bytes)) i [] ≡ each_block f (16 * i) 16 (get_or (first_chunks 256 m bytes) i [])
  fragment_of_blocks m i bytes lt =
      let rest : ℕ = 16 * (m - suc i) in
      let split : 16 * m ≡ 16 * i + (16 + rest) = omega arith in
      let here : 0 + 16 * i ≡ 16 * i = omega arith in
      let place : 256 * i ≡ 16 * (16 * i) = omega arith in
      let tail : List ℕ = drop (16 * (16 * i)) bytes in
      let prefix : List ℕ = each_block f 0 (16 * i) bytes in
      let later : List ℕ = each_block f (16 * i + 16) rest (drop (16 * 16) tail) in
      get_or-first_chunks 256 m i (each_block f 0 (16 * m) bytes) lt
      ∙ ap (λ (k : ℕ). take 256 (drop (256 * i) (each_block f 0 k bytes))) split
      ∙ ap (λ (l : List ℕ). take 256 (drop (256 * i) l)) (each_block-split 0 (16 * i) (16 + rest) bytes)
      ∙ ap (take 256) (drop_at prefix (each_block f (0 + 16 * i) (16 + rest) tail) (256 * i) (length-each_block 0 (16 * i) bytes ∙ sym place))
      ∙ ap (λ (k : ℕ). take 256 (each_block f k (16 + rest) tail)) here
      ∙ ap (take 256) (each_block-split (16 * i) 16 rest tail)
      ∙ take_at (each_block f (16 * i) 16 tail) later 256 (length-each_block (16 * i) 16 tail)
      ∙ sym (each_block-prefix (16 * i) 16 256 tail (omega arith))
      ∙ ap (λ (k : ℕ). each_block f (16 * i) 16 (take 256 (drop k bytes))) (sym place)
      ∙ ap (each_block f (16 * i) 16) (sym (get_or-first_chunks 256 m i bytes lt))
