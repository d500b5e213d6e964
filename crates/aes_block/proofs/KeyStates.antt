-- Under any key of bytes the round keys are states, so the cipher and its inverse undo each other and give blocks.
use Rattle.std.proofs.Common.{◌≡◌, ℕ, zero, suc, ◌+◌, ◌-◌, ◌*◌, ◌/◌, ◌<◌, ◌≤◌, lit<, Bool, true, false, cond, List, [], ◌∷◌, ◌++◌, length, get_or, refl, sym, ◌∙◌, arith, ltb, length-append}
use Rattle.std.proofs.lemmas.List.{length-map}
use Rattle.aes_block.specs.Field.{product, remainder, mul, power_of_x}
use Rattle.aes_block.specs.Aes.{AreBytes, add_round_key, cipher, cipher_with, expanded_words, expansion_step, full_rounds, inverse_cipher, inverse_cipher_with, inverse_rounds, key_expansion, key_words, next_word, rcon, rot_word, round_count, round_key, sub_byte, sub_word, word_of_bytes, words_of_bytes, xor_bytes}
use Rattle.aes_block.proofs.Bytes.{passes_below, bounded_below}
use Rattle.aes_block.proofs.Inverse.{HasKeys, scrambled, unscrambled, IsState-scrambled, IsState-unscrambled, IsState-full_rounds, IsState-inverse_rounds, cipher-inverse_cipher, inverse_cipher-cipher}
use Rattle.aes_block.proofs.States.{AllBytes, AllBytes-append, AllBytes-map, AllBytes-xor_bytes, IsState, IsState-add_round_key, byte_lt, length-xor_bytes}
use Rattle.aes_block.proofs.Substitution.{sub_byte-lt}

-- a list whose entries are bytes is a list of bytes
pub AllBytes_from_each : (s : List ℕ) → ((k : ℕ) → get_or s k 0 < 256) → AllBytes s
AllBytes_from_each [] fit = tt
AllBytes_from_each (x ∷ xs) fit = (fit 0, AllBytes_from_each xs (λ k. fit (suc k)))

-- sixteen bytes are a state
pub IsState-AreBytes : (s : List ℕ) → AreBytes 16 s → IsState s
IsState-AreBytes s h = record { size = h.count; bytes = AllBytes_from_each s h.fit }

-- a state is sixteen bytes
pub AreBytes-IsState : (s : List ℕ) → IsState s → AreBytes 16 s
AreBytes-IsState s is = record { count = is.size; fit = byte_lt s is.bytes }

-- ---- words

-- four bytes
record IsWord (w : List ℕ) : Type 0 where
  size : length w ≡ 4
  bytes : AllBytes w

abbrev AllWords : List (List ℕ) → Type 0
AllWords [] = Unit {0}
AllWords (w ∷ ws) = IsWord w × AllWords ws

word_at : (ws : List (List ℕ)) → AllWords ws → (k : ℕ) → k < length ws → IsWord (get_or ws k [])
word_at [] all k lt = absurd (omega arith)
word_at (w ∷ ws) all zero lt = all.0
word_at (w ∷ ws) all (suc k) lt = word_at ws all.1 k (omega arith)

AllWords-more : (ws : List (List ℕ)) (w : List ℕ) → AllWords ws → IsWord w → AllWords (ws ++ w ∷ [])
AllWords-more [] w all is = (is, tt)
AllWords-more (v ∷ ws) w all is = (all.0, AllWords-more ws w all.1 is)

IsWord-xor_bytes : (v w : List ℕ) → IsWord v → IsWord w → IsWord (xor_bytes v w)
IsWord-xor_bytes v w is also = record {
  size = length-xor_bytes v w (is.size ∙ sym also.size) ∙ is.size;
  bytes = AllBytes-xor_bytes v w is.bytes also.bytes;
}

IsWord-sub_word : (w : List ℕ) → IsWord w → IsWord (sub_word w)
IsWord-sub_word w is = record {
  size = length-map w sub_byte ∙ is.size;
  bytes = AllBytes-map sub_byte sub_byte-lt w is.bytes;
}

IsWord-rot_word : (w : List ℕ) → IsWord w → IsWord (rot_word w)
IsWord-rot_word [] is = is
IsWord-rot_word (b ∷ bs) is = record {
  size = length-append bs (b ∷ []) ∙ omega (arith, is.size);
  bytes = AllBytes-append bs (b ∷ []) is.bytes.1 (is.bytes.0, tt);
}

double_test : passes_below 256 (λ x. ltb (mul 2 x) 256) ≡ true
unfolding mul product remainder
double_test = refl

-- a power of x is a byte
power_of_x-lt : (n : ℕ) → power_of_x n < 256
unfolding power_of_x
power_of_x-lt zero = lit< tt
power_of_x-lt (suc n) = bounded_below 256 256 (mul 2) double_test (power_of_x n) (power_of_x-lt n)

IsWord-rcon : (j : ℕ) → IsWord (rcon j)
IsWord-rcon j = record { size = refl; bytes = (power_of_x-lt (j - 1), (lit< tt, (lit< tt, (lit< tt, tt)))) }

IsWord-cond : (b : Bool) (v w : List ℕ) → IsWord v → IsWord w → IsWord (cond b v w)
IsWord-cond true v w is also = is
IsWord-cond false v w is also = also

IsWord-expansion_step : (nk i : ℕ) (w : List ℕ) → IsWord w → IsWord (expansion_step nk i w)
IsWord-expansion_step nk i w is =
    IsWord-cond _ _ _
    (IsWord-xor_bytes (sub_word (rot_word w)) (rcon (i / nk)) (IsWord-sub_word (rot_word w) (IsWord-rot_word w is)) (IsWord-rcon (i / nk)))
    (IsWord-cond _ _ _ (IsWord-sub_word w is) is)

-- ---- the words of a key

length-words_of_bytes : (bytes : List ℕ) (n : ℕ) → length (words_of_bytes bytes n) ≡ n
unfolding words_of_bytes
length-words_of_bytes bytes zero = refl
length-words_of_bytes bytes (suc n) =
    length-append (words_of_bytes bytes n) (word_of_bytes bytes n ∷ []) ∙ omega (arith, length-words_of_bytes bytes n)

AllWords-words_of_bytes : (bytes : List ℕ) (n : ℕ) → ((k : ℕ) → get_or bytes k 0 < 256) → AllWords (words_of_bytes bytes n)
unfolding words_of_bytes
AllWords-words_of_bytes bytes zero fit = tt
AllWords-words_of_bytes bytes (suc n) fit =
    AllWords-more (words_of_bytes bytes n) (word_of_bytes bytes n) (AllWords-words_of_bytes bytes n fit)
    (record { size = refl; bytes = (fit (0 + 4 * n), (fit (1 + 4 * n), (fit (2 + 4 * n), (fit (3 + 4 * n), tt)))) })

length-expanded_words : (key : List ℕ) (n : ℕ) → length (expanded_words key n) ≡ key_words key + n
unfolding expanded_words
length-expanded_words key zero = length-words_of_bytes key (key_words key) ∙ omega arith
length-expanded_words key (suc n) =
    length-append (expanded_words key n) (next_word (key_words key) (expanded_words key n) (key_words key + n) ∷ [])
    ∙ omega (arith, length-expanded_words key n)

AllWords-expanded_words : (key : List ℕ) (n : ℕ) → 4 ≤ length key → ((k : ℕ) → get_or key k 0 < 256) → AllWords (expanded_words key n)
unfolding expanded_words
AllWords-expanded_words key zero long fit = AllWords-words_of_bytes key (key_words key) fit
AllWords-expanded_words key (suc n) long fit =
    let nk : ℕ = key_words key in
    let some : 0 < nk = omega (arith, long) in
    let ws : List (List ℕ) = expanded_words key n in
    let all : AllWords ws = AllWords-expanded_words key n long fit in
    let count : length ws ≡ nk + n = length-expanded_words key n in
    let far : IsWord (get_or ws (nk + n - nk) []) = word_at ws all (nk + n - nk) (omega (arith, count, some)) in
    let near : IsWord (get_or ws (nk + n - 1) []) = word_at ws all (nk + n - 1) (omega (arith, count, some)) in
    AllWords-more ws (next_word nk ws (nk + n)) all
    (IsWord-xor_bytes (get_or ws (nk + n - nk) []) (expansion_step nk (nk + n) (get_or ws (nk + n - 1) [])) far
    (IsWord-expansion_step nk (nk + n) (get_or ws (nk + n - 1) []) near))

-- ---- the round keys

IsState-four_words : (a b c d : List ℕ) → IsWord a → IsWord b → IsWord c → IsWord d → IsState (a ++ (b ++ (c ++ d)))
IsState-four_words a b c d ia ib ic id = record {
  size = length-append a (b ++ (c ++ d))
      ∙ omega (arith, length-append b (c ++ d), length-append c d, ia.size, ib.size, ic.size, id.size);
  bytes = AllBytes-append a (b ++ (c ++ d)) ia.bytes
      (AllBytes-append b (c ++ d) ib.bytes (AllBytes-append c d ic.bytes id.bytes));
}

HasKeys-key_expansion : (key : List ℕ) → 4 ≤ length key → ((k : ℕ) → get_or key k 0 < 256) → HasKeys (key_expansion key) (round_count key)
unfolding key_expansion round_key
HasKeys-key_expansion key long fit r le =
    let more : ℕ = 4 * (round_count key + 1) - key_words key in
    let ws : List (List ℕ) = expanded_words key more in
    let all : AllWords ws = AllWords-expanded_words key more long fit in
    let count : length ws ≡ key_words key + more = length-expanded_words key more in
    let at : (k : ℕ) → k ≤ 4 * r + 3 → IsWord (get_or ws k []) = λ k l. word_at ws all k (omega (arith, count, le, l)) in
    IsState-four_words _ _ _ _ (at (4 * r) (omega arith)) (at (4 * r + 1) (omega arith)) (at (4 * r + 2) (omega arith)) (at (4 * r + 3) (omega arith))

-- ---- the cipher and its inverse

IsState-cipher_with : (words : List (List ℕ)) (n : ℕ) (block : List ℕ) → IsState block → HasKeys words n → IsState (cipher_with words n block)
unfolding cipher_with
IsState-cipher_with words n block is keys =
    let s : List ℕ = full_rounds words block (n - 1) in
    IsState-add_round_key (scrambled s) (round_key words n)
    (IsState-scrambled s (IsState-full_rounds words block (n - 1) is (λ r le. keys r (omega arith)))) (keys n (omega arith))

IsState-inverse_cipher_with : (words : List (List ℕ)) (n : ℕ) (block : List ℕ) → IsState block → HasKeys words n → IsState (inverse_cipher_with words n block)
unfolding inverse_cipher_with
IsState-inverse_cipher_with words n block is keys =
    let start : List ℕ = add_round_key block (round_key words n) in
    let s : List ℕ = inverse_rounds words start (n - 1) in
    IsState-add_round_key (unscrambled s) (round_key words 0)
    (IsState-unscrambled s (IsState-inverse_rounds words start (n - 1)
    (IsState-add_round_key block (round_key words n) is (keys n (omega arith))) (λ r le. keys r (omega arith)))) (keys 0 (omega arith))

module _ (key block : List ℕ) (is_key : AreBytes 16 key) (is_block : AreBytes 16 block) where
  keys : HasKeys (key_expansion key) (round_count key)
  keys = HasKeys-key_expansion key (omega (arith, is_key.count)) is_key.fit

  -- the inverse cipher of a block's cipher is the block
  pub deciphered : inverse_cipher key (cipher key block) ≡ block
  unfolding cipher inverse_cipher
  deciphered = inverse_cipher-cipher (key_expansion key) (round_count key) block (IsState-AreBytes block is_block) keys

  -- the cipher of a block's inverse cipher is the block
  pub enciphered : cipher key (inverse_cipher key block) ≡ block
  unfolding cipher inverse_cipher
  enciphered = cipher-inverse_cipher (key_expansion key) (round_count key) block (IsState-AreBytes block is_block) keys

  -- the cipher of a block is a block
  pub AreBytes-cipher : AreBytes 16 (cipher key block)
  unfolding cipher
  AreBytes-cipher = AreBytes-IsState (cipher key block)
      (IsState-cipher_with (key_expansion key) (round_count key) block (IsState-AreBytes block is_block) keys)

  -- the inverse cipher of a block is a block
  pub AreBytes-inverse_cipher : AreBytes 16 (inverse_cipher key block)
  unfolding inverse_cipher
  AreBytes-inverse_cipher = AreBytes-IsState (inverse_cipher key block)
      (IsState-inverse_cipher_with (key_expansion key) (round_count key) block (IsState-AreBytes block is_block) keys)
