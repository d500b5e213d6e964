-- The round keys in the schedules, and a round of the inverse cipher with a mixed round key.
use Rattle.std.proofs.Common.{◌≡◌, ℕ, suc, ◌+◌, ◌*◌, ◌/◌, ◌%◌, ◌<◌, ◌≤◌, List, ◌++◌, refl, sym, ap, ◌∙◌, subst, arith}
use Rattle.aes_block.specs.Aes.{add_round_key, cipher, cipher_with, full_rounds, inverse_cipher, inverse_cipher_with, inverse_mix_columns, inverse_rounds, inverse_shift_rows, inverse_sub_bytes, key_expansion, mix_columns, round_key, shift_rows, sub_bytes}
use Rattle.aes_block.specs.inside.Schedules.{AreSchedules}
use Rattle.aes_block.specs.inside.ColumnWords.{block_of_round, block_of_words, word_bytes}
use Rattle.aes_block.proofs.Inverse.{HasKeys, cipher-inverse_cipher, inverse_cipher-cipher}
use Rattle.aes_block.proofs.States.{IsState, inverse_mix_columns-xor_bytes}

low_byte : (n : ℕ) → n % 256 < 256
low_byte n = omega arith

-- four words are a state
IsState-words : (a b c d : ℕ) → IsState (word_bytes a ++ (word_bytes b ++ (word_bytes c ++ word_bytes d)))
IsState-words a b c d = record {
  size = refl;
  bytes = (low_byte (a / 16777216), (low_byte (a / 65536), (low_byte (a / 256), (low_byte a, (low_byte (b / 16777216), (low_byte (b / 65536), (low_byte (b / 256), (low_byte b, (low_byte (c / 16777216), (low_byte (c / 65536), (low_byte (c / 256), (low_byte c, (low_byte (d / 16777216), (low_byte (d / 65536), (low_byte (d / 256), (low_byte d, tt))))))))))))))));
}

-- a block that was read into words is a state
pub IsState-block : (words block : List ℕ) → block_of_words words ≡ block → IsState block
IsState-block words block read = subst IsState read (IsState-words _ _ _ _)

-- one more full round
pub full_rounds-more : (words : List (List ℕ)) (block : List ℕ) (n : ℕ)
    → full_rounds words block (n + 1) ≡ add_round_key (mix_columns (shift_rows (sub_bytes (full_rounds words block n)))) (round_key words (n + 1))
unfolding full_rounds
full_rounds-more words block n = let next : n + 1 ≡ suc n = omega arith in rw next refl

-- the expansion of the key in a schedule
abbrev pub words_of : List ℕ → List (List ℕ)
words_of ws = key_expansion (block_of_round ws 0)

module _ (ws mixed : List ℕ) (schedules : AreSchedules ws mixed) where
  pub block_of_round-words : (r : ℕ) → r < 11 → block_of_round ws r ≡ round_key (words_of ws) r
  unfolding round_key
  block_of_round-words r lt =
      let at = schedules.expanded in
      λ i. at (4 * r) (omega arith) i ++ (at (4 * r + 1) (omega arith) i ++ (at (4 * r + 2) (omega arith) i ++ at (4 * r + 3) (omega arith) i))

  pub keys_are_states : HasKeys (words_of ws) 10
  keys_are_states r le = subst IsState (block_of_round-words r (omega arith)) (IsState-words _ _ _ _)

  block_of_round-mixes : (r : ℕ) → 1 ≤ r → r < 10 → block_of_round mixed r ≡ inverse_mix_columns (block_of_round ws r)
  unfolding inverse_mix_columns
  block_of_round-mixes r low high =
      λ i. schedules.mixes (4 * r) (omega arith) (omega arith) i ++ (schedules.mixes (4 * r + 1) (omega arith) (omega arith) i
      ++ (schedules.mixes (4 * r + 2) (omega arith) (omega arith) i ++ schedules.mixes (4 * r + 3) (omega arith) (omega arith) i))

  pub block_of_round-mixed : (r : ℕ) → 1 ≤ r → r < 10 → block_of_round mixed r ≡ inverse_mix_columns (round_key (words_of ws) r)
  block_of_round-mixed r low high =
      block_of_round-mixes r low high ∙ ap inverse_mix_columns (block_of_round-words r (omega arith))

  -- one full round
  pub full_round_at : (block s next : List ℕ) (n round : ℕ) → n + 1 ≡ round → round < 11 → s ≡ full_rounds (words_of ws) block n
      → next ≡ add_round_key (mix_columns (shift_rows (sub_bytes s))) (block_of_round ws round)
      → next ≡ full_rounds (words_of ws) block round
  full_round_at block s next n round after lt before is =
      is
      ∙ (λ i. add_round_key (mix_columns (shift_rows (sub_bytes (before i)))) (block_of_round-words round lt i))
      ∙ ap (λ (r : ℕ). add_round_key (mix_columns (shift_rows (sub_bytes (full_rounds (words_of ws) block n)))) (round_key (words_of ws) r)) (sym after)
      ∙ sym (full_rounds-more (words_of ws) block n)
      ∙ ap (full_rounds (words_of ws) block) after

  -- one full round of the inverse cipher: mixing the round key replaces mixing the state after the key was added
  pub inverse_round_at : (s next : List ℕ) (n round : ℕ) → round ≡ suc n → round < 10
      → next ≡ add_round_key (inverse_mix_columns (inverse_sub_bytes (inverse_shift_rows s))) (block_of_round mixed round)
      → inverse_rounds (words_of ws) next n ≡ inverse_rounds (words_of ws) s round
  unfolding inverse_rounds inverse_shift_rows
  inverse_round_at s next n round here lt is =
      let words = words_of ws in
      let unscrambled : List ℕ = inverse_sub_bytes (inverse_shift_rows s) in
      let key : block_of_round mixed round ≡ inverse_mix_columns (round_key words (suc n)) =
      block_of_round-mixed round (omega arith) lt ∙ ap (λ (r : ℕ). inverse_mix_columns (round_key words r)) here in
      ap (λ (t : List ℕ). inverse_rounds words t n) (is
      ∙ ap (add_round_key (inverse_mix_columns unscrambled)) key
      ∙ sym (inverse_mix_columns-xor_bytes unscrambled (round_key words (suc n)) refl (keys_are_states (suc n) (omega arith)).size))
      ∙ sym (ap (inverse_rounds words s) here)

  pub encrypted : (block : List ℕ) → add_round_key (shift_rows (sub_bytes (full_rounds (words_of ws) block 9))) (round_key (words_of ws) 10) ≡ cipher (block_of_round ws 0) block
  unfolding cipher cipher_with
  encrypted block = refl

  pub decrypted : (block : List ℕ) → add_round_key (inverse_sub_bytes (inverse_shift_rows (inverse_rounds (words_of ws) (add_round_key block (round_key (words_of ws) 10)) 9))) (round_key (words_of ws) 0) ≡ inverse_cipher (block_of_round ws 0) block
  unfolding inverse_cipher inverse_cipher_with
  decrypted block = refl

  -- each call undoes the other
  pub encryption_undone : (block : List ℕ) → IsState block → inverse_cipher (block_of_round ws 0) (cipher (block_of_round ws 0) block) ≡ block
  unfolding cipher inverse_cipher
  encryption_undone block is = inverse_cipher-cipher (words_of ws) 10 block is keys_are_states

  pub decryption_undone : (block : List ℕ) → IsState block → cipher (block_of_round ws 0) (inverse_cipher (block_of_round ws 0) block) ≡ block
  unfolding cipher inverse_cipher
  decryption_undone block is = cipher-inverse_cipher (words_of ws) 10 block is keys_are_states
