-- The two key schedules: the schedule of the cipher, and that of the equivalent inverse cipher of FIPS 197 (2001,
-- updated 2023), 5.3.5.
use Rattle.std.specs.Prelude.{◌≡◌, ℕ, ◌<◌, ◌≤◌, List, slice_index}
use Rattle.aes_block.specs.Aes.{inverse_mix_word, key_expansion, word}
use Rattle.aes_block.specs.inside.ColumnWords.{block_of_round, times_word, word_bytes}

-- `words` is the expansion of a key, whose first four words are the key (5.2). In `mixed` the words of the full rounds
-- are multiplied by the matrix of InvMixColumns() (5.3.5).
pub record AreSchedules (words mixed : List ℕ) : Type 0 where
  pub expanded : (i : ℕ) → i < 44
      → word_bytes (slice_index words i) ≡ word (key_expansion (block_of_round words 0)) i
  pub mixes : (i : ℕ) → 4 ≤ i → i < 40
      → word_bytes (slice_index mixed i) ≡ times_word inverse_mix_word (slice_index words i)
