use Rattle.std.proofs.Common.{◌≡◌, ℕ, ◌<◌, ◌≤◌, length, get_or}
use Rattle.aes_block.specs.Aes.{inverse_mix_word}
use Rattle.aes_block.specs.inside.ColumnWords.{word_bytes, times_word}
use Rattle.aes_block.proofs.schedule.inverse_keys.Given as goal

abbrev pub invariant-mix : goal.invariant-mix
invariant-mix l = record {
  count : length l.keys ≡ 44;
  mixed : (k : ℕ) → 4 ≤ k → k < l.i → word_bytes (get_or l.keys k 0) ≡ times_word inverse_mix_word (get_or l.words k 0);
}
