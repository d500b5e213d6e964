use Rattle.std.proofs.Common.{◌≡◌, ℕ, ◌<◌, ◌≤◌, length, get_or, bit_xor}
use Rattle.position_cipher.specs.Fragments.{block_mask}
use Rattle.position_cipher.proofs.block_mask.masked.Given as goal

abbrev pub invariant-bytes : goal.invariant-bytes
invariant-bytes l = record {
  count : length l.sum ≡ 16;
  done : (k : ℕ) → k < l.i → get_or l.sum k 0 ≡ bit_xor (get_or l.block k 0) (get_or (block_mask l.number) k 0);
  rest : (k : ℕ) → l.i ≤ k → get_or l.sum k 0 ≡ get_or (block_mask l.number) k 0;
}
