use Rattle.std.proofs.Common.{◌+◌, ◌*◌, ◌++◌}
use Rattle.std.specs.Prelude.{slice_index}
use Rattle.aes_block.specs.Aes.{xor_bytes}
use Rattle.aes_block.proofs.WordLemmas.{word_bytes-xor}
use Rattle.aes_block.proofs.rounds.add_key.Goals as goal

pub returns : goal.returns
unfolding xor_bytes
returns c = λ i. word_bytes-xor (slice_index c.args.state 0) (slice_index c.args.keys.now (4 * c.args.round)) i ++ (word_bytes-xor (slice_index c.args.state 1) (slice_index c.args.keys.now (4 * c.args.round + 1)) i ++ (word_bytes-xor (slice_index c.args.state 2) (slice_index c.args.keys.now (4 * c.args.round + 2)) i ++ word_bytes-xor (slice_index c.args.state 3) (slice_index c.args.keys.now (4 * c.args.round + 3)) i))
