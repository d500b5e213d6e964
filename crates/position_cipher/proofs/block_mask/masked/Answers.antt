use Rattle.std.proofs.Common.{arith}
use Rattle.position_cipher.specs.Fragments.{block_mask}
use Rattle.position_cipher.proofs.BlockLemmas.{xor_bytes_from_each}
use Rattle.position_cipher.proofs.block_mask.masked.Goals as goal

pub returns : goal.returns
returns c =
    xor_bytes_from_each c.bytes.sum c.args.block.now (block_mask c.args.number) c.requires (omega arith)
    (λ k lt. c.bytes.invariant.done k (omega arith))
