use Rattle.std.proofs.Common.{◌∙◌, arith}
use Rattle.merkle_chunks.proofs.WriteLemmas.{leaf_digests, length-leaf_digests, leaf_written, all_written}
use Rattle.merkle_chunks.proofs.table.write_leaves.Goals as goal

pub loop-index-preserved : goal.loop-index-preserved
loop-index-preserved c =
    leaf_written c.args.cipher.now c.loop-index.level c.copy_from_slice.new.self c.as_chunks.result.0.now c.loop-index.index _ (omega arith)
    c.as_chunks.ensures.front c.loop-index-test.true (omega arith) (c.copy_from_slice.ensures.after ∙ c.leaf_digest.ensures) c.loop-index.invariant

pub returns : goal.returns
returns c =
    all_written (leaf_digests c.args.cipher.now) c.loop-index.level c.loop-index.index
    (omega (arith, length-leaf_digests c.args.cipher.now)) (omega (arith, length-leaf_digests c.args.cipher.now)) c.loop-index.invariant
