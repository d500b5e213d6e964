use Rattle.std.proofs.Common.{◌∙◌, ◌/◌, ap, length, arith}
use Rattle.sha2.specs.Sha256.{sha256}
use Rattle.merkle_chunks.specs.inside.LevelBytes.{digests_in, parents}
use Rattle.merkle_chunks.proofs.CountLemmas.{half_up}
use Rattle.merkle_chunks.proofs.PieceLemmas.{length-first_chunks}
use Rattle.merkle_chunks.proofs.TableLemmas.{length-parents}
use Rattle.merkle_chunks.proofs.WriteLemmas.{node_written, all_written}
use Rattle.merkle_chunks.proofs.table.write_nodes.Goals as goal

pub nodes-preserved : goal.nodes-preserved
nodes-preserved c =
    node_written c.args.below.now c.nodes.level c.copy_from_slice.new.self c.as_chunks.result.0.now c.nodes.index _ (omega arith)
    c.as_chunks.ensures.front (omega (arith, half_up (length c.as_chunks.result.0.now))) (omega arith) (c.copy_from_slice.ensures.after ∙ c.node_over.ensures) c.nodes.invariant

pub returns : goal.returns
returns c =
    all_written (parents sha256 (digests_in c.args.below.now)) c.nodes.level c.nodes.index
    (omega (arith, length-parents sha256 (digests_in c.args.below.now), length-first_chunks 32 (length c.args.below.now / 32) c.args.below.now))
    (omega (arith, half_up (length c.as_chunks.result.0.now), length-parents sha256 (digests_in c.args.below.now), ap length c.as_chunks.ensures.front)) c.nodes.invariant
