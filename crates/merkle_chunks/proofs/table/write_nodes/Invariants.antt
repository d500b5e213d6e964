use Rattle.std.proofs.Common.{◌≡◌, ◌*◌, take}
use Rattle.std.specs.List.{concat}
use Rattle.sha2.specs.Sha256.{sha256}
use Rattle.merkle_chunks.specs.inside.LevelBytes.{digests_in, parents}
use Rattle.merkle_chunks.proofs.table.write_nodes.Given as goal

-- the digests of the nodes so far are written
abbrev pub invariant-nodes : goal.invariant-nodes
invariant-nodes l = take (32 * l.index) l.level ≡ concat (take l.index (parents sha256 (digests_in l.below)))
