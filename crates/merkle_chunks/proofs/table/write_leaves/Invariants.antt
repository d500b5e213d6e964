use Rattle.std.proofs.Common.{◌≡◌, ◌*◌, map, take}
use Rattle.std.specs.List.{concat}
use Rattle.sha2.specs.Sha256.{sha256}
use Rattle.merkle_chunks.specs.Strings.{leaf_strings}
use Rattle.merkle_chunks.specs.Table.{fragments}
use Rattle.merkle_chunks.proofs.table.write_leaves.Given as goal

-- the digests of the fragments so far are written
abbrev pub invariant-loop-index : goal.invariant-loop-index
invariant-loop-index l = take (32 * l.index) l.level ≡ concat (take l.index (map sha256 (leaf_strings 0 (fragments l.cipher))))
