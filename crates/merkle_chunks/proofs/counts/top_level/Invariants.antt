use Rattle.std.proofs.Common.{◌≡◌, ◌+◌}
use Rattle.merkle_chunks.specs.Table.{top_level}
use Rattle.merkle_chunks.proofs.counts.top_level.Given as goal

-- the levels so far, and those that are left
abbrev pub invariant-loop-count : goal.invariant-loop-count
invariant-loop-count l = l.level + top_level l.count ≡ top_level l.fragments

abbrev pub decreases-loop-count : goal.decreases-loop-count
decreases-loop-count l = l.count
