use Rattle.std.proofs.Common.{◌≡◌}
use Rattle.merkle_chunks.specs.Table.{level_count, count_below}
use Rattle.merkle_chunks.proofs.counts.counts_at.Given as goal

-- the counts of the levels so far
abbrev pub invariant-up : goal.invariant-up
invariant-up l = record { here : l.here ≡ level_count l.fragments l._level; below : l.below ≡ count_below l.fragments l._level }
