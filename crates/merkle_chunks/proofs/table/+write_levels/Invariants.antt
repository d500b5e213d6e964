use Rattle.std.proofs.Common.{length}
use Rattle.merkle_chunks.proofs.table.+write_levels.Given as goal

-- each level is shorter than the one below it
abbrev pub decreases-write_levels : goal.decreases-write_levels
decreases-write_levels l = length l.level.now
