use Rattle.std.proofs.Common.{◌≤◌, ◌<◌, ◌-◌, ◌^◌, ℕ}
use Rattle.skip_encode.specs.inside.Tallies.{laid_size}
use Rattle.skip_encode.proofs.tally.Tally.width.Given as goal

-- No smaller width fits.
abbrev pub invariant-loop-w : goal.invariant-loop-w
invariant-loop-w l = record {
  few : l.w ≤ 32;
  least : (v : ℕ) → v < l.w → 2 ^ v ≤ laid_size l.members l.self v;
}

abbrev pub decreases-loop-w : goal.decreases-loop-w
decreases-loop-w l = 32 - l.w
