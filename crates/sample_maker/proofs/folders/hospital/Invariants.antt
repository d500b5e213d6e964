-- The folders so far are those before folder i.
use Rattle.std.proofs.Common.{◌≡◌, ◌-◌, map}
use Rattle.sample_maker.specs.Hospital.{folder, one_to}
use Rattle.sample_maker.proofs.folders.hospital.Given as goal

abbrev pub invariant-loop-i : goal.invariant-loop-i
invariant-loop-i l = l.folders.items ≡ map folder (one_to (l.i - 1))
