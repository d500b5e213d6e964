-- The items so far are the patient, and the acts before act j.
use Rattle.std.proofs.Common.{◌≡◌, ◌-◌, ◌∷◌, map}
use Rattle.sample_maker.specs.Hospital.{admin, act, one_to}
use Rattle.sample_maker.proofs.folders.folder.Given as goal

abbrev pub invariant-loop-j : goal.invariant-loop-j
invariant-loop-j l = l.items.items ≡ admin l.i ∷ map (act l.i) (one_to (l.j - 1))
