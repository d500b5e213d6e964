use Rattle.std.proofs.Common.{◌≡◌, map}
use Rattle.tree_meaning.proofs.explain.places_of.Given as goal

abbrev pub invariant-loop-one : goal.invariant-loop-one
invariant-loop-one l = l.places.items ≡ map (λ told. told.place) l.yielded
