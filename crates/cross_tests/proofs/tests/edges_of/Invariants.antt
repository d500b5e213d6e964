-- The spot stays one that the walk made.
use Rattle.std.proofs.Common.{◌≡◌}
use Rattle.acl_walk.specs.inside.TreeSpots.{IsSpotOf}
use Rattle.cross_tests.proofs.tests.edges_of.Given as goal

abbrev pub invariant-loop-event : goal.invariant-loop-event
invariant-loop-event l = record {
  same : l.walk.tree ≡ l.initial.walk.tree;
  made : IsSpotOf l.initial.walk.tree l.spot;
}
