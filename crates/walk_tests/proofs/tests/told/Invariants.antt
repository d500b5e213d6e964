-- The walk stays the same walk, and the spot stays at a place of it.
use Rattle.std.proofs.Common.{◌≡◌, true, None}
use Rattle.acl_model.specs.declared.document.Doc.{Doc}
use Rattle.walk_tests.proofs.tests.told.Given as goal

abbrev pub invariant-loop : goal.invariant-loop
invariant-loop g l = record {
  same : g.W.Walk.fixed l.walk ≡ g.W.Walk.fixed l.initial.walk;
  made : g.W.Walk.made (g.W.Walk.fixed l.walk) l.spot;
  placed : g.W.Walk.broken l.walk ≡ None → (d : Doc) → g.W.Walk.is_origin (g.W.Walk.fixed l.walk) d
      → g.W.Walk.sound l.walk d ≡ true → g.W.Walk.is_place (g.W.Walk.fixed l.walk) d l.spot;
}
