use Rattle.std.proofs.Common.{◌≡◌, true, Option, None}
use Rattle.acl_model.specs.declared.document.Doc.{Doc}
use Rattle.acl_walk.specs.Following.{All}
use Rattle.acl_walk.proofs.tests.expect.Given as goal

abbrev pub invariant-loop-want : goal.invariant-loop-want
invariant-loop-want g l = record {
  same : g.W.Walk.fixed l.walk ≡ g.W.Walk.fixed l.initial.walk;
  made : g.W.Walk.made (g.W.Walk.fixed l.initial.walk) l.spot;
  placed : g.W.Walk.broken l.walk ≡ None → (d : Doc) → g.W.Walk.is_origin (g.W.Walk.fixed l.initial.walk) d
      → g.W.Walk.sound l.walk d ≡ true → g.W.Walk.is_place (g.W.Walk.fixed l.initial.walk) d l.spot;
  went : (o : Option Doc) → g.W.Walk.went l.initial.walk o All l.walk;
}
