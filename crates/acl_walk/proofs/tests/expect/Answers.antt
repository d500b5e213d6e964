use Rattle.std.proofs.Common.{◌∙◌}
use Rattle.acl_walk.specs.Following.{All}
use Rattle.acl_walk.proofs.tests.expect.Goals as goal

pub loop-want-preserved : goal.loop-want-preserved
loop-want-preserved g c =
    let invariant = c.loop-want.invariant in
    record {
      same = c.next.ensures.same ∙ invariant.same;
      made = rw invariant.same at c.next.ensures.made;
      placed = λ unbroken. rw invariant.same at c.in-Ok.ensures.placed;
      went = λ o. g.met.W.Walk.going.onward _ _ _ o All (invariant.went o) (c.next.ensures.went_all o);
    }
