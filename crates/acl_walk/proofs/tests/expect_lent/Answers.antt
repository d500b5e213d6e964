-- The first spot is still an index after the calls at the other one.
use Rattle.std.proofs.Common.{Some, sym, subst, ◌∙◌}
use Rattle.acl_walk.specs.Following.{All}
use Rattle.acl_walk.proofs.GoesLaws.{was_unbroken}
use Rattle.acl_walk.proofs.tests.expect_lent.Goals as goal

pub expect-requires-3-clause-placed : goal.expect-requires-3-clause-placed
expect-requires-3-clause-placed g c = λ unbroken d origin sound.
    let going = g.met.W.Walk.going in
    let before = c.expect.new.walk.walk.now in
    let after = c.expect-2.new.walk.walk.now in
    let went = (c.expect-2.ensures.went (Some d)).0 in
    let same = c.expect-2.ensures.same ∙ c.expect.ensures.same in
    subst (λ k. g.W.Walk.is_place k d c.expect.new.spot) (sym same)
    (c.expect.ensures.placed (was_unbroken going before after (Some d) All went unbroken) d
    (subst (λ k. g.W.Walk.is_origin k d) same origin) (going.was_sound before after d All went sound))
