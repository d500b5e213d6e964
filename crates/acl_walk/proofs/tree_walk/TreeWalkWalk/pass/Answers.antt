use Rattle.std.proofs.Common.{◌<◌, length, arith}
use Rattle.std.proofs.lemmas.Bool.Decides.{nat_tests}
use Rattle.acl_walk.proofs.SpotLaws.{pass-is_spot, pass-to_finish, pass-no_more}
use Rattle.acl_walk.proofs.tree_walk.TreeWalkWalk.pass.Goals as goal

pub returns-then-not-is_empty-clause-made : goal.returns-then-not-is_empty-clause-made
returns-then-not-is_empty-clause-made c =
    let some : 0 < length c.args.spot.now.levels = grind (arith, nat_tests, c.if-not-is_empty.ensures) in
    pass-is_spot c.args.self.now.tree c.args.spot.now.levels c.args.spot.now.now some c.requires.made

pub returns-then-not-is_empty-clause-finish : goal.returns-then-not-is_empty-clause-finish
returns-then-not-is_empty-clause-finish c = λ unbroken d origin sound.
    let some : 0 < length c.args.spot.now.levels = grind (arith, nat_tests, c.if-not-is_empty.ensures) in
    pass-to_finish c.args.self.now.tree c.args.spot.now.levels c.args.spot.now.now some c.requires.made

pub returns-then-not-is_empty-clause-no_more : goal.returns-then-not-is_empty-clause-no_more
returns-then-not-is_empty-clause-no_more c =
    let some : 0 < length c.args.spot.now.levels = grind (arith, nat_tests, c.if-not-is_empty.ensures) in
    pass-no_more c.args.self.now.tree c.args.spot.now.levels c.args.spot.now.now some
