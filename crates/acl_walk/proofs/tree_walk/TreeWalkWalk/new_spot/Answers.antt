use Rattle.std.proofs.Common.{ap, refl}
use Rattle.acl_walk.specs.TreeState.{Tree, TreeState}
use Rattle.acl_walk.proofs.SpotLaws.{new-is_spot_of}
use Rattle.acl_walk.proofs.tree_walk.TreeWalkWalk.new_spot.Goals as goal

pub returns-clause-made : goal.returns-clause-made
returns-clause-made c =
    let tree : Tree = record { doc = c.self.inside.doc.now; names = c.self.inside.names.now } in
    new-is_spot_of tree c.args.self.now.tree c.in_ok-levels.levels _ c.self.invariant (ap (λ (w : TreeState). w.tree) c.self.view_is) c.in_ok-levels.ensures refl
