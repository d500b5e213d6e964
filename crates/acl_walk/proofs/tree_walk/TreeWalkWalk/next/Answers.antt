use Rattle.std.proofs.Common.{◌≡◌, ℕ, List, ap, subst}
use Rattle.acl_walk.specs.inside.OpenElements.{tags_of}
use Rattle.acl_walk.specs.TreeState.{TreeState}
use Rattle.acl_walk.specs.inside.TreeSteps.{Steps, to_come}
use Rattle.acl_walk.proofs.SpotLaws.{step-is_spot, step-stands}
use Rattle.acl_walk.proofs.tree_walk.TreeWalkWalk.next.Goals as goal

pub returns-clause-made : goal.returns-clause-made
returns-clause-made c =
    let same : c.self.inside.names.now ≡ c.args.self.now.tree.names = ap (λ (w : TreeState). w.tree.names) c.self.view_is in
    let spot = c.args.spot.now in
    step-is_spot c.args.self.now.tree spot _ c.step-event.result.0 c.requires.made
    (subst (λ (names : List (List ℕ)). Steps names c.step-event.result.0 (to_come names spot.now spot.levels) (tags_of spot.levels) c.step-event.result.1 c.step-event.new.levels) same c.step-event.ensures)

pub returns-clause-event : goal.returns-clause-event
returns-clause-event c = λ d origin sound.
    let same : c.self.inside.names.now ≡ c.args.self.now.tree.names = ap (λ (w : TreeState). w.tree.names) c.self.view_is in
    let spot = c.args.spot.now in
    step-stands c.args.self.now.tree spot _ c.step-event.result.0 c.requires.made
    (subst (λ (names : List (List ℕ)). Steps names c.step-event.result.0 (to_come names spot.now spot.levels) (tags_of spot.levels) c.step-event.result.1 c.step-event.new.levels) same c.step-event.ensures)
