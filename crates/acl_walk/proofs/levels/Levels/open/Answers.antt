use Rattle.std.proofs.Common.{◌≡◌, ◌∷◌, length, ap, sym, ◌∙◌, arith}
use Rattle.acl_walk.specs.inside.LevelsInMemory.{open_elements}
use Rattle.acl_walk.proofs.LevelLaws.{open_elements-append, length-open_elements}
use Rattle.acl_walk.proofs.levels.Levels.open.Goals as goal

pub push_reserved-requires : goal.push_reserved-requires
push_reserved-requires c =
    let long : length c.args.self.now ≡ length c.self.inside.stack.items = ap length (sym c.self.view_is) ∙ length-open_elements c.self.inside.stack.items in
    let room = c.self.invariant in
    let few = c.requires in
    let kept = c.self.inside.stack.ok.0 in
    omega (arith, room, few, long, kept)

pub returns : goal.returns
returns c =
    ap open_elements c.push_reserved.ensures.items ∙ open_elements-append c.self.inside.stack.items _
    ∙ ap (λ levels. record { tag = c.args.tag; items = c.args.items.now } ∷ levels) c.self.view_is
