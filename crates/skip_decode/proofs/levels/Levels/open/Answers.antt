use Rattle.std.proofs.Common.{◌≡◌, ◌∷◌, length, ap, sym, ◌∙◌, arith}
use Rattle.skip_decode.specs.inside.LevelsInMemory.{innermost_first}
use Rattle.skip_decode.proofs.LevelLaws.{innermost_first-append, length-innermost_first, length-with_innermost}
use Rattle.skip_decode.proofs.levels.Levels.open.Goals as goal

pub push_reserved-requires : goal.push_reserved-requires
push_reserved-requires c =
    let long : length c.replace.new.self ≡ length c.self.inside.stack.items = ap length (sym c.self.view_is) ∙ length-innermost_first c.self.inside.stack.items in
    let same : length c.replace.new.self ≡ length c.args.self.now = ap length c.replace.ensures ∙ length-with_innermost c.args.parent c.args.self.now in
    let room = c.self.invariant in
    let few = c.requires in
    let kept = c.self.inside.stack.ok.0 in
    omega (arith, room, few, long, same, kept)

pub returns : goal.returns
returns c =
    ap innermost_first c.push_reserved.ensures.items ∙ innermost_first-append c.self.inside.stack.items _
    ∙ ap (λ levels. c.args.child ∷ levels) (c.self.view_is ∙ c.replace.ensures)
