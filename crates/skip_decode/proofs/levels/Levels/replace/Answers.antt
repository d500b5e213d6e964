use Rattle.std.proofs.Common.{◌≡◌, ◌-◌, suc, ℕ, length, ap, ◌∙◌, arith, refl}
use Rattle.std.specs.Vec.{vec_len}
use Rattle.skip_decode.specs.StreamSteps.{with_innermost}
use Rattle.skip_decode.proofs.LevelLaws.{replaced-none, replaced-last}
use Rattle.skip_decode.proofs.levels.Levels.replace.Goals as goal

pub returns-in_default : goal.returns-in_default
returns-in_default c =
    let kept = c.self.inside.stack.ok.0 in
    let none : length c.self.inside.stack.items ≡ 0 = grind (arith, kept, c.in_default.ensures.variant) in
    replaced-none c.self.inside.stack.items c.args.level none ∙ ap (with_innermost c.args.level) c.self.view_is

pub returns : goal.returns
returns c =
    let n : ℕ = vec_len c.self.inside.stack - 1 in
    let kept = c.self.inside.stack.ok.0 in
    let long : length c.self.inside.stack.items ≡ suc n = omega (arith, kept, c.in-Some.ensures.variant.0 refl) in
    replaced-last c.self.inside.stack.items n c.args.level long ∙ ap (with_innermost c.args.level) c.self.view_is
