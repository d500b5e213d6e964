use Rattle.std.proofs.Common.{◌≡◌, length, ap, sym, ◌∙◌}
use Rattle.skip_decode.proofs.LevelLaws.{length-innermost_first}
use Rattle.skip_decode.proofs.levels.Levels.len.Goals as goal

pub returns : goal.returns
returns c =
    let long : length c.args.self.now ≡ length c.self.inside.stack.items = ap length (sym c.self.view_is) ∙ length-innermost_first c.self.inside.stack.items in
    c.len.ensures ∙ c.self.inside.stack.ok.0 ∙ sym long
