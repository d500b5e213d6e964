use Rattle.std.proofs.Common.{◌-◌, take, drop, ap, ◌∙◌}
use Rattle.skip_decode.proofs.LevelLaws.{closed-last}
use Rattle.skip_decode.proofs.levels.Levels.close.Goals as goal

pub returns : goal.returns
returns c =
    let items = c.self.inside.stack.items in
    closed-last items c.pop.new.self.items (c.pop.ensures.rest ∙ ap (λ n. take (n - 1) items) c.self.inside.stack.ok.0) ∙ ap (drop 1) c.self.view_is
