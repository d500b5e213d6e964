use Rattle.std.proofs.Common.{◌-◌, List, length, ap, ◌∙◌}
use Rattle.std.specs.List.{slice_get}
use Rattle.skip_decode.specs.declared.position.Level.{Level}
use Rattle.skip_decode.specs.inside.LevelsInMemory.{innermost}
use Rattle.skip_decode.proofs.LevelLaws.{innermost-got}
use Rattle.skip_decode.proofs.levels.Levels.innermost.Goals as goal

pub returns : goal.returns
returns c =
    c.copied.ensures ∙ c.last.ensures.value ∙ ap (λ (l : List Level). slice_get l (length l - 1)) c.deref.ensures.value
    ∙ innermost-got c.self.inside.stack.items ∙ ap innermost c.self.view_is
