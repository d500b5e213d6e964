use Rattle.std.proofs.Common.{ap, ◌∙◌}
use Rattle.skip_decode.specs.inside.LevelsInMemory.{innermost_first}
use Rattle.skip_decode.proofs.LevelLaws.{innermost_first-nil}
use Rattle.skip_decode.proofs.levels.Levels.new.Goals as goal

pub returns : goal.returns
returns c = ap innermost_first c.in_ok-stack.ensures.items ∙ innermost_first-nil
