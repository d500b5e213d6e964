use Rattle.std.proofs.Common.{ap, ◌∙◌}
use Rattle.acl_walk.specs.inside.LevelsInMemory.{open_elements}
use Rattle.acl_walk.proofs.LevelLaws.{open_elements-nil}
use Rattle.acl_walk.proofs.levels.Levels.new.Goals as goal

pub returns : goal.returns
returns c = ap open_elements c.in_ok-stack.ensures.items ∙ open_elements-nil
