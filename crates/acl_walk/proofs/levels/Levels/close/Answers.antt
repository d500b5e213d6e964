use Rattle.std.proofs.Common.{arith}
use Rattle.acl_walk.proofs.LevelLaws.{closes-none, closes-last}
use Rattle.acl_walk.proofs.levels.Levels.close.Goals as goal

pub returns-in_err-level : goal.returns-in_err-level
returns-in_err-level c =
    let kept = c.self.inside.stack.ok.0 in
    let still = c.pop.new.self.ok.0 in
    closes-none _ _ c.self.inside.stack.items c.pop.new.self.items c.from_residual.ensures c.self.view_is
    (omega (arith, c.in_err-level.ensures.cases, kept)) (omega (arith, c.in_err-level.ensures.cases, still))

pub returns : goal.returns
returns c = closes-last _ c.self.inside.stack.items c.pop.new.self.items c.in_ok-level.level c.self.view_is c.in_ok-level.ensures.items
