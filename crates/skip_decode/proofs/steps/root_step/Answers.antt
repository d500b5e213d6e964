use Rattle.std.proofs.Common.{subst}
use Rattle.skip_decode.specs.declared.position.Level.{Level}
use Rattle.skip_decode.specs.inside.Moves.{BeginMoves}
use Rattle.skip_decode.proofs.MoveLaws.{root-begins}
use Rattle.skip_decode.proofs.steps.root_step.Goals as goal

pub returns-clause-moves : goal.returns-clause-moves
returns-clause-moves g c =
    let k = c.args.numbers.now in
    let moves : BeginMoves k.depth 0 c.above_root-above.result c.args.place c.in-Some.step = rw c.in-Some.is at c.in_ok-step.ensures.moves in
    root-begins k c.args.place c.in-Some.step (subst (λ (above : Level). BeginMoves k.depth 0 above c.args.place c.in-Some.step) c.above_root-above.ensures.level moves)
