use Rattle.std.proofs.Common.{refl}
use Rattle.skip_decode.proofs.MoveLaws.{ok-so, some-so}
use Rattle.skip_decode.proofs.stepping.step_inside.Goals as goal

pub returns-in-Item-clause-moves : goal.returns-in-Item-clause-moves
returns-in-Item-clause-moves g c =
    rw c.in-Item.is (ok-so c.item_step.result (λ step moves. some-so step (λ s all. all c.args.numbers.now refl c.requires.below) moves) c.item_step.ensures.moves)
