use Rattle.std.proofs.Common.{◌+◌, ◌≤◌, arith}
use Rattle.skip_decode.specs.inside.Windows.{HasReadWithin}
use Rattle.skip_decode.proofs.MoveLaws.{err-any, some-so}
use Rattle.skip_decode.proofs.StepBounds.{text_begun-later}
use Rattle.skip_decode.proofs.Touches.{within-more}
use Rattle.skip_decode.proofs.steps.text_begun.Goals as goal

pub returns-clause-moves : goal.returns-clause-moves
returns-clause-moves g c =
    let inside : c.args.place + 4 + c.in-Some.long ≤ c.args.end = rw c.in-Some.is at c.in_ok-long.ensures.inside in
    some-so c.in_ok-step.step (λ step moves. moves c.args.end c.args.place inside (omega arith) (omega arith)) c.in_ok-step.ensures.moves

pub returns-clause-rises : goal.returns-clause-rises
returns-clause-rises g c =
    let inside : c.args.place + 4 + c.in-Some.long ≤ c.args.end = rw c.in-Some.is at c.in_ok-long.ensures.inside in
    some-so c.in_ok-step.step (λ step moves. let more = (moves c.args.end c.args.place inside (omega arith) (omega arith)).1.2 in omega (arith, more)) c.in_ok-step.ensures.moves

pub returns-in_err-long-clause-bound : goal.returns-in_err-long-clause-bound
returns-in_err-long-clause-bound g c = λ first start has. err-any c.from_residual.result (λ stream is.
    text_begun-later (λ to. HasReadWithin first start to (g.F.Fragments.opened c.read_length.new.window.source))
    stream c.args.place c.args.end
    (λ n later. within-more first start (c.args.place + 4) n _ later (c.in_err-long.ensures.bound first start has)))
