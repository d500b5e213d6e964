use Rattle.std.proofs.Common.{◌+◌, ◌≤◌, arith}
use Rattle.skip_decode.specs.inside.Windows.{HasReadWithin}
use Rattle.skip_decode.proofs.MoveLaws.{attribute-head, err-any, some-so}
use Rattle.skip_decode.proofs.StepBounds.{attributes-later}
use Rattle.skip_decode.proofs.Touches.{within-more}
use Rattle.skip_decode.proofs.steps.attributes_step.Goals as goal

pub returns-clause-moves : goal.returns-clause-moves
returns-clause-moves g c =
    let inside : c.args.place + 4 + c.in-Some.long ≤ c.args.end = rw c.in-Some.is at c.in_ok-long.ensures.inside in
    some-so c.in_ok-step.step (λ step moves. attribute-head c.args.end c.args.place step (moves c.args.end c.args.place inside (omega arith) (omega arith))) c.in_ok-step.ensures.moves

pub returns-in_err-long-clause-bound : goal.returns-in_err-long-clause-bound
returns-in_err-long-clause-bound g c = λ first start has. err-any c.from_residual.result (λ stream is.
    attributes-later (λ to. HasReadWithin first start to (g.F.Fragments.opened c.read_length.new.window.source))
    stream c.args.place c.args.end c.args.count c.if-count-eq0.false
    (λ n later. within-more first start (c.args.place + 4) n _ later (c.in_err-long.ensures.bound first start has)))
