-- The number of attributes comes before them.
use Rattle.std.proofs.Common.{◌+◌}
use Rattle.skip_decode.specs.inside.Windows.{HasReadWithin}
use Rattle.skip_decode.proofs.StepBounds.{count-later}
use Rattle.skip_decode.proofs.MoveLaws.{err-any}
use Rattle.skip_decode.proofs.Touches.{within-more}
use Rattle.skip_decode.proofs.steps.count_step.Goals as goal

pub returns-in_err-count-clause-bound : goal.returns-in_err-count-clause-bound
returns-in_err-count-clause-bound g c = λ first start has. err-any c.from_residual.result (λ stream is.
    count-later (λ to. HasReadWithin first start to (g.F.Fragments.opened c.read_count.new.window.source))
    stream c.args.place c.args.end
    (λ n later. within-more first start (c.args.place + 2) n _ later (c.in_err-count.ensures.bound first start has)))
