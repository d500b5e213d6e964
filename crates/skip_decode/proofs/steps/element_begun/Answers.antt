use Rattle.skip_decode.specs.inside.Moves.{IsHeadIn}
use Rattle.skip_decode.specs.inside.Windows.{HasReadWithin}
use Rattle.skip_decode.proofs.MoveLaws.{begun-moves, begun-place, begun-rises, err-any, some-so}
use Rattle.skip_decode.proofs.StepBounds.{element-ends}
use Rattle.skip_decode.proofs.steps.element_begun.Goals as goal

pub returns-clause-moves : goal.returns-clause-moves
returns-clause-moves g c =
    let in_head : IsHeadIn c.args.parent.now.below c.in-Some.head = rw c.in-Some.is at c.in_ok-head.ensures.fits in
    begun-moves c.args.depth c.args.around c.args.parent.now c.args.place c.in-Some.head c.begun_with.result c.requires.rises in_head c.begun_with.ensures

pub returns-clause-opens : goal.returns-clause-opens
returns-clause-opens g c = λ first start has.
    let read = rw c.in-Some.is at c.in_ok-head.ensures.opens first start has in
    some-so c.begun_with.result (λ step is. rw is read) (begun-place c.args.depth c.args.around c.args.parent.now c.args.place c.in-Some.head c.begun_with.result c.begun_with.ensures)

pub returns-clause-rises : goal.returns-clause-rises
returns-clause-rises g c =
    let in_head : IsHeadIn c.args.parent.now.below c.in-Some.head = rw c.in-Some.is at c.in_ok-head.ensures.fits in
    some-so c.begun_with.result (λ step is. begun-rises c.args.place c.in-Some.head step in_head is) (begun-place c.args.depth c.args.around c.args.parent.now c.args.place c.in-Some.head c.begun_with.result c.begun_with.ensures)

pub returns-in_err-head-clause-bound : goal.returns-in_err-head-clause-bound
returns-in_err-head-clause-bound g c = λ first start has. err-any c.from_residual.result (λ stream is.
    element-ends (λ to. HasReadWithin first start to (g.F.Fragments.opened c.read_head.new.window.source))
    c.args.depth stream c.args.around c.args.parent.now c.args.place
    (c.in_err-head.ensures.bound first start has stream is))
