use Rattle.std.proofs.Common.{◌+◌, ◌<◌, [], ◌∷◌, arith}
use Rattle.skip_decode.specs.inside.Windows.{HasReadWithin}
use Rattle.skip_decode.specs.StreamSteps.{item_by}
use Rattle.skip_decode.proofs.MoveLaws.{both-so, err-any, finish-item, finish-place, some-so}
use Rattle.skip_decode.proofs.Touches.{read-again, read-some-again, read-nothing, read-within-again, within-more}
use Rattle.skip_decode.proofs.StepBounds.{item-ends, item-later, item_by-later}
use Rattle.skip_decode.proofs.steps.item_step.Goals as goal

pub returns-then-place-level-clause-moves : goal.returns-then-place-level-clause-moves
returns-then-place-level-clause-moves g c =
    finish-item c.args.depth c.args.around c.args.level.now c.args.place c.checked_finish.result c.checked_finish.ensures

pub returns-then-place-level-clause-opens : goal.returns-then-place-level-clause-opens
returns-then-place-level-clause-opens g c = λ first start has.
    some-so c.checked_finish.result (λ step is. rw is has) (finish-place c.args.level.now c.args.place c.checked_finish.result c.checked_finish.ensures)

pub returns-in_err-step-clause-some : goal.returns-in_err-step-clause-some
returns-in_err-step-clause-some g c = λ first start has.
    let byte = rw c.in-Some.is at c.in_ok-first.ensures.opens first start has in
    read-some-again first start c.args.place _ _ has.rises byte _
    (c.in_err-step.ensures.some _ c.args.place (read-nothing c.args.place _ _ byte.newest))

pub returns-clause-opens : goal.returns-clause-opens
returns-clause-opens g c = λ first start has.
    let byte = rw c.in-Some.is at c.in_ok-first.ensures.opens first start has in
    both-so c.in_ok-step.step (λ step on rises. read-again first start c.args.place _ _ has.rises byte step.place _ _ rises on)
    (c.in_ok-step.ensures.opens _ c.args.place (read-nothing c.args.place _ _ byte.newest)) c.in_ok-step.ensures.rises

pub returns-clause-some : goal.returns-clause-some
returns-clause-some g c = λ first start has.
    let byte = rw c.in-Some.is at c.in_ok-first.ensures.opens first start has in
    read-some-again first start c.args.place _ _ has.rises byte _
    (c.in_ok-step.ensures.some _ c.args.place (read-nothing c.args.place _ _ byte.newest))

pub returns-in_err-first-clause-bound : goal.returns-in_err-first-clause-bound
returns-in_err-first-clause-bound g c = λ first start has. err-any c.from_residual.result (λ stream is.
    item-later (λ to. HasReadWithin first start to (g.F.Fragments.opened c.read_byte.new.window.source))
    c.args.depth stream c.args.around c.args.level.now c.args.place c.if-place-level.false
    (λ n later. within-more first start (c.args.place + 1) n _ (omega (arith, later))
    (c.in_err-first.ensures.bound first start has)))

pub returns-in_err-step-clause-bound : goal.returns-in_err-step-clause-bound
returns-in_err-step-clause-bound g c = λ first start has. err-any c.from_residual-in_err-step.result (λ stream is.
    let byte = rw c.in-Some.is at c.in_ok-first.ensures.opens first start has in
    let here = rw c.in-Some.is at c.in_ok-first.ensures.byte stream (c.in_err-step.ensures.narrows stream is) in
    item-ends (λ to. HasReadWithin first start to (g.F.Fragments.opened c.item_by.new.window.source))
    c.args.depth stream c.args.around c.args.level.now c.args.place c.if-place-level.false c.in-Some.first here
    (both-so (item_by c.args.depth stream c.args.around c.args.level.now c.args.place (c.in-Some.first ∷ []))
    (λ step on rises. read-within-again first start c.args.place _ _ has.rises byte step.place _ rises on)
    (c.in_err-step.ensures.bound _ c.args.place (read-nothing c.args.place _ _ byte.newest) stream is)
    (item_by-later (λ n. c.args.place < n) c.args.depth stream c.args.around c.args.level.now c.args.place
    (c.in-Some.first ∷ []) (λ n later. later))))
