-- An opener that was just started has opened no fragment.
use Rattle.std.proofs.Common.{subst}
use Rattle.std.specs.Prelude.{IfOk}
use Rattle.fragment_open.specs.CallReads.{Told}
use Rattle.fragment_open.specs.Starting.{IsStarted}
use Rattle.skip_decode.proofs.OpenedNone.{started-none}
use Rattle.walk_tests.proofs.tests.walk_over.Goals as goal

pub start-requires-2-clause-unopened : goal.start-requires-2-clause-unopened
start-requires-2-clause-unopened g c =
    let opener = c.expect-opener.result in
    started-none _ _ opener.head.header opener.head.top
    (subst (λ r. IfOk r (λ o.
    Told (g.S.Store.served c.args.store.now) (g.S.Store.served o.store.now) (IsStarted o.head.header o.head.top)))
    c.expect-opener.ensures c.start.ensures.started)
