-- The reads of an opener that has refused nothing are good.
use Rattle.skip_decode.proofs.FetchedLemmas.{good_so}
use Rattle.skip_decode.proofs.start.SkipStart.over.Goals as goal

pub returns-in_err-checked-clause-good : goal.returns-in_err-checked-clause-good
returns-in_err-checked-clause-good g c =
    let opener = c.args.opener in
    good_so opener.head.header opener.head.top opener.kept (g.S.Store.served opener.store.now)
    (g.S.Store.holds opener.store.now) (g.S.Store.faults opener.store.now) opener.fault c.requires.quiet opener.settled

pub returns-clause-good : goal.returns-clause-good
returns-clause-good g c =
    let opener = c.args.opener in
    good_so opener.head.header opener.head.top opener.kept (g.S.Store.served opener.store.now)
    (g.S.Store.holds opener.store.now) (g.S.Store.faults opener.store.now) opener.fault c.requires.quiet opener.settled
