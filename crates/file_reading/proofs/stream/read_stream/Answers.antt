use Rattle.std.proofs.Common.{◌≡◌, false, ap, subst, rules}
use Rattle.std.specs.Prelude.{None, IfSome}
use Rattle.std.specs.List.{list_any}
use Rattle.fragment_open.specs.declared.head.Head.{Head}
use Rattle.fragment_open.specs.Settled.{is_start, root_by, since}
use Rattle.fragment_open.specs.CallReads.{Told}
use Rattle.file_reading.specs.FileEnds.{GoesOnInOrder, GoesOnReading, HeldEnds, IsRefusedWhereShown, OpensInOrder, StreamEnds, StreamShown}
use Rattle.file_reading.proofs.ReadingLemmas.{fresh_shown}
use Rattle.file_reading.proofs.StreamLemmas.{held_fault}
use Rattle.file_reading.proofs.OrderLemmas.{fresh_order}
use Rattle.file_reading.proofs.stream.read_stream.Goals as goal

pub returns-clause-held : goal.returns-clause-held
returns-clause-held g c =
    let opener = c.over-opener.result in
    held_fault c.args.head opener.head c.over-opener.ensures.head None (g.S.Store.holds c.args.store.now) (g.S.Store.holds opener.store.now)
    (ap g.S.Store.holds c.over-opener.ensures.store) (λ d. HeldEnds c.fetch_all.result d) c.fetch_all.ensures.held

pub returns-clause-exact : goal.returns-clause-exact
returns-clause-exact g c =
    let head = c.args.head in
    let P : Head → Type 0 = λ h. IfSome (g.S.Store.served c.fetch_all.new.opener.store.now) (λ all. IsRefusedWhereShown c.fetch_all.result (root_by h.header h.top) h.key (since all)) in
    subst (λ store. IfSome (g.S.Store.served store) (λ all. IsRefusedWhereShown c.fetch_all.result (root_by head.header head.top) head.key (since all))) (search rules)
    (subst P c.over-opener.ensures.head c.fetch_all.ensures.exact)

pub returns-clause-in_order : goal.returns-clause-in_order
returns-clause-in_order g c =
    let head = c.args.head in
    let result = c.fetch_all.result in
    let a = g.S.Store.served c.args.store.now in
    let z = g.S.Store.served c.fetch_all.new.opener.store.now in
    let told = subst (λ store. Told (g.S.Store.served store) z (λ more. list_any is_start more ≡ false)) c.over-opener.ensures.store c.fetch_all.ensures.grown in
    let goes = subst (λ store. GoesOnInOrder result (g.S.Store.served store) z) c.over-opener.ensures.store c.fetch_all.ensures.in_order in
    subst (λ store. IfSome (g.S.Store.served store) (λ all. OpensInOrder result (since all))) (search rules)
    (fresh_order result head.header head.top a z c.requires.settled told goes)

pub returns-clause-shown : goal.returns-clause-shown
returns-clause-shown g c =
    let head = c.args.head in
    let result = c.fetch_all.result in
    let a = g.S.Store.served c.args.store.now in
    let z = g.S.Store.served c.fetch_all.new.opener.store.now in
    let told = subst (λ store. Told (g.S.Store.served store) z (λ more. list_any is_start more ≡ false)) c.over-opener.ensures.store c.fetch_all.ensures.grown in
    let order = subst (λ store. GoesOnInOrder result (g.S.Store.served store) z) c.over-opener.ensures.store c.fetch_all.ensures.in_order in
    let P : Head → Type 0 = λ h. IfSome z (λ all. StreamEnds result h.header h.top h.key (since all)) in
    let Q : Head → Type 0 = λ h. GoesOnReading result h.header h.top h.key a z in
    let ends = subst P c.over-opener.ensures.head c.fetch_all.ensures.ends in
    let reading = subst Q c.over-opener.ensures.head
    (subst (λ store. GoesOnReading result c.over-opener.result.head.header c.over-opener.result.head.top c.over-opener.result.head.key (g.S.Store.served store) z) c.over-opener.ensures.store
    c.fetch_all.ensures.reading) in
    subst (λ store. IfSome (g.S.Store.served store) (λ all. StreamShown result head.header head.top head.key (since all))) (search rules)
    (fresh_shown result head.header head.top head.key head.right_key a z c.requires.settled told ends order reading)
