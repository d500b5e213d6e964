-- The walk has the opener and the names of its start. An error is that of reading the names.
use Rattle.std.proofs.Common.{◌≡◌, true, List, ℕ, ap, sym, ◌∙◌, subst}
use Rattle.std.specs.Prelude.{Option, Err}
use Rattle.std.proofs.lemmas.Result.{err_from_is_err_and}
use Rattle.fragment_open.specs.Sound.{IsOrigin, tells_file}
use Rattle.fragment_open.specs.declared.head.Head.{Head}
use Rattle.skip_decode.specs.CheckedStream.{store_moment}
use Rattle.skip_decode.specs.declared.start_fault.StartFault.{StartFault}
use Rattle.skip_decode.proofs.FetchedLemmas.{good_so}
use Rattle.skip_decode.proofs.NamesRead.{names_same}
use Rattle.skip_decode.proofs.StartRefusals.{refused_held}
use Rattle.skip_decode.proofs.walk.SkipWalk.start.Goals as goal

pub returns-clause-names : goal.returns-clause-names
returns-clause-names g c =
    let same = c.over-2.ensures.opener in
    let old = c.read_names.new.self.window.source.opener in
    let new = c.over-2.result.window.source.opener in
    names_same old.head new.head (g.S.Store.served old.store.now) (g.S.Store.served new.store.now)
    (g.S.Store.holds old.store.now) (g.S.Store.holds new.store.now) c.in_ok-names.names c.over-2.result.names
    (λ i. (same i).head) (λ i. g.S.Store.served (same i).store.now) (λ i. g.S.Store.holds (same i).store.now)
    c.over-2.ensures.names c.in_ok-names.ensures.names

pub returns-clause-good : goal.returns-clause-good
returns-clause-good g c =
    let opener = c.over-2.result.window.source.opener in
    good_so opener.head.header opener.head.top opener.kept (g.S.Store.served opener.store.now) (g.S.Store.holds opener.store.now) (g.S.Store.faults opener.store.now) opener.fault
    (c.over-2.result.quiet c.over-2.ensures.fault) opener.settled

pub returns-in_err-names-clause-held : goal.returns-in_err-names-clause-held
returns-in_err-names-clause-held g c = λ d origin told.
    let p = err_from_is_err_and c.from_residual-in_err-names.result c.from_residual-in_err-names.ensures.1 in
    let same = c.in_ok-start.ensures.opener in
    let old = c.in_ok-start.start.window.source.opener in
    let new = c.read_names.new.self.window.source.opener in
    rw (p.1, p.2) (refused_held (List (List ℕ)) old.head new.head
    (store_moment (g.S.Store.served old.store.now) (g.S.Store.holds old.store.now) (g.S.Store.faults old.store.now) old.fault)
    (store_moment (g.S.Store.served new.store.now) (g.S.Store.holds new.store.now) (g.S.Store.faults new.store.now) new.fault)
    c.in_err-names.ensures.went ((λ i. (same i).fault) ∙ c.requires.quiet) d
    (subst (λ (h : Head). IsOrigin h.header h.top h.key d) (λ i. (sym same i).head) origin)
    (subst (λ (h : Head). tells_file (g.S.Store.holds old.store.now) d h.key ≡ true) (λ i. (sym same i).head)
    (subst (λ (o : Option (List ℕ)). tells_file o d c.args.opener.head.key ≡ true) (λ i. g.S.Store.holds (sym same i).store.now) told))
    c.in_err-names.field-0.0 c.in_err-names.ensures.refuses (λ is. c.in_err-names.ensures.bad (ap (λ (f : StartFault). Err f) is)))
