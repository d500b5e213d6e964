use Rattle.std.proofs.Common.{◌∙◌}
use Rattle.std.proofs.lemmas.Result.{err_from_is_err_and}
use Rattle.merkle_chunks.specs.HeaderBytes.{fragment_count}
use Rattle.fragment_open.proofs.StartLemmas.{held_started, holds_file, told_no_header, told_no_top, told_started}
use Rattle.fragment_open.proofs.HeldLemmas.{still_holds}
use Rattle.fragment_open.proofs.FetchLemmas.{held_settled, settled_started}
use Rattle.fragment_open.proofs.head.begin.Goals as goal

pub returns-in_err-header-clause-told : goal.returns-in_err-header-clause-told
returns-in_err-header-clause-told g c =
    let p = err_from_is_err_and c.from_residual.result c.from_residual.ensures.1 in
    rw (p.1, p.2) (told_no_header c.args.root c.args.key (g.S.Store.served c.args.store.now) (g.S.Store.served c.read_header.new.store) _ c.in_err-header.ensures.told)

pub returns-in_err-top-clause-told : goal.returns-in_err-top-clause-told
returns-in_err-top-clause-told g c =
    let p = err_from_is_err_and c.from_residual-in_err-top.result c.from_residual-in_err-top.ensures.1 in
    rw (p.1, p.2) (told_no_top c.args.root c.args.key c.in_ok-header.header c.fragments.result c.fragments.ensures (g.S.Store.served c.args.store.now) (g.S.Store.served c.read_header.new.store) (g.S.Store.served c.read_top.new.store) _
    c.in_ok-header.ensures.told c.in_err-top.ensures.told)

pub returns-in_err-top-clause-held : goal.returns-in_err-top-clause-held
returns-in_err-top-clause-held g c = λ d is same.
    let p = err_from_is_err_and c.from_residual-in_err-top.result c.from_residual-in_err-top.ensures.1 in
    let h = c.in_ok-header.header in
    rw (p.1, p.2) (c.in_err-top.ensures.held d c.args.key
    (still_holds (g.S.Store.holds c.args.store.now) (g.S.Store.holds c.read_header.new.store) (fragment_count h) c.fragments.result d c.args.key c.in_ok-header.ensures.constant c.fragments.ensures
    (holds_file d c.args.key (g.S.Store.holds c.args.store.now) is h (c.in_ok-header.ensures.held d c.args.key is))))

pub returns-clause-told : goal.returns-clause-told
returns-clause-told g c =
    told_started c.args.root c.args.key c.in_ok-header.header c.fragments.result c.fragments.ensures (g.S.Store.served c.args.store.now) (g.S.Store.served c.read_header.new.store) (g.S.Store.served c.read_top.new.store)
    c.in_ok-top.top c.checked.result (λ head. head.header) (λ head. head.top) (λ head. head.key) c.in_ok-header.ensures.told c.in_ok-top.ensures.told c.checked.ensures

pub returns-clause-held : goal.returns-clause-held
returns-clause-held g c = λ d is same.
    let h = c.in_ok-header.header in
    let header = c.in_ok-header.ensures.held d c.args.key is in
    held_started d c.args.root c.args.key h c.fragments.result (g.S.Store.holds c.args.store.now) c.in_ok-top.top c.checked.result (λ head. head.header) (λ head. head.top) (λ head. head.key)
    c.fragments.ensures is same header
    (c.in_ok-top.ensures.held d c.args.key
    (still_holds (g.S.Store.holds c.args.store.now) (g.S.Store.holds c.read_header.new.store) (fragment_count h) c.fragments.result d c.args.key c.in_ok-header.ensures.constant c.fragments.ensures
    (holds_file d c.args.key (g.S.Store.holds c.args.store.now) is h header)))
    c.checked.ensures

pub returns-clause-settled : goal.returns-clause-settled
returns-clause-settled g c =
    settled_started c.checked.result (λ head. head.header) (λ head. head.top) c.args.root c.args.key (g.S.Store.served c.args.store.now) (g.S.Store.served c.read_top.new.store)
    (told_started c.args.root c.args.key c.in_ok-header.header c.fragments.result c.fragments.ensures (g.S.Store.served c.args.store.now) (g.S.Store.served c.read_header.new.store) (g.S.Store.served c.read_top.new.store)
    c.in_ok-top.top c.checked.result (λ head. head.header) (λ head. head.top) (λ head. head.key) c.in_ok-header.ensures.told c.in_ok-top.ensures.told c.checked.ensures)

pub returns-clause-settled_held : goal.returns-clause-settled_held
returns-clause-settled_held g c =
    held_settled c.checked.result (λ head. head.header) (λ head. head.top) (λ head. head.key) c.args.root c.args.key c.in_ok-header.header c.in_ok-top.top
    (g.S.Store.holds c.args.store.now) (g.S.Store.holds c.read_top.new.store) (c.in_ok-top.ensures.constant ∙ c.in_ok-header.ensures.constant) c.checked.ensures
    (λ d is same.
    let h = c.in_ok-header.header in
    let header = c.in_ok-header.ensures.held d c.args.key is in
    held_started d c.args.root c.args.key h c.fragments.result (g.S.Store.holds c.args.store.now) c.in_ok-top.top c.checked.result (λ head. head.header) (λ head. head.top) (λ head. head.key)
    c.fragments.ensures is same header
    (c.in_ok-top.ensures.held d c.args.key
    (still_holds (g.S.Store.holds c.args.store.now) (g.S.Store.holds c.read_header.new.store) (fragment_count h) c.fragments.result d c.args.key c.in_ok-header.ensures.constant c.fragments.ensures
    (holds_file d c.args.key (g.S.Store.holds c.args.store.now) is h header)))
    c.checked.ensures)
