-- What was fetched, and whose names were read.
use Rattle.std.proofs.Common.{◌≡◌, ap, refl, sym, ◌∙◌}
use Rattle.std.specs.Prelude.{Err}
use Rattle.std.proofs.lemmas.Result.{err_from_is_err_and}
use Rattle.acl_outside.specs.declared.read_fault.ReadFault.TheVariants as read
use Rattle.fragment_open.specs.declared.head.Head.{Head}
use Rattle.merkle_chunks.specs.declared.header.Header.{Header}
use Rattle.skip_decode.specs.CheckedStream.{store_moment}
use Rattle.skip_decode.specs.declared.start_fault.StartFault.TheVariants as start
use Rattle.skip_decode.specs.inside.StoreLaws.{fetched-nowhere}
use Rattle.skip_decode.proofs.NamesRead.{fits_no_origin, index_so, names_there, no_names_there, one_error}
use Rattle.skip_decode.proofs.start.SkipStart.read_names.Goals as goal

pub returns-in_err-section-clause-went : goal.returns-in_err-section-clause-went
returns-in_err-section-clause-went g c =
    let old = c.args.self.now.window.source.opener in
    (c.front.ensures.went c.args.self.now.window.source (refl, fetched-nowhere old.head (store_moment (g.S.Store.served old.store.now) (g.S.Store.holds old.store.now) (g.S.Store.faults old.store.now) old.fault))).1

pub returns-in_err-section-clause-bad : goal.returns-in_err-section-clause-bad
returns-in_err-section-clause-bad g c = λ is.
    let new = c.front.new.window.source.opener in
    let p = err_from_is_err_and c.from_residual.result c.from_residual.ensures.1 in
    fits_no_origin new.head (g.S.Store.served new.store.now) (g.S.Store.holds new.store.now)
    (c.in_err-section.ensures.index (ap (λ e. Err e) (sym p.2 ∙ one_error c.from_residual.result p.0 (start.Read read.BadIndex) p.1 is)))

pub returns-in_err-names_of-clause-went : goal.returns-in_err-names_of-clause-went
returns-in_err-names_of-clause-went g c =
    let old = c.args.self.now.window.source.opener in
    (c.front.ensures.went c.args.self.now.window.source (refl, fetched-nowhere old.head (store_moment (g.S.Store.served old.store.now) (g.S.Store.holds old.store.now) (g.S.Store.faults old.store.now) old.fault))).1

pub returns-in_err-names_of-clause-bad : goal.returns-in_err-names_of-clause-bad
returns-in_err-names_of-clause-bad g c = λ is.
    let old = c.args.self.now.window.source.opener in
    let new = c.front.new.window.source.opener in
    let led = c.front.ensures.went c.args.self.now.window.source (refl, fetched-nowhere old.head (store_moment (g.S.Store.served old.store.now) (g.S.Store.holds old.store.now) (g.S.Store.faults old.store.now) old.fault)) in
    let p = err_from_is_err_and c.from_residual-in_err-names_of.result c.from_residual-in_err-names_of.ensures.1 in
    let header : c.header-header.result.now ≡ new.head.header = c.header-header.ensures ∙ ap (λ (h : Head). h.header) (sym led.1.head) in
    let refused = c.in_err-names_of.ensures.bad (ap (λ f. Err f) (index_so c.in_err-names_of.field-0.0 (sym p.2 ∙ one_error c.from_residual-in_err-names_of.result p.0 (start.Read read.BadIndex) p.1 is))) in
    no_names_there new.head (g.S.Store.served new.store.now) (g.S.Store.holds new.store.now) c.in_ok-section.section.items c.header-header.result.now.dictionary
    (ap (λ (h : Header). h.dictionary) header) c.in_ok-section.ensures.bytes
    (λ names formed count spelled. refused names formed (count ∙ ap (λ (h : Header). h.tags) (sym header)) (spelled ∙ sym c.as_slice.ensures.value))

pub returns-clause-went : goal.returns-clause-went
returns-clause-went g c =
    let old = c.args.self.now.window.source.opener in
    (c.front.ensures.went c.args.self.now.window.source (refl, fetched-nowhere old.head (store_moment (g.S.Store.served old.store.now) (g.S.Store.holds old.store.now) (g.S.Store.faults old.store.now) old.fault))).1

pub returns-clause-names : goal.returns-clause-names
returns-clause-names g c =
    let old = c.args.self.now.window.source.opener in
    let new = c.front.new.window.source.opener in
    let led = c.front.ensures.went c.args.self.now.window.source (refl, fetched-nowhere old.head (store_moment (g.S.Store.served old.store.now) (g.S.Store.holds old.store.now) (g.S.Store.faults old.store.now) old.fault)) in
    let header : c.header-header.result.now ≡ new.head.header = c.header-header.ensures ∙ ap (λ (h : Head). h.header) (sym led.1.head) in
    names_there new.head (g.S.Store.served new.store.now) (g.S.Store.holds new.store.now) c.in_ok-section.section.items c.header-header.result.now.dictionary
    (ap (λ (h : Header). h.dictionary) header) c.in_ok-section.ensures.bytes
    c.in_ok-names_of.field-0 c.in_ok-names_of.ensures.formed (c.in_ok-names_of.ensures.bytes ∙ c.as_slice.ensures.value)

pub returns-clause-same_store : goal.returns-clause-same_store
returns-clause-same_store g c =
    let old = c.args.self.now.window.source.opener in
    (c.front.ensures.went c.args.self.now.window.source (refl, fetched-nowhere old.head (store_moment (g.S.Store.served old.store.now) (g.S.Store.holds old.store.now) (g.S.Store.faults old.store.now) old.fault))).0
