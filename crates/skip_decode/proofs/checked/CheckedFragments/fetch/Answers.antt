use Rattle.std.proofs.Common.{◌≡◌, ◌∙◌, ap, refl, sym, subst}
use Rattle.std.specs.Prelude.{Option, None, Some, IfSome, Ok, Err}
use Rattle.std.proofs.lemmas.Option.{none-some}
use Rattle.std.proofs.lemmas.Result.{err_from_is_err_and}
use Rattle.acl_outside.specs.declared.read_fault.ReadFault.{ReadFault}
use Rattle.fragment_open.specs.Settled.{Settled}
use Rattle.fragment_open.specs.declared.head.Head.{Head}
use Rattle.merkle_chunks.specs.HeaderBytes.{fragment_count}
use Rattle.skip_decode.specs.CheckedStream.{Fetched, MayBe, store_moment}
use Rattle.skip_decode.specs.Fragments.{Narrows}
use Rattle.skip_decode.specs.inside.StoreLaws.{fetched-onward, fetched-same}
use Rattle.skip_decode.proofs.FetchedLemmas.{fetched-one}
use Rattle.skip_decode.proofs.OpenerLemmas.{bad_index_so, err_of_kept, fragment_given, if_some, narrower_stream, ok_quiet, same_stream}
use Rattle.skip_decode.proofs.checked.CheckedFragments.fetch.Goals as goal

pub returns-in_err-fetch-clause-narrows : goal.returns-in_err-fetch-clause-narrows
returns-in_err-fetch-clause-narrows g c = by c.args.self.now.opener.fault refl
  where
    by : (fault : Option ReadFault) → c.args.self.now.opener.fault ≡ fault
        → Narrows (MayBe (g.S.Store.served c.args.self.now.opener.store.now) (g.S.Store.holds c.args.self.now.opener.store.now) c.args.self.now.opener.head)
        (MayBe (g.S.Store.served c.fetch.new.self.store.now) (g.S.Store.holds c.fetch.new.self.store.now) c.fetch.new.self.head)
    by None quiet =
        let old = c.args.self.now.opener in
        let new = c.fetch.new.self in
        narrower_stream old.head new.head c.fetch.ensures.same_head (g.S.Store.served old.store.now) (g.S.Store.served new.store.now) (g.S.Store.holds old.store.now) (g.S.Store.holds new.store.now) c.fetch.ensures.constant
        old.kept (subst (Settled (g.S.Store.served old.store.now) old.head.header old.head.top old.kept) quiet old.settled) c.fetch.ensures.grown
    by (Some fault) refused =
        let old = c.args.self.now.opener in
        let new = c.fetch.new.self in
        let same = (subst (λ (o : Option ReadFault). IfSome o (λ f. (c.fetch.result ≡ Err f) × (c.fetch.new.self ≡ c.args.self.now.opener))) refused c.fetch.ensures.again).1 in
        same_stream old.head new.head c.fetch.ensures.same_head (g.S.Store.served old.store.now) (g.S.Store.served new.store.now) (g.S.Store.holds old.store.now) (g.S.Store.holds new.store.now) c.fetch.ensures.constant
        (λ i. g.S.Store.served (same i).store.now)

pub returns-in_err-fetch-clause-went : goal.returns-in_err-fetch-clause-went
returns-in_err-fetch-clause-went g c = λ past led. (
  c.fetch.ensures.same_store ∙ led.0,
  fetched-onward past.opener.head c.args.self.now.opener.head c.fetch.new.self.head
      (store_moment (g.S.Store.served past.opener.store.now) (g.S.Store.holds past.opener.store.now) (g.S.Store.faults past.opener.store.now) past.opener.fault)
      (store_moment (g.S.Store.served c.args.self.now.opener.store.now) (g.S.Store.holds c.args.self.now.opener.store.now) (g.S.Store.faults c.args.self.now.opener.store.now) c.args.self.now.opener.fault)
      (store_moment (g.S.Store.served c.fetch.new.self.store.now) (g.S.Store.holds c.fetch.new.self.store.now) (g.S.Store.faults c.fetch.new.self.store.now) c.fetch.new.self.fault)
      led.1 (by c.args.self.now.opener.fault refl),
)
  where
    by : (fault : Option ReadFault) → c.args.self.now.opener.fault ≡ fault
        → Fetched c.args.self.now.opener.head c.fetch.new.self.head
        (store_moment (g.S.Store.served c.args.self.now.opener.store.now) (g.S.Store.holds c.args.self.now.opener.store.now) (g.S.Store.faults c.args.self.now.opener.store.now) c.args.self.now.opener.fault)
        (store_moment (g.S.Store.served c.fetch.new.self.store.now) (g.S.Store.holds c.fetch.new.self.store.now) (g.S.Store.faults c.fetch.new.self.store.now) c.fetch.new.self.fault)
    by None quiet =
        let old = c.args.self.now.opener in
        let new = c.fetch.new.self in
        subst (λ (o : Option ReadFault). Fetched old.head new.head
        (store_moment (g.S.Store.served old.store.now) (g.S.Store.holds old.store.now) (g.S.Store.faults old.store.now) o)
        (store_moment (g.S.Store.served new.store.now) (g.S.Store.holds new.store.now) (g.S.Store.faults new.store.now) new.fault)) (sym quiet)
        (fetched-one c.args.index old.head new.head c.fetch.ensures.same_head (g.S.Store.served old.store.now) (g.S.Store.served new.store.now) (g.S.Store.holds old.store.now) (g.S.Store.holds new.store.now) c.fetch.ensures.constant
        (g.S.Store.faults old.store.now) (g.S.Store.faults new.store.now) c.fetch.new.into
        old.kept (subst (Settled (g.S.Store.served old.store.now) old.head.header old.head.top old.kept) quiet old.settled)
        c.fetch.result new.fault c.fetch.ensures.stays c.fetch.ensures.grown (c.fetch.ensures.ends quiet) (c.fetch.ensures.checked quiet)
        (c.fetch.ensures.cause quiet) c.fetch.ensures.never_falls (c.fetch.ensures.quiet quiet) (c.fetch.ensures.quiet_else quiet) c.fetch.ensures.only new.quiet)
    by (Some fault) refused =
        let old = c.args.self.now.opener in
        let new = c.fetch.new.self in
        let same = (subst (λ (o : Option ReadFault). IfSome o (λ f. (c.fetch.result ≡ Err f) × (c.fetch.new.self ≡ c.args.self.now.opener))) refused c.fetch.ensures.again).1 in
        fetched-same old.head new.head
        (store_moment (g.S.Store.served old.store.now) (g.S.Store.holds old.store.now) (g.S.Store.faults old.store.now) old.fault)
        (store_moment (g.S.Store.served new.store.now) (g.S.Store.holds new.store.now) (g.S.Store.faults new.store.now) new.fault)
        c.fetch.ensures.same_head
        (λ i. store_moment (g.S.Store.served (same i).store.now) (g.S.Store.holds (same i).store.now) (g.S.Store.faults (same i).store.now) (same i).fault)

pub returns-in_err-fetch-clause-index : goal.returns-in_err-fetch-clause-index
returns-in_err-fetch-clause-index g c = λ is.
    let old = c.args.self.now.opener in
    let new = c.fetch.new.self in
    let p = err_from_is_err_and c.from_residual.result c.from_residual.ensures.1 in
    let again = if_some _ _ old.fault (λ f t. (t.0, λ i. g.S.Store.served (t.1 i).store.now)) c.fetch.ensures.again in
    bad_index_so old.head new.head c.fetch.ensures.same_head
    (g.S.Store.served old.store.now) (g.S.Store.served new.store.now)
    (g.S.Store.holds old.store.now) (g.S.Store.holds new.store.now) c.fetch.ensures.constant
    old.fault c.fetch.result c.args.index c.fetch.new.into again c.args.self.now.index
    c.fetch.ensures.ends c.fetch.ensures.held
    (c.in_err-fetch.was ∙ ap (λ f. Err f) (sym p.2) ∙ sym p.1 ∙ is)

pub invariant_of-self : goal.invariant_of-self
invariant_of-self g c =
    let old = c.args.self.now.opener in
    let new = c.fetch.new.self in
    let again = if_some _ _ old.fault (λ f t. (t.0, λ i. g.S.Store.served (t.1 i).store.now)) c.fetch.ensures.again in
    record {
      index = λ is.
          bad_index_so old.head new.head c.fetch.ensures.same_head
          (g.S.Store.served old.store.now) (g.S.Store.served new.store.now)
          (g.S.Store.holds old.store.now) (g.S.Store.holds new.store.now) c.fetch.ensures.constant
          old.fault c.fetch.result c.args.index c.fetch.new.into again c.args.self.now.index
          c.fetch.ensures.ends c.fetch.ensures.held
          (err_of_kept c.fetch.result new.fault c.fetch.ensures.stays is);
      bound = c.args.self.now.bound ∙ ap (λ (h : Head). fragment_count h.header) (sym c.fetch.ensures.same_head);
      members = λ none. absurd (none-some c.in_err-fetch.field-0.0 (sym none ∙ c.in_err-fetch.ensures.stays));
    }

pub returns-clause-narrows : goal.returns-clause-narrows
returns-clause-narrows g c =
    let old = c.args.self.now.opener in
    let new = c.fetch.new.self in
    let quiet = ok_quiet _ c.in_ok-fetch.field-0 old.fault c.in_ok-fetch.ensures.again in
    narrower_stream old.head new.head c.fetch.ensures.same_head
    (g.S.Store.served old.store.now) (g.S.Store.served new.store.now)
    (g.S.Store.holds old.store.now) (g.S.Store.holds new.store.now) c.fetch.ensures.constant
    old.kept (subst (Settled (g.S.Store.served old.store.now) old.head.header old.head.top old.kept) quiet old.settled)
    c.fetch.ensures.grown

pub returns-clause-went : goal.returns-clause-went
returns-clause-went g c = λ past led.
    let old = c.args.self.now.opener in
    let new = c.fetch.new.self in
    let quiet = ok_quiet _ c.in_ok-fetch.field-0 old.fault c.in_ok-fetch.ensures.again in (
      c.fetch.ensures.same_store ∙ led.0,
      fetched-onward past.opener.head old.head new.head
          (store_moment (g.S.Store.served past.opener.store.now) (g.S.Store.holds past.opener.store.now)
          (g.S.Store.faults past.opener.store.now) past.opener.fault)
          (store_moment (g.S.Store.served old.store.now) (g.S.Store.holds old.store.now)
          (g.S.Store.faults old.store.now) old.fault)
          (store_moment (g.S.Store.served new.store.now) (g.S.Store.holds new.store.now)
          (g.S.Store.faults new.store.now) new.fault)
          led.1
          (subst (λ (o : Option ReadFault). Fetched old.head new.head
          (store_moment (g.S.Store.served old.store.now) (g.S.Store.holds old.store.now)
          (g.S.Store.faults old.store.now) o)
          (store_moment (g.S.Store.served new.store.now) (g.S.Store.holds new.store.now)
          (g.S.Store.faults new.store.now) new.fault)) (sym quiet)
          (fetched-one c.args.index old.head new.head c.fetch.ensures.same_head
          (g.S.Store.served old.store.now) (g.S.Store.served new.store.now)
          (g.S.Store.holds old.store.now) (g.S.Store.holds new.store.now) c.fetch.ensures.constant
          (g.S.Store.faults old.store.now) (g.S.Store.faults new.store.now) c.fetch.new.into
          old.kept
          (subst (Settled (g.S.Store.served old.store.now) old.head.header old.head.top old.kept) quiet old.settled)
          c.fetch.result new.fault c.fetch.ensures.stays c.fetch.ensures.grown
          (c.fetch.ensures.ends quiet) (c.fetch.ensures.checked quiet)
          (c.fetch.ensures.cause quiet) c.fetch.ensures.never_falls (c.fetch.ensures.quiet quiet)
          (c.fetch.ensures.quiet_else quiet) c.fetch.ensures.only new.quiet)),
    )

pub returns-clause-given : goal.returns-clause-given
returns-clause-given g c =
    let old = c.args.self.now.opener in
    let new = c.fetch.new.self in
    let quiet = ok_quiet _ c.in_ok-fetch.field-0 old.fault c.in_ok-fetch.ensures.again in
    fragment_given old.head new.head c.fetch.ensures.same_head
    (g.S.Store.served old.store.now) (g.S.Store.served new.store.now)
    (g.S.Store.holds old.store.now) (g.S.Store.holds new.store.now) c.fetch.ensures.constant
    (Ok c.in_ok-fetch.field-0) c.args.index c.fetch.new.into c.requires
    (c.in_ok-fetch.ensures.ends quiet) c.in_ok-fetch.ensures.held
