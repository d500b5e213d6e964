use Rattle.std.proofs.Common.{◌≡◌, ℕ, ◌∙◌, ◌+◌, ◌*◌, List, false, take, refl, sym, subst, arith}
use Rattle.std.proofs.lemmas.Result.{err_from_is_err_and}
use Rattle.std.specs.Prelude.{IfSome, Ok}
use Rattle.acl_model.specs.Stream.{plain}
use Rattle.fragment_open.specs.Settled.{root_by, since}
use Rattle.file_reading.specs.declared.fault.FileFault.TheVariants.{NoMemory, Refused}
use Rattle.file_reading.specs.FileEnds.{AreFirst, IsHonestFault, OfHeldDocument, is_bad_fragment}
use Rattle.file_reading.proofs.ReadingLemmas.{HasPlain, fault_checked, fetch_reading, good_checked, plain_one_more, stopped_reading, whole_reading}
use Rattle.file_reading.proofs.StreamLemmas.{ended_told, fetch_fault, first_told, grown-more, held_ended, held_fault, held_more, regular_told, stream_told}
use Rattle.file_reading.proofs.OrderLemmas.{none_yet, one_less, one_more, stopped_order, whole_order}
use Rattle.file_reading.proofs.ShownLemmas.{fetch_exact, good_exact}
use Rattle.file_reading.proofs.stream.fetch_all.Goals as goal

-- ---- no memory for a stream

pub returns-in_err-stream-clause-ends : goal.returns-in_err-stream-clause-ends
returns-in_err-stream-clause-ends g c =
    let p = err_from_is_err_and c.from_residual.result c.from_residual.ensures.1 in
    let opener = c.args.opener.now in
    let head = opener.head in
    ended_told c.from_residual.result p.0 NoMemory p.1 p.2 head.header head.top head.key (g.S.Store.served opener.store.now)
    (regular_told head head refl opener.kept (g.S.Store.served opener.store.now) opener.fault c.requires opener.settled)

pub returns-in_err-stream-clause-exact : goal.returns-in_err-stream-clause-exact
returns-in_err-stream-clause-exact g c =
    let opener = c.args.opener.now in
    good_exact opener.head opener.head refl opener.kept opener.fault c.requires c.from_residual.result (g.S.Store.served opener.store.now) opener.settled

pub returns-in_err-stream-clause-in_order : goal.returns-in_err-stream-clause-in_order
returns-in_err-stream-clause-in_order g c =
    let p = err_from_is_err_and c.from_residual.result c.from_residual.ensures.1 in
    let served = g.S.Store.served c.args.opener.now.store.now in
    stopped_order 0 served served (none_yet served) c.from_residual.result p.0 p.1

pub returns-in_err-stream-clause-checked : goal.returns-in_err-stream-clause-checked
returns-in_err-stream-clause-checked g c =
    let opener = c.args.opener.now in
    good_checked opener.head opener.head refl opener.kept opener.fault c.requires (g.S.Store.served opener.store.now) opener.settled (is_bad_fragment c.from_residual.result)

pub returns-in_err-stream-clause-reading : goal.returns-in_err-stream-clause-reading
returns-in_err-stream-clause-reading g c =
    let p = err_from_is_err_and c.from_residual.result c.from_residual.ensures.1 in
    let head = c.args.opener.now.head in
    let served = g.S.Store.served c.args.opener.now.store.now in
    stopped_reading head.header head.top head.key served served c.from_residual.result p.0 p.1 p.2

-- ---- a fragment is refused

pub returns-in_err-fetch-clause-grown : goal.returns-in_err-fetch-clause-grown
returns-in_err-fetch-clause-grown g c =
    grown-more (g.S.Store.served c.args.opener.now.store.now) (g.S.Store.served c.loop-index.opener.store.now) (g.S.Store.served c.fetch.new.self.store.now)
    c.loop-index.invariant.told c.in_err-fetch.ensures.grown

pub returns-in_err-fetch-clause-ends : goal.returns-in_err-fetch-clause-ends
returns-in_err-fetch-clause-ends g c =
    let p = err_from_is_err_and c.from_residual-in_err-fetch.result c.from_residual-in_err-fetch.ensures.1 in
    let head = c.loop-index.opener.head in
    let start = c.args.opener.now.head in
    ended_told c.from_residual-in_err-fetch.result p.0 (Refused c.in_err-fetch.field-0.0) p.1 p.2 start.header start.top start.key (g.S.Store.served c.fetch.new.self.store.now)
    (fetch_fault (Unit {0}) c.loop-index.index head.header head.top head.key c.fetch.new.into c.in_err-fetch.field-0.0 (g.S.Store.served c.fetch.new.self.store.now)
    (c.in_err-fetch.ensures.ends c.loop-index.invariant.fault))

pub returns-in_err-fetch-clause-exact : goal.returns-in_err-fetch-clause-exact
returns-in_err-fetch-clause-exact g c =
    let p = err_from_is_err_and c.from_residual-in_err-fetch.result c.from_residual-in_err-fetch.ensures.1 in
    let old = c.loop-index.opener in
    fetch_exact c.args.opener.now.head old.head c.loop-index.invariant.head old.kept old.fault c.loop-index.invariant.fault (Unit {0})
    (g.S.Store.served old.store.now) (g.S.Store.served c.fetch.new.self.store.now) old.settled c.in_err-fetch.ensures.grown c.loop-index.index c.fetch.new.into c.in_err-fetch.field-0.0
    (c.in_err-fetch.ensures.ends c.loop-index.invariant.fault) c.from_residual-in_err-fetch.result p.0 p.1 p.2

pub returns-in_err-fetch-clause-in_order : goal.returns-in_err-fetch-clause-in_order
returns-in_err-fetch-clause-in_order g c =
    let p = err_from_is_err_and c.from_residual-in_err-fetch.result c.from_residual-in_err-fetch.ensures.1 in
    one_less (Unit {0}) c.in_err-fetch.field-0.0 c.loop-index.index (g.S.Store.served c.args.opener.now.store.now) (g.S.Store.served c.loop-index.opener.store.now) (g.S.Store.served c.fetch.new.self.store.now)
    c.loop-index.invariant.told c.loop-index.invariant.order (c.in_err-fetch.ensures.opens c.loop-index.invariant.fault) c.from_residual-in_err-fetch.result p.0 p.1

pub returns-in_err-fetch-clause-checked : goal.returns-in_err-fetch-clause-checked
returns-in_err-fetch-clause-checked g c =
    let p = err_from_is_err_and c.from_residual-in_err-fetch.result c.from_residual-in_err-fetch.ensures.1 in
    fault_checked c.in_err-fetch.field-0.0 (g.S.Store.served c.fetch.new.self.store.now) (c.in_err-fetch.ensures.checked c.loop-index.invariant.fault)
    c.from_residual-in_err-fetch.result p.0 p.1 p.2

pub returns-in_err-fetch-clause-reading : goal.returns-in_err-fetch-clause-reading
returns-in_err-fetch-clause-reading g c =
    let p = err_from_is_err_and c.from_residual-in_err-fetch.result c.from_residual-in_err-fetch.ensures.1 in
    let inv = c.loop-index.invariant in
    let old = c.loop-index.opener in
    fetch_reading c.args.opener.now.head old.head inv.head old.kept old.fault inv.fault c.loop-index.index (omega (arith, c.loop-index-test.true, inv.count))
    (g.S.Store.served c.args.opener.now.store.now) (g.S.Store.served old.store.now) (g.S.Store.served c.fetch.new.self.store.now) inv.told old.settled c.in_err-fetch.ensures.grown inv.order
    c.in_err-fetch.field-0.0 (c.in_err-fetch.ensures.unopened inv.fault) c.from_residual-in_err-fetch.result p.0 p.1 p.2

pub returns-in_err-fetch-clause-held : goal.returns-in_err-fetch-clause-held
returns-in_err-fetch-clause-held g c = λ d is root.
    let p = err_from_is_err_and c.from_residual-in_err-fetch.result c.from_residual-in_err-fetch.ensures.1 in
    held_ended c.from_residual-in_err-fetch.result p.0 (Refused c.in_err-fetch.field-0.0) p.1 p.2 d
    (held_fault c.args.opener.now.head c.loop-index.opener.head c.loop-index.invariant.head c.loop-index.opener.kept
    (g.S.Store.holds c.args.opener.now.store.now) (g.S.Store.holds c.loop-index.opener.store.now) c.loop-index.invariant.constant
    (λ e. IsHonestFault (Refused c.in_err-fetch.field-0.0)) c.in_err-fetch.ensures.held d is root)

-- ---- memory runs out

pub returns-in_err-extend_from_slice-clause-grown : goal.returns-in_err-extend_from_slice-clause-grown
returns-in_err-extend_from_slice-clause-grown g c =
    grown-more (g.S.Store.served c.args.opener.now.store.now) (g.S.Store.served c.loop-index.opener.store.now) (g.S.Store.served c.fetch.new.self.store.now)
    c.loop-index.invariant.told c.in_ok-fetch.ensures.grown

pub returns-in_err-extend_from_slice-clause-exact : goal.returns-in_err-extend_from_slice-clause-exact
returns-in_err-extend_from_slice-clause-exact g c =
    let new = c.fetch.new.self in
    good_exact c.args.opener.now.head new.head (c.in_ok-fetch.ensures.same_head ∙ c.loop-index.invariant.head) new.kept new.fault c.in_ok-fetch.ensures.stays
    c.from_residual-in_err-extend_from_slice.result (g.S.Store.served new.store.now) new.settled

pub returns-in_err-extend_from_slice-clause-in_order : goal.returns-in_err-extend_from_slice-clause-in_order
returns-in_err-extend_from_slice-clause-in_order g c =
    let p = err_from_is_err_and c.from_residual-in_err-extend_from_slice.result c.from_residual-in_err-extend_from_slice.ensures.1 in
    let a = g.S.Store.served c.args.opener.now.store.now in
    let b = g.S.Store.served c.loop-index.opener.store.now in
    let z = g.S.Store.served c.fetch.new.self.store.now in
    stopped_order (c.loop-index.index + 1) a z (one_more c.in_ok-fetch.field-0 c.loop-index.index a b z c.loop-index.invariant.told c.loop-index.invariant.order (c.in_ok-fetch.ensures.opens c.loop-index.invariant.fault))
    c.from_residual-in_err-extend_from_slice.result p.0 p.1

pub returns-in_err-extend_from_slice-clause-checked : goal.returns-in_err-extend_from_slice-clause-checked
returns-in_err-extend_from_slice-clause-checked g c =
    let new = c.fetch.new.self in
    good_checked c.args.opener.now.head new.head (c.in_ok-fetch.ensures.same_head ∙ c.loop-index.invariant.head) new.kept new.fault c.in_ok-fetch.ensures.stays
    (g.S.Store.served new.store.now) new.settled (is_bad_fragment c.from_residual-in_err-extend_from_slice.result)

pub returns-in_err-extend_from_slice-clause-reading : goal.returns-in_err-extend_from_slice-clause-reading
returns-in_err-extend_from_slice-clause-reading g c =
    let p = err_from_is_err_and c.from_residual-in_err-extend_from_slice.result c.from_residual-in_err-extend_from_slice.ensures.1 in
    let start = c.args.opener.now in
    stopped_reading start.head.header start.head.top start.head.key (g.S.Store.served start.store.now) (g.S.Store.served c.fetch.new.self.store.now)
    c.from_residual-in_err-extend_from_slice.result p.0 p.1 p.2

-- ---- one more fragment

pub loop-index-preserved : goal.loop-index-preserved
loop-index-preserved g c =
    let start = c.args.opener.now in
    let old = c.loop-index.opener in
    let new = c.fetch.new.self in
    let inv = c.loop-index.invariant in
    let i : ℕ = c.loop-index.index in
    let stream : List ℕ = c.loop-index.stream.items in
    let fragment : List ℕ = c.fetch.new.into in
    record {
      head = c.in_ok-fetch.ensures.same_head ∙ inv.head;
      fault = c.in_ok-fetch.ensures.stays;
      name = c.in_ok-fetch.ensures.same_store ∙ inv.name;
      count = inv.count;
      told = grown-more (g.S.Store.served start.store.now) (g.S.Store.served old.store.now) (g.S.Store.served new.store.now) inv.told c.in_ok-fetch.ensures.grown;
      constant = c.in_ok-fetch.ensures.constant ∙ inv.constant;
      never_falls = omega (arith, inv.never_falls, c.in_ok-fetch.ensures.never_falls);
      quiet = c.in_ok-fetch.ensures.quiet inv.fault ∙ inv.quiet;
      first = subst (λ (l : List ℕ). IfSome (g.S.Store.served new.store.now) (λ all. AreFirst (root_by start.head.header start.head.top) start.head.key (i + 1) l (since all)))
          (sym c.in_ok-extend_from_slice.ensures.items)
          (first_told start.head old.head inv.head old.kept (g.S.Store.served old.store.now) (g.S.Store.served new.store.now) old.fault inv.fault old.settled c.in_ok-fetch.ensures.grown
          (Unit {0}) c.in_ok-fetch.field-0 i stream fragment (omega (arith, c.loop-index-test.true, inv.count)) inv.first (c.in_ok-fetch.ensures.ends inv.fault));
      order = one_more c.in_ok-fetch.field-0 i (g.S.Store.served start.store.now) (g.S.Store.served old.store.now) (g.S.Store.served new.store.now) inv.told inv.order (c.in_ok-fetch.ensures.opens inv.fault);
      plain_bytes = subst (λ (l : List ℕ). HasPlain start.head.key l (g.S.Store.served start.store.now) (g.S.Store.served new.store.now))
          (sym c.in_ok-extend_from_slice.ensures.items)
          (plain_one_more c.in_ok-fetch.field-0 start.head old.head inv.head stream fragment (g.S.Store.served start.store.now) (g.S.Store.served old.store.now) (g.S.Store.served new.store.now)
          inv.told inv.plain_bytes (c.in_ok-fetch.ensures.plain inv.fault));
      held = subst (λ (l : List ℕ). OfHeldDocument (g.S.Store.holds start.store.now) (root_by start.head.header start.head.top) start.head.key (λ d. l ≡ take (256 * (i + 1)) (plain d)))
          (sym c.in_ok-extend_from_slice.ensures.items)
          (held_more start.head old.head inv.head old.kept (g.S.Store.holds start.store.now) (g.S.Store.holds old.store.now) inv.constant old.held i stream fragment
          (omega (arith, c.loop-index-test.true, inv.count)) inv.held c.in_ok-fetch.ensures.held);
    }

-- ---- after the last fragment

pub returns-clause-ends : goal.returns-clause-ends
returns-clause-ends g c =
    let start = c.args.opener.now in
    let opener = c.loop-index.opener in
    let inv = c.loop-index.invariant in
    stream_told start.head opener.head inv.head opener.kept (g.S.Store.served opener.store.now) opener.fault inv.fault opener.settled c.loop-index.index c.loop-index.stream.items
    (omega (arith, inv.count, c.loop-index-test.false, c.loop-index.auto.index-end)) inv.first

pub returns-clause-exact : goal.returns-clause-exact
returns-clause-exact g c =
    let opener = c.loop-index.opener in
    good_exact c.args.opener.now.head opener.head c.loop-index.invariant.head opener.kept opener.fault c.loop-index.invariant.fault (Ok c.loop-index.stream) (g.S.Store.served opener.store.now) opener.settled

pub returns-clause-in_order : goal.returns-clause-in_order
returns-clause-in_order g c =
    let start = c.args.opener.now in
    let opener = c.loop-index.opener in
    let inv = c.loop-index.invariant in
    whole_order c.loop-index.stream start.head opener.head inv.head opener.kept opener.fault inv.fault c.loop-index.index (g.S.Store.served start.store.now) (g.S.Store.served opener.store.now)
    (omega (arith, inv.count, c.loop-index-test.false, c.loop-index.auto.index-end)) opener.settled inv.order

pub returns-clause-checked : goal.returns-clause-checked
returns-clause-checked g c =
    let opener = c.loop-index.opener in
    good_checked c.args.opener.now.head opener.head c.loop-index.invariant.head opener.kept opener.fault c.loop-index.invariant.fault (g.S.Store.served opener.store.now) opener.settled false

pub returns-clause-reading : goal.returns-clause-reading
returns-clause-reading g c =
    let start = c.args.opener.now in
    let opener = c.loop-index.opener in
    let inv = c.loop-index.invariant in
    whole_reading start.head opener.head inv.head opener.kept opener.fault inv.fault c.loop-index.stream (g.S.Store.served start.store.now) (g.S.Store.served opener.store.now) opener.settled inv.plain_bytes
