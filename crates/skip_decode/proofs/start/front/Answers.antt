-- The fragments so far and their bytes, and then the next ones.
use Rattle.std.proofs.Common.{◌≡◌, suc, ◌+◌, ◌*◌, ◌/◌, ◌%◌, ◌≤◌, refl, ◌∙◌, arith}
use Rattle.std.proofs.lemmas.Result.{err_from_is_err_and}
use Rattle.skip_decode.proofs.NamesRead.{more_bytes}
use Rattle.skip_decode.proofs.OpenedFirst.{first_more, section_stopped_at}
use Rattle.skip_decode.proofs.start.front.Goals as goal

pub returns-in_err-append-clause-opens : goal.returns-in_err-append-clause-opens
returns-in_err-append-clause-opens g c =
    let p = err_from_is_err_and c.from_residual-in_err-append.result c.from_residual-in_err-append.ensures.1 in
    let few : c.loop-index.index + 1 ≤ (c.args.count + 255) / 256 = omega (arith, c.loop-index-test.true) in
    section_stopped_at (Unit {0}) c.from_residual-in_err-append.result p.0 c.in_err-append.field-0.0 c.loop-index.index c.loop-index.index ((c.args.count + 255) / 256)
    (g.F.Fragments.opened c.args.window.now.source) (g.F.Fragments.opened c.loop-index.window.source) (g.F.Fragments.opened c.append.new.window.source)
    p.1 refl few c.loop-index.invariant.opened c.in_err-append.ensures.opens

pub loop-index-preserved : goal.loop-index-preserved
loop-index-preserved g c =
    let inv = c.loop-index.invariant in
    let more = c.in_ok-append.ensures in
    record {
      count = refl;
      whole = inv.whole;
      same_count = more.same_count ∙ inv.same_count;
      refused = more.refuses ∙ inv.refused;
      held = more.held;
      narrows = λ stream is. inv.narrows stream (more.narrows stream is);
      went = λ past led. more.went past (inv.went past led);
      opened = first_more c.loop-index.index c.loop-index.index (c.loop-index.index + 1) (g.F.Fragments.opened c.args.window.now.source) (g.F.Fragments.opened c.loop-index.window.source) (g.F.Fragments.opened c.append.new.window.source) refl (omega arith) inv.opened more.opens;
      newest = λ some. more.newest;
      bytes = λ stream is.
          more.bytes stream is
          ∙ more_bytes stream c.loop-index.bytes.items (256 * c.loop-index.index) (256 * c.loop-index.index) 256 (256 * (c.loop-index.index + 1)) refl (omega arith)
          (inv.bytes stream (more.narrows stream is));
    }

pub returns-in_err-append-2-clause-opens : goal.returns-in_err-append-2-clause-opens
returns-in_err-append-2-clause-opens g c =
    let p = err_from_is_err_and c.from_residual-in_err-append-2.result c.from_residual-in_err-append-2.ensures.1 in
    let end : c.args.count / 256 ≡ c.loop-index.index = omega (arith, c.loop-index-test.false, c.loop-index.auto.index-end) in
    let few : c.loop-index.index + 1 ≤ (c.args.count + 255) / 256 = omega (arith, end, c.if-count-eq0.false) in
    section_stopped_at (Unit {0}) c.from_residual-in_err-append-2.result p.0 c.in_err-append-2.field-0.0 c.loop-index.index _ ((c.args.count + 255) / 256)
    (g.F.Fragments.opened c.args.window.now.source) (g.F.Fragments.opened c.loop-index.window.source) (g.F.Fragments.opened c.append-2.new.window.source)
    p.1 end few c.loop-index.invariant.opened c.in_err-append-2.ensures.opens

pub returns-clause-opens : goal.returns-clause-opens
returns-clause-opens g c =
    let end : c.args.count / 256 ≡ c.loop-index.index = omega (arith, c.loop-index-test.false, c.loop-index.auto.index-end) in
    let next : (c.args.count + 255) / 256 ≡ suc c.loop-index.index = omega (arith, end, c.if-count-eq0.false) in
    first_more c.loop-index.index _ ((c.args.count + 255) / 256) (g.F.Fragments.opened c.args.window.now.source) (g.F.Fragments.opened c.loop-index.window.source) (g.F.Fragments.opened c.append-2.new.window.source)
    end next c.loop-index.invariant.opened c.in_ok-append-2.ensures.opens

pub returns-clause-bytes : goal.returns-clause-bytes
returns-clause-bytes g c = λ stream is.
    let inv = c.loop-index.invariant in
    let more = c.in_ok-append-2.ensures in
    let end : c.args.count / 256 ≡ c.loop-index.index = omega (arith, c.loop-index-test.false, c.loop-index.auto.index-end) in
    more.bytes stream is
    ∙ more_bytes stream c.loop-index.bytes.items (256 * c.loop-index.index) _ (c.args.count % 256) c.args.count (omega (arith, end)) (omega (arith, end))
    (inv.bytes stream (more.narrows stream is))
