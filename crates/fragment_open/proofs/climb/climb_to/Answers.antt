use Rattle.std.proofs.Common.{◌≡◌, ◌+◌, ℕ, ap, sym, subst, ◌∙◌, arith, refl}
use Rattle.std.proofs.lemmas.Result.{err_from_is_err_and}
use Rattle.merkle_chunks.proofs.CountLemmas.{top_level-low}
use Rattle.fragment_open.specs.Asks.{index_at}
use Rattle.fragment_open.specs.CallReads.{Told}
use Rattle.fragment_open.specs.inside.Climbing.{Climbs}
use Rattle.fragment_open.specs.Held.{digest_held}
use Rattle.fragment_open.proofs.HeldLemmas.{still_holds}
use Rattle.fragment_open.proofs.ClimbLemmas.{told_climb, told_end}
use Rattle.fragment_open.proofs.climb.climb_to.Goals as goal

pub returns-in_err-climb-clause-told : goal.returns-in_err-climb-clause-told
returns-in_err-climb-clause-told g c =
    let p = err_from_is_err_and c.from_residual.result c.from_residual.ensures.1 in
    let s = c.up.climb in
    rw (p.1, p.2) (told_end (g.S.Store.served c.args.store.now) (g.S.Store.served c.up.store) (g.S.Store.served c.step.new.store)
    c.args.from.fragments c.args.from.index s.fragments s.index c.args.from.level s.level (s.level + 1) c.args.goal c.args.from.digest s.digest _
    c.up.invariant.same.0 c.up.invariant.same.1 (omega (arith, c.up-test.true)) c.up.invariant.told c.in_err-climb.ensures.told)

pub up-preserved : goal.up-preserved
up-preserved g c =
    let s = c.up.climb in
    let next = c.in_ok-climb.climb in
    let is = c.in_ok-climb.ensures.next in
    let inv = c.up.invariant in
    record {
      low = omega (arith, is.2, c.up-test.true);
      same = (is.0 ∙ inv.same.0, is.1 ∙ inv.same.1, refl);
      told = told_climb (g.S.Store.served c.args.store.now) (g.S.Store.served c.up.store) (g.S.Store.served c.step.new.store)
          c.args.from.fragments c.args.from.index s.fragments s.index c.args.from.level s.level next.level c.args.from.digest s.digest next.digest
          inv.same.0 inv.same.1 inv.told c.in_ok-climb.ensures.told;
      constant = c.in_ok-climb.ensures.constant ∙ inv.constant;
      never_falls = omega (arith, c.in_ok-climb.ensures.never_falls, inv.never_falls);
      quiet = c.in_ok-climb.ensures.quiet ∙ inv.quiet;
      held = λ d key holds here.
          c.in_ok-climb.ensures.held d key (still_holds (g.S.Store.holds c.args.store.now) (g.S.Store.holds c.up.store) c.args.from.fragments s.fragments d key inv.constant inv.same.0 holds)
          (inv.held d key holds here ∙ ap (λ (i : ℕ). digest_held d key s.level (index_at i s.level)) (sym inv.same.1))
          ∙ (λ j. digest_held d key (sym is.2 j) (index_at (inv.same.1 j) (sym is.2 j)));
    }

pub returns-clause-told : goal.returns-clause-told
returns-clause-told g c =
    let s = c.up.climb in
    let end : s.level ≡ c.args.goal = omega (arith, c.up-test.false, c.up.invariant.low) in
    let P : ℕ → Type 0 = λ k. Told (g.S.Store.served c.args.store.now) (g.S.Store.served c.up.store) (Climbs c.args.from.fragments c.args.from.index c.args.from.level c.args.from.digest k s.digest) in
    subst P end c.up.invariant.told

pub bounds-lasts-climb : goal.bounds-lasts-climb
bounds-lasts-climb g c = omega (arith, c.up.auto.lasts, c.requires.room, c.requires.low, c.up-test.true, top_level-low c.args.from.fragments c.args.from.few)
