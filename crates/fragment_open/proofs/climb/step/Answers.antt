use Rattle.std.proofs.lemmas.Result.{err_from_is_err_and}
use Rattle.fragment_open.proofs.HeldLemmas.{above_held}
use Rattle.fragment_open.proofs.ClimbLemmas.{Told-weaker, climb_step, ends_step}
use Rattle.fragment_open.proofs.climb.step.Goals as goal

pub returns-in_err-sibling-clause-told : goal.returns-in_err-sibling-clause-told
returns-in_err-sibling-clause-told g c =
    let p = err_from_is_err_and c.from_residual.result c.from_residual.ensures.1 in
    rw (p.1, p.2) (Told-weaker _ _ _ _ c.in_err-sibling.ensures.told (λ t h. ends_step c.args.climb.fragments c.args.climb.index c.args.climb.level c.args.climb.digest _ t h))

pub returns-clause-told : goal.returns-clause-told
returns-clause-told g c =
    Told-weaker _ _ _ _ c.in_ok-sibling.ensures.told
    (λ t h. climb_step c.args.climb.fragments c.args.climb.index c.args.climb.level c.above.result.level c.args.climb.digest c.in_ok-sibling.sibling c.above.result.digest t c.above.ensures.level c.above.ensures.digest h)

pub returns-clause-held : goal.returns-clause-held
returns-clause-held g c = λ d key is here.
    above_held d key c.args.climb.fragments (g.S.Store.holds c.args.store.now) is c.args.climb.index c.args.climb.level c.args.climb.at c.args.climb.digest c.in_ok-sibling.sibling c.above.result.digest
    c.args.climb.within c.args.climb.is_at here (c.in_ok-sibling.ensures.held d key is) c.above.ensures.digest
