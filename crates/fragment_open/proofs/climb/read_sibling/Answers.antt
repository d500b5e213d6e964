use Rattle.std.proofs.Common.{arith}
use Rattle.std.proofs.lemmas.Result.{err_from_is_err_and}
use Rattle.fragment_open.specs.Asks.{sibling_of}
use Rattle.fragment_open.proofs.HeldLemmas.{node_fault, sibling_given, sibling_none}
use Rattle.fragment_open.proofs.climb.read_sibling.Goals as goal

pub returns-in_err-read_whole-clause-held : goal.returns-in_err-read_whole-clause-held
returns-in_err-read_whole-clause-held g c = λ d key is.
    let p = err_from_is_err_and c.from_residual.result c.from_residual.ensures.1 in
    rw (p.1, p.2) (node_fault d key c.args.climb.now.fragments (g.S.Store.holds c.args.store.now) is c.args.climb.now.level (sibling_of c.args.climb.now.at) _ c.read_whole.new.into _
    (omega (arith, c.requires)) (omega (arith, c.if-sibling-climb.true, c.sibling-sibling.ensures, c.args.climb.now.is_here)) (omega (arith, c.sibling-sibling.ensures, c.args.climb.now.is_below)) c.read_whole.auto.into c.in_err-read_whole.ensures.given)

pub returns-in_ok-read_whole-clause-held : goal.returns-in_ok-read_whole-clause-held
returns-in_ok-read_whole-clause-held g c = λ d key is.
    sibling_given d key c.args.climb.now.fragments (g.S.Store.holds c.args.store.now) is c.args.climb.now.level c.args.climb.now.at _ c.read_whole.new.into
    (omega (arith, c.requires)) (omega (arith, c.if-sibling-climb.true, c.sibling-sibling.ensures, c.args.climb.now.is_here)) (omega (arith, c.sibling-sibling.ensures, c.args.climb.now.is_below)) c.read_whole.auto.into c.in_ok-read_whole.ensures.given

pub returns-else-sibling-climb-clause-held : goal.returns-else-sibling-climb-clause-held
returns-else-sibling-climb-clause-held g c = λ d key is.
    sibling_none d key c.args.climb.now.fragments (g.S.Store.holds c.args.store.now) is c.args.climb.now.level c.args.climb.now.at
    (omega (arith, c.if-sibling-climb.false, c.sibling-sibling.ensures, c.args.climb.now.is_here))
