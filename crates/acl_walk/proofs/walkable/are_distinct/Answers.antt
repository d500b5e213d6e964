-- A name that has a number among those before it is one of them.
use Rattle.std.proofs.Common.{◌≡◌, ◌+◌, suc, take, is_some, false, true, ap, sym, ◌∙◌, arith}
use Rattle.acl_model.specs.Dictionary.{are_distinct, name_number}
use Rattle.acl_walk.proofs.WalkableLaws.{distinct-next, distinct-not}
use Rattle.acl_walk.proofs.walkable.are_distinct.Goals as goal

pub returns-then-is_some : goal.returns-then-is_some
returns-then-is_some c =
    let names = c.args.names.now in
    let i = c.loop-i.i in
    let name = c.index-names-i.result in
    let old : is_some (name_number (take i names) name) ≡ true =
    ap (λ n. is_some (name_number (take i names) n)) (sym c.as_slice.ensures) ∙ ap is_some (sym c.number_of.ensures) ∙ sym c.if-is_some.ensures in
    sym (distinct-not names i name c.loop-i-test.true c.index-names-i.is old)

pub loop-i-preserved : goal.loop-i-preserved
loop-i-preserved c =
    let names = c.args.names.now in
    let i = c.loop-i.i in
    let name = c.index-names-i.result in
    let new : is_some (name_number (take i names) name) ≡ false =
    ap (λ n. is_some (name_number (take i names) n)) (sym c.as_slice.ensures) ∙ ap is_some (sym c.number_of.ensures) ∙ sym c.if-is_some.ensures in
    let more : are_distinct (take (suc i) names) ≡ true = distinct-next names i name c.loop-i-test.true c.index-names-i.is c.loop-i.invariant new in
    let next : i + 1 ≡ suc i = omega arith in
    ap (λ n. are_distinct (take n names)) next ∙ more
