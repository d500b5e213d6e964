use Rattle.std.proofs.Common.{◌-◌, sym, ap}
use Rattle.tree_meaning.proofs.KnownLaws.{unset_ends}
use Rattle.tree_meaning.proofs.known.Known.are_set.Goals as goal

pub returns-then-not-has : goal.returns-then-not-has
returns-then-not-has c =
    unset_ends c.self.inside.flags.now c.args.self.now c.self.inside.at c.args.count c.loop-n.n
    (c.len.result - c.self.inside.at) c.has.result _ (sym c.self.view_is) (rw c.min-n-end.ensures at c.loop-n-test.true)
    (ap (λ n. n - c.self.inside.at) c.len.ensures) c.has.ensures c.if-not-has.true c.loop-n.invariant
