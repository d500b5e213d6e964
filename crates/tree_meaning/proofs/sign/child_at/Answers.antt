use Rattle.std.proofs.Common.{◌∙◌, ap, sym, option_copied}
use Rattle.predicate_walk.specs.Truths.{preds_in}
use Rattle.tree_meaning.proofs.KnownLaws.{child_starts}
use Rattle.tree_meaning.proofs.sign.child_at.Goals as goal

pub returns-in-Some-clause-known : goal.returns-in-Some-clause-known
returns-in-Some-clause-known c =
    child_starts (preds_in c.args.preds.now) c.args.items.now c.loop-item.item-index c.item-item.result c.loop-item.left c.in-Some.element.now c.loop-item.known _
    c.loop-item-test.true c.item-item.is (sym c.wanted_in.ensures ∙ ap option_copied c.in-Some.is) c.loop-item.invariant.1
