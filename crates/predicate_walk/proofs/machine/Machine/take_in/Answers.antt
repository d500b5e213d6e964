use Rattle.std.proofs.Common.{◌∙◌, ap, sym, length}
use Rattle.predicate_walk.specs.inside.States.{number_of_states}
use Rattle.predicate_walk.proofs.RowLaws.{length-row_at, length-answers}
use Rattle.predicate_walk.proofs.machine.Machine.take_in.Goals as goal

pub rise-requires-clause-below : goal.rise-requires-clause-below
rise-requires-clause-below c =
    ap length c.requires.below ∙ length-row_at c.args.self.now c.args.child.now ∙ sym c.requires.row

pub rise-requires-clause-tests : goal.rise-requires-clause-tests
rise-requires-clause-tests c = ap length c.tests.ensures ∙ length-answers _ c.args.self.now ∙ sym c.requires.row

pub rise-requires-clause-deep : goal.rise-requires-clause-deep
rise-requires-clause-deep c =
    ap length c.self.invariant.deep_is ∙ length-answers _ _ ∙ ap number_of_states c.self.view_is ∙ sym c.requires.row
