use Rattle.std.proofs.Common.{◌∙◌, ◌++◌, ap, length, replicate, false}
use Rattle.predicate_walk.specs.inside.States.{clear_row}
use Rattle.predicate_walk.proofs.RowLaws.{clear_is}
use Rattle.predicate_walk.proofs.machine.Machine.clear_row.Goals as goal

pub returns : goal.returns
returns c =
    c.in_ok-grow.ensures
    ∙ ap (λ s. s ++ replicate c.len.result false) c.new-row.ensures
    ∙ ap (λ n. replicate n false) c.len.ensures
    ∙ ap (λ s. replicate (length s) false) c.self.invariant.deep_is
    ∙ clear_is _ _
    ∙ ap clear_row c.self.view_is
