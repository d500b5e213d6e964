use Rattle.std.proofs.Common.{take}
use Rattle.predicate_walk.specs.inside.States.{is_named_in}
use Rattle.predicate_walk.specs.inside.NameRows.{AreRows, AddsRows}
use Rattle.predicate_walk.specs.Truths.{preds_in}
use Rattle.predicate_walk.proofs.name_rows.find_name_rows.Given as goal

abbrev pub invariant-loop-r : goal.invariant-loop-r
invariant-loop-r l = record {
  are : AreRows (preds_in l.preds) l.rows;
  adds : AddsRows (preds_in l.preds) (λ n. is_named_in (preds_in (take l.r-index l.preds)) n) l.initial.rows l.rows;
}
