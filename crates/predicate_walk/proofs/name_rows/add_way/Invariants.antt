use Rattle.std.proofs.Common.{take}
use Rattle.std.specs.List.{list_any}
use Rattle.predicate_walk.specs.inside.States.{does_name}
use Rattle.predicate_walk.specs.inside.NameRows.{AreRows, AddsRows}
use Rattle.predicate_walk.specs.Truths.{preds_in}
use Rattle.predicate_walk.proofs.name_rows.add_way.Given as goal

abbrev pub invariant-loop-step : goal.invariant-loop-step
invariant-loop-step l = record {
  are : AreRows (preds_in l.preds) l.rows;
  adds : AddsRows (preds_in l.preds) (λ n. list_any (does_name n) (take l.step-index l.way)) l.initial.rows l.rows;
}
