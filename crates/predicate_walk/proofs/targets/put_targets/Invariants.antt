use Rattle.std.proofs.Common.{◌≡◌, ◌+◌, ◌++◌, length, take, drop}
use Rattle.predicate_walk.specs.inside.States.{number_of_states, row_at, inner_row_at}
use Rattle.predicate_walk.specs.Truths.{preds_in}
use Rattle.predicate_walk.proofs.targets.put_targets.Given as goal

abbrev pub invariant-loop-r : goal.invariant-loop-r
invariant-loop-r l = record {
  long : l.start + number_of_states (preds_in (drop l.r-index l.preds)) ≡ length l.row;
  same : length l.row ≡ length l.initial.row;
  left : drop l.start l.row ≡ inner_row_at (preds_in (drop l.r-index l.preds)) l.element;
  made : take l.start l.row ++ row_at (preds_in (drop l.r-index l.preds)) l.element
      ≡ row_at (preds_in l.preds) l.element;
}
