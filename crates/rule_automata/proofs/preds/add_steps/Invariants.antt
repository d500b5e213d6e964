-- The suffixes and the bearings so far, followed by those of the steps left, are those of all steps.
use Rattle.std.proofs.Common.{◌≡◌, ◌+◌, ◌++◌, drop, length}
use Rattle.rule_automata.specs.Compile.{suffixes_of, bearings_from, preds_of_steps}
use Rattle.rule_automata.proofs.preds.add_steps.Given as goal

abbrev pub invariant-loop-place : goal.invariant-loop-place
invariant-loop-place l = record {
  suffixes : l.found.suffixes.items ++ suffixes_of l.names (preds_of_steps (l.first + l.place) (drop l.place l.steps))
      ≡ l.fn.found.suffixes.items ++ suffixes_of l.names (preds_of_steps l.first l.steps);
  bearings : l.found.bearings.items
      ++ bearings_from (length l.found.suffixes.items) (preds_of_steps (l.first + l.place) (drop l.place l.steps))
      ≡ l.fn.found.bearings.items ++ bearings_from (length l.fn.found.suffixes.items) (preds_of_steps l.first l.steps);
}
