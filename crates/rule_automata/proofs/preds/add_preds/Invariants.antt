-- The suffixes and the bearings so far, followed by those of the predicates left, are those of all predicates.
use Rattle.std.proofs.Common.{◌≡◌, ◌++◌, drop, length}
use Rattle.rule_automata.specs.Compile.{suffixes_of, bearings_from, preds_at}
use Rattle.rule_automata.proofs.preds.add_preds.Given as goal

abbrev pub invariant-loop-pred : goal.invariant-loop-pred
invariant-loop-pred l = record {
  suffixes : l.found.suffixes.items ++ suffixes_of l.names (preds_at l.step (drop l.pred-index l.preds))
      ≡ l.fn.found.suffixes.items ++ suffixes_of l.names (preds_at l.step l.preds);
  bearings : l.found.bearings.items
      ++ bearings_from (length l.found.suffixes.items) (preds_at l.step (drop l.pred-index l.preds))
      ≡ l.fn.found.bearings.items ++ bearings_from (length l.fn.found.suffixes.items) (preds_at l.step l.preds);
}
