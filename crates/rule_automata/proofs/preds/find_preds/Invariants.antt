-- The suffixes and the bearings so far, followed by those of the rules left, are those of all rules.
use Rattle.std.proofs.Common.{◌≡◌, ◌+◌, ◌++◌, drop, length}
use Rattle.rule_automata.specs.Compile.{suffixes_of, bearings_from, preds_from, steps_in}
use Rattle.rule_automata.proofs.preds.find_preds.Given as goal

abbrev pub invariant-loop-rule : goal.invariant-loop-rule
invariant-loop-rule l = record {
  first : l.first + steps_in (drop l.rule-index l.rules) ≡ steps_in l.rules;
  suffixes : l.found.suffixes.items ++ suffixes_of l.names (preds_from l.first (drop l.rule-index l.rules))
      ≡ suffixes_of l.names (preds_from 0 l.rules);
  bearings : l.found.bearings.items
      ++ bearings_from (length l.found.suffixes.items) (preds_from l.first (drop l.rule-index l.rules))
      ≡ bearings_from 0 (preds_from 0 l.rules);
}
