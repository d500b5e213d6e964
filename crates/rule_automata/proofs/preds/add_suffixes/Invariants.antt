-- The suffixes of the steps from this place on have been added.
use Rattle.std.proofs.Common.{◌≡◌, ◌++◌, drop}
use Rattle.rule_automata.specs.Compile.{way_suffixes}
use Rattle.rule_automata.proofs.preds.add_suffixes.Given as goal

abbrev pub invariant-loop-place : goal.invariant-loop-place
invariant-loop-place l = l.suffixes.items ≡ l.fn.suffixes.items ++ way_suffixes l.names (drop l.place l.way)
