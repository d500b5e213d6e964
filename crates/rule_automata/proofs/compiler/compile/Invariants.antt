-- The states so far, followed by those of the rules left, are those of all rules.
use Rattle.std.proofs.Common.{◌≡◌, ◌++◌, drop}
use Rattle.rule_automata.specs.Compile.{states_from}
use Rattle.rule_automata.proofs.compiler.compile.Given as goal

abbrev pub invariant-loop-number : goal.invariant-loop-number
invariant-loop-number l = l.states.items ++ states_from l.names l.number (drop l.number l.rules) ≡ states_from l.names 0 l.rules
