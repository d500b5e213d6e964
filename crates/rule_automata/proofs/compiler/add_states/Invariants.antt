-- The states so far, followed by those of the steps left, are those of all steps.
use Rattle.std.proofs.Common.{◌≡◌, ◌++◌, drop}
use Rattle.rule_automata.specs.Compile.{rule_states}
use Rattle.rule_automata.proofs.compiler.add_states.Given as goal

abbrev pub invariant-loop-place : goal.invariant-loop-place
invariant-loop-place l =
    l.states.items ++ rule_states l.names l.rule (drop l.place l.steps) ≡ l.initial.states.items ++ rule_states l.names l.rule l.steps
