-- `left` is what remains of the limit after the rules so far.
use Rattle.std.proofs.Common.{◌≡◌, ◌+◌, drop}
use Rattle.rule_automata.specs.Compile.{steps_in}
use Rattle.rule_automata.proofs.limits.have_few_steps.Given as goal

abbrev pub invariant-loop-rule : goal.invariant-loop-rule
invariant-loop-rule l = l.left + steps_in l.rules ≡ 256 + steps_in (drop l.rule-index l.rules)
