-- The steps of the predicates of the rules so far are counted.
use Rattle.std.proofs.Common.{◌≡◌, take}
use Rattle.rule_automata.specs.Compile.{pred_steps_in}
use Rattle.rule_automata.specs.inside.Counts.{in_usize}
use Rattle.rule_automata.proofs.limits.count_pred_steps.Given as goal

abbrev pub invariant-loop-rule : goal.invariant-loop-rule
invariant-loop-rule l = l.count ≡ in_usize (pred_steps_in (take l.rule-index l.rules))
