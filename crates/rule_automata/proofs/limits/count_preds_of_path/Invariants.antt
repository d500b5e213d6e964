-- The predicates of the steps so far are counted.
use Rattle.std.proofs.Common.{◌≡◌, take}
use Rattle.rule_automata.specs.Compile.{preds_in_steps}
use Rattle.rule_automata.specs.inside.Counts.{in_usize}
use Rattle.rule_automata.proofs.limits.count_preds_of_path.Given as goal

abbrev pub invariant-loop-step : goal.invariant-loop-step
invariant-loop-step l = l.count ≡ in_usize (preds_in_steps (take l.step-index l.steps))
