-- The steps of the predicates of the steps so far are counted.
use Rattle.std.proofs.Common.{◌≡◌, take, sum_by}
use Rattle.rule_automata.specs.Compile.{way_steps_in}
use Rattle.rule_automata.specs.inside.Counts.{in_usize}
use Rattle.rule_automata.proofs.limits.count_pred_steps_of_path.Given as goal

abbrev pub invariant-loop-step : goal.invariant-loop-step
invariant-loop-step l = l.count ≡ in_usize (sum_by (λ s. way_steps_in s.preds) (take l.step-index l.steps))
