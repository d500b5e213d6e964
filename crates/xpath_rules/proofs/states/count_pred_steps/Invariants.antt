use Rattle.std.proofs.Common.{◌≡◌, take, sum_by}
use Rattle.xpath_rules.specs.Counting.{in_32_bits, way_test_count}
use Rattle.xpath_rules.proofs.states.count_pred_steps.Given as goal

abbrev pub invariant-loop-step : goal.invariant-loop-step
invariant-loop-step l = l.count ≡ in_32_bits (sum_by (λ s. way_test_count s.preds) (take l.step-index l.steps))
