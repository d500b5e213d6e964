use Rattle.std.proofs.Common.{◌≡◌, length, take, sum_by}
use Rattle.xpath_rules.specs.Counting.{in_32_bits}
use Rattle.xpath_rules.proofs.states.count_preds.Given as goal

abbrev pub invariant-loop-step : goal.invariant-loop-step
invariant-loop-step l = l.count ≡ in_32_bits (sum_by (λ s. length s.preds) (take l.step-index l.steps))
