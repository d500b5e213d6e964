use Rattle.std.proofs.Common.{◌≡◌, take, sum_by}
use Rattle.xpath_rules.specs.Counting.{pred_count, in_32_bits}
use Rattle.licence.proofs.limits.count_preds.Given as goal

abbrev pub invariant-loop-rule : goal.invariant-loop-rule
invariant-loop-rule l = l.count ≡ in_32_bits (sum_by (λ rule. pred_count rule.path) (take l.rule-index l.rules))
