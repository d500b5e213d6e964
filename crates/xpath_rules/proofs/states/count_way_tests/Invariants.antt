use Rattle.std.proofs.Common.{◌≡◌, take}
use Rattle.xpath_rules.specs.Counting.{in_32_bits, way_test_count}
use Rattle.xpath_rules.proofs.states.count_way_tests.Given as goal

abbrev pub invariant-loop-pred : goal.invariant-loop-pred
invariant-loop-pred l = l.count ≡ in_32_bits (way_test_count (take l.pred-index l.preds))
