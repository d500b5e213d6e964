-- The steps of the predicates so far are counted.
use Rattle.std.proofs.Common.{◌≡◌, take}
use Rattle.rule_automata.specs.Compile.{way_steps_in}
use Rattle.rule_automata.specs.inside.Counts.{in_usize}
use Rattle.rule_automata.proofs.limits.count_way_steps.Given as goal

abbrev pub invariant-loop-pred : goal.invariant-loop-pred
invariant-loop-pred l = l.count ≡ in_usize (way_steps_in (take l.pred-index l.preds))
