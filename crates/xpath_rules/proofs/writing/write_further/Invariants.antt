use Rattle.std.proofs.Common.{◌≡◌, ◌++◌, drop, flat_map}
use Rattle.xpath_rules.specs.Grammar.{further_text}
use Rattle.xpath_rules.proofs.writing.write_further.Given as goal

abbrev pub invariant-loop-step : goal.invariant-loop-step
invariant-loop-step l = l.out.items ++ flat_map further_text (drop l.step-index l.steps) ≡ l.initial.out.items ++ flat_map further_text l.steps
