use Rattle.std.proofs.Common.{◌≡◌, ◌++◌, drop, map}
use Rattle.xpath_rules.specs.Grammar.{path_text}
use Rattle.xpath_rules.specs.Canonical.{canonical_step}
use Rattle.xpath_rules.proofs.writing.write_steps.Given as goal

abbrev pub invariant-loop-step : goal.invariant-loop-step
invariant-loop-step l = l.out.items ++ path_text (map canonical_step (drop l.step-index l.steps)) ≡ l.initial.out.items ++ path_text (map canonical_step l.steps)
