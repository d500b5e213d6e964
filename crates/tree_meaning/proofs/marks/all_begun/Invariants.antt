use Rattle.std.proofs.Common.{◌≡◌, ◌++◌, drop}
use Rattle.std.specs.List.{flat_map}
use Rattle.tree_meaning.specs.inside.StepMarks.{marked_steps, begun_rule}
use Rattle.tree_meaning.proofs.marks.all_begun.Given as goal

abbrev pub invariant-loop-rule : goal.invariant-loop-rule
invariant-loop-rule l = marked_steps l.row.items ++ flat_map begun_rule (drop l.rule-index l.rules) ≡ flat_map begun_rule l.rules
