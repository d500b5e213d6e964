use Rattle.std.proofs.Common.{◌≡◌, ◌+◌, drop}
use Rattle.tree_meaning.specs.inside.StepMarks.{marked_steps}
use Rattle.tree_meaning.specs.inside.ExplainWalk.{rules_in, first_here}
use Rattle.tree_meaning.proofs.explain.first_rule.Given as goal

abbrev pub invariant-loop-progress : goal.invariant-loop-progress
invariant-loop-progress l =
    (first_here l.own (marked_steps (drop l.progress-index l.row)) l.number ≡ first_here l.own (marked_steps l.row) 0)
    × (l.number + rules_in (marked_steps (drop l.progress-index l.row)) ≡ rules_in (marked_steps l.row))
