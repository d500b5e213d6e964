use Rattle.std.proofs.Common.{◌≡◌, ◌++◌, drop, true, None}
use Rattle.std.specs.Option.{option_copied}
use Rattle.tree_meaning.specs.inside.StepMarks.{marked_steps, begun_steps}
use Rattle.tree_meaning.proofs.marks.begin.Given as goal

abbrev pub invariant-loop-next : goal.invariant-loop-next
invariant-loop-next l = marked_steps l.row.items ++ begun_steps l.sign (option_copied l.step) l.here (drop l.next-index l.steps) ≡ marked_steps l.initial.row.items ++ begun_steps l.sign None true l.steps
