use Rattle.std.proofs.Common.{◌≡◌, ◌≤◌, ◌++◌, map, reverse, take, length}
use Rattle.predicate_walk.specs.inside.States.{does_answer}
use Rattle.predicate_walk.proofs.rows.push_answers.Given as goal

abbrev pub invariant-loop-left : goal.invariant-loop-left
invariant-loop-left l = record {
  within : l.left ≤ length l.way;
  so_far : l.flags ++ map (does_answer l.question) (reverse (take l.left l.way))
      ≡ l.initial.flags ++ map (does_answer l.question) (reverse l.way);
}

abbrev pub decreases-loop-left : goal.decreases-loop-left
decreases-loop-left l = l.left
