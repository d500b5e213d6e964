-- The entries so far and those of the states left.
use Rattle.std.proofs.Common.{◌≡◌, ◌++◌, true, drop, vec_capacity}
use Rattle.rule_automata.specs.Run.{begun}
use Rattle.token_stack.specs.Stand.{entries_from}
use Rattle.token_stack.proofs.moves.push_begun.Given as goal

abbrev pub invariant-loop-number : goal.invariant-loop-number
invariant-loop-number l = record {
  way : l.entries.items ++ entries_from l.number (begun l.is_first (drop l.number l.states)) ≡ l.initial.entries.items ++ entries_from 0 (begun true l.states);
  capacity : vec_capacity l.entries ≡ vec_capacity l.initial.entries;
}
