-- What was there stays, and what is added and what is left to come are all that is to be added.
use Rattle.std.proofs.Common.{◌≡◌, ◌≤◌, ◌++◌, None, length, take, drop, vec_capacity}
use Rattle.token_stack.specs.Entries.{entries_below}
use Rattle.token_stack.proofs.moves.push_moved.Given as goal

abbrev pub invariant-loop-i : goal.invariant-loop-i
invariant-loop-i l = record {
  longer : length l.initial.entries.items ≤ length l.entries.items;
  kept : take (length l.initial.entries.items) l.entries.items ≡ l.initial.entries.items;
  way : l.entries.items ++ entries_below l.states l.tag l.next (drop l.i l.initial.entries.items)
      ≡ l.initial.entries.items ++ entries_below l.states l.tag None (drop l.from l.initial.entries.items);
  capacity : vec_capacity l.entries ≡ vec_capacity l.initial.entries;
}
