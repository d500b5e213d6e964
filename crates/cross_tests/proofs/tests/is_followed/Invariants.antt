-- As many levels are open as elements: one more of tokens, which have one for the virtual root.
use Rattle.std.proofs.Common.{◌≡◌, ◌+◌, length}
use Rattle.cross_tests.proofs.tests.is_followed.Given as goal

abbrev pub invariant-loop-edge : goal.invariant-loop-edge
invariant-loop-edge l = record {
  tables : length l.tables.states ≡ l.tokens.states;
  levels : length l.tokens.levels ≡ l.level + 1;
  depth : l.tokens.depth ≡ 4;
  rows : length l.signs.levels ≡ l.level;
  room : l.signs.depth ≡ 4;
}
