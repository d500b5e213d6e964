-- One element more is open at each turn.
use Rattle.std.proofs.Common.{◌≡◌, ◌+◌, length}
use Rattle.token_stack.proofs.tests.begin_all.Given as goal

abbrev pub invariant-loop-tag : goal.invariant-loop-tag
invariant-loop-tag l = record {
  states : l.tokens.states ≡ l.initial.tokens.states;
  depth : l.tokens.depth ≡ l.initial.tokens.depth;
  levels : length l.tokens.levels ≡ length l.initial.tokens.levels + l.tag-index;
}
