-- The levels left give the same sign as all levels.
use Rattle.std.proofs.Common.{◌≡◌, ◌≤◌, length, reverse, take}
use Rattle.sign_stack.specs.SignLevels.{sign_of_levels}
use Rattle.sign_stack.proofs.signs.Signs.sign.Given as goal

abbrev pub invariant-loop-left : goal.invariant-loop-left
invariant-loop-left l = record {
  within : l.left ≤ length l.self-inside.levels.items;
  way : sign_of_levels l.self-inside.grants l.self-inside.denies (reverse (take l.left l.self-inside.levels.items))
      ≡ sign_of_levels l.self-inside.grants l.self-inside.denies (reverse l.self-inside.levels.items);
}

abbrev pub decreases-loop-left : goal.decreases-loop-left
decreases-loop-left l = l.left
