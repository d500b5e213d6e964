use Rattle.std.proofs.Common.{◌≡◌, true, take}
use Rattle.acl_model.specs.Dictionary.{are_distinct}
use Rattle.acl_walk.proofs.walkable.are_distinct.Given as goal

abbrev pub invariant-loop-i : goal.invariant-loop-i
invariant-loop-i l = are_distinct (take l.i l.names) ≡ true
