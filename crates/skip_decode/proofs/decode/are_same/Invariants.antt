use Rattle.std.proofs.Common.{◌≡◌, take}
use Rattle.skip_decode.proofs.decode.are_same.Given as goal

-- The names so far are the same.
abbrev pub invariant-loop-index : goal.invariant-loop-index
invariant-loop-index l = take l.index l.some ≡ take l.index l.others
