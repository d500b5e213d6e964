use Rattle.std.proofs.Common.{◌≡◌, ◌+◌, ◌++◌, true, [], ◌∷◌, length, map}
use Rattle.acl_model.specs.Stream.{has_member}
use Rattle.skip_encode.proofs.heads.put_set.Given as goal

-- the bits so far, followed by those of the members left, are all bits of the set
abbrev pub invariant-loop-n : goal.invariant-loop-n
invariant-loop-n l = record {
  put : l.bits ++ map (has_member l.below) l.left ≡ (l.fn.bits ++ (true ∷ [])) ++ map (has_member l.below) l.members;
  few : length l.bits + length l.left ≡ length l.fn.bits + 1 + length l.members;
}

abbrev pub decreases-loop-n : goal.decreases-loop-n
decreases-loop-n l = length l.left
