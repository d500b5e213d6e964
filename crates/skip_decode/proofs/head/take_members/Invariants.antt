-- Reading the members left from the bits left, into the set so far, gives the result of the whole read.
use Rattle.std.proofs.Common.{◌≡◌, [], length}
use Rattle.skip_decode.specs.inside.HeadReading.{take_members}
use Rattle.skip_decode.proofs.head.take_members.Given as goal

abbrev pub invariant-loop-number : goal.invariant-loop-number
invariant-loop-number l = take_members l.left l.below l.bits ≡ take_members l.members [] l.fn.bits

abbrev pub decreases-loop-number : goal.decreases-loop-number
decreases-loop-number l = length l.left
