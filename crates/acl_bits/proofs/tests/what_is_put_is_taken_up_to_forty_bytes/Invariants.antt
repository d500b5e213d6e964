-- The bits so far and the room that is left are at most 320 together.
use Rattle.std.proofs.Common.{◌+◌, ◌≤◌, length}
use Rattle.acl_bits.proofs.tests.what_is_put_is_taken_up_to_forty_bytes.Given as goal

abbrev pub invariant-loop-width : goal.invariant-loop-width
invariant-loop-width g l = length l.out + l.room ≤ 320
