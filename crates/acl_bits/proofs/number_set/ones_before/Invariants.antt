-- The whole words so far are counted.
use Rattle.std.proofs.Common.{◌≡◌, ◌*◌, length}
use Rattle.acl_bits.specs.Row.{is_set}
use Rattle.acl_bits.specs.inside.RowLaws.{numbers_below}
use Rattle.acl_bits.proofs.number_set.ones_before.Given as goal

abbrev pub invariant-loop-i : goal.invariant-loop-i
invariant-loop-i l = l.ones ≡ length (numbers_below (is_set l.words) (64 * l.i))
