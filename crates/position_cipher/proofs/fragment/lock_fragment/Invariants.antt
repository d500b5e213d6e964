use Rattle.std.proofs.Common.{◌*◌}
use Rattle.position_cipher.specs.Fragments.{locked_block, unlocked_block}
use Rattle.position_cipher.proofs.BlockLemmas.{AreDone}
use Rattle.position_cipher.proofs.fragment.lock_fragment.Given as goal

abbrev pub invariant-each : goal.invariant-each
invariant-each l = AreDone (locked_block l.key) (unlocked_block l.key) (16 * l.index) l.k l.initial.bytes l.bytes
