use Rattle.std.proofs.Common.{◌≡◌, ◌*◌, ◌++◌, drop}
use Rattle.position_cipher.specs.Fragments.{each_block, locked_block}
use Rattle.skip_encode.proofs.locking.lock_fragments.Given as goal

-- The fragments so far are enciphered, and those after them are unchanged.
abbrev pub invariant-loop-index : goal.invariant-loop-index
invariant-loop-index l = l.stream ≡ each_block (locked_block l.key) 0 (16 * l.index) l.fn.stream ++ drop (256 * l.index) l.fn.stream
