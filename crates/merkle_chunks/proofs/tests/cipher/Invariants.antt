use Rattle.std.proofs.Common.{◌≡◌, ◌*◌, length}
use Rattle.merkle_chunks.proofs.tests.cipher.Given as goal

-- 256 bytes for each fragment so far
abbrev pub invariant-loop-i : goal.invariant-loop-i
invariant-loop-i l = length l.bytes.items ≡ 256 * l.i
