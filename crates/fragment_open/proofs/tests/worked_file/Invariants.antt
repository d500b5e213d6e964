use Rattle.std.proofs.Common.{◌≡◌, ◌+◌, ◌*◌, length}
use Rattle.fragment_open.proofs.tests.worked_file.Given as goal

-- the header, and 256 bytes for each fragment so far
abbrev pub invariant-loop-i : goal.invariant-loop-i
invariant-loop-i l = length l.bytes.items ≡ 64 + 256 * l.i
