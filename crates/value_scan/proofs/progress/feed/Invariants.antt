use Rattle.std.proofs.Common.{◌≡◌, drop}
use Rattle.value_scan.specs.Progress.{fed}
use Rattle.value_scan.proofs.progress.feed.Given as goal

abbrev pub invariant-loop-byte : goal.invariant-loop-byte
invariant-loop-byte l = fed l.operand l.so_far (drop l.byte-index l.bytes) ≡ fed l.operand l.fn.progress l.bytes
