use Rattle.std.proofs.Common.{◌≡◌, drop}
use Rattle.value_scan.specs.Attributes.{after_name}
use Rattle.value_scan.proofs.attributes.strip_name.Given as goal

abbrev pub invariant-loop-byte : goal.invariant-loop-byte
invariant-loop-byte l = after_name (drop l.byte-index l.name) l.rest ≡ after_name l.name l.raw
