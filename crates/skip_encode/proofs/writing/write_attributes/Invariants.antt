use Rattle.std.proofs.Common.{◌≡◌, ◌++◌, length, map, drop}
use Rattle.std.specs.Int.{w16, to_be_bytes}
use Rattle.std.specs.List.{concat}
use Rattle.acl_model.specs.Stream.{measured_bytes}
use Rattle.skip_encode.proofs.writing.write_attributes.Given as goal

abbrev pub invariant-loop-raw : goal.invariant-loop-raw
invariant-loop-raw l = l.bytes.items ++ concat (map measured_bytes (drop l.raw-index l.attributes)) ≡ l.fn.bytes.items ++ (to_be_bytes w16 (length l.fn.attributes) ++ concat (map measured_bytes l.fn.attributes))
