-- The bytes so far, followed by those of the parts left, are the bytes of all parts.
use Rattle.std.proofs.Common.{◌≡◌, ◌++◌, map, drop}
use Rattle.std.specs.List.{concat}
use Rattle.sample_maker.proofs.folders.joined.Given as goal

abbrev pub invariant-loop-part : goal.invariant-loop-part
invariant-loop-part l = l.bytes.items ++ concat (map (λ part. part.now) (drop l.part-index l.parts)) ≡ concat (map (λ part. part.now) l.parts)
