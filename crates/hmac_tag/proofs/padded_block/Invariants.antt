-- The bytes so far are combined with the pad.
use Rattle.std.proofs.Common.{◌≡◌, ◌++◌, map, take, drop, bit_xor}
use Rattle.hmac_tag.proofs.padded_block.Given as goal

abbrev pub invariant-loop-byte : goal.invariant-loop-byte
invariant-loop-byte l =
    l.byte-items ≡ map (λ x. bit_xor x l.pad) (take l.byte-index l.fn.block) ++ drop l.byte-index l.fn.block
