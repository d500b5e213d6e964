-- After all bytes, the block is the exclusive or with the pad.
use Rattle.hmac_tag.proofs.Pads.{exclusive_or-more, exclusive_or-whole}
use Rattle.hmac_tag.proofs.padded_block.Goals as goal

pub returns : goal.returns
returns c = exclusive_or-whole _ _ _ _ c.told-block c.loop-byte-test.false c.loop-byte.invariant

pub loop-byte-preserved : goal.loop-byte-preserved
loop-byte-preserved c =
    exclusive_or-more c.args.block.now _ _ c.args.pad c.told-block c.loop-byte-test.true c.loop-byte.invariant
