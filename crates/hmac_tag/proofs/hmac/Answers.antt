-- The outer digest is that of the outer padded key and the inner digest.
use Rattle.hmac_tag.proofs.Pads.{hmac-by_steps}
use Rattle.hmac_tag.proofs.hmac.Goals as goal

pub returns : goal.returns
returns c = hmac-by_steps _ _ _ _ _ _ _ c.block_of_key-block.ensures c.padded_block.ensures c.digest_after-inner_digest.ensures c.padded_block-2.ensures c.digest_after.ensures
