-- The laws of proofs/FragmentLemmas.antt.
use Rattle.position_cipher.proofs.FragmentLemmas.{masks_differ, locked_blocks_differ}
use Rattle.position_cipher.proofs.laws.numbers_have_their_own_masks.Goals as goal

pub returns : goal.returns
returns c = record { masks = masks_differ; blocks = locked_blocks_differ }
