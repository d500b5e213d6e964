use Rattle.std.proofs.Common.{refl, arith}
use Rattle.position_cipher.specs.Fragments.{each_block}
use Rattle.skip_encode.proofs.LockedStreams.{locked-more, locked-all}
use Rattle.skip_encode.proofs.locking.lock_fragments.Goals as goal

-- At the start no fragment is enciphered.
pub loop-index-init : goal.loop-index-init
unfolding each_block
loop-index-init c = refl

-- One more fragment is enciphered.
pub loop-index-preserved : goal.loop-index-preserved
loop-index-preserved c =
    locked-more c.args.key.now c.requires.key c.args.stream.now c.loop-index.stream c.lock_piece.new.piece c.loop-index.index _ (omega arith)
    c.loop-index.invariant c.lock_piece.ensures

-- At the end all fragments are enciphered.
pub returns : goal.returns
returns c = locked-all c.args.key.now c.args.stream.now c.loop-index.stream c.loop-index.index (omega arith) c.requires.whole c.loop-index.invariant
