-- The loop visits the five bytes, or those of them that there are.
use Rattle.std.proofs.Common.{arith}
use Rattle.acl_bits.proofs.Windows.{LaysUpTo-none, LaysUpTo-more, LaysUpTo-done}
use Rattle.acl_bits.proofs.bit_writer.lay_over.Goals as goal

pub loop-i-init : goal.loop-i-init
loop-i-init c = LaysUpTo-none c.args.bytes.now c.args.first c.args.window c.told-bytes c.fits-bytes

pub loop-i-preserved : goal.loop-i-preserved
loop-i-preserved c =
    LaysUpTo-more c.args.bytes.now c.loop-i.bytes c.args.first c.args.window c.loop-i.i c.loop-i.invariant c.loop-i.auto.i
    (omega (arith, c.min-i-end.ensures, c.loop-i-test.true))

pub returns : goal.returns
returns c =
    LaysUpTo-done c.args.bytes.now c.loop-i.bytes c.args.first c.args.window c.loop-i.i c.told-bytes
    (omega (arith, c.min-i-end.ensures, c.loop-i-test.false))
    (omega (arith, c.min-i-end.ensures, c.loop-i.auto.i-end, c.requires)) c.loop-i.invariant
