-- Word by word.
use Rattle.std.proofs.Common.{arith}
use Rattle.acl_bits.proofs.FlagWords.{RisenUpTo-none, RisenUpTo-more, AreRisen-whole}
use Rattle.acl_bits.proofs.flags.rise_words.Goals as goal

pub loop-i-init : goal.loop-i-init
loop-i-init c = RisenUpTo-none c.args.own.now c.args.tests.now c.args.deep.now c.args.below.now

pub loop-i-preserved : goal.loop-i-preserved
loop-i-preserved c =
    RisenUpTo-more c.args.own.now c.loop-i.own c.args.tests.now c.args.deep.now c.args.below.now c.loop-i.i c.loop-i.carry
    c.risen_word.result c.loop-i.invariant c.loop-i-test.true (omega (arith, c.type_inv.below c.loop-i.i)) c.risen_word.ensures

pub returns : goal.returns
returns c =
    AreRisen-whole c.args.own.now c.loop-i.own c.args.tests.now c.args.deep.now c.args.below.now c.loop-i.i c.loop-i.carry
    c.loop-i-test.false c.loop-i.invariant
