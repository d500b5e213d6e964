-- The bits counted so far and those of the next word, or of a part of it, are the bits before the end.
use Rattle.std.proofs.Common.{refl, ◌∙◌, arith, ◌*◌, ◌+◌}
use Rattle.acl_bits.specs.inside.RowLaws.{numbers_below}
use Rattle.acl_bits.specs.Row.{is_set}
use Rattle.acl_bits.proofs.Words.{length-whole_word, length-part_word, length-no_part, length-numbers_below_le}
use Rattle.acl_bits.proofs.number_set.ones_before.Goals as goal
use Rattle.acl_bits.proofs.number_set.ones_before.Goals.{then-whole-lt4, else-whole-lt4}

pub loop-i-init : goal.loop-i-init
unfolding numbers_below
loop-i-init c = refl

pub overflow_add-ones : goal.overflow_add-ones
overflow_add-ones c =
    let all = length-whole_word c.args.words.now c.loop-i.i c.loop-i.ones (c.fits-words c.loop-i.i) c.loop-i.invariant in
    omega (arith, all, length-numbers_below_le (is_set c.args.words.now) (64 * (c.loop-i.i + 1)))

pub loop-i-preserved : goal.loop-i-preserved
loop-i-preserved c =
    length-whole_word c.args.words.now c.loop-i.i c.loop-i.ones (c.fits-words c.loop-i.i) c.loop-i.invariant

pub overflow_add-ones-then-whole-lt4 : goal.overflow_add-ones-then-whole-lt4
overflow_add-ones-then-whole-lt4 c =
    let all = length-part_word c.args.words.now c.args.n c.loop-i.ones c.low_ones.result c.loop-i.i c.loop-i.auto.i-end c.loop-i-test.false
    c.loop-i.invariant c.low_ones.ensures in
    omega (arith, all, length-numbers_below_le (is_set c.args.words.now) c.args.n)

pub returns : goal.returns
returns c = elim c.if-whole-lt4.branch [
  | then-whole-lt4 w ↦
      w.ones-is ∙ length-part_word c.args.words.now c.args.n c.loop-i.ones w.low_ones.result c.loop-i.i c.loop-i.auto.i-end c.loop-i-test.false
      c.loop-i.invariant w.low_ones.ensures
  | else-whole-lt4 w ↦
      w.ones-is ∙ length-no_part c.args.words.now c.args.n c.loop-i.ones c.loop-i.i c.requires w.if-whole-lt4.false c.loop-i.auto.i-end
      c.loop-i-test.false c.loop-i.invariant
]

pub overflow_cast-result : goal.overflow_cast-result
overflow_cast-result c = omega (arith, returns c, length-numbers_below_le (is_set c.args.words.now) c.args.n)
