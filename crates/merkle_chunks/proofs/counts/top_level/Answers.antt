use Rattle.std.proofs.Common.{ap, ◌∙◌, arith}
use Rattle.merkle_chunks.specs.Table.{top_level}
use Rattle.merkle_chunks.proofs.CountLemmas.{half_up, top_level-few, top_level-many, top_level-le}
use Rattle.merkle_chunks.proofs.counts.top_level.Goals as goal

pub overflow_add-level : goal.overflow_add-level
overflow_add-level c =
    omega (arith, top_level-many c.loop-count.count c.loop-count-test.true, top_level-le c.args.fragments)

pub loop-count-preserved : goal.loop-count-preserved
loop-count-preserved c =
    omega (arith, top_level-many c.loop-count.count c.loop-count-test.true, ap top_level (c.div_ceil-count.ensures ∙ half_up c.loop-count.count))

pub returns : goal.returns
returns c = omega (arith, top_level-few c.loop-count.count c.loop-count-test.false)
