use Rattle.std.proofs.Common.{arith}
use Rattle.merkle_chunks.proofs.CountLemmas.{top_level-half}
use Rattle.merkle_chunks.proofs.counts.table_len.Goals as goal

pub overflow_add-top_level : goal.overflow_add-top_level
overflow_add-top_level c = omega (arith, top_level-half c.args.fragments)
