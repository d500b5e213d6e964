use Rattle.std.proofs.Common.{arith}
use Rattle.merkle_chunks.proofs.CountLemmas.{counts-le, top_level-low}
use Rattle.fragment_open.proofs.climb.Climb.above.Goals as goal

pub overflow_add-result : goal.overflow_add-result
overflow_add-result c = omega (arith, c.requires, top_level-low c.args.self.fragments c.args.self.few)

pub overflow_add-result-2 : goal.overflow_add-result-2
overflow_add-result-2 c =
    omega (arith, c.args.self.few, c.args.self.is_here, c.args.self.is_below, c.args.self.low, top_level-low c.args.self.fragments c.args.self.few, counts-le c.args.self.fragments c.args.self.level)
