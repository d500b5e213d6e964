use Rattle.std.proofs.Common.{arith}
use Rattle.acl_outside.proofs.Leaving.{AppendsPart-prefix}
use Rattle.acl_outside.proofs.mem_sink.MemSinkSink.write.Goals as goal

pub returns-then-count-piece-clause-part : goal.returns-then-count-piece-clause-part
returns-then-count-piece-clause-part c =
    let put = rw c.unwrap.ensures at c.extend_from_slice.ensures.items in
    rw (← c.self.view_is, put) (AppendsPart-prefix c.self.inside.bytes.items c.args.piece.now c.min-count.result (omega arith))
