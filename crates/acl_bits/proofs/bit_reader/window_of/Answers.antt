-- One more byte is appended to the window.
use Rattle.std.proofs.Common.{◌∙◌, arith}
use Rattle.acl_bits.proofs.Windows.{IsWindowTo-next}
use Rattle.acl_bits.proofs.bit_reader.window_of.Goals as goal

pub loop-i-preserved : goal.loop-i-preserved
loop-i-preserved c =
    IsWindowTo-next c.loop-i.window c.from.result c.args.bytes.now c.loop-i.i c.loop-i.invariant (c.from.ensures ∙ c.byte_at.ensures)
    (omega arith)
