-- The buffer has the head's first bytes, and then those after them.
use Rattle.std.proofs.Common.{take, ◌∙◌}
use Rattle.skip_decode.proofs.WindowBytes.{whole_head-parts}
use Rattle.skip_decode.proofs.MoveLaws.{head-in}
use Rattle.skip_decode.proofs.head_read.read_head_of.Goals as goal

pub returns-clause-head : goal.returns-clause-head
returns-clause-head g c = λ stream is.
    c.whole_head.ensures
    ∙ whole_head-parts c.args.members.now c.args.width c.args.place c.args.left c.args.front c.args.long stream
    (take c.args.front c.args.buffer.now) (take c.args.long c.fill.new.buffer)
    c.if-long-left.false c.requires.rises (c.requires.front stream (c.in_ok-fill.ensures.narrows stream is)) (c.in_ok-fill.ensures.bytes stream is)

pub returns-clause-fits : goal.returns-clause-fits
returns-clause-fits g c = head-in c.args.members.now _ _ c.whole_head.result c.whole_head.ensures
