use Rattle.skip_encode.proofs.Widths.{binary_length-zero, binary_length-between}
use Rattle.skip_encode.proofs.heads.binary_length.Goals as goal

pub returns-then-n-eq0-clause-digits : goal.returns-then-n-eq0-clause-digits
returns-then-n-eq0-clause-digits c = binary_length-zero c.args.n c.if-n-eq0.true

pub returns-else-n-eq0-clause-digits : goal.returns-else-n-eq0-clause-digits
returns-else-n-eq0-clause-digits c = binary_length-between c.args.n c.ilog2.result c.ilog2.ensures.bound c.ilog2.ensures.power_le c.ilog2.ensures.next_power_gt
