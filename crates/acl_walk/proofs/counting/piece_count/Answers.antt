use Rattle.std.proofs.Common.{◌+◌, ◌/◌, ap, sym, ◌∙◌}
use Rattle.acl_walk.proofs.BoundLaws.{length-pieces}
use Rattle.acl_walk.proofs.counting.piece_count.Goals as goal

pub returns : goal.returns
returns c = ap (λ n. n / 256 + 1) c.saturating_sub.ensures ∙ sym (length-pieces c.args.bytes.now)
