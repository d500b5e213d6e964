-- The set has the numbers of all three.
use Rattle.std.proofs.Common.{List, ℕ, eqb, ◌||◌, ap, ◌∙◌}
use Rattle.acl_bits.specs.Row.{row_of, is_member}
use Rattle.skip_decode.proofs.HeadBits.{met-more, met-same}
use Rattle.skip_decode.proofs.begun.met_with.Goals as goal

pub returns-then-head-ge256 : goal.returns-then-head-ge256
returns-then-head-ge256 c = c.join.ensures ∙ met-same c.args.met.now c.args.head.now c.if-head-ge256.true

pub returns : goal.returns
returns c =
    c.put.ensures ∙ ap (λ (l : List ℕ). row_of (λ n. eqb n c.args.head.now.tag || is_member l n)) c.join.ensures
    ∙ met-more c.args.met.now c.args.head.now
