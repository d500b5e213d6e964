-- Two sets are equal exactly where their words are equal.
use Rattle.acl_bits.proofs.Words.{same_members}
use Rattle.acl_bits.proofs.number_set.RowPartialEq.eq.Goals as goal

pub returns : goal.returns
returns c =
    same_members c.eq.result c.self.inside.words c.other.inside.words _ _ c.self.invariant c.other.invariant c.self.view_is
    c.other.view_is c.eq.ensures
