-- The least number is the first member, and the words without it have the others.
use Rattle.std.proofs.Common.{◌∙◌, sym}
use Rattle.acl_bits.proofs.Firsts.{members_of-none, members_of-first}
use Rattle.acl_bits.proofs.number_set.Row.take_first.Goals as goal

pub returns-in_err-first-clause-first : goal.returns-in_err-first-clause-first
returns-in_err-first-clause-first c =
    rw c.from_residual.ensures (sym c.self.view_is ∙ members_of-none c.self.inside.words c.in_err-first.ensures)

pub returns-clause-first : goal.returns-clause-first
returns-clause-first c = sym c.self.view_is ∙ members_of-first c.self.inside.words c.in_ok-first.first c.self.invariant c.in_ok-first.ensures
