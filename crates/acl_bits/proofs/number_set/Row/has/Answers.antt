-- The bit is 1 exactly where the number is a member, and no number from 256 on is one.
use Rattle.std.proofs.Common.{ap, ◌∙◌}
use Rattle.acl_bits.specs.Row.{is_member}
use Rattle.acl_bits.proofs.Words.{has_within, has_past}
use Rattle.acl_bits.proofs.number_set.Row.has.Goals as goal

pub returns-then-n-lt-NUMBERS : goal.returns-then-n-lt-NUMBERS
returns-then-n-lt-NUMBERS c =
    has_within c.self.inside.words c.args.n c.if-n-lt-NUMBERS.true ∙ ap (λ xs. is_member xs c.args.n) c.self.view_is

pub returns-else-n-lt-NUMBERS : goal.returns-else-n-lt-NUMBERS
returns-else-n-lt-NUMBERS c =
    has_past c.self.inside.words c.args.n c.if-n-lt-NUMBERS.false ∙ ap (λ xs. is_member xs c.args.n) c.self.view_is
