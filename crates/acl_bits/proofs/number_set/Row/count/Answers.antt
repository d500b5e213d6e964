-- All bits of the four words are counted.
use Rattle.std.proofs.Common.{◌≡◌, ℕ, List, ap, ◌∙◌, subst, length}
use Rattle.acl_bits.specs.Row.{is_member, is_set, row_of, IsRow}
use Rattle.acl_bits.specs.inside.RowLaws.{row_of-is_member}
use Rattle.acl_bits.proofs.Members.{IsRow-row_of}
use Rattle.acl_bits.proofs.Words.{length-members}
use Rattle.acl_bits.proofs.number_set.Row.count.Goals as goal

pub returns-clause-number : goal.returns-clause-number
returns-clause-number c = c.ones_before.ensures ∙ length-members c.self.inside.words ∙ ap (λ (xs : List ℕ). length xs) c.self.view_is

pub returns-clause-row : goal.returns-clause-row
returns-clause-row c = subst IsRow c.self.view_is (IsRow-row_of (is_set c.self.inside.words))

pub returns-clause-whole : goal.returns-clause-whole
returns-clause-whole c = subst (λ (xs : List ℕ). row_of (is_member xs) ≡ xs) c.self.view_is (row_of-is_member (is_set c.self.inside.words))
