-- The members below n are the bits before bit n that are 1.
use Rattle.std.proofs.Common.{ℕ, List, ap, ◌∙◌, sym, length, count_by, nat_lt}
use Rattle.acl_bits.specs.Row.{is_set}
use Rattle.acl_bits.specs.inside.RowLaws.{numbers_below}
use Rattle.acl_bits.proofs.Words.{count_by-members}
use Rattle.acl_bits.proofs.number_set.Row.rank.Goals as goal

pub returns : goal.returns
returns c =
    c.ones_before.ensures ∙ ap (λ k. length (numbers_below (is_set c.self.inside.words) k)) c.min.ensures
    ∙ sym (count_by-members c.self.inside.words c.args.n)
    ∙ ap (λ (xs : List ℕ). count_by (λ m. nat_lt m c.args.n) xs) c.self.view_is
