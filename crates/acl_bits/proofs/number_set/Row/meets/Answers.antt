-- A bit in common is a member in common.
use Rattle.std.proofs.Common.{ℕ, List, ap, ◌∙◌, sym, arith}
use Rattle.std.specs.List.{list_any}
use Rattle.acl_bits.specs.Row.{is_member, members_of}
use Rattle.acl_bits.proofs.Words.{meets_some, meets_none}
use Rattle.acl_bits.proofs.number_set.Row.meets.Goals as goal

pub returns-then-self-i-ne0 : goal.returns-then-self-i-ne0
returns-then-self-i-ne0 c =
    sym (meets_some c.self.inside.words c.other.inside.words c.loop-i.i c.self.invariant c.loop-i-test.true c.if-self-i-ne0.true)
    ∙ ap (λ (xs : List ℕ). list_any (is_member xs) (members_of c.self.inside.words)) c.other.view_is
    ∙ ap (λ (xs : List ℕ). list_any (is_member c.args.other.now) xs) c.self.view_is

pub returns : goal.returns
returns c =
    sym (meets_none c.self.inside.words c.other.inside.words (λ i l. c.loop-i.invariant i (omega arith)))
    ∙ ap (λ (xs : List ℕ). list_any (is_member xs) (members_of c.self.inside.words)) c.other.view_is
    ∙ ap (λ (xs : List ℕ). list_any (is_member c.args.other.now) xs) c.self.view_is
