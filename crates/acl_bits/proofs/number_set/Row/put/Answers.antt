-- One bit of one word is written, and every other stays.
use Rattle.std.proofs.Common.{ℕ, List, ap, ◌∙◌, ◌||◌, eqb, arith}
use Rattle.acl_bits.specs.Row.{is_member, row_of}
use Rattle.acl_bits.proofs.Words.{members_of-put, AreWords-or, bit_fits}
use Rattle.acl_bits.proofs.number_set.Row.put.Goals as goal

pub invariant_of-self : goal.invariant_of-self
invariant_of-self c = AreWords-or c.self.inside.words _ _ c.self.invariant (omega (arith, c.requires)) (bit_fits c.args.n)

pub returns : goal.returns
returns c =
    members_of-put c.self.inside.words c.args.n c.self.invariant.four c.requires
    ∙ ap (λ (xs : List ℕ). row_of (λ m. eqb m c.args.n || is_member xs m)) c.self.view_is
