-- Each member has one bit.
use Rattle.std.proofs.Common.{refl, sym, ◌∙◌}
use Rattle.skip_decode.proofs.Searches.{members-short, members-one, members-other, members-end, with_number-is}
use Rattle.skip_decode.proofs.head.take_members.Goals as goal

pub returns-in_err-take_bits : goal.returns-in_err-take_bits
returns-in_err-take_bits c =
    rw c.from_residual.ensures (sym c.loop-number.invariant ∙ members-short c.loop-number.left c.take_first.new.self c.loop-number.below c.loop-number.bits c.in-Some.number c.in-Some.ensures.first c.in_err-take_bits.ensures)

pub loop-number-preserved-then-branch-eq1 : goal.loop-number-preserved-then-branch-eq1
loop-number-preserved-then-branch-eq1 c =
    members-one c.loop-number.left c.take_first.new.self c.loop-number.below c.put.new.self c.loop-number.bits c.take_bits.new.bits c.in-Some.number c.in_ok-take_bits.field-0 c.in-Some.ensures.first c.in_ok-take_bits.ensures
    c.if-branch-eq1.true (c.put.ensures ∙ sym (with_number-is c.loop-number.below c.in-Some.number)) ∙ c.loop-number.invariant

pub loop-number-preserved : goal.loop-number-preserved
loop-number-preserved c =
    members-other c.loop-number.left c.take_first.new.self c.loop-number.below c.loop-number.below c.loop-number.bits c.take_bits.new.bits c.in-Some.number c.in_ok-take_bits.field-0 c.in-Some.ensures.first c.in_ok-take_bits.ensures
    c.if-branch-eq1.false refl ∙ c.loop-number.invariant

pub returns : goal.returns
returns c = sym c.loop-number.invariant ∙ members-end c.loop-number.left c.loop-number.below c.loop-number.bits c.in_default.ensures.first
