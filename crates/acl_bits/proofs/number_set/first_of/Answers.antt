-- The lowest bit of the first word that isn't zero is the least number.
use Rattle.std.proofs.Common.{arith}
use Rattle.acl_bits.proofs.Firsts.{first_in_word, is_set-zeros}
use Rattle.acl_bits.proofs.number_set.first_of.Goals as goal

pub returns-then-words-i-ne0 : goal.returns-then-words-i-ne0
returns-then-words-i-ne0 c =
    first_in_word c.args.words.now c.loop-i.i (omega arith) (omega (arith, c.if-words-i-ne0.true)) (omega (arith, c.type_inv.words)) c.loop-i.invariant

pub returns : goal.returns
returns c = is_set-zeros c.args.words.now (λ k l. c.loop-i.invariant k (omega arith))
