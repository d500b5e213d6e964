-- The search continues where a width isn't enough.
use Rattle.std.proofs.Common.{◌≡◌, ◌*◌, ◌^◌, ◌%◌, sym, ◌∙◌, arith}
use Rattle.std.proofs.lemmas.Nat.{one_shl}
use Rattle.skip_decode.proofs.Searches.{search-start, search-here, search-on, search-end}
use Rattle.skip_decode.proofs.head.binary_length.Goals as goal

pub loop-width-init : goal.loop-width-init
loop-width-init c = search-start c.args.n

pub returns-then-n-width-clause-length : goal.returns-then-n-width-clause-length
returns-then-n-width-clause-length c =
    let power : 1 * 2 ^ c.loop-width.width % 2 ^ 64 ≡ 2 ^ c.loop-width.width = one_shl c.loop-width.width 64 (omega arith) in
    sym (search-here c.args.n c.loop-width.width (omega arith) (omega (arith, power))) ∙ c.loop-width.invariant

pub loop-width-preserved : goal.loop-width-preserved
loop-width-preserved c =
    let power : 1 * 2 ^ c.loop-width.width % 2 ^ 64 ≡ 2 ^ c.loop-width.width = one_shl c.loop-width.width 64 (omega arith) in
    sym (search-on c.args.n c.loop-width.width (omega arith) (omega (arith, power))) ∙ c.loop-width.invariant

pub returns-clause-length : goal.returns-clause-length
returns-clause-length c =
    let last : c.loop-width.width ≡ 32 = omega arith in
    sym last ∙ sym (search-end c.args.n c.loop-width.width (omega arith)) ∙ c.loop-width.invariant
