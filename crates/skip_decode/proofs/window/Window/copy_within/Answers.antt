-- The bytes copied are those of the fragment that is held.
use Rattle.std.proofs.Common.{◌≡◌, ◌≤◌, ◌+◌, ◌-◌, ◌%◌, length, take, drop, ap, ◌∙◌, arith}
use Rattle.skip_decode.proofs.WindowBytes.{held_bytes}
use Rattle.skip_decode.proofs.MoveLaws.{err-any}
use Rattle.skip_decode.proofs.Touches.{read-piece, read-same, read-same-within}
use Rattle.skip_decode.proofs.window.Window.copy_within.Goals as goal

pub returns-clause-bytes : goal.returns-clause-bytes
returns-clause-bytes g c = λ stream is.
    let known = rw c.in_ok-open.ensures.at at c.open.ensures.held in
    let count : c.args.place % 256 + length c.args.into.now - c.args.place % 256 ≡ length c.args.into.now = omega arith in
    c.copy_from_slice.ensures.after
    ∙ ap (λ n. take n (drop (c.args.place % 256) c.open.new.self.held)) count
    ∙ held_bytes c.open.new.self.held stream c.args.place (length c.args.into.now) (known stream is) c.requires.one

pub returns-in_err-open-clause-some : goal.returns-in_err-open-clause-some
returns-in_err-open-clause-some g c = λ first start has.
    read-same first start c.args.place _ _ has _ (c.in_err-open.ensures.some has.newest)

pub returns-clause-opens : goal.returns-clause-opens
returns-clause-opens g c = λ first start has.
    let some : 1 ≤ length c.args.into.now = grind (arith, c.if-is_empty.false, c.is_empty.ensures) in
    read-piece first start c.args.place _ _ has (length c.args.into.now) _ _ some c.requires.one (c.in_ok-open.ensures.opens has.newest) (c.in_ok-open.ensures.newest has.newest)

pub returns-clause-some : goal.returns-clause-some
returns-clause-some g c = λ first start has.
    read-same first start c.args.place _ _ has _ (c.in_ok-open.ensures.some has.newest)

pub returns-in_err-open-clause-bound : goal.returns-in_err-open-clause-bound
returns-in_err-open-clause-bound g c = λ first start has.
    let some : 1 ≤ length c.args.into.now = grind (arith, c.if-is_empty.false, c.is_empty.ensures) in
    err-any _ (read-same-within first start c.args.place _ _ has
    (c.args.place + length c.args.into.now) (omega (arith, some)) _ (c.in_err-open.ensures.some has.newest))
