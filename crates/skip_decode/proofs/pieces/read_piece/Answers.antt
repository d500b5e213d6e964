-- The piece has bytes of the fragment that is held.
use Rattle.std.proofs.Common.{◌≤◌, min, ◌∙◌, arith}
use Rattle.skip_decode.proofs.WindowBytes.{held_piece}
use Rattle.skip_decode.specs.StreamSteps.{after_piece, fragment_left}
use Rattle.skip_decode.proofs.MoveLaws.{err-any}
use Rattle.skip_decode.proofs.Touches.{read-piece, read-same, read-same-within}
use Rattle.skip_decode.proofs.pieces.read_piece.Goals as goal

pub returns-clause-piece : goal.returns-clause-piece
returns-clause-piece g c = λ stream is.
    let known = rw c.in_ok-open.ensures.at at c.open.ensures.held in
    c.piece_of-2.ensures
    ∙ held_piece c.open.new.self.held stream c.args.place c.args.left c.fragment_left-room.result c.min.result
    c.fragment_left-room.ensures c.min.ensures (known stream is)

pub returns-in_err-open-clause-some : goal.returns-in_err-open-clause-some
returns-in_err-open-clause-some g c = λ first start has.
    read-same first start c.args.place _ _ has _ (c.in_err-open.ensures.some has.newest)

pub returns-clause-opens : goal.returns-clause-opens
returns-clause-opens g c = λ first start has.
    let some : 1 ≤ min c.args.left (fragment_left c.args.place) = omega (arith, c.if-left-eq0.false) in
    read-piece first start c.args.place _ _ has (min c.args.left (fragment_left c.args.place)) _ _ some (omega arith)
    (c.in_ok-open.ensures.opens has.newest) (c.in_ok-open.ensures.newest has.newest)

pub returns-clause-some : goal.returns-clause-some
returns-clause-some g c = λ first start has.
    read-same first start c.args.place _ _ has _ (c.in_ok-open.ensures.some has.newest)

pub returns-in_err-open-clause-bound : goal.returns-in_err-open-clause-bound
returns-in_err-open-clause-bound g c = λ first start has.
    let some : 1 ≤ min c.args.left (fragment_left c.args.place) = omega (arith, c.if-left-eq0.false) in
    err-any _ (read-same-within first start c.args.place _ _ has
    (after_piece c.args.place c.args.left) (omega (arith, some)) _ (c.in_err-open.ensures.some has.newest))
