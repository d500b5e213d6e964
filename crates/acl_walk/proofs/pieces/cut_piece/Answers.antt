use Rattle.std.proofs.Common.{◌∷◌, [], false, drop, ap, sym, ◌∙◌}
use Rattle.acl_walk.specs.Pieces.{piece_of, pieces}
use Rattle.acl_walk.specs.inside.PieceLaws.{pieces-short, pieces-long}
use Rattle.acl_walk.proofs.pieces.cut_piece.Goals as goal

pub returns-then-bytes-le-PIECE-clause-pieces : goal.returns-then-bytes-le-PIECE-clause-pieces
returns-then-bytes-le-PIECE-clause-pieces c =
    pieces-short c.args.bytes.now c.if-bytes-le-PIECE.true ∙ ap (λ piece. piece ∷ []) (sym c.whole_piece.ensures)

pub returns-clause-pieces : goal.returns-clause-pieces
returns-clause-pieces c =
    let whole = c.whole_piece-2.ensures ∙ ap (λ bytes. piece_of bytes false) c.split_at.ensures.front in
    pieces-long c.args.bytes.now c.if-bytes-le-PIECE.false ∙ ap (λ piece. piece ∷ pieces (drop 256 c.args.bytes.now)) (sym whole)
    ∙ ap (λ bytes. c.whole_piece-2.result ∷ pieces bytes) (sym c.split_at.ensures.back)
