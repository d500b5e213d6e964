use Rattle.std.proofs.Common.{drop}
use Rattle.acl_outside.specs.WrittenText.{all_of}
use Rattle.acl_outside.proofs.Remaining.{Remains}
use Rattle.acl_outside.proofs.writing.write_pieces.Given as goal

abbrev pub invariant-loop-piece : goal.invariant-loop-piece
invariant-loop-piece g l =
    Remains g.K.Sink.written g.K.Sink.missed g.K.Sink.settled g.K.Sink.faults l.initial.sink l.sink (all_of (drop l.piece-index l.pieces)) (all_of l.pieces)
