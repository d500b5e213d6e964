use Rattle.std.proofs.Common.{◌∷◌, decimal, drop, map}
use Rattle.std.specs.List.{concat}
use Rattle.acl_model.specs.Ascii.{slash}
use Rattle.acl_outside.proofs.Remaining.{Remains}
use Rattle.line_writer.proofs.explanation_lines.write_numbers.Given as goal

abbrev pub invariant-loop-number : goal.invariant-loop-number
invariant-loop-number g l =
    Remains g.K.Sink.written g.K.Sink.missed g.K.Sink.settled g.K.Sink.faults l.initial.sink l.sink
    (concat (map (λ number. slash ∷ decimal number) (drop l.number-index l.numbers)))
    (concat (map (λ number. slash ∷ decimal number) l.numbers))
