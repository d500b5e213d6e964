-- The sink took the text of the fields so far. What remains is the text of the fields left.
use Rattle.std.proofs.Common.{drop, map}
use Rattle.std.specs.List.{concat}
use Rattle.acl_outside.proofs.Remaining.{Remains}
use Rattle.acl_outcome.specs.Outcome.{field_text}
use Rattle.acl_outcome.specs.inside.Fields.{meant_field}
use Rattle.acl_outcome.proofs.outcome_line.write_each.Given as goal

abbrev pub invariant-loop-field : goal.invariant-loop-field
invariant-loop-field g l =
    Remains g.K.Sink.written g.K.Sink.missed g.K.Sink.settled g.K.Sink.faults l.initial.sink l.sink
    (concat (map (λ field. field_text (meant_field field)) (drop l.field-index l.fields)))
    (concat (map (λ field. field_text (meant_field field)) l.fields))
