use Rattle.std.proofs.Common.{drop, map}
use Rattle.std.specs.List.{concat}
use Rattle.acl_model.specs.Ascii.{capital_a}
use Rattle.acl_model.specs.Text.{line}
use Rattle.acl_outside.proofs.Remaining.{Remains}
use Rattle.line_writer.proofs.document_lines.write_attributes.Given as goal

abbrev pub invariant-loop-attribute : goal.invariant-loop-attribute
invariant-loop-attribute g l =
    Remains g.K.Sink.written g.K.Sink.missed g.K.Sink.settled g.K.Sink.faults l.initial.sink l.sink
    (concat (map (line capital_a) (drop l.attribute-index l.attributes))) (concat (map (line capital_a) l.attributes))
