use Rattle.std.proofs.Common.{drop, map}
use Rattle.std.specs.List.{concat}
use Rattle.acl_model.specs.Explain.{explanation_line}
use Rattle.acl_outside.proofs.Remaining.{Remains}
use Rattle.tree_meaning.specs.inside.ExplainWalk.{explanation_in}
use Rattle.tree_meaning.proofs.lines.write_explanation.Given as goal

abbrev pub invariant-loop-one : goal.invariant-loop-one
invariant-loop-one g l =
    Remains g.K.Sink.written g.K.Sink.missed g.K.Sink.settled g.K.Sink.faults l.initial.sink l.sink
    (concat (map (λ one. explanation_line l.rules (explanation_in one)) (drop l.one-index l.told)))
    (concat (map (λ one. explanation_line l.rules (explanation_in one)) l.told))
