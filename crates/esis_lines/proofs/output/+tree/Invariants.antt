use Rattle.std.proofs.Common.{drop, map}
use Rattle.std.specs.List.{concat}
use Rattle.acl_model.specs.Text.{item_text}
use Rattle.acl_outside.proofs.Remaining.{Remains}
use Rattle.esis_lines.proofs.output.+tree.Given as goal

abbrev pub invariant-write_items-loop-item : goal.invariant-write_items-loop-item
invariant-write_items-loop-item g l =
    Remains g.K.Sink.written g.K.Sink.missed g.K.Sink.settled g.K.Sink.faults l.initial.sink l.sink
    (concat (map item_text (drop l.item-index l.items))) (concat (map item_text l.items))
