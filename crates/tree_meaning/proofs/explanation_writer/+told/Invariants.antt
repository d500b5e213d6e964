use Rattle.std.proofs.Common.{◌≡◌, ◌≤◌, ◌+◌, drop}
use Rattle.acl_model.specs.Explain.{explanation_lines}
use Rattle.acl_outside.proofs.Remaining.{Remains}
use Rattle.tree_meaning.specs.inside.Decided.{place_of, told_below_items, entries_after_items}
use Rattle.tree_meaning.proofs.explanation_writer.+told.Given as goal

abbrev pub invariant-write_items-loop-item : goal.invariant-write_items-loop-item
invariant-write_items-loop-item g l =
    (l.number ≤ l.item-index + 1)
    × Remains g.K.Sink.written g.K.Sink.missed g.K.Sink.settled g.K.Sink.faults l.initial.sink l.sink
    (explanation_lines l.rules (told_below_items l.entries.left.now (place_of l.position) (drop l.item-index l.item-items) l.number))
    (explanation_lines l.rules (told_below_items l.initial.entries.left.now (place_of l.position) l.item-items 1))
    × (entries_after_items l.entries.left.now (drop l.item-index l.item-items) ≡ entries_after_items l.initial.entries.left.now l.item-items)
