use Rattle.std.proofs.Common.{◌≡◌, drop, map}
use Rattle.acl_outside.proofs.Remaining.{Remains}
use Rattle.tree_meaning.specs.inside.Shows.{in_turn, written_of_item}
use Rattle.tree_meaning.proofs.view_writer.+view.Given as goal

abbrev pub invariant-write_items-loop-item : goal.invariant-write_items-loop-item
invariant-write_items-loop-item g l =
    Remains g.K.Sink.written g.K.Sink.missed g.K.Sink.settled g.K.Sink.faults l.initial.sink l.sink
    (in_turn (map written_of_item (drop l.item-index l.item-items)) l.whole l.shows.left.now).text
    (in_turn (map written_of_item l.item-items) l.whole l.initial.shows.left.now).text
    × ((in_turn (map written_of_item (drop l.item-index l.item-items)) l.whole l.shows.left.now).rest ≡ (in_turn (map written_of_item l.item-items) l.whole l.initial.shows.left.now).rest)
