use Rattle.skip_decode.proofs.SmallStreams.{one_text-events, one_child-events, two_children-events}
use Rattle.skip_decode.proofs.stream_laws.small_streams_are_read.Goals as goal

pub returns : goal.returns
returns c = record {
  one_text = one_text-events;
  one_child = one_child-events;
  two_children = two_children-events;
}
