use Rattle.acl_walk.proofs.CloseExamples.{long-events, close-last_piece, close-other_value}
use Rattle.acl_walk.proofs.close_laws.closes_of_an_attribute_in_two_pieces.Goals as goal

pub returns : goal.returns
returns c = record {
  events = long-events;
  at_last_piece = close-last_piece;
  unmet = close-other_value;
}
