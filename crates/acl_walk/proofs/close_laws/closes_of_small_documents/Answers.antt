use Rattle.acl_walk.proofs.CloseExamples.{small-events, small-events_with_id, close-begin, close-first, close-finish, close-unmet, close-attribute}
use Rattle.acl_walk.proofs.close_laws.closes_of_small_documents.Goals as goal

pub returns : goal.returns
returns c = record {
  events = small-events;
  events_with_id = small-events_with_id;
  at_begin = close-begin;
  at_first = close-first;
  at_finish = close-finish;
  unmet = close-unmet;
  at_attribute = close-attribute;
}
