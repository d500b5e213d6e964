use Rattle.acl_walk.proofs.CloseExamples.{nested-events, close-nested_begin, close-own_finish}
use Rattle.acl_walk.proofs.close_laws.closes_below_the_root.Goals as goal

pub returns : goal.returns
returns c = record {
  events = nested-events;
  at_begin = close-nested_begin;
  at_own_finish = close-own_finish;
}
