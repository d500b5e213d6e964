-- The laws of PredicateLevelLaws.
use Rattle.token_stack.proofs.PredicateLevelLaws.{next_known, next_more, next_onward, next_first, levels_same}
use Rattle.token_stack.proofs.predicate_laws.one_event_more_is_known.Goals as goal

pub returns : goal.returns
returns c = record {
  read = next_known;
  no_less = next_more;
  onward = next_onward;
  exact = next_first;
  elsewhere = levels_same;
}
