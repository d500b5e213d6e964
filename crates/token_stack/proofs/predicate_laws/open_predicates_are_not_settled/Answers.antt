-- The laws of OpenPredicateLaws.
use Rattle.token_stack.proofs.OpenPredicateLaws.{open_passes, open_settled, open_finished, open_met, open_joined}
use Rattle.token_stack.proofs.OpenPredicateLaws.{open_is}
use Rattle.token_stack.proofs.predicate_laws.open_predicates_are_not_settled.Goals as goal

pub returns : goal.returns
returns c = record {
  test = open_passes;
  exact = λ names d list preds known tests place e level step s n pred few spells.
      open_is names d list few spells preds known tests place e level step s n pred;
  settled = open_settled;
  finished = open_finished;
  met_whole = open_met;
  joined = open_joined;
}
