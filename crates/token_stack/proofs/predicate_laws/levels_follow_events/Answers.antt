-- The laws of PredicateLevelLaws.
use Rattle.token_stack.proofs.PredicateLevelLaws.{levels_next, levels_settle, levels_again}
use Rattle.token_stack.proofs.predicate_laws.levels_follow_events.Goals as goal

pub returns : goal.returns
returns c = record {
  start = λ preds d list known. tt;
  event = λ names d list preds i event known rows levels few spells.
      levels_next names d list few spells preds i known event rows levels;
  settle = levels_settle;
  again = levels_again;
}
