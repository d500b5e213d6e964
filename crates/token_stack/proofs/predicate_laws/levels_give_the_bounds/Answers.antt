-- The laws of PredicateLevelLaws.
use Rattle.token_stack.proofs.PredicateLevelLaws.{level_sure, level_may, level_settles}
use Rattle.token_stack.proofs.predicate_laws.levels_give_the_bounds.Goals as goal

pub returns : goal.returns
returns c = record {
  sure = level_sure;
  may = λ names d list preds known place e level n pred few spells. level_may names d list few spells preds known place e level n pred;
  settled = λ names d list preds known place e level n pred few spells. level_settles names d list few spells preds known place e level n pred;
}
