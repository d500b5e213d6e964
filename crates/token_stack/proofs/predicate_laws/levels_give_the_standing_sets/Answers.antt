-- The laws of LearnLaws.
use Rattle.token_stack.proofs.LearnLaws.{outermost_levels, outermost_names, levels_stand}
use Rattle.token_stack.proofs.predicate_laws.levels_give_the_standing_sets.Goals as goal

pub returns : goal.returns
returns c = record {
  outermost = λ d list i preds known levels k place. outermost_levels preds d list i known levels k place;
  names = outermost_names;
  stand = levels_stand;
}
