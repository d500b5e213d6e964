-- The laws of LearnLaws.
use Rattle.token_stack.proofs.LearnLaws.{levels_learn, learned_levels_stand}
use Rattle.token_stack.proofs.predicate_laws.levels_follow_a_look_ahead.Goals as goal

pub returns : goal.returns
returns c = record {
  tell = λ preds d list i j level own ahead levels other still tell onward.
      levels_learn preds d list i j level own ahead other still onward levels tell;
  stand = learned_levels_stand;
}
