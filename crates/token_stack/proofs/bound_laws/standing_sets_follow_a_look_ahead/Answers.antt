-- The law of LearnLaws.
use Rattle.token_stack.proofs.LearnLaws.{learned_stands}
use Rattle.token_stack.proofs.bound_laws.standing_sets_follow_a_look_ahead.Goals as goal

pub returns : goal.returns
returns c =
    λ rules d list i j level own ahead surely possibly ahead_surely ahead_possibly deeper_surely deeper_possibly.
    λ stand onward still more beyond.
    learned_stands rules d list i j level own ahead still more surely possibly ahead_surely ahead_possibly
    deeper_surely deeper_possibly stand onward beyond
