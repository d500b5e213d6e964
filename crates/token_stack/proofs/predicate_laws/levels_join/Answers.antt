-- The laws of PredicateLevelLaws.
use Rattle.token_stack.proofs.PredicateLevelLaws.{joined_onward, joined_back, joined_learned, learned_beyond}
use Rattle.token_stack.proofs.predicate_laws.levels_join.Goals as goal

pub returns : goal.returns
returns c = record { onward = joined_onward; back = joined_back; learned = joined_learned; beyond = learned_beyond }
