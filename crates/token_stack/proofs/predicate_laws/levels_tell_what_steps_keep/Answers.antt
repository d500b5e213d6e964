-- The laws of PredicateLevelLaws.
use Rattle.token_stack.proofs.PredicateLevelLaws.{keeps_surely, keeps_possibly}
use Rattle.token_stack.proofs.predicate_laws.levels_tell_what_steps_keep.Goals as goal

pub returns : goal.returns
returns c = record { surely = keeps_surely; possibly = keeps_possibly }
