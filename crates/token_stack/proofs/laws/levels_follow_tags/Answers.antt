-- The laws of StandLaws.
use Rattle.std.proofs.Common.{refl}
use Rattle.token_stack.proofs.StandLaws.{levels_begin, levels_finish}
use Rattle.token_stack.proofs.laws.levels_follow_tags.Goals as goal

pub returns : goal.returns
returns c = record { new = λ states. refl; begin = levels_begin; finish = levels_finish }
