-- The law of InvariantLaws.
use Rattle.token_stack.proofs.InvariantLaws.{standing_stands}
use Rattle.token_stack.proofs.laws.standing_tokens_are_sure_and_complete.Goals as goal

pub returns : goal.returns
returns c = standing_stands
