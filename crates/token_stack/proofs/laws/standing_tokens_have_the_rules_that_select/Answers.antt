-- The laws of FeedLaws.
use Rattle.token_stack.proofs.FeedLaws.{open_elements-standing, standing_rows}
use Rattle.token_stack.proofs.laws.standing_tokens_have_the_rules_that_select.Goals as goal

pub returns : goal.returns
returns c = record { levels = open_elements-standing; rows = standing_rows }
