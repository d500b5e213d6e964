-- The laws of StandLaws.
use Rattle.token_stack.proofs.StandLaws.{rules_are, rules_at_place}
use Rattle.token_stack.proofs.laws.rows_have_the_rules_that_select.Goals as goal

pub returns : goal.returns
returns c = record { chain = rules_are; place = rules_at_place }
