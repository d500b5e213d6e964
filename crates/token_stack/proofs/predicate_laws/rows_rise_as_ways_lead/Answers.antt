-- The law of StateRowLaws.
use Rattle.token_stack.proofs.StateRowLaws.{risen_led}
use Rattle.token_stack.proofs.predicate_laws.rows_rise_as_ways_lead.Goals as goal

pub returns : goal.returns
returns c = risen_led
