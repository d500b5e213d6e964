-- The law of WayLaws.
use Rattle.token_stack.proofs.WayLaws.{path_leads-led}
use Rattle.token_stack.proofs.predicate_laws.ways_lead_by_names.Goals as goal

pub returns : goal.returns
returns c = path_leads-led
