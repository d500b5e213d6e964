-- The laws of HitLaws.
use Rattle.token_stack.proofs.HitLaws.{met_at-is, met_at-inside}
use Rattle.token_stack.proofs.predicate_laws.events_meet_what_they_hit.Goals as goal

pub returns : goal.returns
returns c = record { exact = met_at-is; inside = met_at-inside }
