use Rattle.acl_walk.proofs.BoundLaws.{few-document_events}
use Rattle.acl_walk.proofs.laws.events_are_no_more_than_bytes.Goals as goal

pub returns : goal.returns
returns c = few-document_events
