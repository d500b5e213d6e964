use Rattle.acl_walk.proofs.KnownLaws.{document_can_be_walked}
use Rattle.acl_walk.proofs.document_laws.documents_can_be_walked.Goals as goal

pub returns : goal.returns
returns c = document_can_be_walked
