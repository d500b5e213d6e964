use Rattle.acl_walk.proofs.KnownLaws.{knows-spelled}
use Rattle.acl_walk.proofs.document_laws.spelled_documents_are_known.Goals as goal

pub returns : goal.returns
returns c = knows-spelled
