use Rattle.acl_model.proofs.NameForms.{document_form}
use Rattle.acl_model.proofs.laws.documents_are_view_documents.Goals as goal

pub returns : goal.returns
returns c = document_form
