use Rattle.acl_model.proofs.ViewForms.{view_form}
use Rattle.acl_model.proofs.laws.views_are_view_documents.Goals as goal

pub returns : goal.returns
returns c d v rules = view_form d rules v
