use Rattle.acl_model.proofs.ByteLaws.{text-bytes, view_text-bytes}
use Rattle.acl_model.proofs.laws.texts_are_bytes.Goals as goal

pub returns-clause-document : goal.returns-clause-document
returns-clause-document c = text-bytes

pub returns-clause-view : goal.returns-clause-view
returns-clause-view c = view_text-bytes
