use Rattle.licence.proofs.NoOther.{no_seal, no_seal_in_text}
use Rattle.licence.proofs.laws.a_body_is_no_bad_seal.Goals as goal

pub returns-clause-body : goal.returns-clause-body
returns-clause-body c = no_seal

pub returns-clause-text : goal.returns-clause-text
returns-clause-text c = no_seal_in_text
