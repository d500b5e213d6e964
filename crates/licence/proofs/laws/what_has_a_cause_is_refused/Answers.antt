use Rattle.licence.proofs.BodyLaws.{read_body_from-cause}
use Rattle.licence.proofs.SealLaws.{read_licence_of-cause}
use Rattle.licence.proofs.KeyLaws.{read_keys_of-cause}
use Rattle.licence.proofs.laws.what_has_a_cause_is_refused.Goals as goal

pub returns-clause-body : goal.returns-clause-body
returns-clause-body c = read_body_from-cause 1

pub returns-clause-sealed : goal.returns-clause-sealed
returns-clause-sealed c = read_licence_of-cause

pub returns-clause-keys : goal.returns-clause-keys
returns-clause-keys c = read_keys_of-cause
