use Rattle.licence.proofs.BodyLaws.{read_body_from-refused}
use Rattle.licence.proofs.SealLaws.{read_licence_of-refused}
use Rattle.licence.proofs.KeyLaws.{read_keys_of-refused}
use Rattle.licence.proofs.laws.what_is_refused_has_a_cause.Goals as goal

pub returns-clause-body : goal.returns-clause-body
returns-clause-body c = read_body_from-refused 1

pub returns-clause-sealed : goal.returns-clause-sealed
returns-clause-sealed c = read_licence_of-refused

pub returns-clause-keys : goal.returns-clause-keys
returns-clause-keys c = read_keys_of-refused
