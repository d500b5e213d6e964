use Rattle.licence.proofs.BodyLaws.{read_body_from-says}
use Rattle.licence.proofs.SealLaws.{read_licence_of-says}
use Rattle.licence.proofs.KeyLaws.{read_keys_of-says}
use Rattle.licence.proofs.laws.what_is_read_is_said.Goals as goal

pub returns-clause-body : goal.returns-clause-body
returns-clause-body c = read_body_from-says 1

pub returns-clause-sealed : goal.returns-clause-sealed
returns-clause-sealed c = read_licence_of-says

pub returns-clause-keys : goal.returns-clause-keys
returns-clause-keys c = read_keys_of-says
