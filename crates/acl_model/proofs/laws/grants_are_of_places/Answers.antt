use Rattle.acl_model.proofs.GrantLaws.{grant_found, grant_shows}
use Rattle.acl_model.proofs.laws.grants_are_of_places.Goals as goal

pub returns-clause-found : goal.returns-clause-found
returns-clause-found c = grant_found

pub returns-clause-had : goal.returns-clause-had
returns-clause-had c e x signs place = grant_shows place e x signs
