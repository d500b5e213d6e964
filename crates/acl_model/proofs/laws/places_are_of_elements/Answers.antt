use Rattle.acl_model.proofs.PlaceLaws.{times_in_places}
use Rattle.acl_model.proofs.laws.places_are_of_elements.Goals as goal

pub returns : goal.returns
returns c = times_in_places
