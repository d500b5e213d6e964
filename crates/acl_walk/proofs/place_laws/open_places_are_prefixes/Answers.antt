use Rattle.acl_walk.specs.inside.OpenLaws.{places_of-prefixes}
use Rattle.acl_walk.proofs.place_laws.open_places_are_prefixes.Goals as goal

pub returns : goal.returns
returns c = places_of-prefixes
