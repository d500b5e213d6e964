use Rattle.xpath_rules.proofs.Places.{one_place}
use Rattle.xpath_rules.proofs.laws.a_place_is_one.Goals as goal

pub returns : goal.returns
returns c = one_place
