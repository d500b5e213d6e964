use Rattle.xpath_rules.proofs.Places.{spelled_read}
use Rattle.xpath_rules.proofs.laws.what_is_spelled_is_read.Goals as goal

pub returns : goal.returns
returns c = spelled_read
