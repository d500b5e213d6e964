use Rattle.xpath_rules.proofs.Places.{read_spelled, read_within}
use Rattle.xpath_rules.proofs.laws.what_is_read_is_spelled.Goals as goal

pub returns : goal.returns
returns c = record { spelled = read_spelled; within = read_within }
