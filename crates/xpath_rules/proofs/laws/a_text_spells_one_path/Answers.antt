use Rattle.xpath_rules.proofs.Places.{one_path}
use Rattle.xpath_rules.proofs.laws.a_text_spells_one_path.Goals as goal

pub returns : goal.returns
returns c = one_path
