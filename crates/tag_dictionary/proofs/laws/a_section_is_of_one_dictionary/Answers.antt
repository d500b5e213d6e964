use Rattle.tag_dictionary.proofs.Readings.{one_dictionary}
use Rattle.tag_dictionary.proofs.laws.a_section_is_of_one_dictionary.Goals as goal

pub returns : goal.returns
returns c = one_dictionary
