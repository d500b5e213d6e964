-- Proved in TagLaws.
use Rattle.rule_automata.proofs.TagLaws.{passes_tag-name}
use Rattle.rule_automata.proofs.laws.tags_pass_as_names_do.Goals as goal

pub returns : goal.returns
returns c = passes_tag-name
