use Rattle.esis_lines.proofs.FirstRefused.{refuses_lines}
use Rattle.esis_lines.proofs.laws.refusals_are_of_lines.Goals as goal

pub returns : goal.returns
returns c = refuses_lines
