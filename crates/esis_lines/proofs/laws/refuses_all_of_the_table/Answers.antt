use Rattle.esis_lines.proofs.FirstRefused.{refused_by_machine}
use Rattle.esis_lines.proofs.laws.refuses_all_of_the_table.Goals as goal

pub returns : goal.returns
returns c = refused_by_machine
