use Rattle.esis_lines.proofs.FirstRefused.{machine_refuses}
use Rattle.esis_lines.proofs.laws.refuses_by_the_table.Goals as goal

pub returns : goal.returns
returns c = machine_refuses
