use Rattle.acl_outside.proofs.Remaining.{loop}
use Rattle.line_writer.proofs.explanation_lines.write_numbers.Goals as goal

pub returns-in_err-write_number : goal.returns-in_err-write_number
returns-in_err-write_number g c = search loop
