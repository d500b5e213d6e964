use Rattle.acl_outside.proofs.Remaining.{loop}
use Rattle.acl_outcome.proofs.outcome_line.write_each.Goals as goal

pub returns-in_err-write_field : goal.returns-in_err-write_field
returns-in_err-write_field g c = search loop
