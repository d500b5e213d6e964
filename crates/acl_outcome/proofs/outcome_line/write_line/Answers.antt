use Rattle.acl_outside.proofs.Remaining.{chain}
use Rattle.acl_outcome.proofs.outcome_line.write_line.Goals as goal

pub returns-in_err-write_fields : goal.returns-in_err-write_fields
returns-in_err-write_fields g c = search chain

pub returns : goal.returns
returns g c = search chain
