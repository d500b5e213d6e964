use Rattle.licence.proofs.Written.{read_body_of-written}
use Rattle.licence.proofs.laws.written_is_read.Goals as goal

pub returns : goal.returns
returns c = read_body_of-written
