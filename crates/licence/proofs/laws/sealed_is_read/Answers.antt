use Rattle.licence.proofs.SealLaws.{sealed_text_of-again, length-sealed_text_of}
use Rattle.licence.proofs.laws.sealed_is_read.Goals as goal

pub returns-clause-read : goal.returns-clause-read
returns-clause-read c = sealed_text_of-again

pub returns-clause-longer : goal.returns-clause-longer
returns-clause-longer c = length-sealed_text_of
