-- No bit of the four zeros is 1.
use Rattle.acl_bits.proofs.Words.{members_of-zeros}
use Rattle.acl_bits.proofs.number_set.Row.none.Goals as goal

pub returns : goal.returns
returns c = members_of-zeros
