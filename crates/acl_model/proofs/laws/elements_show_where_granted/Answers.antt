use Rattle.acl_model.proofs.ViewEquations.{shows_where_granted}
use Rattle.acl_model.proofs.laws.elements_show_where_granted.Goals as goal

pub returns : goal.returns
returns c = shows_where_granted
