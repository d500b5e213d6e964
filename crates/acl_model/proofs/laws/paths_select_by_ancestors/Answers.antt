use Rattle.acl_model.proofs.ChainLaws.{select-chain}
use Rattle.acl_model.proofs.laws.paths_select_by_ancestors.Goals as goal

pub returns : goal.returns
returns c = select-chain
