use Rattle.acl_model.proofs.ChainLaws.{sign-chain}
use Rattle.acl_model.proofs.laws.signs_follow_ancestors.Goals as goal

pub returns : goal.returns
returns c = sign-chain
