use Rattle.acl_walk.proofs.NestLaws.{nest-document}
use Rattle.acl_walk.proofs.laws.spelled_lists_nest.Goals as goal

pub returns : goal.returns
returns c = nest-document
