use Rattle.acl_model.proofs.TargetLaws.{targets_reached, targets_all}
use Rattle.acl_model.proofs.laws.targets_are_where_paths_lead.Goals as goal

pub returns-clause-reached : goal.returns-clause-reached
returns-clause-reached c = targets_reached

pub returns-clause-all : goal.returns-clause-all
returns-clause-all c = targets_all
