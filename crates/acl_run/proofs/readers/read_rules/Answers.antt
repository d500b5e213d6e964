use Rattle.acl_run.proofs.FaultEnds.{rules_end}
use Rattle.acl_run.proofs.Facts.{on_true}
use Rattle.acl_run.proofs.Taking.{takes_all}
use Rattle.acl_run.proofs.readers.read_rules.Goals as goal

pub returns-in-Ok-read_body-clause-read : goal.returns-in-Ok-read_body-clause-read
returns-in-Ok-read_body-clause-read g c =
    takes_all (g.K.Source.left c.args.keys.now) (g.K.Source.left c.read_all.new.source) _ 131072 c.in-Ok.ensures.whole c.in-Ok.ensures.end c.in-Ok.ensures.within

pub returns-clause-read : goal.returns-clause-read
returns-clause-read g c =
    on_true _ (takes_all (g.K.Source.left c.args.keys.now) (g.K.Source.left c.read_all.new.source) _ 131072 c.in-Ok.ensures.whole c.in-Ok.ensures.end c.in-Ok.ensures.within)

pub returns-clause-ends : goal.returns-clause-ends
returns-clause-ends g c = rules_end _ c.licence_outcome.result c.in-Err.fault c.licence_outcome.ensures c.in-Err.ensures.exact
