use Rattle.acl_run.proofs.Facts.{on_true}
use Rattle.acl_run.proofs.Taking.{takes_all}
use Rattle.acl_run.proofs.readers.read_sealed_licence.Goals as goal

pub returns-in-Ok-read_licence-clause-read : goal.returns-in-Ok-read_licence-clause-read
returns-in-Ok-read_licence-clause-read g c =
    takes_all (g.Q.Source.left c.args.input.now) (g.Q.Source.left c.read_all.new.source) _ 131072 c.in-Ok.ensures.whole c.in-Ok.ensures.end c.in-Ok.ensures.within

pub returns-clause-read : goal.returns-clause-read
returns-clause-read g c =
    on_true _ (takes_all (g.Q.Source.left c.args.input.now) (g.Q.Source.left c.read_all.new.source) _ 131072 c.in-Ok.ensures.whole c.in-Ok.ensures.end c.in-Ok.ensures.within)
