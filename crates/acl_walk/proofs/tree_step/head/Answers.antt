use Rattle.acl_walk.proofs.StepLaws.{attribute-steps}
use Rattle.acl_walk.proofs.tree_step.head.Goals as goal

pub returns-in-Some : goal.returns-in-Some
returns-in-Some c = λ names.
    attribute-steps names _ _ c.in-Some.raw.now c.as_slice.result.now c.in-Some.raws.now _ _ c.in-Some.ensures.cases.0 c.as_slice.ensures
    (c.attribute.ensures names c.args.levels.now c.requires)
