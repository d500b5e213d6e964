-- A path whose predicate is met at one element and not at another. Between which bounds its selection lies
-- is worked out by hand. Defined by this project.
use Rattle.std.specs.Prelude.{[], ◌∷◌, codes}
use Rattle.acl_model.specs.declared.path.Axis.TheVariants as axis
use Rattle.acl_model.specs.declared.path.Path.{Path}
use Rattle.acl_model.specs.declared.path.Step.{Step}
use Rattle.acl_model.specs.declared.path.Test.TheVariants as test
use Rattle.acl_walk.specs.inside.CloseExamples.{has_b}

-- the step a[b], to descendants
abbrev pub step_a_with_b : Step
step_a_with_b = record { axis = axis.Descendant; test = test.Named (codes "a"); preds = has_b ∷ [] }

-- //a[b]
abbrev pub a_with_b : Path
a_with_b = record { steps = step_a_with_b ∷ [] }
