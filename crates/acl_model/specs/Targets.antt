-- The places of a predicate's targets, found by applying the steps of the predicate's path to sets of nodes.
use Rattle.std.specs.Prelude.{ℕ, nat_eq, Some, None, Bool, false, List, [], map}
use Rattle.std.specs.Cmp.Lexicographic.{pointwise}
use Rattle.acl_model.specs.Select.{NodeSet, steps}
use Rattle.acl_model.specs.declared.document.Doc.{Doc}
use Rattle.acl_model.specs.declared.path.PredStep.{PredStep}
use Rattle.acl_model.specs.declared.path.Step.{Step}

-- a step of a predicate's path, as a step of a rule's path that has no predicates (XPath 1.0, 2.1)
abbrev pub step_of : PredStep → Step
step_of s = record { axis = s.axis; test = s.test; preds = [] }

-- the set of the element at this place alone
abbrev pub only : List ℕ → NodeSet
only start None = false
only start (Some place) = pointwise nat_eq place start

-- The steps of a predicate's path `way`, applied in order to the set of the context node alone, lead to a place. The
-- context node is the element at the place `start`.
abbrev pub path_leads : Doc → List PredStep → List ℕ → List ℕ → Bool
path_leads d way start place = steps d (map step_of way) (only start) (Some place)
