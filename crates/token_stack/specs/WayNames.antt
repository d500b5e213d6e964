-- Where a relative location path leads from its context node, by the names of the elements on the way down
-- (XPath 1.0, 2). Defined by this project.
use Rattle.std.specs.Prelude.{ℕ, Bool, true, false, ◌&&◌, ◌||◌, List, [], ◌∷◌}
use Rattle.std.specs.Option.{option_map_or}
use Rattle.acl_model.specs.NameTests.{passes}
use Rattle.acl_model.specs.Places.{at, child}
use Rattle.acl_model.specs.declared.document.Doc.{Doc}
use Rattle.acl_model.specs.declared.document.Element.{Element}
use Rattle.acl_model.specs.declared.path.Axis.{Axis}
use Rattle.acl_model.specs.declared.path.Axis.TheVariants.{Child, Descendant}
use Rattle.acl_model.specs.declared.path.PredStep.{PredStep}

-- The axis leads to all proper descendants, and not to the children alone.
abbrev pub is_deep : Axis → Bool
is_deep Child = false
is_deep Descendant = true

-- The steps of a predicate's path lead from its context node to the innermost of some elements. These are inside each
-- other, from a child of the context node inward, and have the given names. A step leads to the outermost one where
-- its name passes the step's name test, and the step after it goes on from there. On the descendant axis a step may
-- also lead to one further inward.
abbrev pub led : List PredStep → List (List ℕ) → Bool
led [] [] = true
led [] (name ∷ down) = false
led (s ∷ way) [] = false
led (s ∷ way) (name ∷ down) = (passes s.test name && led way down) || (is_deep s.axis && led (s ∷ way) down)

-- the names of the elements from a child of e down to the one at a place relative to e, the child's first
abbrev pub names_along : Element → List ℕ → List (List ℕ)
names_along e [] = []
names_along e (k ∷ more) = option_map_or (λ c. c.name ∷ names_along c more) (child e.items k) []

-- the same from the element at a place of a document, if there is one
abbrev pub names_from : Doc → List ℕ → List ℕ → List (List ℕ)
names_from d place more = option_map_or (λ e. names_along e more) (at d place) []
