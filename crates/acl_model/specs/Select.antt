-- Which elements a path selects: each step maps a set of nodes to a set of nodes, and the first set contains only a
-- virtual root above the document (XPath 1.0, 2).
use Rattle.std.specs.Prelude.{ℕ, Option, Some, None, Bool, true, false, ◌&&◌, List, [], ◌∷◌, ◌++◌, map, take, drop}
use Rattle.std.specs.List.{list_any, list_all}
use Rattle.acl_model.specs.Places.{at, prefixes}
use Rattle.acl_model.specs.NameTests.{passes}
use Rattle.acl_model.specs.Predicates.{holds}
use Rattle.acl_model.specs.declared.document.Doc.{Doc}
use Rattle.acl_model.specs.declared.document.Element.{Element}
use Rattle.acl_model.specs.declared.path.Path.{Path}
use Rattle.acl_model.specs.declared.path.Step.{Step}
use Rattle.acl_model.specs.declared.path.Axis.{Axis}
use Rattle.acl_model.specs.declared.path.Axis.TheVariants.{Child, Descendant}

-- A node is an element, by its place, or None, the virtual root, whose only child is the document's root (XPath 1.0,
-- 5.1).
abbrev pub Node : Type 0
Node = Option (List ℕ)

-- a set of nodes, as the test for its members
abbrev pub NodeSet : Type 0
NodeSet = Node → Bool

-- the set of the virtual root alone
abbrev pub virtual_root : NodeSet
virtual_root None = true
virtual_root (Some place) = false

-- the ancestors of the element at a place: its parent first, the virtual root last
abbrev pub ancestors : List ℕ → List Node
ancestors place = map Some (drop 1 (prefixes place)) ++ (None ∷ [])

-- An axis leads from a set to the children of its nodes, or to all their proper descendants (XPath 1.0, 2.2). So it
-- leads to a place if the set contains the parent of the place, or one of its ancestors.
abbrev pub leads : Axis → NodeSet → List ℕ → Bool
leads Child set place = list_any set (take 1 (ancestors place))
leads Descendant set place = list_any set (ancestors place)

-- A step keeps an element if its name passes the step's name test and each predicate of the step is true for it
-- (XPath 1.0, 2.1).
abbrev pub keeps : Step → Element → Bool
keeps s e = passes s.test e.name && list_all (λ pred. holds pred e) s.preds

-- There is an element, and the step keeps it.
abbrev pub is_kept : Step → Option Element → Bool
is_kept s None = false
is_kept s (Some e) = keeps s e

-- The result of a step is the set of the elements that its axis leads to and that it keeps (XPath 1.0, 2.1).
abbrev pub step : Doc → Step → NodeSet → NodeSet
step d s set None = false
step d s set (Some place) = leads s.axis set place && is_kept s (at d place)

-- The steps are applied in order, each to the result of the step before it (XPath 1.0, 2).
abbrev pub steps : Doc → List Step → NodeSet → NodeSet
steps d [] set = set
steps d (s ∷ more) set = steps d more (step d s set)

-- whether a path selects the place in a document: the steps are applied to the virtual root, as those of an absolute
-- location path are (XPath 1.0, 2)
unfoldable pub select : Doc → Path → List ℕ → Bool
select d path place = steps d path.steps virtual_root (Some place)
