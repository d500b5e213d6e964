-- Where a predicate is true (XPath 1.0, 2.4). The element for which it is evaluated is the context node (XPath 1.0, 1).
-- A predicate is true if a value at one of the elements that its path reaches satisfies its comparison.
use Rattle.std.specs.Prelude.{ℕ, Option, Some, None, Bool, true, List, [], ◌∷◌}
use Rattle.std.specs.List.{list_any, filter, flat_map}
use Rattle.acl_model.specs.Places.{children}
use Rattle.acl_model.specs.NameTests.{passes}
use Rattle.acl_model.specs.Values.{values_at}
use Rattle.acl_model.specs.Comparisons.{satisfies}
use Rattle.acl_model.specs.declared.document.Item.{Item}
use Rattle.acl_model.specs.declared.document.Element.{Element}
use Rattle.acl_model.specs.declared.document.Item.TheOpen.{Item-F, Element-F}
use Rattle.acl_model.specs.declared.document.Item.TheFolds.{para-Item, para-Element}
use Rattle.acl_model.specs.declared.path.Axis.{Axis}
use Rattle.acl_model.specs.declared.path.Axis.TheVariants.{Child, Descendant}
use Rattle.acl_model.specs.declared.path.Pred.{Pred}
use Rattle.acl_model.specs.declared.path.PredStep.{PredStep}
use Rattle.acl_model.specs.declared.path.Cmp.{Cmp}

-- ---- the proper descendants of an element, in document order

-- A text contributes no element, and a child element contributes itself and its descendants.
abbrev pub below_layer : Item-F (Item × List Element) (Element × List Element) → List Element
below_layer (Item-F.Text bytes) = []
below_layer (Item-F.Child c) = c.0 ∷ c.1

-- The descendants of an element are what its items contribute.
abbrev pub below_element : Element-F (Item × List Element) (Element × List Element) → List Element
below_element e = flat_map {X = Item × List Element} (λ item. item.1) e.items

-- the proper descendants of an element, in document order (XPath 1.0, 2.2)
unfoldable pub descendants : Element → List Element
descendants = para-Element (List Element) (List Element) below_layer below_element

-- the elements that an item contributes
unfoldable pub below_item : Item → List Element
below_item = para-Item (List Element) (List Element) below_layer below_element

-- ---- the targets

-- An axis leads from an element to its children, or to all its proper descendants (XPath 1.0, 2.2).
abbrev pub on_axis : Axis → Element → List Element
on_axis Child e = children e.items
on_axis Descendant e = descendants e

-- The targets are the elements that the steps reach from the element e, each step applied to the elements of the step
-- before it. Without a step, e itself is the target. An element that is reached twice may be listed twice.
abbrev pub targets : List PredStep → Element → List Element
targets [] e = e ∷ []
targets (s ∷ way) e = flat_map (targets way) (filter (λ c. passes s.test c.name) (on_axis s.axis e))

-- ---- predicates

-- A value is enough to make a predicate true if it satisfies the predicate's comparison, or if there is none.
abbrev pub is_enough : Option Cmp → List ℕ → Bool
is_enough None value = true
is_enough (Some cmp) value = satisfies cmp.op cmp.operand value

-- A predicate is true for a context node if some value at one of its targets is enough (XPath 1.0, 2.4 and 3.4).
unfoldable pub holds : Pred → Element → Bool
holds pred e = list_any (is_enough pred.cmp) (values_at pred.attribute (targets pred.way e))
