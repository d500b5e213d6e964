-- A predicate as a walk to its targets: each target is tested where it is reached. Defined by this
-- project. `PredicateLaws` proves that it is `holds` of acl_model.
use Rattle.std.specs.Prelude.{Bool, ◌&&◌, List, [], ◌∷◌}
use Rattle.std.specs.List.{list_any}
use Rattle.acl_model.specs.NameTests.{passes}
use Rattle.acl_model.specs.Values.{values_at}
use Rattle.acl_model.specs.Predicates.{on_axis, is_enough}
use Rattle.acl_model.specs.declared.document.Element.{Element}
use Rattle.acl_model.specs.declared.path.Pred.{Pred}
use Rattle.acl_model.specs.declared.path.PredStep.{PredStep}

-- Some value at this one target is enough for the predicate.
unfoldable pub is_enough_at : Pred → Element → Bool
is_enough_at pred e = list_any (is_enough pred.cmp) (values_at pred.attribute (e ∷ []))

-- Some element that the steps lead to passes `test`. Without a step that is the element itself.
abbrev pub is_met : (Element → Bool) → List PredStep → Element → Bool
is_met test [] e = test e
is_met test (s ∷ way) e =
    list_any (λ c. passes s.test c.name && is_met test way c) (on_axis s.axis e)
