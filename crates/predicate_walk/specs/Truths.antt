-- Which of many predicates hold at which elements. `holds` of acl_model defines where a predicate
-- holds (XPath 1.0, 2.4).
use Rattle.std.specs.Prelude.{Bool, List, map}
use Rattle.std.specs.List.{flat_map}
use Rattle.acl_model.specs.Predicates.{holds}
use Rattle.acl_model.specs.declared.document.Element.{Element}
use Rattle.acl_model.specs.declared.path.Pred.{Pred}
use Rattle.predicate_walk.specs.declared.truths.PredRef.{PredRef}

-- for each predicate, in their order, whether it holds at the element
abbrev pub truths_at : List Pred → Element → List Bool
truths_at preds e = map (λ pred. holds pred e) preds

-- the same for each of these elements, one element after another
abbrev pub truths : List Pred → List Element → List Bool
truths preds elements = flat_map (truths_at preds) elements

-- the predicates that these references refer to
abbrev pub preds_in : List PredRef → List Pred
preds_in refs = map (λ r. r.pred.now) refs
