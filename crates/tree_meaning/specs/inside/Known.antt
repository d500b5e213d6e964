-- Which predicates of rules hold at the elements of a document, as a list of flags in document order.
-- A walk reads the list from its start: at each element the next flags are those of that element.
-- Defined by this project.
use Rattle.std.specs.Prelude.{◌≡◌, Bool, Option, List, [], ◌∷◌, ◌++◌, drop, length}
use Rattle.std.specs.List.{flat_map}
use Rattle.std.specs.Option.{option_map_or}
use Rattle.acl_model.specs.Predicates.{descendants, below_item}
use Rattle.acl_model.specs.declared.document.Element.{Element}
use Rattle.acl_model.specs.declared.document.Item.{Item}
use Rattle.acl_model.specs.declared.path.Pred.{Pred}
use Rattle.acl_model.specs.declared.path.Step.{Step}
use Rattle.predicate_walk.specs.Truths.{truths}
use Rattle.tree_meaning.specs.inside.StepMarks.{MarkedStep}

-- The list of flags begins with the list `first`.
abbrev pub StartsWith : List Bool → List Bool → Type 0
StartsWith first flags = flags ≡ first ++ drop (length first) flags

-- The predicates of a step, in order. The virtual root has none.
abbrev pub preds_of_step : Option Step → List Pred
preds_of_step step = option_map_or (λ s. s.preds) step []

-- the predicates of all steps of a row, in order
abbrev pub preds_of : List MarkedStep → List Pred
preds_of row = flat_map (λ m. preds_of_step m.step) row

-- which of the predicates hold at an element, and then at each one inside it, in document order
unfoldable pub flags_within : List Pred → Element → List Bool
flags_within preds e = truths preds (e ∷ descendants e)

-- the same at each element of an item, in document order
unfoldable pub flags_of_item : List Pred → Item → List Bool
flags_of_item preds item = truths preds (below_item item)

-- the same for items, one after another
abbrev pub flags_of_items : List Pred → List Item → List Bool
flags_of_items preds items = flat_map (flags_of_item preds) items
