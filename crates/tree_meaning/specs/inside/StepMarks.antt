-- The authorised view by one walk down the tree. The walk carries the NFA states of the rules. A *row* is the list of
-- all steps of all rules, one rule after another, each with its state at one element. Defined by this project.
-- `MarkLaws` proves that the result is the view of acl_model.
use Rattle.std.specs.Prelude.{ℕ, Option, Some, None, Bool, true, false, ◌&&◌, ◌||◌, List, [], ◌∷◌, map, if◌then◌else◌, zero, suc, ◌-◌}
use Rattle.std.specs.List.{list_any, flat_map}
use Rattle.std.specs.Option.{option_and_then, option_map_or, option_copied}
use Rattle.acl_model.specs.Places.{child}
use Rattle.acl_model.specs.Select.{keeps}
use Rattle.acl_model.specs.Decide.{is_deny}
use Rattle.acl_model.specs.View.{filter_of, with_child, with_text}
use Rattle.acl_model.specs.declared.document.Element.{Element}
use Rattle.acl_model.specs.declared.document.Item.{Item, out-Item}
use Rattle.acl_model.specs.declared.document.Item.TheOpen.{Item-F}
use Rattle.acl_model.specs.declared.path.Step.{Step}
use Rattle.acl_model.specs.declared.path.Axis.{Axis}
use Rattle.acl_model.specs.declared.path.Axis.TheVariants.{Child, Descendant}
use Rattle.acl_model.specs.declared.rule.Rule.{Rule}
use Rattle.acl_model.specs.declared.rule.Sign.{Sign}
use Rattle.acl_model.specs.declared.rule.Sign.TheVariants.{Grant, Deny}
use Rattle.tree_meaning.specs.declared.marks.Mark.{Mark}
use Rattle.tree_meaning.specs.declared.marks.Progress.{Progress}

-- ---- NFA states

-- A step of a rule, with its state at an element. `step` is None for the virtual root, where a rule begins. `ends` is
-- the sign of the rule if this is its last step. `mark` says whether the steps up to this one lead to the element
-- (`here`), and whether they lead to the element or to an ancestor (`above`).
pub record MarkedStep : Type 0 where
  pub step : Option Step
  pub ends : Option Sign
  pub mark : Mark

-- the marked step that a `Progress` of the program is
abbrev pub marked_step : Progress → MarkedStep
marked_step p = record { step = option_copied p.step; ends = p.ends; mark = p.mark }

-- the same for each of them
abbrev pub marked_steps : List Progress → List MarkedStep
marked_steps ps = map marked_step ps

-- the mark at the virtual root, which has no ancestor
abbrev pub mark_at_top : Bool → Mark
mark_at_top here = record { here = here; above = here }

-- The steps of a rule at the virtual root, from `step` on. `here` says whether `step` leads there, and no step after it
-- does.
abbrev pub begun_steps : Sign → Option Step → Bool → List Step → List MarkedStep
begun_steps sign step here [] = record { step = step; ends = Some sign; mark = mark_at_top here } ∷ []
begun_steps sign step here (s ∷ more) = record { step = step; ends = None; mark = mark_at_top here } ∷ begun_steps sign (Some s) false more

-- a rule at the virtual root: only its state before the first step is active there
abbrev pub begun_rule : Rule → List MarkedStep
begun_rule rule = begun_steps rule.sign None true rule.path.steps

-- The child axis leads to a child where the steps before led to its parent. The descendant axis does so also where they
-- led to an ancestor of the parent.
abbrev pub leads_from : Axis → Mark → Bool
leads_from Child before = before.here
leads_from Descendant before = before.above

-- A step leads to a child where its axis does and the step keeps the child. Nothing leads to the virtual root.
abbrev pub reaches : Option Step → Mark → Element → Bool
reaches None before e = false
reaches (Some s) before e = leads_from s.axis before && keeps s e

-- the mark of a step at a child, from its mark at the parent; `here` says whether the step leads to the child
abbrev pub mark_below : Bool → Mark → Mark
mark_below here mark = record { here = here; above = here || mark.above }

-- the row at a child, from that at its parent; `before` is the mark at the parent of the step before the first one
abbrev pub moved : Element → Mark → List MarkedStep → List MarkedStep
moved e before [] = []
moved e before (m ∷ row) =
    record { step = m.step; ends = m.ends; mark = mark_below (reaches m.step before e) m.mark } ∷ moved e m.mark row

-- the mark before the first step of a row: it leads nowhere
abbrev pub no_step : Mark
no_step = mark_at_top false

-- the row at a child, from that at its parent
unfoldable pub row_below : Element → List MarkedStep → List MarkedStep
row_below e row = moved e no_step row

-- ---- signs

-- This is the last step of a rule, and the rule selects the element.
abbrev pub selects_here : MarkedStep → Bool
selects_here m = option_map_or (λ sign. true) m.ends false && m.mark.here

-- This is the last step of a rule that denies, and the rule selects the element.
abbrev pub denies_here : MarkedStep → Bool
denies_here m = option_map_or is_deny m.ends false && m.mark.here

-- The sign of an element, by the row at it and the sign of its parent. Where rules select it, a denial wins over a
-- grant. Where none does, it has the sign of its parent.
unfoldable pub sign_here : List MarkedStep → Sign → Sign
sign_here row above = if list_any selects_here row then (if list_any denies_here row then Deny else Grant) else above

-- The sign at a place that is counted from an element on, by the row and the sign at the element's parent. Where no
-- element has the place, it is the sign of the last element on the path to it.
abbrev pub signs_from : List MarkedStep → Sign → Element → List ℕ → Sign
signs_from row above e [] = sign_here (row_below e row) above
signs_from row above e (k ∷ place) =
    let here : List MarkedStep = row_below e row in
    option_map_or (λ c. signs_from here (sign_here here above) c place) (child e.items k) (sign_here here above)

-- The sign at a place that is counted from an element on, by the row and the sign at the element's parent. It is None
-- where no element has the place.
abbrev pub sign_from : List MarkedStep → Sign → Element → List ℕ → Option Sign
sign_from row above e [] = Some (sign_here (row_below e row) above)
sign_from row above e (k ∷ place) =
    let here : List MarkedStep = row_below e row in
    option_and_then (λ c. sign_from here (sign_here here above) c place) (child e.items k)

-- the element of an item, if there is one and the number that is looked for is 1
abbrev pub wanted_of : Option Element → ℕ → Option Element
wanted_of None k = None
wanted_of (Some e) zero = None
wanted_of (Some e) (suc zero) = Some e
wanted_of (Some e) (suc (suc k)) = None

-- the number to look for after an item: one less after an element
abbrev pub next_child_number : Option Element → ℕ → ℕ
next_child_number None k = k
next_child_number (Some e) k = k - 1

-- ---- views

-- the view of an element, by the signs of `signs_from`
unfoldable pub view_from : List MarkedStep → Sign → Element → Option Element
view_from row above e = (filter_of e).view (signs_from row above e)

-- A text is in the view if its element is granted. A child element gives its own view, if that has something.
abbrev pub layer_view : List MarkedStep → Sign → Item-F Item Element → List Item
layer_view row own (Item-F.Text bytes) = with_text own bytes []
layer_view row own (Item-F.Child e) = with_child (view_from row own e) []

-- what an item of an element of this sign gives to the view, by the row at the element
unfoldable pub item_view : List MarkedStep → Sign → Item → List Item
item_view row own item = layer_view row own (out-Item item)

-- what items give, one after another
abbrev pub items_view : List MarkedStep → Sign → List Item → List Item
items_view row own items = flat_map (item_view row own) items
