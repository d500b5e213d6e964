-- A second form of the definitions, for programs that walk down a tree. An element is given by itself and its
-- ancestors, the nearest first, and not by its place. The laws in `laws.rt` show that both forms are equivalent.
use Rattle.std.specs.Prelude.{ℕ, Option, Some, None, Bool, true, false, ◌&&◌, ◌||◌, List, [], ◌∷◌, if◌then◌else◌}
use Rattle.std.specs.List.{list_any}
use Rattle.std.specs.Option.{option_and_then, option_map_or}
use Rattle.acl_model.specs.Places.{child}
use Rattle.acl_model.specs.Select.{keeps}
use Rattle.acl_model.specs.Decide.{is_deny}
use Rattle.acl_model.specs.declared.document.Element.{Element}
use Rattle.acl_model.specs.declared.path.Path.{Path}
use Rattle.acl_model.specs.declared.path.Step.{Step}
use Rattle.acl_model.specs.declared.path.Axis.{Axis}
use Rattle.acl_model.specs.declared.path.Axis.TheVariants.{Child, Descendant}
use Rattle.acl_model.specs.declared.rule.Rule.{Rule}
use Rattle.acl_model.specs.declared.rule.Sign.{Sign}
use Rattle.acl_model.specs.declared.rule.Sign.TheVariants.{Grant, Deny}

-- A chain is an element, its parent, and so on to the root; [] is the virtual root.
abbrev pub Chain : Type 0
Chain = List Element

-- a set of nodes, each by its chain
abbrev pub ChainSet : Type 0
ChainSet = Chain → Bool

-- the set of the virtual root alone
abbrev pub is_virtual_root : ChainSet
is_virtual_root [] = true
is_virtual_root (e ∷ up) = false

-- whether an axis leads from the set to an element with the ancestors `up`: whether the set contains its parent, or
-- any of its ancestors (XPath 1.0, 2.2)
abbrev pub leads_below : Axis → ChainSet → Chain → Bool
leads_below Child set up = set up
leads_below Descendant set [] = set []
leads_below Descendant set (e ∷ up) = set (e ∷ up) || leads_below Descendant set up

-- The result of a step is the set of the elements that its axis leads to and that it keeps (XPath 1.0, 2.1).
abbrev pub chain_step : Step → ChainSet → ChainSet
chain_step s set [] = false
chain_step s set (e ∷ up) = leads_below s.axis set up && keeps s e

-- the steps applied in order, each to the result of the step before it
abbrev pub chain_steps : List Step → ChainSet → ChainSet
chain_steps [] set = set
chain_steps (s ∷ more) set = chain_steps more (chain_step s set)

-- the set that a path selects, from the virtual root on (XPath 1.0, 2)
unfoldable pub selects : Path → ChainSet
selects path = chain_steps path.steps is_virtual_root

-- the sign of the first element of a chain. The nearest element of the chain that a rule selects decides: Deny where a
-- rule that denies selects it, and else Grant. Where no rule selects any of them, the sign is Deny.
abbrev pub chain_sign : List Rule → Chain → Sign
chain_sign rules [] = Deny
chain_sign rules (e ∷ up) =
    if list_any (λ r. selects r.path (e ∷ up)) rules
    then (if list_any (λ r. is_deny r.sign && selects r.path (e ∷ up)) rules then Deny else Grant)
    else chain_sign rules up

-- the chain of the element at a place relative to e, where the ancestors of e are `up`
abbrev pub chain_at : Element → Chain → List ℕ → Option Chain
chain_at e up [] = Some (e ∷ up)
chain_at e up (k ∷ place) = option_and_then (λ c. chain_at c (e ∷ up) place) (child e.items k)

-- a test of the element at a place, where there is one
abbrev pub on_chain : ChainSet → Option Chain → Bool
on_chain set None = false
on_chain set (Some chain) = set chain

-- The signs of e and of the places inside it. Where there is no element at a place, its sign is that of the last
-- element on the path down to it.
abbrev pub chain_signs : List Rule → Element → Chain → List ℕ → Sign
chain_signs rules e up [] = chain_sign rules (e ∷ up)
chain_signs rules e up (k ∷ place) = option_map_or (λ c. chain_signs rules c (e ∷ up) place) (child e.items k) (chain_sign rules (e ∷ up))
