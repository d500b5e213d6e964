-- The NFA states that the walk carries decide each sign as acl_model defines it.
use Rattle.std.proofs.Common.{◌≡◌, ℕ, Bool, true, false, ◌&&◌, ◌||◌, Option, Some, None, List, [], ◌∷◌, ◌++◌, refl, ap, sym, ◌∙◌, if◌then◌else◌}
use Rattle.std.specs.List.{list_any, flat_map}
use Rattle.std.specs.Option.{option_map_or}
use Rattle.acl_model.specs.Places.{child}
use Rattle.acl_model.specs.Select.{keeps}
use Rattle.acl_model.specs.Decide.{is_deny, sign}
use Rattle.acl_model.specs.Chain.{Chain, ChainSet, is_virtual_root, leads_below, chain_step, chain_steps, selects, chain_sign, chain_signs}
use Rattle.acl_model.specs.View.{filter_of, doc_of, view}
use Rattle.acl_model.proofs.ChainLaws.{sign-chain}
use Rattle.acl_model.specs.declared.document.Doc.{Doc}
use Rattle.acl_model.specs.declared.document.Element.{Element}
use Rattle.acl_model.specs.declared.path.Step.{Step}
use Rattle.acl_model.specs.declared.path.Axis.{Axis}
use Rattle.acl_model.specs.declared.path.Axis.TheVariants.{Child, Descendant}
use Rattle.acl_model.specs.declared.rule.Rule.{Rule}
use Rattle.acl_model.specs.declared.rule.Sign.{Sign}
use Rattle.acl_model.specs.declared.rule.Sign.TheVariants.{Grant, Deny}
use Rattle.tree_meaning.specs.declared.marks.Mark.{Mark}
use Rattle.tree_meaning.specs.inside.StepMarks.{MarkedStep, mark_at_top, begun_steps, begun_rule, leads_from, reaches, mark_below, moved, no_step, row_below, denies_here, sign_here, signs_from, view_from}

-- ---- the marks that a chain of ancestors gives

-- the mark of a set of nodes at a chain
abbrev mark_of : ChainSet → Chain → Mark
mark_of set chain = record { here = set chain; above = leads_below Descendant set chain }

-- the steps of a rule at a chain, where those before lead to the set
abbrev pub steps_at : Sign → Option Step → ChainSet → List Step → Chain → List MarkedStep
steps_at sign step set [] chain = record { step = step; ends = Some sign; mark = mark_of set chain } ∷ []
steps_at sign step set (s ∷ more) chain = record { step = step; ends = None; mark = mark_of set chain } ∷ steps_at sign (Some s) (chain_step s set) more chain

-- a rule at a chain
abbrev pub rule_at : Chain → Rule → List MarkedStep
rule_at chain r = steps_at r.sign None is_virtual_root r.path.steps chain

-- all rules at a chain
abbrev pub row_at : List Rule → Chain → List MarkedStep
row_at rules chain = flat_map (rule_at chain) rules

-- ---- at the virtual root

begun_is : (sign : Sign) (step : Option Step) (set : ChainSet) (here : Bool) (more : List Step) → here ≡ set [] → begun_steps sign step here more ≡ steps_at sign step set more []
begun_is sign step set here [] top = ap (λ b. record { step = step; ends = Some sign; mark = mark_at_top b } ∷ []) top
begun_is sign step set here (s ∷ more) top =
    ap (λ b. record { step = step; ends = None; mark = mark_at_top b } ∷ begun_steps sign (Some s) false more) top
    ∙ ap (λ row. record { step = step; ends = None; mark = mark_of set [] } ∷ row) (begun_is sign (Some s) (chain_step s set) false more refl)

pub row_begins : (rules : List Rule) → flat_map begun_rule rules ≡ row_at rules []
row_begins [] = refl
row_begins (r ∷ rules) =
    ap (λ row. row ++ flat_map begun_rule rules) (begun_is r.sign None is_virtual_root true r.path.steps refl)
    ∙ ap (λ row. rule_at [] r ++ row) (row_begins rules)

-- ---- one element further down

leads_from_is : (axis : Axis) (set : ChainSet) (up : Chain) → leads_from axis (mark_of set up) ≡ leads_below axis set up
leads_from_is Child set up = refl
leads_from_is Descendant set up = refl

steps_move : (e : Element) (up : Chain) (sign : Sign) (step : Option Step) (set : ChainSet) (steps : List Step) (before : Mark) (rest next : List MarkedStep)
    → reaches step before e ≡ set (e ∷ up) → ((m : Mark) → moved e m rest ≡ next)
    → moved e before (steps_at sign step set steps up ++ rest) ≡ steps_at sign step set steps (e ∷ up) ++ next
steps_move e up sign step set [] before rest next reach others =
    ap (λ b. record { step = step; ends = Some sign; mark = mark_below b (mark_of set up) } ∷ moved e (mark_of set up) rest) reach
    ∙ ap (λ row. record { step = step; ends = Some sign; mark = mark_of set (e ∷ up) } ∷ row) (others (mark_of set up))
steps_move e up sign step set (s ∷ steps) before rest next reach others =
    ap (λ b. record { step = step; ends = None; mark = mark_below b (mark_of set up) } ∷ moved e (mark_of set up) (steps_at sign (Some s) (chain_step s set) steps up ++ rest)) reach
    ∙ ap (λ row. record { step = step; ends = None; mark = mark_of set (e ∷ up) } ∷ row)
    (steps_move e up sign (Some s) (chain_step s set) steps (mark_of set up) rest next (ap (λ b. b && keeps s e) (leads_from_is s.axis set up)) others)

row_moves : (rules : List Rule) (e : Element) (up : Chain) (before : Mark) → moved e before (row_at rules up) ≡ row_at rules (e ∷ up)
row_moves [] e up before = refl
row_moves (r ∷ rules) e up before =
    steps_move e up r.sign None is_virtual_root r.path.steps before (row_at rules up) (row_at rules (e ∷ up)) refl (row_moves rules e up)

pub row_below_is : (rules : List Rule) (e : Element) (up : Chain) → row_below e (row_at rules up) ≡ row_at rules (e ∷ up)
unfolding row_below
row_below_is rules e up = row_moves rules e up no_step

-- ---- which rules select an element

-- The step is the last of a rule whose sign passes the test, and the rule selects the element.
abbrev pub ends_as : (Sign → Bool) → MarkedStep → Bool
ends_as test m = option_map_or test m.ends false && m.mark.here

rule_ends : (test : Sign → Bool) (sign : Sign) (step : Option Step) (set : ChainSet) (steps : List Step) (chain : Chain) (rest : List MarkedStep)
    → list_any (ends_as test) (steps_at sign step set steps chain ++ rest) ≡ ((test sign && chain_steps steps set chain) || list_any (ends_as test) rest)
rule_ends test sign step set [] chain rest = refl
rule_ends test sign step set (s ∷ steps) chain rest = rule_ends test sign (Some s) (chain_step s set) steps chain rest

pub row_ends : (test : Sign → Bool) (rules : List Rule) (chain : Chain) → list_any (ends_as test) (row_at rules chain) ≡ list_any (λ r. test r.sign && selects r.path chain) rules
unfolding selects
row_ends test [] chain = refl
row_ends test (r ∷ rules) chain =
    rule_ends test r.sign None is_virtual_root r.path.steps chain (row_at rules chain)
    ∙ ap (λ b. (test r.sign && chain_steps r.path.steps is_virtual_root chain) || b) (row_ends test rules chain)

-- ---- signs

sign_at_chain : (rules : List Rule) (e : Element) (up : Chain) (above : Sign) → above ≡ chain_sign rules up → sign_here (row_at rules (e ∷ up)) above ≡ chain_sign rules (e ∷ up)
unfolding sign_here
sign_at_chain rules e up above is =
    ap (λ b. if b then (if list_any denies_here (row_at rules (e ∷ up)) then Deny else Grant) else above) (row_ends (λ s. true) rules (e ∷ up))
    ∙ ap (λ b. if list_any (λ r. selects r.path (e ∷ up)) rules then (if b then Deny else Grant) else above) (row_ends is_deny rules (e ∷ up))
    ∙ ap (λ s. if list_any (λ r. selects r.path (e ∷ up)) rules then (if list_any (λ r. is_deny r.sign && selects r.path (e ∷ up)) rules then Deny else Grant) else s) is

-- the sign of an element, from the row at its parent
pub sign_below_is : (rules : List Rule) (e : Element) (up : Chain) (row : List MarkedStep) (above : Sign) → row ≡ row_at rules up → above ≡ chain_sign rules up
    → sign_here (row_below e row) above ≡ chain_sign rules (e ∷ up)
sign_below_is rules e up row above carried is = ap (λ r. sign_here (row_below e r) above) carried ∙ ap (λ r. sign_here r above) (row_below_is rules e up) ∙ sign_at_chain rules e up above is

pub signs_from_is : (rules : List Rule) (place : List ℕ) (e : Element) (up : Chain) (row : List MarkedStep) (above : Sign) → row ≡ row_at rules up → above ≡ chain_sign rules up
    → signs_from row above e place ≡ chain_signs rules e up place
signs_from_is rules [] e up row above carried is = sign_below_is rules e up row above carried is
signs_from_is rules (k ∷ place) e up row above carried is =
    let own = sign_below_is rules e up row above carried is in
    elim (child e.items k) as (λ o. option_map_or (λ c. signs_from (row_below e row) (sign_here (row_below e row) above) c place) o (sign_here (row_below e row) above)
    ≡ option_map_or (λ c. chain_signs rules c (e ∷ up) place) o (chain_sign rules (e ∷ up)))
    [ None ↦ own | Some c ↦ signs_from_is rules place c (e ∷ up) (row_below e row) (sign_here (row_below e row) above) (ap (row_below e) carried ∙ row_below_is rules e up) own ]

-- The walk from the root makes the authorised view.
pub view_is : (d : Doc) (rules : List Rule) → doc_of (view_from (flat_map begun_rule rules) Deny d.root) ≡ view d rules
unfolding view view_from
view_is d rules =
    ap (λ signs. doc_of ((filter_of d.root).view signs))
    (λ i place. (signs_from_is rules place d.root [] (flat_map begun_rule rules) Deny (row_begins rules) refl ∙ sym (sign-chain d rules place)) i)

pub root_view : (d : Doc) (rules : List Rule) (row : List MarkedStep) (o p : Option Element) → row ≡ flat_map begun_rule rules → o ≡ view_from row Deny d.root → o ≡ p → doc_of p ≡ view d rules
root_view d rules row o p is made same = ap doc_of (sym same ∙ made ∙ ap (λ w. view_from w Deny d.root) is) ∙ view_is d rules
