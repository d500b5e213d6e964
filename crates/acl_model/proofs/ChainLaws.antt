-- The two forms of the definitions agree: sets of places, and chains of an element with its ancestors.
use Rattle.std.proofs.Common.{◌≡◌, ℕ, Bool, true, false, ◌&&◌, ◌||◌, Option, Some, None, List, [], ◌∷◌, ◌++◌, map, drop, take, refl, ap, sym, ◌∙◌, if◌then◌else◌}
use Rattle.std.specs.List.{list_any, find}
use Rattle.std.specs.Option.{option_and_then, option_map_or}
use Rattle.acl_model.specs.Places.{child, below, at, prefixes}
use Rattle.acl_model.specs.Select.{Node, NodeSet, virtual_root, leads, keeps, is_kept, step, steps, select}
use Rattle.acl_model.specs.Decide.{is_deny, is_selected, is_denied, decider, sign_by, sign}
use Rattle.acl_model.specs.Chain.{Chain, ChainSet, is_virtual_root, leads_below, chain_step, chain_steps, selects, chain_sign, chain_at, on_chain, chain_signs}
use Rattle.acl_model.specs.declared.document.Doc.{Doc}
use Rattle.acl_model.specs.declared.document.Element.{Element}
use Rattle.acl_model.specs.declared.path.Path.{Path}
use Rattle.acl_model.specs.declared.path.Step.{Step}
use Rattle.acl_model.specs.declared.path.Axis.{Axis}
use Rattle.acl_model.specs.declared.path.Axis.TheVariants.{Child, Descendant}
use Rattle.acl_model.specs.declared.rule.Rule.{Rule}
use Rattle.acl_model.specs.declared.rule.Sign.{Sign}
use Rattle.acl_model.specs.declared.rule.Sign.TheVariants.{Grant, Deny}

-- an axis, over its nodes
abbrev leads_among : Axis → NodeSet → List Node → Bool
leads_among Child set nodes = list_any set (take 1 nodes)
leads_among Descendant set nodes = list_any set nodes

-- ---- an axis, over the answers for the ancestors

-- whether an axis leads from one of these nodes, given in order whether the set contains each of them
abbrev pub any_of : Axis → List Bool → Bool
any_of Child answers = list_any (λ b. b) (take 1 answers)
any_of Descendant answers = list_any (λ b. b) answers

-- the answer for one more ancestor, combined with that for all above it
abbrev pub joined_answer : Axis → Bool → Bool → Bool
joined_answer Child near far = near
joined_answer Descendant near far = near || far

-- the answer for the last ancestor can be combined with the one before it
pub any_of-joined : (axis : Axis) (answers : List Bool) (near far : Bool) → any_of axis ((answers ++ near ∷ []) ++ far ∷ []) ≡ any_of axis (answers ++ joined_answer axis near far ∷ [])
any_of-joined Child [] near far = refl
any_of-joined Child (b ∷ answers) near far = refl
any_of-joined Descendant [] true far = refl
any_of-joined Descendant [] false far = refl
any_of-joined Descendant (true ∷ answers) near far = refl
any_of-joined Descendant (false ∷ answers) near far = any_of-joined Descendant answers near far

-- for a single node the result is its own answer
pub any_of-one : (axis : Axis) (far : Bool) → any_of axis (far ∷ []) ≡ far
any_of-one Child true = refl
any_of-one Child false = refl
any_of-one Descendant true = refl
any_of-one Descendant false = refl

-- the proper prefixes of a place, the longest first
abbrev pub proper : List ℕ → List (List ℕ)
proper [] = []
proper (k ∷ place) = map (λ prefix. k ∷ prefix) (proper place) ++ ([] ∷ [])

prefixes_are : (place : List ℕ) → prefixes place ≡ place ∷ proper place
prefixes_are [] = refl
prefixes_are (k ∷ place) = ap (λ ps. map (λ prefix. k ∷ prefix) ps ++ ([] ∷ [])) (prefixes_are place)

-- the answers for the ancestors at these places and for the virtual root
any_of_places : (axis : Axis) (set : NodeSet) (places : List (List ℕ)) → leads_among axis set (map Some places ++ None ∷ []) ≡ any_of axis (map (λ m. set (Some m)) places ++ set None ∷ [])
any_of_places Child set [] = refl
any_of_places Child set (p ∷ places) = refl
any_of_places Descendant set [] = refl
any_of_places Descendant set (p ∷ places) = ap (λ b. set (Some p) || b) (any_of_places Descendant set places)

-- `leads`, by answers
pub leads_is : (axis : Axis) (set : NodeSet) (place : List ℕ) → leads axis set place ≡ any_of axis (map (λ m. set (Some m)) (proper place) ++ set None ∷ [])
leads_is Child set place = ap (λ ps. leads_among Child set (map Some (drop 1 ps) ++ None ∷ [])) (prefixes_are place) ∙ any_of_places Child set (proper place)
leads_is Descendant set place = ap (λ ps. leads_among Descendant set (map Some (drop 1 ps) ++ None ∷ [])) (prefixes_are place) ∙ any_of_places Descendant set (proper place)

-- ---- one step

and_false : (b : Bool) → (b && false) ≡ false
and_false true = refl
and_false false = refl

-- the answer of a step at a place, from that in each child, where the child may be missing
in_child_or_none : (st : Step) (set : ChainSet) (place : List ℕ) (up : Chain) (answer : Bool) (test : List ℕ → Bool) (o : Option Element)
    → ((p : List ℕ) → test p ≡ on_chain set (option_and_then (λ c. chain_at c up p) o))
    → ((c : Element) → ((p : List ℕ) → test p ≡ on_chain set (chain_at c up p)) → (answer && is_kept st (below c place)) ≡ on_chain (chain_step st set) (chain_at c up place))
    → (answer && is_kept st (option_and_then (λ c. below c place) o)) ≡ on_chain (chain_step st set) (option_and_then (λ c. chain_at c up place) o)
in_child_or_none st set place up answer test None told inside = and_false answer
in_child_or_none st set place up answer test (Some c) told inside = inside c told

pub map-snoc : (test : List ℕ → Bool) (k : ℕ) (places : List (List ℕ)) → map test (map (λ p. k ∷ p) places ++ ([] ∷ [])) ≡ map (λ p. test (k ∷ p)) places ++ test [] ∷ []
map-snoc test k [] = refl
map-snoc test k (p ∷ places) = ap (λ bs. test (k ∷ p) ∷ bs) (map-snoc test k places)

next_far : (axis : Axis) (set : ChainSet) (e : Element) (up : Chain) (near far : Bool) → near ≡ set (e ∷ up) → far ≡ leads_below axis set up → joined_answer axis near far ≡ leads_below axis set (e ∷ up)
next_far Child set e up near far n f = n
next_far Descendant set e up near far n f = ap (λ b. b || far) n ∙ ap (λ b. set (e ∷ up) || b) f

step_is : (st : Step) (set : ChainSet) (place : List ℕ) (e : Element) (up : Chain) (test : List ℕ → Bool) (far : Bool)
    → far ≡ leads_below st.axis set up
    → ((p : List ℕ) → test p ≡ on_chain set (chain_at e up p))
    → (any_of st.axis (map test (proper place) ++ far ∷ []) && is_kept st (below e place)) ≡ on_chain (chain_step st set) (chain_at e up place)
step_is st set [] e up test far f told = ap (λ b. b && keeps st e) (any_of-one st.axis far ∙ f)
step_is st set (k ∷ place) e up test far f told =
    ap (λ answers. any_of st.axis (answers ++ far ∷ []) && is_kept st (below e (k ∷ place))) (map-snoc test k (proper place))
    ∙ ap (λ b. b && is_kept st (below e (k ∷ place))) (any_of-joined st.axis (map (λ p. test (k ∷ p)) (proper place)) (test []) far)
    ∙ in_child_or_none st set place (e ∷ up) (any_of st.axis (map (λ p. test (k ∷ p)) (proper place) ++ joined_answer st.axis (test []) far ∷ [])) (λ p. test (k ∷ p)) (child e.items k)
    (λ p. told (k ∷ p))
    (λ c inside. step_is st set place c (e ∷ up) (λ p. test (k ∷ p)) (joined_answer st.axis (test []) far) (next_far st.axis set e up (test []) far (told []) f) inside)

-- ---- all steps, and a path

leads_below-top : (axis : Axis) (set : ChainSet) → leads_below axis set [] ≡ set []
leads_below-top Child set = refl
leads_below-top Descendant set = refl

steps_are : (d : Doc) (path : List Step) (set : NodeSet) (chains : ChainSet) → set None ≡ chains []
    → ((p : List ℕ) → set (Some p) ≡ on_chain chains (chain_at d.root [] p))
    → (place : List ℕ) → steps d path set (Some place) ≡ on_chain (chain_steps path chains) (chain_at d.root [] place)
steps_are d [] set chains top told place = told place
steps_are d (st ∷ path) set chains top told place =
    steps_are d path (step d st set) (chain_step st chains) refl
    (λ p. ap (λ b. b && is_kept st (at d p)) (leads_is st.axis set p)
    ∙ step_is st chains p d.root [] (λ m. set (Some m)) (set None) (top ∙ sym (leads_below-top st.axis chains)) told)
    place

-- no chain of an element is that of the virtual root
not_virtual : (place : List ℕ) (e : Element) (up : Chain) → false ≡ on_chain is_virtual_root (chain_at e up place)
not_virtual [] e up = refl
not_virtual (k ∷ place) e up =
    elim (child e.items k) as (λ o. false ≡ on_chain is_virtual_root (option_and_then (λ c. chain_at c (e ∷ up) place) o))
    [ None ↦ refl | Some c ↦ not_virtual place c (e ∷ up) ]

-- A path selects a place where it selects the chain of the element there.
pub select-chain : (d : Doc) (path : Path) (place : List ℕ) → select d path place ≡ on_chain (selects path) (chain_at d.root [] place)
unfolding select selects
select-chain d path place = steps_are d path.steps virtual_root is_virtual_root refl (λ p. not_virtual p d.root []) place

-- ---- signs

-- the sign that the place decides where one was found, and else the sign from above
abbrev sign_found : (List ℕ → Bool) → Sign → Option (List ℕ) → Sign
sign_found denied above None = above
sign_found denied above (Some place) = if denied place then Deny else Grant

-- searching a list and then a second one: the result of the second is the sign from above for the first
sign_found-append : (chosen denied : List ℕ → Bool) (above : Sign) (f : List ℕ → List ℕ) (places others : List (List ℕ))
    → sign_found denied above (find chosen (map f places ++ others)) ≡ sign_found (λ p. denied (f p)) (sign_found denied above (find chosen others)) (find (λ p. chosen (f p)) places)
sign_found-append chosen denied above f [] others = refl
sign_found-append chosen denied above f (p ∷ places) others =
    elim (chosen (f p)) as (λ b. sign_found denied above (if b then Some (f p) else find chosen (map f places ++ others)) ≡ sign_found (λ q. denied (f q)) (sign_found denied above (find chosen others)) (if b then Some p else find (λ q. chosen (f q)) places))
    [ true ↦ refl | false ↦ sign_found-append chosen denied above f places others ]

-- whether a rule, or a rule that denies, selects the first element of the chain
abbrev chosen_chain : List Rule → ChainSet
chosen_chain rules chain = list_any (λ r. selects r.path chain) rules

abbrev denied_chain : List Rule → ChainSet
denied_chain rules chain = list_any (λ r. is_deny r.sign && selects r.path chain) rules

-- the sign of an element is decided by its own place or, where no rule selects it, from above
own_sign : (rules : List Rule) (e : Element) (up : Chain) (chosen denied : List ℕ → Bool) (above : Sign)
    → chosen [] ≡ chosen_chain rules (e ∷ up) → denied [] ≡ denied_chain rules (e ∷ up) → above ≡ chain_sign rules up
    → sign_found denied above (find chosen ([] ∷ [])) ≡ chain_sign rules (e ∷ up)
own_sign rules e up chosen denied above c d a =
    ap (λ b. sign_found denied above (if b then Some [] else None)) c
    ∙ elim (chosen_chain rules (e ∷ up)) as (λ b. sign_found denied above (if b then Some [] else None) ≡ (if b then (if denied_chain rules (e ∷ up) then Deny else Grant) else chain_sign rules up))
    [ true ↦ ap (λ b. if b then Deny else Grant) d | false ↦ a ]

find-none : (chosen : List ℕ → Bool) (places : List (List ℕ)) → ((p : List ℕ) → chosen p ≡ false) → find chosen places ≡ None
find-none chosen [] none = refl
find-none chosen (p ∷ places) none = ap (λ b. if b then Some p else find chosen places) (none p) ∙ find-none chosen places none

sign_in_child : (rules : List Rule) (up : Chain) (place : List ℕ) (chosen denied : List ℕ → Bool) (above default : Sign) (o : Option Element)
    → above ≡ default
    → ((p : List ℕ) → chosen p ≡ on_chain (chosen_chain rules) (option_and_then (λ c. chain_at c up p) o))
    → ((p : List ℕ) → denied p ≡ on_chain (denied_chain rules) (option_and_then (λ c. chain_at c up p) o))
    → ((c : Element) → ((p : List ℕ) → chosen p ≡ on_chain (chosen_chain rules) (chain_at c up p)) → ((p : List ℕ) → denied p ≡ on_chain (denied_chain rules) (chain_at c up p))
    → sign_found denied above (find chosen (prefixes place)) ≡ chain_signs rules c up place)
    → sign_found denied above (find chosen (prefixes place)) ≡ option_map_or (λ c. chain_signs rules c up place) o default
sign_in_child rules up place chosen denied above default None same c d inside = ap (sign_found denied above) (find-none chosen (prefixes place) c) ∙ same
sign_in_child rules up place chosen denied above default (Some e) same c d inside = inside e c d

signs_are : (rules : List Rule) (place : List ℕ) (e : Element) (up : Chain) (chosen denied : List ℕ → Bool) (above : Sign)
    → ((p : List ℕ) → chosen p ≡ on_chain (chosen_chain rules) (chain_at e up p))
    → ((p : List ℕ) → denied p ≡ on_chain (denied_chain rules) (chain_at e up p))
    → above ≡ chain_sign rules up
    → sign_found denied above (find chosen (prefixes place)) ≡ chain_signs rules e up place
signs_are rules [] e up chosen denied above c d a = own_sign rules e up chosen denied above (c []) (d []) a
signs_are rules (k ∷ place) e up chosen denied above c d a =
    let own = own_sign rules e up chosen denied above (c []) (d []) a in
    sign_found-append chosen denied above (λ p. k ∷ p) (prefixes place) ([] ∷ [])
    ∙ sign_in_child rules (e ∷ up) place (λ p. chosen (k ∷ p)) (λ p. denied (k ∷ p)) (sign_found denied above (find chosen ([] ∷ []))) (chain_sign rules (e ∷ up)) (child e.items k) own
    (λ p. c (k ∷ p)) (λ p. d (k ∷ p))
    (λ x cx dx. signs_are rules place x (e ∷ up) (λ p. chosen (k ∷ p)) (λ p. denied (k ∷ p)) (sign_found denied above (find chosen ([] ∷ []))) cx dx own)

any-false : (rules : List Rule) → list_any (λ r. false) rules ≡ false
any-false [] = refl
any-false (r ∷ rules) = any-false rules

any-same : (f g : Rule → Bool) (rules : List Rule) → ((r : Rule) → f r ≡ g r) → list_any f rules ≡ list_any g rules
any-same f g [] same = refl
any-same f g (r ∷ rules) same = ap (λ b. b || list_any f rules) (same r) ∙ ap (λ b. g r || b) (any-same f g rules same)

any-on_chain : (test : Rule → ChainSet) (rules : List Rule) (o : Option Chain) → list_any (λ r. on_chain (test r) o) rules ≡ on_chain (λ chain. list_any (λ r. test r chain) rules) o
any-on_chain test rules None = any-false rules
any-on_chain test rules (Some chain) = refl

and-on_chain : (b : Bool) (set : ChainSet) (o : Option Chain) → (b && on_chain set o) ≡ on_chain (λ chain. b && set chain) o
and-on_chain b set None = and_false b
and-on_chain b set (Some chain) = refl

is_selected-chain : (d : Doc) (rules : List Rule) (place : List ℕ) → is_selected d rules place ≡ on_chain (chosen_chain rules) (chain_at d.root [] place)
is_selected-chain d rules place =
    any-same (λ r. select d r.path place) (λ r. on_chain (selects r.path) (chain_at d.root [] place)) rules (λ r. select-chain d r.path place)
    ∙ any-on_chain (λ r. selects r.path) rules (chain_at d.root [] place)

is_denied-chain : (d : Doc) (rules : List Rule) (place : List ℕ) → is_denied d rules place ≡ on_chain (denied_chain rules) (chain_at d.root [] place)
is_denied-chain d rules place =
    any-same (λ r. is_deny r.sign && select d r.path place) (λ r. on_chain (λ chain. is_deny r.sign && selects r.path chain) (chain_at d.root [] place)) rules
    (λ r. ap (λ b. is_deny r.sign && b) (select-chain d r.path place) ∙ and-on_chain (is_deny r.sign) (selects r.path) (chain_at d.root [] place))
    ∙ any-on_chain (λ r chain. is_deny r.sign && selects r.path chain) rules (chain_at d.root [] place)

sign_by_is : (d : Doc) (rules : List Rule) (o : Option (List ℕ)) → sign_by d rules o ≡ sign_found (is_denied d rules) Deny o
sign_by_is d rules None = refl
sign_by_is d rules (Some place) = refl

-- The sign of a place is that of the chain there.
pub sign-chain : (d : Doc) (rules : List Rule) (place : List ℕ) → sign d rules place ≡ chain_signs rules d.root [] place
unfolding sign
sign-chain d rules place =
    sign_by_is d rules (decider d rules place)
    ∙ signs_are rules place d.root [] (is_selected d rules) (is_denied d rules) Deny (is_selected-chain d rules) (is_denied-chain d rules) refl
