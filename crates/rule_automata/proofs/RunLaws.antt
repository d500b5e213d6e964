-- The states at an element select exactly the rules whose paths select it.
use Rattle.std.proofs.Common.{◌≡◌, ℕ, zero, suc, ◌+◌, ◌<◌, ◌≤◌, Bool, true, false, cond, ◌&&◌, ◌||◌, Some, None, List, [], ◌∷◌, ◌++◌, length, refl, ap, sym, ◌∙◌, arith}
use Rattle.std.specs.Prelude.{nat_eq}
use Rattle.std.specs.Cmp.{first_so, second_so}
use Rattle.std.specs.List.{list_any, list_all, slice_get}
use Rattle.std.specs.Option.{option_map_or}
use Rattle.std.proofs.Math.Bool.{and-true, and-false}
use Rattle.std.proofs.lemmas.Bool.{true≢false}
use Rattle.std.proofs.lemmas.Bool.Decides.{nat_tests}
use Rattle.acl_model.specs.Chain.{Chain, ChainSet, is_virtual_root, leads_below, chain_step, chain_steps, selects, on_chain, chain_at}
use Rattle.acl_model.specs.Dictionary.{are_distinct}
use Rattle.acl_model.specs.NameTests.{passes}
use Rattle.acl_model.specs.Predicates.{holds}
use Rattle.acl_model.specs.Select.{select}
use Rattle.acl_model.proofs.ChainLaws.{select-chain}
use Rattle.acl_model.specs.declared.document.Doc.{Doc}
use Rattle.acl_model.specs.declared.document.Element.{Element}
use Rattle.acl_model.specs.declared.path.Axis.{Axis}
use Rattle.acl_model.specs.declared.path.Axis.TheVariants.{Child, Descendant}
use Rattle.acl_model.specs.declared.path.Pred.{Pred}
use Rattle.acl_model.specs.declared.path.Step.{Step}
use Rattle.acl_model.specs.declared.path.Test.{Test}
use Rattle.acl_model.specs.declared.rule.Rule.{Rule}
use Rattle.rule_automata.specs.declared.state.State.{State}
use Rattle.rule_automata.specs.Compile.{tag_test, ends_after, rule_states, states_from, is_empty_of, have_no_predicates}
use Rattle.rule_automata.specs.Run.{Standing, passes_tag, waits_below, begun, moved, run, is_rule, is_selected_by}
use Rattle.rule_automata.specs.Meaning.{AreTagsOf}
use Rattle.rule_automata.proofs.TagLaws.{passes_tag-name}

-- ---- the states at an element, computed from the chain of elements

-- the states of a rule at a chain, where the steps before them lead to this set
abbrev standing_at : List (List ℕ) → ℕ → ChainSet → List Step → Chain → List Standing
standing_at names rule set [] chain = []
standing_at names rule set (s ∷ more) chain =
    record {
      state = record { axis = s.axis; test = tag_test names s.test; ends = ends_after rule more };
      waits = leads_below s.axis set chain;
      selects = cond (chain_step s set chain) (ends_after rule more) None;
    } ∷ standing_at names rule (chain_step s set) more chain

-- the states of all rules at a chain
abbrev row_at : List (List ℕ) → ℕ → List Rule → Chain → List Standing
row_at names rule [] chain = []
row_at names rule (r ∷ rules) chain = standing_at names rule is_virtual_root r.path.steps chain ++ row_at names (rule + 1) rules chain

-- ---- at the virtual root

leads_at_top : (axis : Axis) (set : ChainSet) → leads_below axis set [] ≡ set []
leads_at_top Child set = refl
leads_at_top Descendant set = refl

begun_is : (names : List (List ℕ)) (rule : ℕ) (set : ChainSet) (s : Step) (more : List Step) (here : Bool) (rest : List State) (next : List Standing) → here ≡ set [] → begun true rest ≡ next
    → begun here (rule_states names rule (s ∷ more) ++ rest) ≡ standing_at names rule set (s ∷ more) [] ++ next
begun_is names rule set s [] here rest next top others =
    ap (λ b. record { state = record { axis = s.axis; test = tag_test names s.test; ends = Some rule }; waits = b; selects = None } ∷ begun true rest) (top ∙ sym (leads_at_top s.axis set))
    ∙ ap (λ row. record { state = record { axis = s.axis; test = tag_test names s.test; ends = Some rule }; waits = leads_below s.axis set []; selects = None } ∷ row) others
begun_is names rule set s (t ∷ more) here rest next top others =
    ap (λ b. record { state = record { axis = s.axis; test = tag_test names s.test; ends = None }; waits = b; selects = None } ∷ begun false (rule_states names rule (t ∷ more) ++ rest)) (top ∙ sym (leads_at_top s.axis set))
    ∙ ap (λ row. record { state = record { axis = s.axis; test = tag_test names s.test; ends = None }; waits = leads_below s.axis set []; selects = None } ∷ row)
    (begun_is names rule (chain_step s set) t more false rest next refl others)

rule_begins : (names : List (List ℕ)) (rule : ℕ) (steps : List Step) (rest : List State) (next : List Standing) → begun true rest ≡ next
    → begun true (rule_states names rule steps ++ rest) ≡ standing_at names rule is_virtual_root steps [] ++ next
rule_begins names rule [] rest next others = others
rule_begins names rule (s ∷ more) rest next others = begun_is names rule is_virtual_root s more true rest next refl others

rules_begin : (names : List (List ℕ)) (rules : List Rule) (n : ℕ) → begun true (states_from names n rules) ≡ row_at names n rules []
rules_begin names [] n = refl
rules_begin names (r ∷ rules) n = rule_begins names n r.path.steps (states_from names (n + 1) rules) (row_at names (n + 1) rules []) (rules_begin names rules (n + 1))

-- ---- from an element to a child

waits_is : (axis : Axis) (set : ChainSet) (e : Element) (up : Chain) (before : Bool) → before ≡ set (e ∷ up) → waits_below axis before (leads_below axis set up) ≡ leads_below axis set (e ∷ up)
waits_is Child set e up before is = is
waits_is Descendant set e up before is = ap (λ b. b || leads_below Descendant set up) is

-- The steps have no predicate, and the tag passes the tests of exactly the steps that the element passes.
keeps_is : (names : List (List ℕ)) (tag : ℕ) (e : Element) (axis : Axis) (test : Test) (preds : List Pred) → is_empty_of preds ≡ true → passes_tag (tag_test names test) tag ≡ passes test e.name
    → passes_tag (tag_test names test) tag ≡ (passes test e.name && list_all (λ pred. holds pred e) preds)
keeps_is names tag e axis test [] plain same = same ∙ sym (and-true (passes test e.name))
keeps_is names tag e axis test (p ∷ preds) plain same = absurd (true≢false (sym plain))

steps_move : (names : List (List ℕ)) (tag : ℕ) (e : Element) (up : Chain) → ((test : Test) → passes_tag (tag_test names test) tag ≡ passes test e.name)
    → (rule : ℕ) (set : ChainSet) (s : Step) (more : List Step) (before : Bool) (rest next : List Standing)
    → list_all (λ x. is_empty_of x.preds) (s ∷ more) ≡ true → before ≡ set (e ∷ up) → moved tag false rest ≡ next
    → moved tag before (standing_at names rule set (s ∷ more) up ++ rest) ≡ standing_at names rule set (s ∷ more) (e ∷ up) ++ next
steps_move names tag e up same rule set s [] before rest next plain is others =
    ap (λ b. record {
      state = record { axis = s.axis; test = tag_test names s.test; ends = Some rule };
      waits = b;
      selects = cond (leads_below s.axis set up && passes_tag (tag_test names s.test) tag) (Some rule) None;
    } ∷ moved tag false rest) (waits_is s.axis set e up before is)
    ∙ ap (λ b. record {
      state = record { axis = s.axis; test = tag_test names s.test; ends = Some rule };
      waits = leads_below s.axis set (e ∷ up);
      selects = cond (leads_below s.axis set up && b) (Some rule) None;
    } ∷ moved tag false rest)
    (keeps_is names tag e s.axis s.test s.preds (first_so (is_empty_of s.preds) true plain) (same s.test))
    ∙ ap (λ row. record {
      state = record { axis = s.axis; test = tag_test names s.test; ends = Some rule };
      waits = leads_below s.axis set (e ∷ up);
      selects = cond (chain_step s set (e ∷ up)) (Some rule) None;
    } ∷ row) others
steps_move names tag e up same rule set s (t ∷ more) before rest next plain is others =
    let taken : (leads_below s.axis set up && passes_tag (tag_test names s.test) tag) ≡ chain_step s set (e ∷ up) =
    ap (λ b. leads_below s.axis set up && b)
    (keeps_is names tag e s.axis s.test s.preds (first_so (is_empty_of s.preds) (list_all (λ x. is_empty_of x.preds) (t ∷ more)) plain) (same s.test)) in
    ap (λ b. record {
      state = record { axis = s.axis; test = tag_test names s.test; ends = None };
      waits = b;
      selects = cond (leads_below s.axis set up && passes_tag (tag_test names s.test) tag) None None;
    }
    ∷ moved tag (leads_below s.axis set up && passes_tag (tag_test names s.test) tag) (standing_at names rule (chain_step s set) (t ∷ more) up ++ rest)) (waits_is s.axis set e up before is)
    ∙ ap (λ b. record { state = record { axis = s.axis; test = tag_test names s.test; ends = None }; waits = leads_below s.axis set (e ∷ up); selects = cond b None None }
    ∷ moved tag b (standing_at names rule (chain_step s set) (t ∷ more) up ++ rest)) taken
    ∙ ap (λ row. record {
      state = record { axis = s.axis; test = tag_test names s.test; ends = None };
      waits = leads_below s.axis set (e ∷ up);
      selects = cond (chain_step s set (e ∷ up)) None None;
    } ∷ row)
    (steps_move names tag e up same rule (chain_step s set) t more (chain_step s set (e ∷ up)) rest next (second_so (is_empty_of s.preds) (list_all (λ x. is_empty_of x.preds) (t ∷ more)) plain) refl others)

rule_moves : (names : List (List ℕ)) (tag : ℕ) (e : Element) (up : Chain) → ((test : Test) → passes_tag (tag_test names test) tag ≡ passes test e.name)
    → (rule : ℕ) (steps : List Step) (rest next : List Standing) → list_all (λ x. is_empty_of x.preds) steps ≡ true → moved tag false rest ≡ next
    → moved tag false (standing_at names rule is_virtual_root steps up ++ rest) ≡ standing_at names rule is_virtual_root steps (e ∷ up) ++ next
rule_moves names tag e up same rule [] rest next plain others = others
rule_moves names tag e up same rule (s ∷ more) rest next plain others = steps_move names tag e up same rule is_virtual_root s more false rest next plain refl others

rules_move : (names : List (List ℕ)) (tag : ℕ) (e : Element) (up : Chain) → ((test : Test) → passes_tag (tag_test names test) tag ≡ passes test e.name)
    → (rules : List Rule) (n : ℕ) → have_no_predicates rules ≡ true → moved tag false (row_at names n rules up) ≡ row_at names n rules (e ∷ up)
rules_move names tag e up same [] n plain = refl
rules_move names tag e up same (r ∷ rules) n plain =
    rule_moves names tag e up same n r.path.steps (row_at names (n + 1) rules up) (row_at names (n + 1) rules (e ∷ up))
    (first_so (list_all (λ s. is_empty_of s.preds) r.path.steps) (have_no_predicates rules) plain)
    (rules_move names tag e up same rules (n + 1) (second_so (list_all (λ s. is_empty_of s.preds) r.path.steps) (have_no_predicates rules) plain))

-- the states that run computes from the tags of a chain are those computed from the chain
run_is : (names : List (List ℕ)) (rules : List Rule) → are_distinct names ≡ true → length names ≤ 256 → have_no_predicates rules ≡ true
    → (tags : List ℕ) (chain : Chain) → AreTagsOf names tags chain → run (states_from names 0 rules) tags ≡ row_at names 0 rules chain
run_is names rules distinct few plain [] [] tagged = rules_begin names rules 0
run_is names rules distinct few plain [] (e ∷ up) tagged = absurd tagged
run_is names rules distinct few plain (tag ∷ tags) [] tagged = absurd tagged
run_is names rules distinct few plain (tag ∷ tags) (e ∷ up) tagged =
    ap (moved tag false) (run_is names rules distinct few plain tags up tagged.1)
    ∙ rules_move names tag e up (λ test. passes_tag-name names test tag e.name distinct few tagged.0) rules 0 plain

-- ---- which rules select

-- whether a state says that this rule selects
abbrev takes : ℕ → Standing → Bool
takes rule m = is_rule rule m.selects

last_is : (rule number : ℕ) (b : Bool) → is_rule rule (cond b (Some number) None) ≡ (nat_eq number rule && b)
last_is rule number true = sym (and-true (nat_eq number rule))
last_is rule number false = sym (and-false (nat_eq number rule))

never_none : (rule : ℕ) (b : Bool) → is_rule rule (cond b None None) ≡ false
never_none rule true = refl
never_none rule false = refl

steps_take : (names : List (List ℕ)) (rule number : ℕ) (set : ChainSet) (s : Step) (more : List Step) (chain : Chain) (rest : List Standing)
    → list_any (takes rule) (standing_at names number set (s ∷ more) chain ++ rest) ≡ ((nat_eq number rule && chain_steps (s ∷ more) set chain) || list_any (takes rule) rest)
steps_take names rule number set s [] chain rest = ap (λ b. b || list_any (takes rule) rest) (last_is rule number (chain_step s set chain))
steps_take names rule number set s (t ∷ more) chain rest =
    ap (λ b. b || list_any (takes rule) (standing_at names number (chain_step s set) (t ∷ more) chain ++ rest)) (never_none rule (chain_step s set chain))
    ∙ steps_take names rule number (chain_step s set) t more chain rest

-- the states of a rule select it exactly where its path selects the element, and no other rule
rule_takes : (names : List (List ℕ)) (rule number : ℕ) (steps : List Step) (e : Element) (up : Chain) (rest : List Standing)
    → list_any (takes rule) (standing_at names number is_virtual_root steps (e ∷ up) ++ rest) ≡ ((nat_eq number rule && chain_steps steps is_virtual_root (e ∷ up)) || list_any (takes rule) rest)
rule_takes names rule number [] e up rest = ap (λ b. b || list_any (takes rule) rest) (sym (and-false (nat_eq number rule)))
rule_takes names rule number (s ∷ more) e up rest = steps_take names rule number is_virtual_root s more (e ∷ up) rest

-- no rule with a smaller number is selected
smaller_none : (names : List (List ℕ)) (rules : List Rule) (rule n : ℕ) (e : Element) (up : Chain) → rule < n → list_any (takes rule) (row_at names n rules (e ∷ up)) ≡ false
smaller_none names [] rule n e up less = refl
smaller_none names (r ∷ rules) rule n e up less =
    let apart : nat_eq n rule ≡ false = grind (arith, nat_tests) in
    rule_takes names rule n r.path.steps e up (row_at names (n + 1) rules (e ∷ up))
    ∙ ap (λ b. (b && chain_steps r.path.steps is_virtual_root (e ∷ up)) || list_any (takes rule) (row_at names (n + 1) rules (e ∷ up))) apart
    ∙ smaller_none names rules rule (n + 1) e up (omega arith)

or_none : (b c : Bool) → c ≡ false → (b || c) ≡ b
or_none true c none = refl
or_none false c none = none

-- the same of rule n + k, where the first rule has the number n
rules_take : (names : List (List ℕ)) (rules : List Rule) (n k : ℕ) (e : Element) (up : Chain)
    → list_any (takes (n + k)) (row_at names n rules (e ∷ up)) ≡ option_map_or (λ r. selects r.path (e ∷ up)) (slice_get rules k) false
unfolding selects
rules_take names [] n k e up = refl
rules_take names (r ∷ rules) n zero e up =
    let same : nat_eq n (n + 0) ≡ true = grind (arith, nat_tests) in
    rule_takes names (n + 0) n r.path.steps e up (row_at names (n + 1) rules (e ∷ up))
    ∙ ap (λ b. (b && chain_steps r.path.steps is_virtual_root (e ∷ up)) || list_any (takes (n + 0)) (row_at names (n + 1) rules (e ∷ up))) same
    ∙ or_none (chain_steps r.path.steps is_virtual_root (e ∷ up)) (list_any (takes (n + 0)) (row_at names (n + 1) rules (e ∷ up))) (smaller_none names rules (n + 0) (n + 1) e up (omega arith))
rules_take names (r ∷ rules) n (suc k) e up =
    let apart : nat_eq n (n + suc k) ≡ false = grind (arith, nat_tests) in
    let next : n + suc k ≡ n + 1 + k = omega arith in
    rule_takes names (n + suc k) n r.path.steps e up (row_at names (n + 1) rules (e ∷ up))
    ∙ ap (λ b. (b && chain_steps r.path.steps is_virtual_root (e ∷ up)) || list_any (takes (n + suc k)) (row_at names (n + 1) rules (e ∷ up))) apart
    ∙ ap (λ m. list_any (takes m) (row_at names (n + 1) rules (e ∷ up))) next
    ∙ rules_take names rules (n + 1) k e up

-- The states select a rule exactly where its path selects the element.
pub selected_is : (names : List (List ℕ)) (rules : List Rule) (tags : List ℕ) (e : Element) (up : Chain) (rule : ℕ)
    → are_distinct names ≡ true → length names ≤ 256 → have_no_predicates rules ≡ true → AreTagsOf names tags (e ∷ up)
    → is_selected_by (states_from names 0 rules) tags rule ≡ option_map_or (λ r. selects r.path (e ∷ up)) (slice_get rules rule) false
selected_is names rules tags e up rule distinct few plain tagged =
    let same : rule ≡ 0 + rule = omega arith in
    ap (list_any (takes rule)) (run_is names rules distinct few plain tags (e ∷ up) tagged)
    ∙ ap (λ m. list_any (takes m) (row_at names 0 rules (e ∷ up))) same
    ∙ rules_take names rules 0 rule e up

-- The same for an element's place in a document.
pub selected_at : (names : List (List ℕ)) (rules : List Rule) (tags : List ℕ) (d : Doc) (place : List ℕ) (e : Element) (up : Chain) (rule : ℕ)
    → are_distinct names ≡ true → length names ≤ 256 → have_no_predicates rules ≡ true → AreTagsOf names tags (e ∷ up) → chain_at d.root [] place ≡ Some (e ∷ up)
    → is_selected_by (states_from names 0 rules) tags rule ≡ option_map_or (λ r. select d r.path place) (slice_get rules rule) false
selected_at names rules tags d place e up rule distinct few plain tagged at =
    selected_is names rules tags e up rule distinct few plain tagged
    ∙ ap (λ (test : Rule → Bool). option_map_or test (slice_get rules rule) false) (λ i r. (sym (select-chain d r.path place ∙ ap (on_chain (selects r.path)) at)) i)
