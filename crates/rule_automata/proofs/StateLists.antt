-- The states of rules, step by step and rule by rule; each rule ends with one of its states.
use Rattle.std.proofs.Common.{◌≡◌, ℕ, zero, suc, ◌+◌, ◌<◌, ◌≤◌, Bool, true, false, cond, eqb, ltb, not, ◌&&◌, ◌||◌, Option, Some, None, List, [], ◌∷◌, ◌++◌, length, length-append, get_or, drop, drop-cons, add-one, refl, ap, sym, ◌∙◌, arith}
use Rattle.std.specs.Bool.{then_some}
use Rattle.std.specs.List.{slice_get}
use Rattle.std.specs.Option.{option_map_or}
use Rattle.std.proofs.lemmas.Bool.Decides.{nat_tests}
use Rattle.std.proofs.lemmas.List.{drop_all, append-nil, append_assoc}
use Rattle.std.proofs.lemmas.List.Sums.{sum_by-cons}
use Rattle.std.proofs.lemmas.Option.{slice_get-get_or}
use Rattle.acl_bits.specs.Row.{row_of, is_member}
use Rattle.acl_bits.specs.inside.RowLaws.{row_of-same, is_member-row_of}
use Rattle.acl_model.specs.Explain.{is_same_sign}
use Rattle.acl_model.specs.RuleNumbers.{numbers_of, numbers_of_sign}
use Rattle.acl_model.specs.declared.path.Step.{Step}
use Rattle.acl_model.specs.declared.rule.Rule.{Rule}
use Rattle.acl_model.specs.declared.rule.Sign.{Sign}
use Rattle.rule_automata.specs.declared.state.State.{State}
use Rattle.rule_automata.specs.Compile.{tag_test, ends_after, rule_states, states_from, steps_in, is_closed}

-- a rule ends with the step after which there is none
ends_where_last : (rule : ℕ) (steps : List Step) (k : ℕ) → k < length steps → ends_after rule (drop (k + 1) steps) ≡ then_some (eqb (k + 1) (length steps)) rule
ends_where_last rule [] k inside = absurd (omega arith)
ends_where_last rule (s ∷ []) zero inside = refl
ends_where_last rule (s ∷ t ∷ steps) zero inside =
    let apart : false ≡ eqb (0 + 1) (length (s ∷ t ∷ steps)) = grind (arith, nat_tests) in ap (λ b. then_some b rule) apart
ends_where_last rule (s ∷ steps) (suc k) inside =
    let more : suc k + 1 ≡ suc (k + 1) = omega arith in
    ap (λ n. ends_after rule (drop n (s ∷ steps))) more ∙ ends_where_last rule steps k (omega arith) ∙ ap (λ b. then_some b rule) (grind (arith, nat_tests))

-- the states of the steps from step k on, from that of step k and those of the later steps
pub rule_states-drop : (names : List (List ℕ)) (rule : ℕ) (steps : List Step) (k : ℕ) (s : Step) → k < length steps → s ≡ get_or steps k s
    → rule_states names rule (drop k steps) ≡ record { axis = s.axis; test = tag_test names s.test; ends = then_some (eqb (k + 1) (length steps)) rule } ∷ rule_states names rule (drop (k + 1) steps)
rule_states-drop names rule steps k s inside is =
    ap (rule_states names rule) (drop-cons steps k s inside)
    ∙ ap (λ t. rule_states names rule (t ∷ drop (suc k) steps)) (sym is)
    ∙ ap (λ n. rule_states names rule (s ∷ drop n steps)) (sym (add-one k))
    ∙ ap (λ o. record { axis = s.axis; test = tag_test names s.test; ends = o } ∷ rule_states names rule (drop (k + 1) steps)) (ends_where_last rule steps k inside)

pub rule_states-drop_all : (names : List (List ℕ)) (rule : ℕ) (steps : List Step) (k : ℕ) → length steps ≤ k → rule_states names rule (drop k steps) ≡ []
rule_states-drop_all names rule steps k past = ap (rule_states names rule) (drop_all k steps past)

pub ruleset state_steps = (rule_states-drop, rule_states-drop_all, append_assoc, append-nil)

-- the states of the rules from number k on, from those of rule k and of the later rules
pub states_from-drop : (names : List (List ℕ)) (rules : List Rule) (k : ℕ) (r : Rule) → k < length rules → r ≡ get_or rules k r
    → states_from names k (drop k rules) ≡ rule_states names k r.path.steps ++ states_from names (k + 1) (drop (k + 1) rules)
states_from-drop names rules k r inside is =
    ap (states_from names k) (drop-cons rules k r inside)
    ∙ ap (λ t. states_from names k (t ∷ drop (suc k) rules)) (sym is)
    ∙ ap (λ n. rule_states names k r.path.steps ++ states_from names (k + 1) (drop n rules)) (sym (add-one k))

pub states_from-drop_all : (names : List (List ℕ)) (rules : List Rule) (k : ℕ) → length rules ≤ k → states_from names k (drop k rules) ≡ []
states_from-drop_all names rules k past = ap (states_from names k) (drop_all k rules past)

-- there is one state for each step
pub length-rule_states : (names : List (List ℕ)) (rule : ℕ) (steps : List Step) → length (rule_states names rule steps) ≡ length steps
length-rule_states names rule [] = refl
length-rule_states names rule (s ∷ steps) = ap suc (length-rule_states names rule steps)

pub length-states_from : (names : List (List ℕ)) (rules : List Rule) (n : ℕ) → length (states_from names n rules) ≡ steps_in rules
length-states_from names [] n = refl
length-states_from names (r ∷ rules) n =
    let joined : length (rule_states names n r.path.steps ++ states_from names (n + 1) rules) ≡ length (rule_states names n r.path.steps) + length (states_from names (n + 1) rules) =
    length-append (rule_states names n r.path.steps) (states_from names (n + 1) rules) in
    let first : length (rule_states names n r.path.steps) ≡ length r.path.steps = length-rule_states names n r.path.steps in
    let rest : length (states_from names (n + 1) rules) ≡ steps_in rules = length-states_from names rules (n + 1) in
    let counted : steps_in (r ∷ rules) ≡ length r.path.steps + steps_in rules = sum_by-cons (λ x. length x.path.steps) r rules in
    omega arith

-- each rule ends with one of its states
closed_after : (names : List (List ℕ)) (rule : ℕ) (s : Step) (steps : List Step) (rest : List State) (is_begun : Bool) → is_closed is_begun (rule_states names rule (s ∷ steps) ++ rest) ≡ is_closed false rest
closed_after names rule s [] rest is_begun = refl
closed_after names rule s (t ∷ steps) rest is_begun = closed_after names rule t steps rest true

closed_rule : (names : List (List ℕ)) (rule : ℕ) (steps : List Step) (rest : List State) → is_closed false rest ≡ true → is_closed false (rule_states names rule steps ++ rest) ≡ true
closed_rule names rule [] rest closed = closed
closed_rule names rule (s ∷ steps) rest closed = closed_after names rule s steps rest false ∙ closed

pub closed-states_from : (names : List (List ℕ)) (rules : List Rule) (n : ℕ) → is_closed false (states_from names n rules) ≡ true
closed-states_from names [] n = refl
closed-states_from names (r ∷ rules) n = closed_rule names n r.path.steps (states_from names (n + 1) rules) (closed-states_from names rules (n + 1))

pub ruleset table_steps = (states_from-drop, states_from-drop_all, length-states_from, closed-states_from, append_assoc, append-nil)

-- ---- the numbers of the rules of a sign

-- whether the rule of this number has the sign
abbrev has_sign : Sign → List Rule → ℕ → Bool
has_sign sign rules n = option_map_or (λ r. is_same_sign r.sign sign) (slice_get rules n) false

-- the numbers of the rules of a sign below n
abbrev pub numbers_before : Sign → List Rule → ℕ → List ℕ
numbers_before sign rules n = row_of (λ m. ltb m n && has_sign sign rules m)

has_sign_at : (sign : Sign) (rules : List Rule) (n : ℕ) (r : Rule) (b : Bool) → n < length rules → r ≡ get_or rules n r → is_same_sign r.sign sign ≡ b → has_sign sign rules n ≡ b
has_sign_at sign rules n r b inside is same =
    ap (λ o. option_map_or (λ x. is_same_sign x.sign sign) o false) (slice_get-get_or rules n r inside) ∙ ap (λ x. is_same_sign x.sign sign) (sym is) ∙ same

row_of-none : row_of (λ m. false) ≡ []
unfolding row_of
row_of-none = refl

none_below : (m : ℕ) (b : Bool) → false ≡ (ltb m 0 && b)
none_below m b = grind (arith, nat_tests)

pub numbers-none : (sign : Sign) (rules : List Rule) → [] ≡ numbers_before sign rules 0
numbers-none sign rules =
    sym (row_of-none)
    ∙ row_of-same (λ m. false) (λ m. ltb m 0 && has_sign sign rules m) (λ m small. none_below m (has_sign sign rules m))

one_more : (test : ℕ → Bool) (n m : ℕ) → test n ≡ true → (eqb m n || (ltb m n && test m)) ≡ (ltb m (n + 1) && test m)
one_more test n m has = grind (arith, nat_tests)

none_more : (test : ℕ → Bool) (n m : ℕ) → test n ≡ false → (ltb m n && test m) ≡ (ltb m (n + 1) && test m)
none_more test n m has = grind (arith, nat_tests)

-- rule n has the sign
pub numbers-put : (sign : Sign) (rules : List Rule) (n : ℕ) (r : Rule) → n < length rules → r ≡ get_or rules n r → is_same_sign r.sign sign ≡ true
    → row_of (λ m. eqb m n || is_member (numbers_before sign rules n) m) ≡ numbers_before sign rules (n + 1)
numbers-put sign rules n r inside is same =
    row_of-same (λ m. eqb m n || is_member (numbers_before sign rules n) m) (λ m. ltb m (n + 1) && has_sign sign rules m)
    (λ m small. ap (λ b. eqb m n || b) (is_member-row_of (λ k. ltb k n && has_sign sign rules k) m small) ∙ one_more (has_sign sign rules) n m (has_sign_at sign rules n r true inside is same))

-- rule n has the other sign
pub numbers-pass : (sign : Sign) (rules : List Rule) (n : ℕ) (r : Rule) → n < length rules → r ≡ get_or rules n r → is_same_sign r.sign sign ≡ false
    → numbers_before sign rules n ≡ numbers_before sign rules (n + 1)
numbers-pass sign rules n r inside is same =
    row_of-same (λ m. ltb m n && has_sign sign rules m) (λ m. ltb m (n + 1) && has_sign sign rules m)
    (λ m small. none_more (has_sign sign rules) n m (has_sign_at sign rules n r false inside is same))

-- there is no rule after the last
past_none : (sign : Sign) (rules : List Rule) (m : ℕ) → length rules ≤ m → has_sign sign rules m ≡ false
past_none sign [] m past = refl
past_none sign (r ∷ rules) zero past = absurd (omega arith)
past_none sign (r ∷ rules) (suc m) past = past_none sign rules m (omega arith)

within_or_none : (sign : Sign) (rules : List Rule) (n m : ℕ) → length rules ≤ n → (ltb m n && has_sign sign rules m) ≡ has_sign sign rules m
within_or_none sign rules n m past =
    elim (ltb m n) as (λ b. ltb m n ≡ b → (b && has_sign sign rules m) ≡ has_sign sign rules m) [
      | true ↦ λ is. refl
      | false ↦ λ is. sym (past_none sign rules m (grind (arith, nat_tests)))
    ] refl

pub numbers-all : (sign : Sign) (rules : List Rule) (n : ℕ) → length rules ≤ n → numbers_before sign rules n ≡ numbers_of_sign sign rules
unfolding row_of numbers_of
numbers-all sign rules n past = row_of-same (λ m. ltb m n && has_sign sign rules m) (has_sign sign rules) (λ m small. within_or_none sign rules n m past)

pub ruleset number_steps = (numbers-none, numbers-all)

-- ---- counts of steps

-- the steps of the rules from number k on, from those of rule k and of the later rules
pub steps_in-drop : (rules : List Rule) (k : ℕ) (r : Rule) → k < length rules → r ≡ get_or rules k r → steps_in (drop k rules) ≡ length r.path.steps + steps_in (drop (k + 1) rules)
steps_in-drop rules k r inside is =
    ap steps_in (drop-cons rules k r inside)
    ∙ sum_by-cons (λ x. length x.path.steps) (get_or rules k r) (drop (suc k) rules)
    ∙ ap (λ t. length t.path.steps + steps_in (drop (suc k) rules)) (sym is)
    ∙ ap (λ n. length r.path.steps + steps_in (drop n rules)) (sym (add-one k))

pub steps_in-drop_all : (rules : List Rule) (k : ℕ) → length rules ≤ k → steps_in (drop k rules) ≡ 0
steps_in-drop_all rules k past = ap steps_in (drop_all k rules past)

pub ruleset step_counts = (steps_in-drop, steps_in-drop_all, nat_tests)
