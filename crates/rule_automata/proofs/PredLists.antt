-- The suffixes and the bearings of predicates, path by path, step by step and rule by rule.
use Rattle.std.proofs.Common.{◌≡◌, ℕ, zero, suc, ◌+◌, ◌<◌, ◌≤◌, Some, None, List, [], ◌∷◌, ◌++◌, length, length-append, get_or, drop, drop-cons, map, add-one, sum_by, refl, ap, sym, ◌∙◌, arith}
use Rattle.std.proofs.lemmas.List.{drop_all, append-nil, append_assoc}
use Rattle.std.proofs.lemmas.List.Sums.{sum_by-cons}
use Rattle.acl_model.specs.declared.path.Pred.{Pred}
use Rattle.acl_model.specs.declared.path.PredStep.{PredStep}
use Rattle.acl_model.specs.declared.path.Step.{Step}
use Rattle.acl_model.specs.declared.rule.Rule.{Rule}
use Rattle.rule_automata.specs.declared.bearing.Bearing.{Bearing}
use Rattle.rule_automata.specs.declared.suffix.Suffix.{Suffix}
use Rattle.rule_automata.specs.Compile.{StepPred, suffix_step, way_suffixes, suffixes_of, bearing_of, bearings_from, preds_at, preds_of_steps, preds_from, preds_in_steps, preds_in, way_steps_in, pred_steps_in}

-- ---- one path

-- the suffixes of a path from its step k on, from those after this step
pub way_suffixes-drop : (names : List (List ℕ)) (way : List PredStep) (k : ℕ) (s : PredStep) → k < length way
    → s ≡ get_or way k s
    → way_suffixes names (drop k way)
    ≡ way_suffixes names (drop (k + 1) way) ++ record { step = Some (suffix_step names s) } ∷ []
way_suffixes-drop names way k s inside is =
    ap (way_suffixes names) (drop-cons way k s inside)
    ∙ ap (λ t. way_suffixes names (drop (suc k) way) ++ record { step = Some (suffix_step names t) } ∷ []) (sym is)
    ∙ ap (λ n. way_suffixes names (drop n way) ++ record { step = Some (suffix_step names s) } ∷ []) (sym (add-one k))

pub way_suffixes-drop_all : (names : List (List ℕ)) (way : List PredStep) (k : ℕ) → length way ≤ k
    → way_suffixes names (drop k way) ≡ record { step = None } ∷ []
way_suffixes-drop_all names way k past = ap (way_suffixes names) (drop_all k way past)

-- a path has one suffix more than steps
pub length-way_suffixes : (names : List (List ℕ)) (way : List PredStep)
    → length (way_suffixes names way) ≡ length way + 1
length-way_suffixes names [] = refl
length-way_suffixes names (s ∷ way) =
    let joined = length-append (way_suffixes names way) (record { step = Some (suffix_step names s) } ∷ []) in
    let rest = length-way_suffixes names way in
    omega (arith, joined, rest)

pub ruleset way_steps = (way_suffixes-drop, way_suffixes-drop_all, append_assoc)

-- ---- predicates of steps

-- the suffixes of some predicates and of others after them
pub suffixes_of-append : (names : List (List ℕ)) (ps qs : List StepPred)
    → suffixes_of names (ps ++ qs) ≡ suffixes_of names ps ++ suffixes_of names qs
suffixes_of-append names [] qs = refl
suffixes_of-append names (p ∷ ps) qs =
    ap (λ t. way_suffixes names p.pred.way ++ t) (suffixes_of-append names ps qs)
    ∙ sym (append_assoc (way_suffixes names p.pred.way) (suffixes_of names ps) (suffixes_of names qs))

-- how many suffixes come before those of the later predicates
pub length-suffixes_of-cons : (names : List (List ℕ)) (p : StepPred) (ps : List StepPred)
    → length (suffixes_of names (p ∷ ps)) ≡ length p.pred.way + 1 + length (suffixes_of names ps)
length-suffixes_of-cons names p ps =
    length-append (way_suffixes names p.pred.way) (suffixes_of names ps)
    ∙ ap (λ n. n + length (suffixes_of names ps)) (length-way_suffixes names p.pred.way)

-- the bearings of some predicates and of others after them
pub bearings_from-append : (names : List (List ℕ)) (first : ℕ) (ps qs : List StepPred)
    → bearings_from first (ps ++ qs)
    ≡ bearings_from first ps ++ bearings_from (first + length (suffixes_of names ps)) qs
bearings_from-append names first [] qs =
    let none : first ≡ first + 0 = omega arith in
    ap (λ n. bearings_from n qs) none
bearings_from-append names first (p ∷ ps) qs =
    let counted = length-suffixes_of-cons names p ps in
    let next : first + length p.pred.way + 1 + length (suffixes_of names ps)
    ≡ first + length (suffixes_of names (p ∷ ps)) = omega (arith, counted) in
    ap (λ t. bearing_of first p ∷ t)
    (bearings_from-append names (first + length p.pred.way + 1) ps qs
    ∙ ap (λ n. bearings_from (first + length p.pred.way + 1) ps ++ bearings_from n qs) next)

-- ---- the predicates of one step, from number k on

pub suffixes_at-drop : (names : List (List ℕ)) (step : ℕ) (preds : List Pred) (k : ℕ) (p : Pred) → k < length preds
    → p ≡ get_or preds k p
    → suffixes_of names (preds_at step (drop k preds))
    ≡ way_suffixes names p.way ++ suffixes_of names (preds_at step (drop (k + 1) preds))
suffixes_at-drop names step preds k p inside is =
    ap (λ t. suffixes_of names (preds_at step t)) (drop-cons preds k p inside)
    ∙ ap (λ t. way_suffixes names t.way ++ suffixes_of names (preds_at step (drop (suc k) preds))) (sym is)
    ∙ ap (λ n. way_suffixes names p.way ++ suffixes_of names (preds_at step (drop n preds))) (sym (add-one k))

pub suffixes_at-drop_all : (names : List (List ℕ)) (step : ℕ) (preds : List Pred) (k : ℕ) → length preds ≤ k
    → suffixes_of names (preds_at step (drop k preds)) ≡ []
suffixes_at-drop_all names step preds k past = ap (λ t. suffixes_of names (preds_at step t)) (drop_all k preds past)

pub bearings_at-drop : (first step : ℕ) (preds : List Pred) (k : ℕ) (p : Pred) → k < length preds → p ≡ get_or preds k p
    → bearings_from first (preds_at step (drop k preds))
    ≡ bearing_of first (record { step = step; pred = p }) ∷ bearings_from (first + length p.way + 1)
    (preds_at step (drop (k + 1) preds))
bearings_at-drop first step preds k p inside is =
    ap (λ t. bearings_from first (preds_at step t)) (drop-cons preds k p inside)
    ∙ ap (λ (t : Pred). bearing_of first (record { step = step; pred = t }) ∷ bearings_from (first + length t.way + 1)
    (preds_at step (drop (suc k) preds))) (sym is)
    ∙ ap (λ n. bearing_of first (record { step = step; pred = p }) ∷ bearings_from (first + length p.way + 1)
    (preds_at step (drop n preds))) (sym (add-one k))

pub bearings_at-drop_all : (first step : ℕ) (preds : List Pred) (k : ℕ) → length preds ≤ k
    → bearings_from first (preds_at step (drop k preds)) ≡ []
bearings_at-drop_all first step preds k past = ap (λ t. bearings_from first (preds_at step t)) (drop_all k preds past)

-- the suffixes of one more predicate fit, where those of all predicates do
pub room_at : (names : List (List ℕ)) (now old : List Suffix) (step : ℕ) (preds : List Pred) (k : ℕ) (p : Pred)
    → k < length preds → p ≡ get_or preds k p
    → now ++ suffixes_of names (preds_at step (drop k preds)) ≡ old ++ suffixes_of names (preds_at step preds)
    → length old + length (suffixes_of names (preds_at step preds)) ≤ 320 → length now + length p.way < 320
room_at names now old step preds k p inside is same few =
    let rest : List Suffix = suffixes_of names (preds_at step (drop (k + 1) preds)) in
    let split : now ++ (way_suffixes names p.way ++ rest) ≡ old ++ suffixes_of names (preds_at step preds) =
    ap (λ t. now ++ t) (sym (suffixes_at-drop names step preds k p inside is)) ∙ same in
    let counted = ap length split in
    let a = length-append now (way_suffixes names p.way ++ rest) in
    let b = length-append (way_suffixes names p.way) rest in
    let d = length-append old (suffixes_of names (preds_at step preds)) in
    let e = length-way_suffixes names p.way in
    omega (arith, counted, a, b, d, e, few)

-- one more predicate, with its suffixes
pub suffixes_at-next : (names : List (List ℕ)) (now all : List Suffix) (step : ℕ) (preds : List Pred) (k : ℕ)
    (p : Pred) → k < length preds → p ≡ get_or preds k p
    → now ++ suffixes_of names (preds_at step (drop k preds)) ≡ all
    → (now ++ way_suffixes names p.way) ++ suffixes_of names (preds_at step (drop (k + 1) preds)) ≡ all
suffixes_at-next names now all step preds k p inside is same =
    append_assoc now (way_suffixes names p.way) (suffixes_of names (preds_at step (drop (k + 1) preds)))
    ∙ ap (λ t. now ++ t) (sym (suffixes_at-drop names step preds k p inside is)) ∙ same

-- one more predicate, with its bearing
pub bearings_at-next : (names : List (List ℕ)) (suffixes : List Suffix) (now all : List Bearing) (step : ℕ)
    (preds : List Pred) (k : ℕ) (p : Pred) → k < length preds → p ≡ get_or preds k p
    → now ++ bearings_from (length suffixes) (preds_at step (drop k preds)) ≡ all
    → (now ++ bearing_of (length suffixes) (record { step = step; pred = p }) ∷ [])
    ++ bearings_from (length (suffixes ++ way_suffixes names p.way)) (preds_at step (drop (k + 1) preds)) ≡ all
bearings_at-next names suffixes now all step preds k p inside is same =
    let one : Bearing = bearing_of (length suffixes) (record { step = step; pred = p }) in
    let joined = length-append suffixes (way_suffixes names p.way) in
    let more = length-way_suffixes names p.way in
    let next : length (suffixes ++ way_suffixes names p.way)
    ≡ length suffixes + length p.way + 1 = omega (arith, joined, more) in
    ap (λ n. (now ++ one ∷ []) ++ bearings_from n (preds_at step (drop (k + 1) preds))) next
    ∙ append_assoc now (one ∷ []) (bearings_from (length suffixes + length p.way + 1)
    (preds_at step (drop (k + 1) preds)))
    ∙ ap (λ t. now ++ t) (sym (bearings_at-drop (length suffixes) step preds k p inside is)) ∙ same

pub ruleset pred_ends = (suffixes_at-drop_all, bearings_at-drop_all, append-nil)

-- ---- the predicates of the steps of a path, from step k on

preds_of_steps-drop : (first : ℕ) (steps : List Step) (k : ℕ) (s : Step) → k < length steps → s ≡ get_or steps k s
    → preds_of_steps (first + k) (drop k steps)
    ≡ preds_at (first + k) s.preds ++ preds_of_steps (first + (k + 1)) (drop (k + 1) steps)
preds_of_steps-drop first steps k s inside is =
    let next : first + k + 1 ≡ first + (k + 1) = omega arith in
    ap (preds_of_steps (first + k)) (drop-cons steps k s inside)
    ∙ ap (λ (t : Step). preds_at (first + k) t.preds ++ preds_of_steps (first + k + 1) (drop (suc k) steps)) (sym is)
    ∙ ap (λ n. preds_at (first + k) s.preds ++ preds_of_steps n (drop (suc k) steps)) next
    ∙ ap (λ n. preds_at (first + k) s.preds ++ preds_of_steps (first + (k + 1)) (drop n steps)) (sym (add-one k))

pub preds_of_steps-drop_all : (first : ℕ) (steps : List Step) (k : ℕ) → length steps ≤ k
    → preds_of_steps first (drop k steps) ≡ []
preds_of_steps-drop_all first steps k past = ap (preds_of_steps first) (drop_all k steps past)

-- the suffixes of one more step fit, where those of all steps do
pub room_of_step : (names : List (List ℕ)) (now old : List Suffix) (first : ℕ) (steps : List Step) (k : ℕ) (s : Step)
    → k < length steps → s ≡ get_or steps k s
    → now ++ suffixes_of names (preds_of_steps (first + k) (drop k steps))
    ≡ old ++ suffixes_of names (preds_of_steps first steps)
    → length old + length (suffixes_of names (preds_of_steps first steps)) ≤ 320
    → length now + length (suffixes_of names (preds_at (first + k) s.preds)) ≤ 320
room_of_step names now old first steps k s inside is same few =
    let here : List StepPred = preds_at (first + k) s.preds in
    let later : List StepPred = preds_of_steps (first + (k + 1)) (drop (k + 1) steps) in
    let split : now ++ (suffixes_of names here ++ suffixes_of names later)
    ≡ old ++ suffixes_of names (preds_of_steps first steps) =
    ap (λ t. now ++ t) (sym (suffixes_of-append names here later))
    ∙ ap (λ t. now ++ suffixes_of names t) (sym (preds_of_steps-drop first steps k s inside is)) ∙ same in
    let counted = ap length split in
    let a = length-append now (suffixes_of names here ++ suffixes_of names later) in
    let b = length-append (suffixes_of names here) (suffixes_of names later) in
    let d = length-append old (suffixes_of names (preds_of_steps first steps)) in
    omega (arith, counted, a, b, d, few)

pub suffixes_of_steps-next : (names : List (List ℕ)) (now all : List Suffix) (first : ℕ) (steps : List Step) (k : ℕ)
    (s : Step) → k < length steps → s ≡ get_or steps k s
    → now ++ suffixes_of names (preds_of_steps (first + k) (drop k steps)) ≡ all
    → (now ++ suffixes_of names (preds_at (first + k) s.preds))
    ++ suffixes_of names (preds_of_steps (first + (k + 1)) (drop (k + 1) steps)) ≡ all
suffixes_of_steps-next names now all first steps k s inside is same =
    let here : List StepPred = preds_at (first + k) s.preds in
    let later : List StepPred = preds_of_steps (first + (k + 1)) (drop (k + 1) steps) in
    append_assoc now (suffixes_of names here) (suffixes_of names later)
    ∙ ap (λ t. now ++ t) (sym (suffixes_of-append names here later))
    ∙ ap (λ t. now ++ suffixes_of names t) (sym (preds_of_steps-drop first steps k s inside is)) ∙ same

pub bearings_of_steps-next : (names : List (List ℕ)) (suffixes : List Suffix) (now all : List Bearing) (first : ℕ)
    (steps : List Step) (k : ℕ) (s : Step) → k < length steps → s ≡ get_or steps k s
    → now ++ bearings_from (length suffixes) (preds_of_steps (first + k) (drop k steps)) ≡ all
    → (now ++ bearings_from (length suffixes) (preds_at (first + k) s.preds))
    ++ bearings_from (length (suffixes ++ suffixes_of names (preds_at (first + k) s.preds)))
    (preds_of_steps (first + (k + 1)) (drop (k + 1) steps)) ≡ all
bearings_of_steps-next names suffixes now all first steps k s inside is same =
    let here : List StepPred = preds_at (first + k) s.preds in
    let later : List StepPred = preds_of_steps (first + (k + 1)) (drop (k + 1) steps) in
    ap (λ n. (now ++ bearings_from (length suffixes) here) ++ bearings_from n later)
    (length-append suffixes (suffixes_of names here))
    ∙ append_assoc now (bearings_from (length suffixes) here)
    (bearings_from (length suffixes + length (suffixes_of names here)) later)
    ∙ ap (λ t. now ++ t) (sym (bearings_from-append names (length suffixes) here later))
    ∙ ap (λ t. now ++ bearings_from (length suffixes) t) (sym (preds_of_steps-drop first steps k s inside is)) ∙ same

-- ---- the predicates of rules, from rule k on

preds_from-drop : (step : ℕ) (rules : List Rule) (k : ℕ) (r : Rule) → k < length rules → r ≡ get_or rules k r
    → preds_from step (drop k rules)
    ≡ preds_of_steps step r.path.steps ++ preds_from (step + length r.path.steps) (drop (k + 1) rules)
preds_from-drop step rules k r inside is =
    ap (preds_from step) (drop-cons rules k r inside)
    ∙ ap (λ (t : Rule). preds_of_steps step t.path.steps
    ++ preds_from (step + length t.path.steps) (drop (suc k) rules)) (sym is)
    ∙ ap (λ n. preds_of_steps step r.path.steps ++ preds_from (step + length r.path.steps) (drop n rules))
    (sym (add-one k))

pub preds_from-drop_all : (step : ℕ) (rules : List Rule) (k : ℕ) → length rules ≤ k
    → preds_from step (drop k rules) ≡ []
preds_from-drop_all step rules k past = ap (preds_from step) (drop_all k rules past)

-- the suffixes of one more rule fit, where those of all rules do
pub room_of_rule : (names : List (List ℕ)) (now all : List Suffix) (step : ℕ) (rules : List Rule) (k : ℕ) (r : Rule)
    → k < length rules → r ≡ get_or rules k r
    → now ++ suffixes_of names (preds_from step (drop k rules)) ≡ all → length all ≤ 320
    → length now + length (suffixes_of names (preds_of_steps step r.path.steps)) ≤ 320
room_of_rule names now all step rules k r inside is same few =
    let here : List StepPred = preds_of_steps step r.path.steps in
    let later : List StepPred = preds_from (step + length r.path.steps) (drop (k + 1) rules) in
    let split : now ++ (suffixes_of names here ++ suffixes_of names later) ≡ all =
    ap (λ t. now ++ t) (sym (suffixes_of-append names here later))
    ∙ ap (λ t. now ++ suffixes_of names t) (sym (preds_from-drop step rules k r inside is)) ∙ same in
    let counted = ap length split in
    let a = length-append now (suffixes_of names here ++ suffixes_of names later) in
    let b = length-append (suffixes_of names here) (suffixes_of names later) in
    omega (arith, counted, a, b, few)

pub suffixes_of_rules-next : (names : List (List ℕ)) (now all : List Suffix) (step : ℕ) (rules : List Rule) (k : ℕ)
    (r : Rule) → k < length rules → r ≡ get_or rules k r
    → now ++ suffixes_of names (preds_from step (drop k rules)) ≡ all
    → (now ++ suffixes_of names (preds_of_steps step r.path.steps))
    ++ suffixes_of names (preds_from (step + length r.path.steps) (drop (k + 1) rules)) ≡ all
suffixes_of_rules-next names now all step rules k r inside is same =
    let here : List StepPred = preds_of_steps step r.path.steps in
    let later : List StepPred = preds_from (step + length r.path.steps) (drop (k + 1) rules) in
    append_assoc now (suffixes_of names here) (suffixes_of names later)
    ∙ ap (λ t. now ++ t) (sym (suffixes_of-append names here later))
    ∙ ap (λ t. now ++ suffixes_of names t) (sym (preds_from-drop step rules k r inside is)) ∙ same

pub bearings_of_rules-next : (names : List (List ℕ)) (suffixes : List Suffix) (now all : List Bearing) (step : ℕ)
    (rules : List Rule) (k : ℕ) (r : Rule) → k < length rules → r ≡ get_or rules k r
    → now ++ bearings_from (length suffixes) (preds_from step (drop k rules)) ≡ all
    → (now ++ bearings_from (length suffixes) (preds_of_steps step r.path.steps))
    ++ bearings_from (length (suffixes ++ suffixes_of names (preds_of_steps step r.path.steps)))
    (preds_from (step + length r.path.steps) (drop (k + 1) rules)) ≡ all
bearings_of_rules-next names suffixes now all step rules k r inside is same =
    let here : List StepPred = preds_of_steps step r.path.steps in
    let later : List StepPred = preds_from (step + length r.path.steps) (drop (k + 1) rules) in
    ap (λ n. (now ++ bearings_from (length suffixes) here) ++ bearings_from n later)
    (length-append suffixes (suffixes_of names here))
    ∙ append_assoc now (bearings_from (length suffixes) here)
    (bearings_from (length suffixes + length (suffixes_of names here)) later)
    ∙ ap (λ t. now ++ t) (sym (bearings_from-append names (length suffixes) here later))
    ∙ ap (λ t. now ++ bearings_from (length suffixes) t) (sym (preds_from-drop step rules k r inside is)) ∙ same

-- ---- how many suffixes there are

length-suffixes_at : (names : List (List ℕ)) (step : ℕ) (preds : List Pred)
    → length (suffixes_of names (preds_at step preds)) ≡ way_steps_in preds + length preds
length-suffixes_at names step [] = refl
length-suffixes_at names step (p ∷ preds) =
    let here = length-suffixes_of-cons names (record { step = step; pred = p }) (preds_at step preds) in
    let rest = length-suffixes_at names step preds in
    let counted = sum_by-cons (λ (x : Pred). length x.way) p preds in
    omega (arith, here, rest, counted)

length-suffixes_of_steps : (names : List (List ℕ)) (step : ℕ) (steps : List Step)
    → length (suffixes_of names (preds_of_steps step steps))
    ≡ sum_by (λ s. way_steps_in s.preds) steps + preds_in_steps steps
length-suffixes_of_steps names step [] = refl
length-suffixes_of_steps names step (s ∷ steps) =
    let split = ap length (suffixes_of-append names (preds_at step s.preds) (preds_of_steps (step + 1) steps)) in
    let joined = length-append (suffixes_of names (preds_at step s.preds))
    (suffixes_of names (preds_of_steps (step + 1) steps)) in
    let here = length-suffixes_at names step s.preds in
    let rest = length-suffixes_of_steps names (step + 1) steps in
    let a = sum_by-cons (λ (x : Step). way_steps_in x.preds) s steps in
    let b = sum_by-cons (λ (x : Step). length x.preds) s steps in
    omega (arith, split, joined, here, rest, a, b)

-- there is one suffix for each step of a predicate, and one more for each predicate
pub length-suffixes_of : (names : List (List ℕ)) (step : ℕ) (rules : List Rule)
    → length (suffixes_of names (preds_from step rules)) ≡ pred_steps_in rules + preds_in rules
length-suffixes_of names step [] = refl
length-suffixes_of names step (r ∷ rules) =
    let next : ℕ = step + length r.path.steps in
    let split = ap length (suffixes_of-append names (preds_of_steps step r.path.steps) (preds_from next rules)) in
    let joined = length-append (suffixes_of names (preds_of_steps step r.path.steps))
    (suffixes_of names (preds_from next rules)) in
    let here = length-suffixes_of_steps names step r.path.steps in
    let rest = length-suffixes_of names next rules in
    let a = sum_by-cons (λ (x : Rule). sum_by (λ s. way_steps_in s.preds) x.path.steps) r rules in
    let b = sum_by-cons (λ (x : Rule). preds_in_steps x.path.steps) r rules in
    omega (arith, split, joined, here, rest, a, b)
