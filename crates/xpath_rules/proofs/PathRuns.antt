-- What the grammar spells is read: predicates, steps and paths.
use Rattle.std.proofs.Common.{◌≡◌, ℕ, zero, suc, ◌+◌, ◌-◌, ◌*◌, ◌<◌, ◌≤◌, min, Bool, true, false, not, cond, nat_eq, nat_le, nat_lt, ◌&&◌, ◌||◌, Option, Some, None, is_some, List, [], ◌∷◌, ◌++◌, length, map, flat_map, refl, sym, ap, subst, ◌∙◌, arith, append_assoc, append-nil, length-append, rules}
use lib.ListN.{replicate}
use Rattle.std.specs.List.{list_all}
use Rattle.std.specs.Char.{is_ascii_digit}
use Rattle.std.specs.Option.{option_map, option_and_then}
use Rattle.std.specs.Str.Parse.{digits_value}
use borrow.Author.Tests.{eqb-true}
use Rattle.acl_model.specs.Names.{begins_name, continues_name, is_spelled_as_name, is_name}
use Rattle.acl_model.specs.declared.path.Path.{Path}
use Rattle.acl_model.specs.declared.path.Step.{Step}
use Rattle.acl_model.specs.declared.path.Pred.{Pred}
use Rattle.acl_model.specs.declared.path.PredStep.{PredStep}
use Rattle.acl_model.specs.declared.path.Axis.{Axis}
use Rattle.acl_model.specs.declared.path.Axis.TheVariants.{Child, Descendant}
use Rattle.acl_model.specs.declared.path.Test.{Test}
use Rattle.acl_model.specs.declared.path.Test.TheVariants.{Any, Named}
use Rattle.acl_model.specs.declared.path.Op.{Op}
use Rattle.acl_model.specs.declared.path.Op.TheVariants.{Eq, Ne, Lt, Le, Gt, Ge}
use Rattle.acl_model.specs.declared.path.Operand.{Operand}
use Rattle.acl_model.specs.declared.path.Operand.TheVariants.{Text, Number, User}
use Rattle.xpath_rules.specs.declared.quote.Quote.{Quote}
use Rattle.xpath_rules.specs.declared.quote.Quote.TheVariants.{Double, Single}
use Rattle.xpath_rules.specs.declared.state.State.{State}
use Rattle.xpath_rules.specs.declared.state.Level.{Level}
use Rattle.xpath_rules.specs.declared.state.Inside.{Inside}
use Rattle.xpath_rules.specs.declared.state.WayLevel.{WayLevel}
use Rattle.xpath_rules.specs.declared.state.Body.{Body}
use Rattle.xpath_rules.specs.declared.state.Compared.{Compared}
use Rattle.xpath_rules.specs.declared.state.Digits.{Digits}
use Rattle.xpath_rules.specs.declared.state.Next.{Next}
use Rattle.xpath_rules.specs.Grammar.{WrittenOperand, WrittenCmp, WrittenPred, WrittenStep, spaces, slash_text, test_text, lead_text, further_text, way_text, is_way, is_test, body_text, is_attribute, is_dot, sign_text, quote_byte, is_quotable, minus_text, operand_text, is_operand, operand_of, cmp_text, is_cmp, cmp_of, pred_text, is_pred, pred_of, step_text, is_step, step_of, path_text, is_path, path_of}
use Rattle.xpath_rules.specs.PathMachine.{whole_way, compared_pred, bare_pred, number, whole_steps, with_pred, step, run, path_at_end}
use Rattle.xpath_rules.proofs.Names.{and_left, and_right, and_both, le_test, test_le, test_lt, lt_test, all_more, length_more, own, value_more, value_first, value_of_18, value_of_17}
use Rattle.xpath_rules.proofs.PathSoundness.{map_more}
use Rattle.xpath_rules.proofs.Soundness.{number_is}
use Rattle.xpath_rules.proofs.TestRuns.{takes, alike, other_than, run_spaces, run_more, begins_continues, name_run, test_run, step_at, step_goes, child_test, descendant_test, slash_run, inside_at, way_at, way_goes, open_test, way_child, way_descendant, lead_run, further_run, last_of, whole_last, more_run, regroup_two, regroup_three, regroup_four, way_run}
use Rattle.xpath_rules.proofs.CmpRuns.{EndsBody, sign_ends, body_ends, attribute_goes, attribute_run, body_run, EndsSign, sign_like, less_like, greater_like, sign_run, closing, literal_opens, literal_closes, not_true, literal_goes, number_at, number_goes, number_starts, number_ends, digits_run, operand_run}

-- ---- predicates

pub closing_run : (user : List ℕ) (level : Level) (pred : Pred) (n : ℕ) (rest : List ℕ) → run user (closing n rest) (inside_at level (Inside.AfterOperand pred)) ≡ run user rest (State.InStep (with_pred level pred))
closing_run user level pred n rest =
    run_spaces user (inside_at level (Inside.AfterOperand pred)) refl n (93 ∷ rest) ∙ takes user 93 rest (inside_at level (Inside.AfterOperand pred)) (State.InStep (with_pred level pred)) refl

pub bare_run : (user : List ℕ) (level : Level) (body : Body) → is_dot body.way body.attribute ≡ false → (n : ℕ) (rest : List ℕ)
    → run user (closing n rest) (inside_at level (Inside.AfterBody body)) ≡ run user rest (State.InStep (with_pred level (bare_pred body)))
bare_run user level body dot n rest =
    run_spaces user (inside_at level (Inside.AfterBody body)) refl n (93 ∷ rest) ∙ takes user 93 rest (inside_at level (Inside.AfterBody body)) (State.InStep (with_pred level (bare_pred body))) (rw dot refl)

-- What follows the body of a predicate.
pub cmp_run : (user : List ℕ) (level : Level) (way : List PredStep) (attribute : Option (List ℕ)) (cmp : Option WrittenCmp) (n : ℕ) (rest : List ℕ) → is_cmp cmp ≡ true → (not (is_dot way attribute) || is_some cmp) ≡ true
    → run user (cmp_text cmp ++ closing n rest) (inside_at level (Inside.AfterBody (record { way = way; attribute = attribute })))
    ≡ run user rest (State.InStep (with_pred level (record { way = way; attribute = attribute; cmp = option_map (cmp_of user) cmp })))
cmp_run user level way attribute None n rest is dot =
    bare_run user level (record { way = way; attribute = attribute }) (no_dot (is_dot way attribute) dot) n rest
  where
    no_dot : (a : Bool) → (not a || false) ≡ true → a ≡ false
    no_dot true h = cc
    no_dot false h = refl
cmp_run user level way attribute (Some c) n rest is dot =
    let body : Body = record { way = way; attribute = attribute } in
    ap (λ t. run user t (inside_at level (Inside.AfterBody body))) (regroup_four (spaces c.before) (sign_text c.op) (spaces c.between) (operand_text c.operand) (closing n rest))
    ∙ run_spaces user (inside_at level (Inside.AfterBody body)) refl c.before (sign_text c.op ++ (spaces c.between ++ (operand_text c.operand ++ closing n rest)))
    ∙ sign_run user level body c.op c.between c.operand is (closing n rest)
    ∙ operand_run user level (record { body = body; op = c.op }) c.operand is n rest
    ∙ closing_run user level (compared_pred (record { body = body; op = c.op }) (operand_of user c.operand)) n rest

-- A predicate's text in another grouping.
pub regroup_pred : (a b c d rest : List ℕ) → (a ++ (b ++ (c ++ (d ++ 93 ∷ [])))) ++ rest ≡ a ++ (b ++ (c ++ (d ++ 93 ∷ rest)))
regroup_pred a b c d rest = simp append_assoc

pub pred_run : (user : List ℕ) (level : Level) (p : WrittenPred) (rest : List ℕ) → is_pred p ≡ true
    → run user (pred_text p ++ rest) (State.InStep level) ≡ run user rest (State.InStep (with_pred level (pred_of user p)))
pred_run user level p rest is =
    let more : (is_attribute p.attribute && (is_cmp p.cmp && (not (is_dot p.way p.attribute) || is_some p.cmp))) ≡ true = and_right (is_way p.way) _ is in
    let last : (is_cmp p.cmp && (not (is_dot p.way p.attribute) || is_some p.cmp)) ≡ true = and_right (is_attribute p.attribute) _ more in
    ap (λ t. run user (91 ∷ t) (State.InStep level)) (regroup_pred (spaces p.before) (body_text p.way p.attribute) (cmp_text p.cmp) (spaces p.after) rest)
    ∙ takes user 91 (spaces p.before ++ (body_text p.way p.attribute ++ (cmp_text p.cmp ++ closing p.after rest))) (State.InStep level) (inside_at level Inside.Open) refl
    ∙ run_spaces user (inside_at level Inside.Open) refl p.before (body_text p.way p.attribute ++ (cmp_text p.cmp ++ closing p.after rest))
    ∙ body_run user level p.way p.attribute (and_left (is_way p.way) _ is) (and_left (is_attribute p.attribute) _ more) p.cmp p.after rest
    ∙ cmp_run user level p.way p.attribute p.cmp p.after rest (and_left (is_cmp p.cmp) _ last) (and_right (is_cmp p.cmp) _ last)

-- ---- paths

abbrev pub step_with : List Step → Axis → Test → List Pred → State
step_with done axis test preds = State.InStep (record { done = done; step = record { axis = axis; test = test; preds = preds } })

pub preds_run : (user : List ℕ) (done : List Step) (axis : Axis) (test : Test) (had : List Pred) (preds : List WrittenPred) (rest : List ℕ) → list_all is_pred preds ≡ true
    → run user (flat_map pred_text preds ++ rest) (step_with done axis test had) ≡ run user rest (step_with done axis test (had ++ map (pred_of user) preds))
preds_run user done axis test had [] rest is = ap (λ (l : List Pred). run user rest (step_with done axis test l)) (sym (append-nil had))
preds_run user done axis test had (p ∷ preds) rest is =
    ap (λ t. run user t (step_with done axis test had)) (append_assoc (pred_text p) (flat_map pred_text preds) rest)
    ∙ pred_run user (record { done = done; step = record { axis = axis; test = test; preds = had } }) p (flat_map pred_text preds ++ rest) (and_left (is_pred p) _ is)
    ∙ preds_run user done axis test (had ++ pred_of user p ∷ []) preds rest (and_right (is_pred p) _ is)
    ∙ ap (λ (l : List Pred). run user rest (step_with done axis test l)) (append_assoc had (pred_of user p ∷ []) (map (pred_of user) preds))

pub step_run : (user : List ℕ) (done : List Step) (s : State) → step user s 47 ≡ Some (State.AfterSlash done) → (w : WrittenStep) (rest : List ℕ) → is_step w ≡ true
    → run user (step_text w ++ rest) s ≡ run user rest (State.InStep (record { done = done; step = step_of user w }))
step_run user done s slashed w rest is =
    ap (λ t. run user t s) (regroup_three (slash_text w.axis) (test_text w.test) (flat_map pred_text w.preds) rest)
    ∙ slash_run user done s slashed w.axis w.test (flat_map pred_text w.preds ++ rest) (and_left (is_test w.test) _ is)
    ∙ preds_run user done w.axis w.test [] w.preds rest (and_right (is_test w.test) _ is)

-- The level of the last step of a path.
abbrev pub last_level : List ℕ → Level → List WrittenStep → Level
last_level user level [] = level
last_level user level (w ∷ more) = last_level user (record { done = whole_steps level; step = step_of user w }) more

pub whole_level : (user : List ℕ) (level : Level) (more : List WrittenStep) → whole_steps (last_level user level more) ≡ whole_steps level ++ map (step_of user) more
whole_level user level [] = sym (append-nil (whole_steps level))
whole_level user level (w ∷ more) = whole_level user (record { done = whole_steps level; step = step_of user w }) more ∙ append_assoc (whole_steps level) (step_of user w ∷ []) (map (step_of user) more)

pub steps_run : (user : List ℕ) (level : Level) (more : List WrittenStep) (rest : List ℕ) → list_all is_step more ≡ true
    → run user (path_text more ++ rest) (State.InStep level) ≡ run user rest (State.InStep (last_level user level more))
steps_run user level [] rest is = refl
steps_run user level (w ∷ more) rest is =
    ap (λ t. run user t (State.InStep level)) (append_assoc (step_text w) (path_text more) rest)
    ∙ step_run user (whole_steps level) (State.InStep level) refl w (path_text more ++ rest) (and_left (is_step w) _ is)
    ∙ steps_run user (record { done = whole_steps level; step = step_of user w }) more rest (and_right (is_step w) _ is)

-- Where the text of a written path leads.
abbrev pub end_of : List ℕ → List WrittenStep → State
end_of user [] = State.Start
end_of user (w ∷ more) = State.InStep (last_level user (record { done = []; step = step_of user w }) more)

pub path_run : (user : List ℕ) (written : List WrittenStep) → is_path written ≡ true → run user (path_text written) State.Start ≡ Some (end_of user written)
unfolding run
path_run user [] is = cc
path_run user (w ∷ more) is =
    step_run user [] State.Start refl w (path_text more) (and_left (is_step w) _ is)
    ∙ ap (λ t. run user t (State.InStep (record { done = []; step = step_of user w }))) (sym (append-nil (path_text more)))
    ∙ steps_run user (record { done = []; step = step_of user w }) more [] (and_right (is_step w) _ is)

pub end_is : (user : List ℕ) (written : List WrittenStep) → is_path written ≡ true → path_at_end (end_of user written) ≡ Some (path_of user written)
end_is user [] is = cc
end_is user (w ∷ more) is = ap (λ (steps : List Step). Some (record { steps = steps })) (whole_level user (record { done = []; step = step_of user w }) more)
