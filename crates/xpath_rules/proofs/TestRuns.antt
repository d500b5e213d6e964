-- What the grammar spells is read: names and tests, steps and ways.
use Rattle.std.proofs.Common.{◌≡◌, ℕ, zero, suc, ◌+◌, ◌-◌, ◌*◌, ◌<◌, ◌≤◌, min, Bool, true, false, not, cond, nat_eq, nat_le, nat_lt, ◌&&◌, ◌||◌, Option, Some, None, is_some, List, [], ◌∷◌, ◌++◌, length, map, flat_map, refl, sym, ap, subst, ◌∙◌, arith, append_assoc, append-nil, length-append, rules}
use lib.ListN.{replicate}
use Rattle.std.specs.List.{list_all}
use Rattle.std.specs.Char.{is_ascii_digit}
use Rattle.std.specs.Option.{option_map, option_and_then}
use Rattle.std.specs.Str.Parse.{digits_value}
use borrow.Author.Tests.{eqb-true}
use Rattle.acl_model.specs.Names.{begins_name, continues_name, is_spelled_as_name, is_name}
use Rattle.acl_model.specs.declared.path.Path.{Path}
use Rattle.acl_model.specs.declared.path.Step.{Step}
use Rattle.acl_model.specs.declared.path.Pred.{Pred}
use Rattle.acl_model.specs.declared.path.PredStep.{PredStep}
use Rattle.acl_model.specs.declared.path.Axis.{Axis}
use Rattle.acl_model.specs.declared.path.Axis.TheVariants.{Child, Descendant}
use Rattle.acl_model.specs.declared.path.Test.{Test}
use Rattle.acl_model.specs.declared.path.Test.TheVariants.{Any, Named}
use Rattle.acl_model.specs.declared.path.Op.{Op}
use Rattle.acl_model.specs.declared.path.Op.TheVariants.{Eq, Ne, Lt, Le, Gt, Ge}
use Rattle.acl_model.specs.declared.path.Operand.{Operand}
use Rattle.acl_model.specs.declared.path.Operand.TheVariants.{Text, Number, User}
use Rattle.xpath_rules.specs.declared.quote.Quote.{Quote}
use Rattle.xpath_rules.specs.declared.quote.Quote.TheVariants.{Double, Single}
use Rattle.xpath_rules.specs.declared.state.State.{State}
use Rattle.xpath_rules.specs.declared.state.Level.{Level}
use Rattle.xpath_rules.specs.declared.state.Inside.{Inside}
use Rattle.xpath_rules.specs.declared.state.WayLevel.{WayLevel}
use Rattle.xpath_rules.specs.declared.state.Body.{Body}
use Rattle.xpath_rules.specs.declared.state.Compared.{Compared}
use Rattle.xpath_rules.specs.declared.state.Digits.{Digits}
use Rattle.xpath_rules.specs.declared.state.Next.{Next}
use Rattle.xpath_rules.specs.Grammar.{WrittenOperand, WrittenCmp, WrittenPred, WrittenStep, spaces, slash_text, test_text, lead_text, further_text, way_text, is_way, is_test, body_text, is_attribute, is_dot, sign_text, quote_byte, is_quotable, minus_text, operand_text, is_operand, operand_of, cmp_text, is_cmp, cmp_of, pred_text, is_pred, pred_of, step_text, is_step, step_of, path_text, is_path, path_of}
use Rattle.xpath_rules.specs.PathMachine.{whole_way, compared_pred, bare_pred, number, whole_steps, with_pred, step, run, path_at_end}
use Rattle.xpath_rules.proofs.Names.{and_left, and_right, and_both, le_test, test_le, test_lt, lt_test, all_more, length_more, own, value_more, value_first, value_of_18, value_of_17}
use Rattle.xpath_rules.proofs.PathSoundness.{map_more}
use Rattle.xpath_rules.proofs.Soundness.{number_is}

-- ---- bytes

-- A byte that is taken.
pub takes : (user : List ℕ) (b : ℕ) (rest : List ℕ) (s t : State) → step user s b ≡ Some t → run user (b ∷ rest) s ≡ run user rest t
unfolding run
takes user b rest s t e = ap (λ o. option_and_then (run user rest) o) e

-- Two states that take a byte alike.
pub alike : (user : List ℕ) (b : ℕ) (rest : List ℕ) (s t : State) → step user s b ≡ step user t b → run user (b ∷ rest) s ≡ run user (b ∷ rest) t
unfolding run
alike user b rest s t e = ap (λ o. option_and_then (run user rest) o) e

-- A byte that passes a test differs from each byte that does not.
pub other_than : (p : ℕ → Bool) (b k : ℕ) → p b ≡ true → p k ≡ false → nat_eq b k ≡ false
other_than p b k passes fails = elim (nat_eq b k) as (λ v. nat_eq b k ≡ v → v ≡ false) [
  | true ↦ λ is. let same = ap p (eqb-true b k is) in cc
  | false ↦ λ is. refl
] refl

pub run_spaces : (user : List ℕ) (s : State) → step user s 32 ≡ Some s → (n : ℕ) (rest : List ℕ) → run user (spaces n ++ rest) s ≡ run user rest s
run_spaces user s stays zero rest = refl
run_spaces user s stays (suc n) rest = takes user 32 (spaces n ++ rest) s s stays ∙ run_spaces user s stays n rest

-- Bytes that pass a test, up to a number of them.
pub run_more : (user : List ℕ) (p : ℕ → Bool) (most : ℕ) (to : List ℕ → State)
    (go : (xs : List ℕ) (b : ℕ) → list_all p xs ≡ true → p b ≡ true → length xs < most → step user (to xs) b ≡ Some (to (xs ++ b ∷ [])))
    (xs cs rest : List ℕ) → list_all p xs ≡ true → list_all p cs ≡ true → length xs + length cs ≤ most → run user (cs ++ rest) (to xs) ≡ run user rest (to (xs ++ cs))
run_more user p most to go xs [] rest had all few = ap (λ l. run user rest (to l)) (sym (append-nil xs))
run_more user p most to go xs (c ∷ cs) rest had all few =
    let one : p c ≡ true = and_left (p c) _ all in
    let n = length_more xs c in
    takes user c (cs ++ rest) (to xs) (to (xs ++ c ∷ [])) (go xs c had one (omega arith))
    ∙ run_more user p most to go (xs ++ c ∷ []) cs rest (all_more p xs c had one) (and_right (p c) _ all) (omega (arith, n))
    ∙ ap (λ l. run user rest (to l)) (append_assoc xs (c ∷ []) cs)

-- ---- names and tests

pub begins_continues : (b : ℕ) → begins_name b ≡ true → continues_name b ≡ true
begins_continues b h = rw h refl

pub name_run : (user : List ℕ) (s : State) (to : List ℕ → State)
    (first : (b : ℕ) → begins_name b ≡ true → step user s b ≡ Some (to (b ∷ [])))
    (go : (xs : List ℕ) (b : ℕ) → list_all continues_name xs ≡ true → continues_name b ≡ true → length xs < 255 → step user (to xs) b ≡ Some (to (xs ++ b ∷ [])))
    (name rest : List ℕ) → is_name name ≡ true → run user (name ++ rest) s ≡ run user rest (to name)
name_run user s to first go [] rest is = cc
name_run user s to first go (c ∷ cs) rest is =
    let spelled : (begins_name c && list_all continues_name cs) ≡ true = and_left (is_spelled_as_name (c ∷ cs)) _ is in
    let begins : begins_name c ≡ true = and_left (begins_name c) _ spelled in
    let few : length (c ∷ cs) ≤ 255 = test_le _ _ (and_right (is_spelled_as_name (c ∷ cs)) _ is) in
    takes user c (cs ++ rest) s (to (c ∷ [])) (first c begins)
    ∙ run_more user continues_name 255 to go (c ∷ []) cs rest (and_both _ _ (begins_continues c begins) refl) (and_right (begins_name c) _ spelled) (omega arith)

pub test_run : (user : List ℕ) (s : State) (to : Test → State)
    (star : step user s 42 ≡ Some (to Any))
    (first : (b : ℕ) → begins_name b ≡ true → step user s b ≡ Some (to (Named (b ∷ []))))
    (go : (xs : List ℕ) (b : ℕ) → list_all continues_name xs ≡ true → continues_name b ≡ true → length xs < 255 → step user (to (Named xs)) b ≡ Some (to (Named (xs ++ b ∷ []))))
    (test : Test) (rest : List ℕ) → is_test test ≡ true → run user (test_text test ++ rest) s ≡ run user rest (to test)
test_run user s to star first go Any rest is = takes user 42 rest s (to Any) star
test_run user s to star first go (Named name) rest is = name_run user s (λ xs. to (Named xs)) first go name rest is

-- ---- steps

abbrev pub step_at : List Step → Axis → Test → State
step_at done axis test = State.InStep (record { done = done; step = record { axis = axis; test = test; preds = [] } })

pub step_goes : (user : List ℕ) (done : List Step) (axis : Axis) (xs : List ℕ) (b : ℕ) → list_all continues_name xs ≡ true → continues_name b ≡ true → length xs < 255
    → step user (step_at done axis (Named xs)) b ≡ Some (step_at done axis (Named (xs ++ b ∷ [])))
step_goes user done axis xs b had more few = let lt = lt_test (length xs) 255 few in rw (more, lt) refl

pub child_test : (user : List ℕ) (done : List Step) (test : Test) (rest : List ℕ) → is_test test ≡ true
    → run user (test_text test ++ rest) (State.AfterSlash done) ≡ run user rest (step_at done Child test)
child_test user done test rest is = test_run user (State.AfterSlash done) (step_at done Child) refl
    (λ b h. let a = other_than begins_name b 47 h refl in let c = other_than begins_name b 42 h refl in rw (a, c, h) refl)
    (step_goes user done Child) test rest is

pub descendant_test : (user : List ℕ) (done : List Step) (test : Test) (rest : List ℕ) → is_test test ≡ true
    → run user (test_text test ++ rest) (State.AfterSlashes done) ≡ run user rest (step_at done Descendant test)
descendant_test user done test rest is = test_run user (State.AfterSlashes done) (step_at done Descendant) refl
    (λ b h. let c = other_than begins_name b 42 h refl in rw (c, h) refl)
    (step_goes user done Descendant) test rest is

-- After the first slash of a step.
pub slash_run : (user : List ℕ) (done : List Step) (s : State) (slashed : step user s 47 ≡ Some (State.AfterSlash done)) (axis : Axis) (test : Test) (rest : List ℕ) → is_test test ≡ true
    → run user (slash_text axis ++ (test_text test ++ rest)) s ≡ run user rest (step_at done axis test)
slash_run user done s slashed Child test rest is = takes user 47 (test_text test ++ rest) s (State.AfterSlash done) slashed ∙ child_test user done test rest is
slash_run user done s slashed Descendant test rest is =
    takes user 47 (47 ∷ (test_text test ++ rest)) s (State.AfterSlash done) slashed
    ∙ takes user 47 (test_text test ++ rest) (State.AfterSlash done) (State.AfterSlashes done) refl
    ∙ descendant_test user done test rest is

-- ---- ways

abbrev pub inside_at : Level → Inside → State
inside_at level inside = State.InPredicate level inside

abbrev pub way_at : Level → List PredStep → Axis → Test → State
way_at level way axis test = inside_at level (Inside.InWay (record { done = way; step = record { axis = axis; test = test } }))

pub way_goes : (user : List ℕ) (level : Level) (way : List PredStep) (axis : Axis) (xs : List ℕ) (b : ℕ) → list_all continues_name xs ≡ true → continues_name b ≡ true → length xs < 255
    → step user (way_at level way axis (Named xs)) b ≡ Some (way_at level way axis (Named (xs ++ b ∷ [])))
way_goes user level way axis xs b had more few = let lt = lt_test (length xs) 255 few in rw (more, lt) refl

pub open_test : (user : List ℕ) (level : Level) (test : Test) (rest : List ℕ) → is_test test ≡ true
    → run user (test_text test ++ rest) (inside_at level Inside.Open) ≡ run user rest (way_at level [] Child test)
open_test user level test rest is = test_run user (inside_at level Inside.Open) (way_at level [] Child) refl
    (λ b h. let a = other_than begins_name b 32 h refl in let c = other_than begins_name b 46 h refl in let d = other_than begins_name b 64 h refl in let e = other_than begins_name b 42 h refl in rw (a, c, d, e, h) refl)
    (way_goes user level [] Child) test rest is

pub way_child : (user : List ℕ) (level : Level) (way : List PredStep) (test : Test) (rest : List ℕ) → is_test test ≡ true
    → run user (test_text test ++ rest) (inside_at level (Inside.WaySlash way)) ≡ run user rest (way_at level way Child test)
way_child user level way test rest is = test_run user (inside_at level (Inside.WaySlash way)) (way_at level way Child) refl
    (λ b h. let a = other_than begins_name b 47 h refl in let c = other_than begins_name b 64 h refl in let e = other_than begins_name b 42 h refl in rw (a, c, e, h) refl)
    (way_goes user level way Child) test rest is

pub way_descendant : (user : List ℕ) (level : Level) (way : List PredStep) (test : Test) (rest : List ℕ) → is_test test ≡ true
    → run user (test_text test ++ rest) (inside_at level (Inside.WaySlashes way)) ≡ run user rest (way_at level way Descendant test)
way_descendant user level way test rest is = test_run user (inside_at level (Inside.WaySlashes way)) (way_at level way Descendant) refl
    (λ b h. let e = other_than begins_name b 42 h refl in rw (e, h) refl)
    (way_goes user level way Descendant) test rest is

-- The first step of a way.
pub lead_run : (user : List ℕ) (level : Level) (s : PredStep) (rest : List ℕ) → is_test s.test ≡ true
    → run user (lead_text s.axis ++ (test_text s.test ++ rest)) (inside_at level Inside.Open) ≡ run user rest (inside_at level (Inside.InWay (record { done = []; step = s })))
lead_run user level s rest is = by_axis s.axis
  where
    by_axis : (axis : Axis) → run user (lead_text axis ++ (test_text s.test ++ rest)) (inside_at level Inside.Open) ≡ run user rest (way_at level [] axis s.test)
    by_axis Child = open_test user level s.test rest is
    by_axis Descendant =
        takes user 46 (47 ∷ 47 ∷ (test_text s.test ++ rest)) (inside_at level Inside.Open) (inside_at level Inside.Dot) refl
        ∙ takes user 47 (47 ∷ (test_text s.test ++ rest)) (inside_at level Inside.Dot) (inside_at level Inside.DotSlash) refl
        ∙ takes user 47 (test_text s.test ++ rest) (inside_at level Inside.DotSlash) (inside_at level (Inside.WaySlashes [])) refl
        ∙ way_descendant user level [] s.test rest is

-- A further step of a way.
pub further_run : (user : List ℕ) (level : Level) (way : WayLevel) (s : PredStep) (rest : List ℕ) → is_test s.test ≡ true
    → run user (further_text s ++ rest) (inside_at level (Inside.InWay way)) ≡ run user rest (inside_at level (Inside.InWay (record { done = whole_way way; step = s })))
further_run user level way s rest is =
    ap (λ t. run user t (inside_at level (Inside.InWay way))) (append_assoc (slash_text s.axis) (test_text s.test) rest) ∙ by_axis s.axis
  where
    slashed : step user (inside_at level (Inside.InWay way)) 47 ≡ Some (inside_at level (Inside.WaySlash (whole_way way)))
    slashed = refl

    by_axis : (axis : Axis) → run user (slash_text axis ++ (test_text s.test ++ rest)) (inside_at level (Inside.InWay way)) ≡ run user rest (way_at level (whole_way way) axis s.test)
    by_axis Child =
        takes user 47 (test_text s.test ++ rest) (inside_at level (Inside.InWay way)) (inside_at level (Inside.WaySlash (whole_way way))) slashed
        ∙ way_child user level (whole_way way) s.test rest is
    by_axis Descendant =
        takes user 47 (47 ∷ (test_text s.test ++ rest)) (inside_at level (Inside.InWay way)) (inside_at level (Inside.WaySlash (whole_way way))) slashed
        ∙ takes user 47 (test_text s.test ++ rest) (inside_at level (Inside.WaySlash (whole_way way))) (inside_at level (Inside.WaySlashes (whole_way way))) refl
        ∙ way_descendant user level (whole_way way) s.test rest is

-- The level of the last step of a way.
abbrev pub last_of : WayLevel → List PredStep → WayLevel
last_of way [] = way
last_of way (s ∷ more) = last_of (record { done = whole_way way; step = s }) more

pub whole_last : (way : WayLevel) (more : List PredStep) → whole_way (last_of way more) ≡ whole_way way ++ more
whole_last way [] = sym (append-nil (whole_way way))
whole_last way (s ∷ more) = whole_last (record { done = whole_way way; step = s }) more ∙ append_assoc (whole_way way) (s ∷ []) more

pub more_run : (user : List ℕ) (level : Level) (way : WayLevel) (more : List PredStep) (rest : List ℕ) → is_way more ≡ true
    → run user (flat_map further_text more ++ rest) (inside_at level (Inside.InWay way)) ≡ run user rest (inside_at level (Inside.InWay (last_of way more)))
more_run user level way [] rest is = refl
more_run user level way (s ∷ more) rest is =
    ap (λ t. run user t (inside_at level (Inside.InWay way))) (append_assoc (further_text s) (flat_map further_text more) rest)
    ∙ further_run user level way s (flat_map further_text more ++ rest) (and_left (is_test s.test) _ is)
    ∙ more_run user level (record { done = whole_way way; step = s }) more rest (and_right (is_test s.test) _ is)

pub regroup_two : (a b c : List ℕ) → (a ++ b) ++ c ≡ a ++ (b ++ c)
regroup_two a b c = append_assoc a b c

pub regroup_three : (a b c d : List ℕ) → (a ++ (b ++ c)) ++ d ≡ a ++ (b ++ (c ++ d))
regroup_three a b c d = simp append_assoc

pub regroup_four : (a b c d e : List ℕ) → (a ++ (b ++ (c ++ d))) ++ e ≡ a ++ (b ++ (c ++ (d ++ e)))
regroup_four a b c d e = simp append_assoc

-- A whole way.
pub way_run : (user : List ℕ) (level : Level) (s : PredStep) (more : List PredStep) (rest : List ℕ) → is_way (s ∷ more) ≡ true
    → run user (way_text (s ∷ more) ++ rest) (inside_at level Inside.Open) ≡ run user rest (inside_at level (Inside.InWay (last_of (record { done = []; step = s }) more)))
way_run user level s more rest is =
    ap (λ t. run user t (inside_at level Inside.Open)) (regroup_three (lead_text s.axis) (test_text s.test) (flat_map further_text more) rest)
    ∙ lead_run user level s (flat_map further_text more ++ rest) (and_left (is_test s.test) _ is)
    ∙ more_run user level (record { done = []; step = s }) more rest (and_right (is_test s.test) _ is)
