-- A path that was read has at most as many steps, predicates and predicate steps as it has bytes.
use Rattle.std.proofs.Common.{◌≡◌, ℕ, suc, ◌+◌, ◌<◌, ◌≤◌, min, Bool, true, nat_le, ◌&&◌, Option, Some, None, Ok, List, [], ◌∷◌, ◌++◌, length, map, flat_map, take, get_or, sum_by, refl, sym, ap, ◌∙◌, arith, length-append, add-one}
use Rattle.std.specs.List.{list_all}
use Rattle.std.proofs.lemmas.List.Sums.{sum_by-cons, sum_by-append}
use Rattle.std.proofs.lemmas.Grind.{common_steps}
use Rattle.std.proofs.Math.Seq.{take-suc}
use Rattle.acl_model.specs.Limits.{most_path_bytes}
use Rattle.acl_model.specs.Names.{is_spelled_as_name, is_name}
use Rattle.acl_model.specs.declared.path.Path.{Path}
use Rattle.acl_model.specs.declared.path.Step.{Step}
use Rattle.acl_model.specs.declared.path.Pred.{Pred}
use Rattle.acl_model.specs.declared.path.PredStep.{PredStep}
use Rattle.acl_model.specs.declared.path.Axis.{Axis}
use Rattle.acl_model.specs.declared.path.Axis.TheVariants.{Child, Descendant}
use Rattle.acl_model.specs.declared.path.Test.{Test}
use Rattle.acl_model.specs.declared.path.Test.TheVariants.{Any, Named}
use Rattle.xpath_rules.specs.Grammar.{WrittenCmp, WrittenPred, WrittenStep, spaces, slash_text, test_text, is_test, lead_text, further_text, way_text, is_way, body_text, is_attribute, is_dot, cmp_text, is_cmp, pred_text, is_pred, pred_of, step_text, is_step, step_of, path_text, is_path, path_of}
use Rattle.xpath_rules.specs.PathReading.{Spells}
use Rattle.xpath_rules.specs.PathMachine.{read_path_of}
use Rattle.xpath_rules.specs.PathAnswers.{CanBeRead}
use Rattle.xpath_rules.specs.Counting.{step_count, pred_count, way_test_count, pred_step_count, in_32_bits}
use Rattle.xpath_rules.proofs.Names.{and_left, and_right, test_le}
use Rattle.xpath_rules.proofs.Places.{read_within, read_spelled}

test_length : (test : Test) → is_test test ≡ true → 1 ≤ length (test_text test)
test_length Any is = omega arith
test_length (Named []) is = cc
test_length (Named (c ∷ cs)) is = omega arith

slash_length : (axis : Axis) → 1 ≤ length (slash_text axis)
slash_length Child = omega arith
slash_length Descendant = omega arith

further_length : (way : List PredStep) → is_way way ≡ true → length way ≤ length (flat_map further_text way)
further_length [] is = omega arith
further_length (s ∷ way) is =
    let one = slash_length s.axis in
    let more = further_length way (and_right (is_test s.test) _ is) in
    let a = length-append (further_text s) (flat_map further_text way) in
    let b = length-append (slash_text s.axis) (test_text s.test) in
    omega (arith, one, more, a, b)

way_length : (way : List PredStep) → is_way way ≡ true → length way ≤ length (way_text way)
way_length [] is = omega arith
way_length (s ∷ way) is =
    let one = test_length s.test (and_left (is_test s.test) _ is) in
    let more = further_length way (and_right (is_test s.test) _ is) in
    let a = length-append (lead_text s.axis) (test_text s.test ++ flat_map further_text way) in
    let b = length-append (test_text s.test) (flat_map further_text way) in
    omega (arith, one, more, a, b)

body_length : (way : List PredStep) (attribute : Option (List ℕ)) → is_way way ≡ true → length way ≤ length (body_text way attribute)
body_length [] None is = omega arith
body_length [] (Some name) is = omega arith
body_length (s ∷ way) None is = way_length (s ∷ way) is
body_length (s ∷ way) (Some name) is = let w = way_length (s ∷ way) is in let a = length-append (way_text (s ∷ way)) (47 ∷ 64 ∷ name) in omega (arith, w, a)

pred_length : (p : WrittenPred) → is_pred p ≡ true → length p.way + 1 ≤ length (pred_text p)
pred_length p is =
    let body : List ℕ = body_text p.way p.attribute in
    let tail : List ℕ = cmp_text p.cmp ++ (spaces p.after ++ 93 ∷ []) in
    let w : length p.way ≤ length body = body_length p.way p.attribute (and_left (is_way p.way) _ is) in
    let a = length-append (spaces p.before) (body ++ tail) in
    let b = length-append body tail in
    omega (arith, w, a, b)

preds_length : (user : List ℕ) (preds : List WrittenPred) → list_all is_pred preds ≡ true
    → (length (map (pred_of user) preds) ≤ length (flat_map pred_text preds)) × (way_test_count (map (pred_of user) preds) ≤ length (flat_map pred_text preds))
preds_length user [] is = (omega arith, omega arith)
preds_length user (p ∷ preds) is =
    let one = pred_length p (and_left (is_pred p) _ is) in
    let more = preds_length user preds (and_right (is_pred p) _ is) in
    let a = length-append (pred_text p) (flat_map pred_text preds) in
    let s = sum_by-cons (λ (p : Pred). length p.way) (pred_of user p) (map (pred_of user) preds) in
    (omega (arith, one, more.0, a), omega (arith, one, more.1, a, s))

-- The three counts of steps that are written.
steps_length : (user : List ℕ) (steps : List WrittenStep) → list_all is_step steps ≡ true
    → (length (map (step_of user) steps) ≤ length (path_text steps))
    × (sum_by (λ s. length s.preds) (map (step_of user) steps) ≤ length (path_text steps))
    × (sum_by (λ s. way_test_count s.preds) (map (step_of user) steps) ≤ length (path_text steps))
steps_length user [] is = (omega arith, omega arith, omega arith)
steps_length user (s ∷ steps) is =
    let one = slash_length s.axis in
    let mine = preds_length user s.preds (and_right (is_test s.test) _ (and_left (is_step s) _ is)) in
    let more = steps_length user steps (and_right (is_step s) _ is) in
    let a = length-append (step_text s) (path_text steps) in
    let b = length-append (slash_text s.axis) (test_text s.test ++ flat_map pred_text s.preds) in
    let d = length-append (test_text s.test) (flat_map pred_text s.preds) in
    let e = sum_by-cons (λ (s : Step). length s.preds) (step_of user s) (map (step_of user) steps) in
    let f = sum_by-cons (λ (s : Step). way_test_count s.preds) (step_of user s) (map (step_of user) steps) in
    (omega (arith, one, more.0, a, b), omega (arith, mine.0, more.1, a, b, d, e), omega (arith, mine.1, more.2, a, b, d, f))

all_steps : (steps : List WrittenStep) → is_path steps ≡ true → list_all is_step steps ≡ true
all_steps [] is = refl
all_steps (s ∷ steps) is = is

spelled_few : (user bytes : List ℕ) (path : Path) → Spells user bytes path → length bytes ≤ 1024
    → (step_count path ≤ 1024) × (pred_count path ≤ 1024) × (pred_step_count path ≤ 1024)
spelled_few user bytes path s few =
    let counts = steps_length user s.written (all_steps s.written s.in_form) in
    let n = ap (length {A = ℕ}) s.text in
    let a = ap step_count s.meaning in let b = ap pred_count s.meaning in let d = ap pred_step_count s.meaning in
    (omega (arith, counts.0, n, a, few), omega (arith, counts.1, n, b, few), omega (arith, counts.2, n, d, few))

-- A path that can be read has at most 1,024 of each.
pub read_few : (user : List ℕ) (path : Path) → CanBeRead user path → (step_count path ≤ 1024) × (pred_count path ≤ 1024) × (pred_step_count path ≤ 1024)
read_few user path can = spelled_few user can.0 path (read_spelled user can.0 path can.1) (read_within user can.0 path can.1)

pub small : (n : ℕ) → n ≤ 1024 → in_32_bits n ≡ n
small n few = omega arith
