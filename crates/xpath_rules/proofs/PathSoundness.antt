-- What was read is spelled so: each state of a path has a text, and each byte that is taken makes it one byte longer.
use Rattle.std.proofs.Common.{◌≡◌, ℕ, suc, Bool, true, false, nat_eq, nat_lt, ◌&&◌, Option, Some, None, List, [], ◌∷◌, ◌++◌, length, map, flat_map, refl, sym, ap, subst, ◌∙◌, arith, append_assoc, append-nil, length-append}
use Rattle.std.specs.List.{list_all}
use Rattle.std.specs.Option.{option_map, option_and_then}
use Rattle.std.proofs.lemmas.List.Concat.{flat_map-append}
use borrow.Author.Tests.{eqb-true}
use Rattle.acl_model.specs.Names.{begins_name, continues_name, is_name}
use Rattle.acl_model.specs.declared.path.Path.{Path}
use Rattle.acl_model.specs.declared.path.Step.{Step}
use Rattle.acl_model.specs.declared.path.Pred.{Pred}
use Rattle.acl_model.specs.declared.path.Axis.{Axis}
use Rattle.acl_model.specs.declared.path.Axis.TheVariants.{Child, Descendant}
use Rattle.acl_model.specs.declared.path.Test.{Test}
use Rattle.acl_model.specs.declared.path.Test.TheVariants.{Any, Named}
use Rattle.xpath_rules.specs.declared.state.State.{State}
use Rattle.xpath_rules.specs.declared.state.Level.{Level}
use Rattle.xpath_rules.specs.declared.state.Inside.{Inside}
use Rattle.xpath_rules.specs.declared.state.Next.{Next}
use Rattle.xpath_rules.specs.Grammar.{WrittenPred, WrittenStep, slash_text, test_text, is_test, pred_text, is_pred, pred_of, step_text, is_step, step_of, path_text, is_path, path_of}
use Rattle.xpath_rules.specs.PathReading.{Spells}
use Rattle.xpath_rules.specs.PathMachine.{Row, choose, test_rows, longer_test, has_room, whole_steps, path_step, goes_on, longer_step, with_pred, state_after, inside_rows, path_rows, step, run, path_at_end}
use Rattle.xpath_rules.proofs.Tables.{AllRows, chosen}
use Rattle.xpath_rules.proofs.Names.{and_left, and_right, and_both, all_more, first_name, name_more, test_more, test_text_more}
use Rattle.xpath_rules.proofs.SoFar.{SoFar, text_in, state_in, IsFormed, Writes, WritesPred, Leads}
use Rattle.xpath_rules.proofs.Soundness.{rows_lead}

-- ---- one element more

pub map_more : {X Y : Type 0} (f : X → Y) (xs : List X) (x : X) → map f (xs ++ x ∷ []) ≡ map f xs ++ f x ∷ []
map_more f [] x = refl
map_more f (y ∷ xs) x = ap (λ ys. f y ∷ ys) (map_more f xs x)

pub flat_more : {X : Type 0} (f : X → List ℕ) (xs : List X) (x : X) → flat_map f (xs ++ x ∷ []) ≡ flat_map f xs ++ f x
flat_more f xs x = flat_map-append f xs (x ∷ []) ∙ ap (λ t. flat_map f xs ++ t) (append-nil (f x))

-- ---- what was written so far

-- What was written of a path, for each state.
pub data PathSoFar : Type 0 where
  Start : PathSoFar
  AfterSlash : List WrittenStep → PathSoFar
  AfterSlashes : List WrittenStep → PathSoFar
  InStep : List WrittenStep → WrittenStep → PathSoFar
  InPredicate : List WrittenStep → WrittenStep → SoFar → PathSoFar

abbrev pub text_of : PathSoFar → List ℕ
text_of PathSoFar.Start = []
text_of (PathSoFar.AfterSlash done) = path_text done ++ 47 ∷ []
text_of (PathSoFar.AfterSlashes done) = path_text done ++ 47 ∷ 47 ∷ []
text_of (PathSoFar.InStep done s) = path_text done ++ step_text s
text_of (PathSoFar.InPredicate done s w) = path_text done ++ (step_text s ++ text_in w)

abbrev pub level_of : List ℕ → List WrittenStep → WrittenStep → Level
level_of user done s = record { done = map (step_of user) done; step = step_of user s }

abbrev pub state_of : List ℕ → PathSoFar → State
state_of user PathSoFar.Start = State.Start
state_of user (PathSoFar.AfterSlash done) = State.AfterSlash (map (step_of user) done)
state_of user (PathSoFar.AfterSlashes done) = State.AfterSlashes (map (step_of user) done)
state_of user (PathSoFar.InStep done s) = State.InStep (level_of user done s)
state_of user (PathSoFar.InPredicate done s w) = State.InPredicate (level_of user done s) (state_in user w)

abbrev pub IsPathFormed : PathSoFar → Type 0
IsPathFormed PathSoFar.Start = Unit {0}
IsPathFormed (PathSoFar.AfterSlash done) = list_all is_step done ≡ true
IsPathFormed (PathSoFar.AfterSlashes done) = list_all is_step done ≡ true
IsPathFormed (PathSoFar.InStep done s) = (list_all is_step done ≡ true) × (is_step s ≡ true)
IsPathFormed (PathSoFar.InPredicate done s w) = (list_all is_step done ≡ true) × (is_step s ≡ true) × IsFormed w

-- The text leads to this state.
pub record Reads (user text : List ℕ) (state : State) : Type 0 where
  pub written : PathSoFar
  pub formed : IsPathFormed written
  pub text_is : text_of written ≡ text
  pub state_is : state_of user written ≡ state

-- ---- one byte more

more : (user before : List ℕ) (k : ℕ) (c : PathSoFar) → text_of c ≡ before ++ k ∷ [] → IsPathFormed c
    → (b : ℕ) → nat_eq b k ≡ true → Reads user (before ++ b ∷ []) (state_of user c)
more user before k c text formed b is =
    record { written = c; formed = formed; text_is = text ∙ ap (λ x. before ++ x ∷ []) (sym (eqb-true b k is)); state_is = refl }

other : (user before : List ℕ) (c : PathSoFar) (b : ℕ) → text_of c ≡ before ++ b ∷ [] → IsPathFormed c → Reads user (before ++ b ∷ []) (state_of user c)
other user before c b text formed = record { written = c; formed = formed; text_is = text; state_is = refl }

regroup_two : (a b c : List ℕ) → a ++ (b ++ c) ≡ (a ++ b) ++ c
regroup_two a b c = simp append_assoc

regroup_three : (a b c d : List ℕ) → a ++ (b ++ (c ++ d)) ≡ (a ++ (b ++ c)) ++ d
regroup_three a b c d = simp append_assoc

bare_step : Axis → Test → WrittenStep
bare_step axis test = record { axis = axis; test = test; preds = [] }

bare_text : (before : List ℕ) (done : List WrittenStep) (axis : Axis) (test : Test) → before ≡ path_text done ++ slash_text axis → path_text done ++ (slash_text axis ++ (test_text test ++ [])) ≡ before ++ test_text test
bare_text before done axis test text = ap (λ t. path_text done ++ (slash_text axis ++ t)) (append-nil (test_text test)) ∙ regroup_two (path_text done) (slash_text axis) (test_text test) ∙ ap (λ t. t ++ test_text test) (sym text)

-- A step begins.
test_lead : (user before : List ℕ) (done : List WrittenStep) (axis : Axis) → before ≡ path_text done ++ slash_text axis → list_all is_step done ≡ true
    → AllRows (λ b next. Reads user (before ++ b ∷ []) next) (test_rows (path_step (map (step_of user) done) axis))
test_lead user before done axis text formed = (
  more user before 42 (PathSoFar.InStep done (record { axis = axis; test = Any; preds = [] })) (bare_text before done axis Any text) (formed, refl),
  (
    λ b is. other user before (PathSoFar.InStep done (record { axis = axis; test = Named (b ∷ []); preds = [] })) b (bare_text before done axis (Named (b ∷ [])) text) (formed, and_both _ _ (first_name b is) refl),
    tt,
  ),
)

-- The steps before the open one, and that one.
done_formed : (done : List WrittenStep) (s : WrittenStep) → list_all is_step done ≡ true → is_step s ≡ true → list_all is_step (done ++ s ∷ []) ≡ true
done_formed done s all one = all_more is_step done s all one

longer_written : WrittenStep → ℕ → WrittenStep
longer_written s b = record { axis = s.axis; test = longer_test s.test b; preds = s.preds }

-- Where the name continues, there is no predicate yet.
no_preds : (user : List ℕ) (s : WrittenStep) → goes_on (step_of user s) ≡ true → s.preds ≡ []
no_preds user s h = none s.preds (eqb-true _ 0 (and_right (has_room s.test) _ h))
  where
    none : (preds : List WrittenPred) → length (map (pred_of user) preds) ≡ 0 → preds ≡ []
    none [] e = refl
    none (p ∷ preds) e = cc

longer_text : (user : List ℕ) (s : WrittenStep) (b : ℕ) → goes_on (step_of user s) ≡ true
    → slash_text s.axis ++ (test_text (longer_test s.test b) ++ flat_map pred_text s.preds) ≡ step_text s ++ b ∷ []
longer_text user s b h =
    let none : flat_map pred_text s.preds ≡ [] = ap (flat_map pred_text) (no_preds user s h) in
    ap (λ t. slash_text s.axis ++ (test_text (longer_test s.test b) ++ t)) none
    ∙ ap (λ t. slash_text s.axis ++ t) (append-nil (test_text (longer_test s.test b)) ∙ test_text_more s.test b (and_left (has_room s.test) _ h))
    ∙ regroup_two (slash_text s.axis) (test_text s.test) (b ∷ [])
    ∙ ap (λ t. (slash_text s.axis ++ t) ++ b ∷ []) (sym (append-nil (test_text s.test)) ∙ ap (λ t. test_text s.test ++ t) (sym none))

rows_read : (user : List ℕ) (w : PathSoFar) → IsPathFormed w → AllRows (λ b next. Reads user (text_of w ++ b ∷ []) next) (path_rows (state_of user w))
rows_read user PathSoFar.Start formed = (more user [] 47 (PathSoFar.AfterSlash []) refl refl, tt)
rows_read user (PathSoFar.AfterSlash done) formed = (
  more user (text_of (PathSoFar.AfterSlash done)) 47 (PathSoFar.AfterSlashes done) (simp append_assoc) formed,
  test_lead user (text_of (PathSoFar.AfterSlash done)) done Child refl formed,
)
rows_read user (PathSoFar.AfterSlashes done) formed = test_lead user (text_of (PathSoFar.AfterSlashes done)) done Descendant refl formed
rows_read user (PathSoFar.InStep done s) formed = (
  λ b is. record {
    written = PathSoFar.InStep done (record { axis = s.axis; test = longer_test s.test b; preds = s.preds });
    formed = (formed.0, and_both _ _ (test_more s.test b (and_left (is_test s.test) _ formed.1) (and_both _ _ (and_left (continues_name b) _ is) (and_left (has_room s.test) _ (and_right (continues_name b) _ is)))) (and_right (is_test s.test) _ formed.1));
    text_is = ap (λ t. path_text done ++ t) (longer_text user s b (and_right (continues_name b) _ is)) ∙ regroup_two (path_text done) (step_text s) (b ∷ []);
    state_is = refl;
  },
  (
    λ b is. record {
      written = PathSoFar.AfterSlash (done ++ s ∷ []);
      formed = done_formed done s formed.0 formed.1;
      text_is = ap (λ t. t ++ 47 ∷ []) (flat_more step_text done s) ∙ ap (λ k. (path_text done ++ step_text s) ++ k ∷ []) (sym (eqb-true b 47 is));
      state_is = ap State.AfterSlash (map_more (step_of user) done s);
    },
    (
      more user (text_of (PathSoFar.InStep done s)) 91 (PathSoFar.InPredicate done s (SoFar.Open 0)) (regroup_two (path_text done) (step_text s) (91 ∷ [])) (formed.0, formed.1, tt),
      tt,
    ),
  ),
)
rows_read user (PathSoFar.InPredicate done s w) formed = tt

with_written : WrittenStep → WrittenPred → WrittenStep
with_written s p = record { axis = s.axis; test = s.test; preds = s.preds ++ p ∷ [] }

pred_more : (s : WrittenStep) (p : WrittenPred) → slash_text s.axis ++ (test_text s.test ++ flat_map pred_text (s.preds ++ p ∷ [])) ≡ step_text s ++ pred_text p
pred_more s p = ap (λ t. slash_text s.axis ++ (test_text s.test ++ t)) (flat_more pred_text s.preds p)
    ∙ regroup_three (slash_text s.axis) (test_text s.test) (flat_map pred_text s.preds) (pred_text p)

-- A byte in a predicate.
resumed_reads : (user : List ℕ) (done : List WrittenStep) (s : WrittenStep) (text : List ℕ) (next : Next) → list_all is_step done ≡ true → is_step s ≡ true
    → Leads user text next → Reads user (path_text done ++ (step_text s ++ text)) (state_after (level_of user done s) next)
resumed_reads user done s text (Next.More inside) all one h = record {
  written = PathSoFar.InPredicate done s h.written;
  formed = (all, one, h.formed);
  text_is = ap (λ t. path_text done ++ (step_text s ++ t)) h.text_is;
  state_is = ap (λ i. State.InPredicate (level_of user done s) i) h.state_is;
}
resumed_reads user done s text (Next.Whole pred) all one h = record {
  written = PathSoFar.InStep done (record { axis = s.axis; test = s.test; preds = s.preds ++ h.written ∷ [] });
  formed = (all, and_both _ _ (and_left (is_test s.test) _ one) (all_more is_pred s.preds h.written (and_right (is_test s.test) _ one) h.in_form));
  text_is = ap (λ t. path_text done ++ t) (pred_more s h.written ∙ ap (λ t. step_text s ++ t) h.text_is);
  state_is = ap (λ (preds : List Pred). State.InStep (record { done = map (step_of user) done; step = record { axis = s.axis; test = s.test; preds = preds } }))
      (map_more (pred_of user) s.preds h.written ∙ ap (λ p. map (pred_of user) s.preds ++ p ∷ []) h.meaning);
}

-- The state after a byte in a predicate.
inside_reads : (user : List ℕ) (done : List WrittenStep) (s : WrittenStep) (w : SoFar) → list_all is_step done ≡ true → is_step s ≡ true → IsFormed w
    → (b : ℕ) (o : Option Next) → choose (inside_rows user (state_in user w)) b ≡ o → (t : State) → option_map (state_after (level_of user done s)) o ≡ Some t
    → Reads user (path_text done ++ (step_text s ++ (text_in w ++ b ∷ []))) t
inside_reads user done s w all one formed b None e t is = cc
inside_reads user done s w all one formed b (Some next) e t is =
    let same : state_after (level_of user done s) next ≡ t = cc in
    subst (λ (x : State). Reads user (path_text done ++ (step_text s ++ (text_in w ++ b ∷ []))) x) same
    (resumed_reads user done s (text_in w ++ b ∷ []) next all one
    (chosen (λ b next. Leads user (text_in w ++ b ∷ []) next) (inside_rows user (state_in user w)) (rows_lead user w formed) b next e))

byte_read : (user : List ℕ) (w : PathSoFar) → IsPathFormed w → (b : ℕ) (t : State) → step user (state_of user w) b ≡ Some t → Reads user (text_of w ++ b ∷ []) t
byte_read user PathSoFar.Start formed b t e = chosen (λ b next. Reads user (text_of PathSoFar.Start ++ b ∷ []) next) (path_rows State.Start) (rows_read user PathSoFar.Start formed) b t e
byte_read user (PathSoFar.AfterSlash done) formed b t e = chosen (λ b next. Reads user (text_of (PathSoFar.AfterSlash done) ++ b ∷ []) next) (path_rows (state_of user (PathSoFar.AfterSlash done))) (rows_read user (PathSoFar.AfterSlash done) formed) b t e
byte_read user (PathSoFar.AfterSlashes done) formed b t e = chosen (λ b next. Reads user (text_of (PathSoFar.AfterSlashes done) ++ b ∷ []) next) (path_rows (state_of user (PathSoFar.AfterSlashes done))) (rows_read user (PathSoFar.AfterSlashes done) formed) b t e
byte_read user (PathSoFar.InStep done s) formed b t e = chosen (λ b next. Reads user (text_of (PathSoFar.InStep done s) ++ b ∷ []) next) (path_rows (state_of user (PathSoFar.InStep done s))) (rows_read user (PathSoFar.InStep done s) formed) b t e
byte_read user (PathSoFar.InPredicate done s w) formed b t e =
    subst (λ (x : List ℕ). Reads user x t) (regroup_three (path_text done) (step_text s) (text_in w) (b ∷ []))
    (inside_reads user done s w formed.0 formed.1 formed.2 b (choose (inside_rows user (state_in user w)) b) refl t e)

-- A byte that is taken makes the text one byte longer.
pub reads_more : (user text : List ℕ) (s t : State) (b : ℕ) → Reads user text s → step user s b ≡ Some t → Reads user (text ++ b ∷ []) t
reads_more user text s t b r e =
    let at_state : step user (state_of user r.written) b ≡ Some t = ap (λ x. step user x b) r.state_is ∙ e in
    subst (λ (x : List ℕ). Reads user (x ++ b ∷ []) t) r.text_is (byte_read user r.written r.formed b t at_state)

-- What runs is written.
pub run_reads : (user text bytes : List ℕ) (s t : State) → Reads user text s → run user bytes s ≡ Some t → Reads user (text ++ bytes) t
unfolding run
run_reads user text [] s t r e =
    let same : s ≡ t = cc in
    subst (λ (x : List ℕ). Reads user x t) (sym (append-nil text)) (subst (λ (x : State). Reads user text x) same r)
run_reads user text (b ∷ bs) s t r e =
    elim (step user s b) as (λ o. step user s b ≡ o → option_and_then (run user bs) o ≡ Some t → Reads user (text ++ b ∷ bs) t) [
      | None ↦ λ is e. cc
      | Some u ↦ λ is e. subst (λ (x : List ℕ). Reads user x t) (sym (regroup_two text (b ∷ []) bs)) (run_reads user (text ++ b ∷ []) bs u t (reads_more user text s u b r is) e)
    ] refl e

pub start_reads : (user : List ℕ) → Reads user [] State.Start
start_reads user = record { written = PathSoFar.Start; formed = tt; text_is = refl; state_is = refl }

-- ---- where a path ends

path_formed : (done : List WrittenStep) (s : WrittenStep) → list_all is_step done ≡ true → is_step s ≡ true → is_path (done ++ s ∷ []) ≡ true
path_formed [] s all one = and_both _ _ one refl
path_formed (d ∷ done) s all one = done_formed (d ∷ done) s all one

end_spells : (user : List ℕ) (w : PathSoFar) → IsPathFormed w → (path : Path) → path_at_end (state_of user w) ≡ Some path → Spells user (text_of w) path
end_spells user PathSoFar.Start formed path e = cc
end_spells user (PathSoFar.AfterSlash done) formed path e = cc
end_spells user (PathSoFar.AfterSlashes done) formed path e = cc
end_spells user (PathSoFar.InStep done s) formed path e =
    let same : path ≡ record { steps = whole_steps (level_of user done s) } = cc in
    record {
      written = done ++ s ∷ [];
      in_form = path_formed done s formed.0 formed.1;
      text = sym (flat_more step_text done s);
      meaning = same ∙ ap (λ (steps : List Step). record { steps = steps }) (sym (map_more (step_of user) done s));
    }
end_spells user (PathSoFar.InPredicate done s w) formed path e = cc

-- What is read is spelled so.
pub read_spells : (user bytes : List ℕ) (t : State) (path : Path) → run user bytes State.Start ≡ Some t → path_at_end t ≡ Some path → Spells user bytes path
read_spells user bytes t path e end =
    let r = run_reads user [] bytes State.Start t (start_reads user) e in
    subst (λ (x : List ℕ). Spells user x path) r.text_is (end_spells user r.written r.formed path (ap path_at_end r.state_is ∙ end))
