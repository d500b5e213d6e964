-- The rows of names: what the map has after one more name, and that all names without a row in it share one row.
use Rattle.std.proofs.Common.{◌≡◌, ℕ, Bool, true, false, ◌&&◌, ◌||◌, not, cond, nat_eq, Option, None, Some, is_some, Vec, List, [], ◌∷◌, ◌++◌, map, reverse, length, get_or, take, refl, ap, subst, sym, ◌∙◌, ⊎_elim, ◌<◌, ◌≤◌, ◌+◌}
use mathlib.Core.List.{reverse_aux}
use Rattle.std.specs.Cmp.Lexicographic.{pointwise, bytes_decides}
use Rattle.std.specs.HashMap.{HashMap, UpdatesBy}
use Rattle.std.specs.List.{list_any}
use Rattle.std.specs.Map.{lookup, IsKeyTest, AreApart, KeepsOthers}
use Rattle.std.specs.Option.{unwrap_or}
use Rattle.std.proofs.lemmas.Bool.{cases_Bool, cond-true, cond-false}
use Rattle.std.proofs.lemmas.Cmp.{nat_list_eq_equiv}
use Rattle.std.proofs.lemmas.List.{take_all, map_more}
use Rattle.std.proofs.lemmas.List.Folds.{list_any_more, list_any-append}
use Rattle.acl_model.specs.Document.{is_dummy_name}
use Rattle.acl_model.specs.NameTests.{passes}
use Rattle.acl_model.specs.declared.path.Pred.{Pred}
use Rattle.acl_model.specs.declared.path.PredStep.{PredStep}
use Rattle.acl_model.specs.declared.path.Test.{Test}
use Rattle.acl_model.specs.declared.path.Test.TheVariants.{Any, Named}
use Rattle.predicate_walk.specs.declared.truths.PredRef.{PredRef}
use Rattle.predicate_walk.specs.inside.States.{passes_each, answers, tests_of, is_name_of, does_name, is_named_in}
use Rattle.predicate_walk.specs.inside.NameRows.{row_in, AreRows, AddsRows, AreAllRows}
use Rattle.predicate_walk.specs.Truths.{preds_in}

-- two lists of bytes that compare equal are equal
same_bytes : (xs ys : List ℕ) → pointwise nat_eq xs ys ≡ true → xs ≡ ys
same_bytes xs ys same = (bytes_decides xs ys).0 same

-- Where one entry changes, an entry that another test finds stays.
others_stay : {K X : Type 0} (eq : K → K → Bool) (test : K → Bool) (old new : List (K × X))
    → KeepsOthers eq test old new
    → (other : K → Bool) → IsKeyTest eq other → AreApart test other → lookup other new ≡ lookup other old
unfolding KeepsOthers
others_stay eq test old new keeps = keeps

-- the row of each name, once a key has one
row_in-put : {A H : Type 0} (old new : HashMap (Vec ℕ A) (List Bool) H) (key : Vec ℕ A) (row : List Bool)
    → UpdatesBy (λ x y. pointwise nat_eq x.items y.items) (λ k. pointwise nat_eq key.items k.items) old new (Some row)
    → (name : List ℕ) → row_in new name ≡ cond (pointwise nat_eq key.items name) (Some row) (row_in old name)
row_in-put old new key row put name = ⊎_elim
    (λ same. subst (λ l. row_in new l ≡ Some row) (same_bytes key.items name same) put.1
    ∙ sym (cond-true (pointwise nat_eq key.items name) (Some row) (row_in old name) same))
    (λ apart. others_stay _ _ _ _ put.3 (λ k. pointwise nat_eq name k.items)
    (λ x y. nat_list_eq_equiv.congr name x.items y.items)
    (λ k at. nat_list_eq_equiv.symm name k.items ∙ sym (nat_list_eq_equiv.congr key.items k.items name at) ∙ apart)
    ∙ sym (cond-false (pointwise nat_eq key.items name) (Some row) (row_in old name) apart))
    (cases_Bool (pointwise nat_eq key.items name))

-- a name, and the names equal to it
same_row : {T : Type 0} (f : List ℕ → T) (name other : List ℕ) (old : T)
    → cond (pointwise nat_eq name other) (f name) old ≡ cond (pointwise nat_eq name other) (f other) old
same_row f name other old = ⊎_elim
    (λ same. ap (λ n. cond (pointwise nat_eq name other) (f n) old) (same_bytes name other same))
    (λ apart. cond-false _ _ _ apart ∙ sym (cond-false _ _ _ apart))
    (cases_Bool (pointwise nat_eq name other))

-- A name that is not in the map gets its row.
pub adds_name : {A H : Type 0} (preds : List Pred) (old new : HashMap (Vec ℕ A) (List Bool) H) (key : Vec ℕ A) (row : List Bool) (name : List ℕ)
    → key.items ≡ name → row ≡ tests_of name preds
    → UpdatesBy (λ x y. pointwise nat_eq x.items y.items) (λ k. pointwise nat_eq key.items k.items) old new (Some row)
    → AddsRows preds (λ n. pointwise nat_eq name n) old new
adds_name preds old new key row name same is put = record {
  added = λ other.
      row_in-put old new key row put other
      ∙ ap (λ k. cond (pointwise nat_eq k other) (Some row) (row_in old other)) same
      ∙ ap (λ r. cond (pointwise nat_eq name other) (Some r) (row_in old other)) is
      ∙ same_row {T = Option (List Bool)} (λ n. Some (tests_of n preds)) name other (row_in old other);
}

-- A name that is in the map keeps its row.
pub has_name : {A H : Type 0} (preds : List Pred) (rows : HashMap (Vec ℕ A) (List Bool) H) (name : List ℕ)
    → AreRows preds rows → is_some (row_in rows name) ≡ true
    → AddsRows preds (λ n. pointwise nat_eq name n) rows rows
has_name preds rows name are has = record {
  added = λ other. ⊎_elim
      (λ same.
      are.right other
      ∙ cond-true _ _ _ (subst (λ n. is_some (row_in rows n) ≡ true) (same_bytes name other same) has)
      ∙ sym (cond-true (pointwise nat_eq name other) (Some (tests_of other preds)) (row_in rows other) same))
      (λ apart. sym (cond-false (pointwise nat_eq name other) (Some (tests_of other preds)) (row_in rows other) apart))
      (cases_Bool (pointwise nat_eq name other));
}

-- No name is added.
pub adds_none : {A H : Type 0} (preds : List Pred) (rows : HashMap (Vec ℕ A) (List Bool) H)
    → AddsRows preds (λ n. false) rows rows
adds_none preds rows = record { added = λ name. refl }

both : {T : Type 0} (f g : Bool) (row old : T) → cond g row (cond f row old) ≡ cond (f || g) row old
both true true row old = refl
both true false row old = refl
both false true row old = refl
both false false row old = refl

-- Names are added one after another.
pub adds_more : {A H : Type 0} (preds : List Pred) (f g h : List ℕ → Bool) (old mid new : HashMap (Vec ℕ A) (List Bool) H)
    → AddsRows preds f old mid → AddsRows preds g mid new → ((name : List ℕ) → h name ≡ (f name || g name))
    → AddsRows preds h old new
adds_more preds f g h old mid new first second or = record {
  added = λ name.
      second.added name
      ∙ ap (λ r. cond (g name) (Some (tests_of name preds)) r) (first.added name)
      ∙ both (f name) (g name) (Some (tests_of name preds)) (row_in old name)
      ∙ ap (λ b. cond b (Some (tests_of name preds)) (row_in old name)) (sym (or name));
}

stays_right : {T : Type 0} (f : Bool) (row : T) (old : Option T) → old ≡ cond (is_some old) (Some row) None
    → cond f (Some row) old ≡ cond (is_some (cond f (Some row) old)) (Some row) None
stays_right true row old right = refl
stays_right false row old right = right

-- The rows stay right.
pub rows_added : {A H : Type 0} (preds : List Pred) (f : List ℕ → Bool) (old new : HashMap (Vec ℕ A) (List Bool) H)
    → AreRows preds old → AddsRows preds f old new → AreRows preds new
rows_added preds f old new are adds = record {
  right = λ name.
      subst (λ r. r ≡ cond (is_some r) (Some (tests_of name preds)) None) (sym (adds.added name))
      (stays_right (f name) (tests_of name preds) (row_in old name) (are.right name));
}

-- one more step of a path
pub step_named : (name : List ℕ) (way : List PredStep) (i : ℕ) (s : PredStep) → i < length way → s ≡ get_or way i s
    → list_any (does_name name) (take (i + 1) way) ≡ (list_any (does_name name) (take i way) || does_name name s)
step_named name way i s within is =
    list_any_more (does_name name) way i s within
    ∙ ap (λ x. list_any (does_name name) (take i way) || does_name name x) (sym is)

-- an empty map has no row
pub none_in : {A H : Type 0} (rows : HashMap (Vec ℕ A) (List Bool) H) (name : List ℕ) → rows.entries ≡ []
    → row_in rows name ≡ None
none_in rows name empty = ap (lookup (λ key. pointwise nat_eq name key.items)) empty

pub none_are : {A H : Type 0} (preds : List Pred) (rows : HashMap (Vec ℕ A) (List Bool) H) → rows.entries ≡ []
    → AreRows preds rows
none_are preds rows empty = record {
  right = λ name. subst (λ r. r ≡ cond (is_some r) (Some (tests_of name preds)) None) (sym (none_in rows name empty))
      refl;
}

or_false : (b : Bool) → (b || false) ≡ b
or_false true = refl
or_false false = refl

-- one more predicate
pub ref_named : (name : List ℕ) (refs : List PredRef) (i : ℕ) (r : PredRef) → i < length refs → r ≡ get_or refs i r
    → is_named_in (preds_in (take (i + 1) refs)) name
    ≡ (is_named_in (preds_in (take i refs)) name || list_any (does_name name) r.pred.now.way)
ref_named name refs i r within is =
    ap (λ ps. is_named_in ps name) (map_more (λ x. x.pred.now) refs i r within)
    ∙ list_any-append (λ pred. list_any (does_name name) pred.way) (preds_in (take i refs))
    ((get_or refs i r).pred.now ∷ [])
    ∙ ap (λ b. is_named_in (preds_in (take i refs)) name || b)
    (or_false (list_any (does_name name) (get_or refs i r).pred.now.way) ∙ ap (λ x. list_any (does_name name) x.pred.now.way) (sym is))

-- all names of a path
pub way_added : {A H : Type 0} (preds : List Pred) (way : List PredStep) (i : ℕ) (old new : HashMap (Vec ℕ A) (List Bool) H) → length way ≤ i
    → AddsRows preds (λ n. list_any (does_name n) (take i way)) old new
    → AddsRows preds (λ n. list_any (does_name n) way) old new
way_added preds way i old new past adds =
    subst (λ w. AddsRows preds (λ n. list_any (does_name n) w) old new) (take_all i way past) adds

-- all names
pub all_added : {A H : Type 0} (refs : List PredRef) (i : ℕ) (old new : HashMap (Vec ℕ A) (List Bool) H)
    → length refs ≤ i → old.entries ≡ []
    → AddsRows (preds_in refs) (λ n. is_named_in (preds_in (take i refs)) n) old new → AreAllRows (preds_in refs) new
all_added refs i old new past empty adds = record {
  all = λ name.
      adds.added name
      ∙ ap (λ b. cond b (Some (tests_of name (preds_in refs))) (row_in old name))
      (ap (λ rs. is_named_in (preds_in rs) name) (take_all i refs past))
      ∙ ap (λ o. cond (is_named_in (preds_in refs) name) (Some (tests_of name (preds_in refs))) o)
      (none_in old name empty);
}

-- ---- names that no step names

or_left : (a b : Bool) → (a || b) ≡ false → a ≡ false
or_left true b is = is
or_left false b is = refl

or_right : (a b : Bool) → (a || b) ≡ false → b ≡ false
or_right true b is = absurd (cc)
or_right false b is = is

test_unnamed : (t : Test) (name : List ℕ) → is_name_of t name ≡ false → passes_each t ≡ passes t name
test_unnamed Any name un = refl
test_unnamed (Named wanted) name un = ap (λ b. b && not (is_dummy_name name)) (sym un)

way_unnamed : (name : List ℕ) (way : List PredStep) (done other : List Bool) → list_any (does_name name) way ≡ false
    → done ≡ other
    → reverse_aux (map (λ s. passes_each s.test) way) done ≡ reverse_aux (map (λ s. passes s.test name) way) other
way_unnamed name [] done other un same = same
way_unnamed name (s ∷ way) done other un same =
    way_unnamed name way (passes_each s.test ∷ done) (passes s.test name ∷ other)
    (or_right (is_name_of s.test name) (list_any (does_name name) way) un)
    (ap (λ b. b ∷ done) (test_unnamed s.test name (or_left (is_name_of s.test name) (list_any (does_name name) way) un)) ∙ ap (λ r. passes s.test name ∷ r) same)

map_aux : (f : PredStep → Bool) (xs ys : List PredStep) → map f (reverse_aux xs ys) ≡ reverse_aux (map f xs) (map f ys)
map_aux f [] ys = refl
map_aux f (x ∷ xs) ys = map_aux f xs (x ∷ ys)

-- A name that no step names passes exactly the steps that pass every name.
unnamed : (preds : List Pred) (name : List ℕ) → is_named_in preds name ≡ false
    → answers (λ s. passes_each s.test) preds ≡ tests_of name preds
unfolding answers
unnamed [] name un = refl
unnamed (pred ∷ preds) name un =
    ap (λ r. false ∷ (r ++ answers (λ s. passes_each s.test) preds))
    (map_aux (λ s. passes_each s.test) pred.way [] ∙ way_unnamed name pred.way [] [] (or_left (list_any (does_name name) pred.way) (is_named_in preds name) un) refl ∙ sym (map_aux (λ s. passes s.test name) pred.way []))
    ∙ ap (λ r. false ∷ (map (λ s. passes s.test name) (reverse pred.way) ++ r))
    (unnamed preds name (or_right (list_any (does_name name) pred.way) (is_named_in preds name) un))

-- The row of each name is found.
pub tests_found : {A H : Type 0} (preds : List Pred) (named : HashMap (Vec ℕ A) (List Bool) H) (others : List Bool)
    → AreAllRows preds named → others ≡ answers (λ s. passes_each s.test) preds
    → (name : List ℕ) → unwrap_or (row_in named name) others ≡ tests_of name preds
tests_found preds named others all is name = ⊎_elim
    (λ in_it. ap (λ r. unwrap_or r others) (all.all name ∙ cond-true _ _ _ in_it))
    (λ out. ap (λ r. unwrap_or r others) (all.all name ∙ cond-false _ _ _ out) ∙ is ∙ unnamed preds name out)
    (cases_Bool (is_named_in preds name))
