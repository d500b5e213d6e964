-- What the grammar spells is read: bodies, comparison operators and operands.
use Rattle.std.proofs.Common.{◌≡◌, ℕ, zero, suc, ◌+◌, ◌-◌, ◌*◌, ◌<◌, ◌≤◌, min, Bool, true, false, not, cond, nat_eq, nat_le, nat_lt, ◌&&◌, ◌||◌, Option, Some, None, is_some, List, [], ◌∷◌, ◌++◌, length, map, flat_map, refl, sym, ap, subst, ◌∙◌, arith, append_assoc, append-nil, length-append, rules}
use lib.ListN.{replicate}
use Rattle.std.specs.List.{list_all}
use Rattle.std.specs.Char.{is_ascii_digit}
use Rattle.std.specs.Option.{option_map, option_and_then}
use Rattle.std.specs.Str.Parse.{digits_value}
use borrow.Author.Tests.{eqb-true}
use Rattle.acl_model.specs.Names.{begins_name, continues_name, is_spelled_as_name, is_name}
use Rattle.acl_model.specs.declared.path.Path.{Path}
use Rattle.acl_model.specs.declared.path.Step.{Step}
use Rattle.acl_model.specs.declared.path.Pred.{Pred}
use Rattle.acl_model.specs.declared.path.PredStep.{PredStep}
use Rattle.acl_model.specs.declared.path.Axis.{Axis}
use Rattle.acl_model.specs.declared.path.Axis.TheVariants.{Child, Descendant}
use Rattle.acl_model.specs.declared.path.Test.{Test}
use Rattle.acl_model.specs.declared.path.Test.TheVariants.{Any, Named}
use Rattle.acl_model.specs.declared.path.Op.{Op}
use Rattle.acl_model.specs.declared.path.Op.TheVariants.{Eq, Ne, Lt, Le, Gt, Ge}
use Rattle.acl_model.specs.declared.path.Operand.{Operand}
use Rattle.acl_model.specs.declared.path.Operand.TheVariants.{Text, Number, User}
use Rattle.xpath_rules.specs.declared.quote.Quote.{Quote}
use Rattle.xpath_rules.specs.declared.quote.Quote.TheVariants.{Double, Single}
use Rattle.xpath_rules.specs.declared.state.State.{State}
use Rattle.xpath_rules.specs.declared.state.Level.{Level}
use Rattle.xpath_rules.specs.declared.state.Inside.{Inside}
use Rattle.xpath_rules.specs.declared.state.WayLevel.{WayLevel}
use Rattle.xpath_rules.specs.declared.state.Body.{Body}
use Rattle.xpath_rules.specs.declared.state.Compared.{Compared}
use Rattle.xpath_rules.specs.declared.state.Digits.{Digits}
use Rattle.xpath_rules.specs.declared.state.Next.{Next}
use Rattle.xpath_rules.specs.Grammar.{WrittenOperand, WrittenCmp, WrittenPred, WrittenStep, spaces, slash_text, test_text, lead_text, further_text, way_text, is_way, is_test, body_text, is_attribute, is_dot, sign_text, quote_byte, is_quotable, minus_text, operand_text, is_operand, operand_of, cmp_text, is_cmp, cmp_of, pred_text, is_pred, pred_of, step_text, is_step, step_of, path_text, is_path, path_of}
use Rattle.xpath_rules.specs.PathMachine.{whole_way, compared_pred, bare_pred, number, whole_steps, with_pred, step, run, path_at_end}
use Rattle.xpath_rules.proofs.Names.{and_left, and_right, and_both, le_test, test_le, test_lt, lt_test, all_more, length_more, own, value_more, value_first, value_of_18, value_of_17}
use Rattle.xpath_rules.proofs.PathSoundness.{map_more}
use Rattle.xpath_rules.proofs.Soundness.{number_is}
use Rattle.xpath_rules.proofs.TestRuns.{takes, alike, other_than, run_spaces, run_more, begins_continues, name_run, test_run, step_at, step_goes, child_test, descendant_test, slash_run, inside_at, way_at, way_goes, open_test, way_child, way_descendant, lead_run, further_run, last_of, whole_last, more_run, regroup_two, regroup_three, regroup_four, way_run}

-- ---- after a body

-- What may follow a body is read as by the state after that body.
pub record EndsBody (user : List ℕ) (level : Level) (inside : Inside) (body : Body) : Type 0 where
  pub space : step user (inside_at level inside) 32 ≡ step user (inside_at level (Inside.AfterBody body)) 32
  pub equals : step user (inside_at level inside) 61 ≡ step user (inside_at level (Inside.AfterBody body)) 61
  pub exclamation : step user (inside_at level inside) 33 ≡ step user (inside_at level (Inside.AfterBody body)) 33
  pub less : step user (inside_at level inside) 60 ≡ step user (inside_at level (Inside.AfterBody body)) 60
  pub greater : step user (inside_at level inside) 62 ≡ step user (inside_at level (Inside.AfterBody body)) 62
  pub bracket : step user (inside_at level inside) 93 ≡ step user (inside_at level (Inside.AfterBody body)) 93

pub sign_ends : (user : List ℕ) (level : Level) (inside : Inside) (body : Body) → EndsBody user level inside body → (before : ℕ) (op : Op) (more rest : List ℕ)
    → run user ((spaces before ++ (sign_text op ++ more)) ++ rest) (inside_at level inside) ≡ run user ((spaces before ++ (sign_text op ++ more)) ++ rest) (inside_at level (Inside.AfterBody body))
sign_ends user level inside body e (suc m) op more rest = alike user 32 ((spaces m ++ (sign_text op ++ more)) ++ rest) _ _ e.space
sign_ends user level inside body e zero Eq more rest = alike user 61 (more ++ rest) _ _ e.equals
sign_ends user level inside body e zero Ne more rest = alike user 33 (61 ∷ (more ++ rest)) _ _ e.exclamation
sign_ends user level inside body e zero Lt more rest = alike user 60 (more ++ rest) _ _ e.less
sign_ends user level inside body e zero Le more rest = alike user 60 (61 ∷ (more ++ rest)) _ _ e.less
sign_ends user level inside body e zero Gt more rest = alike user 62 (more ++ rest) _ _ e.greater
sign_ends user level inside body e zero Ge more rest = alike user 62 (61 ∷ (more ++ rest)) _ _ e.greater

pub body_ends : (user : List ℕ) (level : Level) (inside : Inside) (body : Body) → EndsBody user level inside body → (cmp : Option WrittenCmp) (n : ℕ) (rest : List ℕ)
    → run user (cmp_text cmp ++ (spaces n ++ 93 ∷ rest)) (inside_at level inside) ≡ run user (cmp_text cmp ++ (spaces n ++ 93 ∷ rest)) (inside_at level (Inside.AfterBody body))
body_ends user level inside body e None zero rest = alike user 93 rest _ _ e.bracket
body_ends user level inside body e None (suc n) rest = alike user 32 (spaces n ++ 93 ∷ rest) _ _ e.space
body_ends user level inside body e (Some c) n rest = sign_ends user level inside body e c.before c.op (spaces c.between ++ operand_text c.operand) (spaces n ++ 93 ∷ rest)

pub attribute_goes : (user : List ℕ) (level : Level) (way : List PredStep) (xs : List ℕ) (b : ℕ) → list_all continues_name xs ≡ true → continues_name b ≡ true → length xs < 255
    → step user (inside_at level (Inside.InAttribute way xs)) b ≡ Some (inside_at level (Inside.InAttribute way (xs ++ b ∷ [])))
attribute_goes user level way xs b had more few = let lt = lt_test (length xs) 255 few in rw (more, lt) refl

pub attribute_run : (user : List ℕ) (level : Level) (way : List PredStep) (name rest : List ℕ) → is_name name ≡ true
    → run user (name ++ rest) (inside_at level (Inside.AfterAt way)) ≡ run user rest (inside_at level (Inside.InAttribute way name))
attribute_run user level way name rest is = name_run user (inside_at level (Inside.AfterAt way)) (λ xs. inside_at level (Inside.InAttribute way xs))
    (λ b h. rw h refl) (attribute_goes user level way) name rest is

pub body_run : (user : List ℕ) (level : Level) (way : List PredStep) (attribute : Option (List ℕ)) → is_way way ≡ true → is_attribute attribute ≡ true → (cmp : Option WrittenCmp) (n : ℕ) (rest : List ℕ)
    → run user (body_text way attribute ++ (cmp_text cmp ++ (spaces n ++ 93 ∷ rest))) (inside_at level Inside.Open)
    ≡ run user (cmp_text cmp ++ (spaces n ++ 93 ∷ rest)) (inside_at level (Inside.AfterBody (record { way = way; attribute = attribute })))
body_run user level [] None is named cmp n rest =
    takes user 46 (cmp_text cmp ++ (spaces n ++ 93 ∷ rest)) (inside_at level Inside.Open) (inside_at level Inside.Dot) refl
    ∙ body_ends user level Inside.Dot (record { way = []; attribute = None }) (record { space = refl; equals = refl; exclamation = refl; less = refl; greater = refl; bracket = refl }) cmp n rest
body_run user level [] (Some name) is named cmp n rest =
    takes user 64 (name ++ (cmp_text cmp ++ (spaces n ++ 93 ∷ rest))) (inside_at level Inside.Open) (inside_at level (Inside.AfterAt [])) refl
    ∙ attribute_run user level [] name (cmp_text cmp ++ (spaces n ++ 93 ∷ rest)) named
    ∙ body_ends user level (Inside.InAttribute [] name) (record { way = []; attribute = Some name }) (record { space = refl; equals = refl; exclamation = refl; less = refl; greater = refl; bracket = refl }) cmp n rest
body_run user level (s ∷ more) None is named cmp n rest =
    let last : WayLevel = last_of (record { done = []; step = s }) more in
    way_run user level s more (cmp_text cmp ++ (spaces n ++ 93 ∷ rest)) is
    ∙ body_ends user level (Inside.InWay last) (record { way = whole_way last; attribute = None }) (record { space = refl; equals = refl; exclamation = refl; less = refl; greater = refl; bracket = refl }) cmp n rest
    ∙ ap (λ (w : List PredStep). run user (cmp_text cmp ++ (spaces n ++ 93 ∷ rest)) (inside_at level (Inside.AfterBody (record { way = w; attribute = None })))) (whole_last (record { done = []; step = s }) more)
body_run user level (s ∷ more) (Some name) is named cmp n rest =
    let last : WayLevel = last_of (record { done = []; step = s }) more in
    let after : List ℕ = cmp_text cmp ++ (spaces n ++ 93 ∷ rest) in
    ap (λ t. run user t (inside_at level Inside.Open)) (append_assoc (way_text (s ∷ more)) (47 ∷ 64 ∷ name) after)
    ∙ way_run user level s more (47 ∷ 64 ∷ (name ++ after)) is
    ∙ takes user 47 (64 ∷ (name ++ after)) (inside_at level (Inside.InWay last)) (inside_at level (Inside.WaySlash (whole_way last))) refl
    ∙ takes user 64 (name ++ after) (inside_at level (Inside.WaySlash (whole_way last))) (inside_at level (Inside.AfterAt (whole_way last))) refl
    ∙ attribute_run user level (whole_way last) name after named
    ∙ body_ends user level (Inside.InAttribute (whole_way last) name) (record { way = whole_way last; attribute = Some name }) (record { space = refl; equals = refl; exclamation = refl; less = refl; greater = refl; bracket = refl }) cmp n rest
    ∙ ap (λ (w : List PredStep). run user after (inside_at level (Inside.AfterBody (record { way = w; attribute = Some name })))) (whole_last (record { done = []; step = s }) more)

-- ---- after a comparison operator

-- What may follow an operator is read as by the state after that operator.
pub record EndsSign (user : List ℕ) (level : Level) (inside : Inside) (c : Compared) : Type 0 where
  pub space : step user (inside_at level inside) 32 ≡ step user (inside_at level (Inside.AfterSign c)) 32
  pub double : step user (inside_at level inside) 34 ≡ step user (inside_at level (Inside.AfterSign c)) 34
  pub single : step user (inside_at level inside) 39 ≡ step user (inside_at level (Inside.AfterSign c)) 39
  pub minus : step user (inside_at level inside) 45 ≡ step user (inside_at level (Inside.AfterSign c)) 45
  pub letter : step user (inside_at level inside) 85 ≡ step user (inside_at level (Inside.AfterSign c)) 85
  pub digit : (b : ℕ) → is_ascii_digit b ≡ true → step user (inside_at level inside) b ≡ step user (inside_at level (Inside.AfterSign c)) b

pub sign_like : (user : List ℕ) (level : Level) (inside : Inside) (c : Compared) → EndsSign user level inside c → (k : ℕ) (operand : WrittenOperand) → is_operand operand ≡ true → (rest : List ℕ)
    → run user (spaces k ++ (operand_text operand ++ rest)) (inside_at level inside) ≡ run user (spaces k ++ (operand_text operand ++ rest)) (inside_at level (Inside.AfterSign c))
sign_like user level inside c e (suc k) operand is rest = alike user 32 (spaces k ++ (operand_text operand ++ rest)) _ _ e.space
sign_like user level inside c e zero (WrittenOperand.Quoted Double bytes) is rest = alike user 34 ((bytes ++ 34 ∷ []) ++ rest) _ _ e.double
sign_like user level inside c e zero (WrittenOperand.Quoted Single bytes) is rest = alike user 39 ((bytes ++ 39 ∷ []) ++ rest) _ _ e.single
sign_like user level inside c e zero (WrittenOperand.Digits true ds) is rest = alike user 45 (ds ++ rest) _ _ e.minus
sign_like user level inside c e zero (WrittenOperand.Digits false []) is rest = cc
sign_like user level inside c e zero (WrittenOperand.Digits false (b ∷ ds)) is rest =
    alike user b (ds ++ rest) _ _ (e.digit b (and_left (is_ascii_digit b) _ (and_left (list_all is_ascii_digit (b ∷ ds)) _ is)))
sign_like user level inside c e zero WrittenOperand.TheUser is rest = alike user 85 (83 ∷ 69 ∷ 82 ∷ rest) _ _ e.letter

pub less_like : (user : List ℕ) (level : Level) (body : Body) → EndsSign user level (Inside.Less body) (record { body = body; op = Lt })
less_like user level body = record {
  space = refl;
  double = refl;
  single = refl;
  minus = refl;
  letter = refl;
  digit = λ b h. let ne = other_than is_ascii_digit b 61 h refl in rw ne refl;
}

pub greater_like : (user : List ℕ) (level : Level) (body : Body) → EndsSign user level (Inside.Greater body) (record { body = body; op = Gt })
greater_like user level body = record {
  space = refl;
  double = refl;
  single = refl;
  minus = refl;
  letter = refl;
  digit = λ b h. let ne = other_than is_ascii_digit b 61 h refl in rw ne refl;
}

pub sign_run : (user : List ℕ) (level : Level) (body : Body) (op : Op) (k : ℕ) (operand : WrittenOperand) → is_operand operand ≡ true → (rest : List ℕ)
    → run user (sign_text op ++ (spaces k ++ (operand_text operand ++ rest))) (inside_at level (Inside.AfterBody body))
    ≡ run user (operand_text operand ++ rest) (inside_at level (Inside.AfterSign (record { body = body; op = op })))
sign_run user level body Eq k operand is rest =
    takes user 61 (spaces k ++ (operand_text operand ++ rest)) (inside_at level (Inside.AfterBody body)) (inside_at level (Inside.AfterSign (record { body = body; op = Eq }))) refl
    ∙ run_spaces user (inside_at level (Inside.AfterSign (record { body = body; op = Eq }))) refl k (operand_text operand ++ rest)
sign_run user level body Ne k operand is rest =
    takes user 33 (61 ∷ (spaces k ++ (operand_text operand ++ rest))) (inside_at level (Inside.AfterBody body)) (inside_at level (Inside.Exclamation body)) refl
    ∙ takes user 61 (spaces k ++ (operand_text operand ++ rest)) (inside_at level (Inside.Exclamation body)) (inside_at level (Inside.AfterSign (record { body = body; op = Ne }))) refl
    ∙ run_spaces user (inside_at level (Inside.AfterSign (record { body = body; op = Ne }))) refl k (operand_text operand ++ rest)
sign_run user level body Lt k operand is rest =
    takes user 60 (spaces k ++ (operand_text operand ++ rest)) (inside_at level (Inside.AfterBody body)) (inside_at level (Inside.Less body)) refl
    ∙ sign_like user level (Inside.Less body) (record { body = body; op = Lt }) (less_like user level body) k operand is rest
    ∙ run_spaces user (inside_at level (Inside.AfterSign (record { body = body; op = Lt }))) refl k (operand_text operand ++ rest)
sign_run user level body Le k operand is rest =
    takes user 60 (61 ∷ (spaces k ++ (operand_text operand ++ rest))) (inside_at level (Inside.AfterBody body)) (inside_at level (Inside.Less body)) refl
    ∙ takes user 61 (spaces k ++ (operand_text operand ++ rest)) (inside_at level (Inside.Less body)) (inside_at level (Inside.AfterSign (record { body = body; op = Le }))) refl
    ∙ run_spaces user (inside_at level (Inside.AfterSign (record { body = body; op = Le }))) refl k (operand_text operand ++ rest)
sign_run user level body Gt k operand is rest =
    takes user 62 (spaces k ++ (operand_text operand ++ rest)) (inside_at level (Inside.AfterBody body)) (inside_at level (Inside.Greater body)) refl
    ∙ sign_like user level (Inside.Greater body) (record { body = body; op = Gt }) (greater_like user level body) k operand is rest
    ∙ run_spaces user (inside_at level (Inside.AfterSign (record { body = body; op = Gt }))) refl k (operand_text operand ++ rest)
sign_run user level body Ge k operand is rest =
    takes user 62 (61 ∷ (spaces k ++ (operand_text operand ++ rest))) (inside_at level (Inside.AfterBody body)) (inside_at level (Inside.Greater body)) refl
    ∙ takes user 61 (spaces k ++ (operand_text operand ++ rest)) (inside_at level (Inside.Greater body)) (inside_at level (Inside.AfterSign (record { body = body; op = Ge }))) refl
    ∙ run_spaces user (inside_at level (Inside.AfterSign (record { body = body; op = Ge }))) refl k (operand_text operand ++ rest)

-- ---- operands

-- Some number of spaces and the end of the predicate.
abbrev pub closing : ℕ → List ℕ → List ℕ
closing n rest = spaces n ++ 93 ∷ rest

pub literal_opens : (user : List ℕ) (level : Level) (c : Compared) (quote : Quote) → step user (inside_at level (Inside.AfterSign c)) (quote_byte quote) ≡ Some (inside_at level (Inside.InLiteral c quote []))
literal_opens user level c Double = refl
literal_opens user level c Single = refl

pub literal_closes : (user : List ℕ) (level : Level) (c : Compared) (quote : Quote) (bytes : List ℕ) → step user (inside_at level (Inside.InLiteral c quote bytes)) (quote_byte quote) ≡ Some (inside_at level (Inside.AfterOperand (compared_pred c (Text bytes))))
literal_closes user level c Double bytes = refl
literal_closes user level c Single bytes = refl

pub not_true : (a : Bool) → not a ≡ true → a ≡ false
not_true true h = cc
not_true false h = refl

pub literal_goes : (user : List ℕ) (level : Level) (c : Compared) (quote : Quote) (xs : List ℕ) (b : ℕ) → list_all (is_quotable quote) xs ≡ true → is_quotable quote b ≡ true → length xs < 255
    → step user (inside_at level (Inside.InLiteral c quote xs)) b ≡ Some (inside_at level (Inside.InLiteral c quote (xs ++ b ∷ [])))
literal_goes user level c quote xs b had more few =
    let ne : nat_eq b (quote_byte quote) ≡ false = not_true _ (and_left (not (nat_eq b (quote_byte quote))) _ (and_right (nat_lt b 256) _ more)) in
    let both : (is_quotable quote b && nat_lt (length xs) 255) ≡ true = and_both _ _ more (lt_test (length xs) 255 few) in
    rw (both, ne) refl

pub number_at : Level → Compared → Bool → List ℕ → State
number_at level c negative ds = inside_at level (Inside.InNumber c (record { negative = negative; count = length ds; value = digits_value 10 ds }))

pub number_goes : (user : List ℕ) (level : Level) (c : Compared) (negative : Bool) (xs : List ℕ) (b : ℕ) → list_all is_ascii_digit xs ≡ true → is_ascii_digit b ≡ true → length xs < 18
    → step user (number_at level c negative xs) b ≡ Some (number_at level c negative (xs ++ b ∷ []))
unfolding number_at
number_goes user level c negative xs b had more few =
    let all : (is_ascii_digit b && (nat_lt (length xs) 18 && nat_lt (digits_value 10 xs) 100000000000000000)) ≡ true =
    and_both _ _ more (and_both _ _ (lt_test (length xs) 18 few) (lt_test (digits_value 10 xs) 100000000000000000 (value_of_17 xs had (omega arith)))) in
    goes all ∙ longer (length xs + 1) (length (xs ++ b ∷ [])) (digits_value 10 xs * 10 + (b - 48)) (digits_value 10 (xs ++ b ∷ [])) (sym (length_more xs b ∙ omega arith)) (value_more xs b more)
  where
    goes : (is_ascii_digit b && (nat_lt (length xs) 18 && nat_lt (digits_value 10 xs) 100000000000000000)) ≡ true
        → step user (inside_at level (Inside.InNumber c (record { negative = negative; count = length xs; value = digits_value 10 xs }))) b
        ≡ Some (inside_at level (Inside.InNumber c (record { negative = negative; count = length xs + 1; value = digits_value 10 xs * 10 + (b - 48) })))
    goes all = rw all refl

    longer : (m n v w : ℕ) → m ≡ n → v ≡ w → Some (inside_at level (Inside.InNumber c (record { negative = negative; count = m; value = v }))) ≡ Some (inside_at level (Inside.InNumber c (record { negative = negative; count = n; value = w })))
    longer m n v w p q = rw (p, q) refl

pub number_starts : (user : List ℕ) (level : Level) (c : Compared) (negative : Bool) (s : State) (b : ℕ) → is_ascii_digit b ≡ true
    → step user s b ≡ Some (inside_at level (Inside.InNumber c (record { negative = negative; count = 1; value = b - 48 }))) → step user s b ≡ Some (number_at level c negative (b ∷ []))
unfolding number_at
number_starts user level c negative s b digit e = e ∙ ap (λ (v : ℕ). Some (inside_at level (Inside.InNumber c (record { negative = negative; count = 1; value = v })))) (value_first b digit)

pub number_ends : (user : List ℕ) (level : Level) (c : Compared) (negative : Bool) (ds : List ℕ) → is_operand (WrittenOperand.Digits negative ds) ≡ true → (n : ℕ) (rest : List ℕ)
    → run user (closing n rest) (number_at level c negative ds) ≡ run user (closing n rest) (inside_at level (Inside.AfterOperand (compared_pred c (operand_of user (WrittenOperand.Digits negative ds)))))
unfolding number_at
number_ends user level c negative ds is n rest = by_spaces n ∙ ap (λ (o : Operand). run user (closing n rest) (inside_at level (Inside.AfterOperand (compared_pred c o)))) (sym (number_is user negative ds is))
  where
    by_spaces : (n : ℕ) → run user (closing n rest) (number_at level c negative ds)
        ≡ run user (closing n rest) (inside_at level (Inside.AfterOperand (compared_pred c (number (record { negative = negative; count = length ds; value = digits_value 10 ds })))))
    by_spaces zero = alike user 93 rest _ _ refl
    by_spaces (suc n) = alike user 32 (closing n rest) _ _ refl

pub digits_run : (user : List ℕ) (level : Level) (c : Compared) (negative : Bool) (s : State)
    (first : (b : ℕ) → is_ascii_digit b ≡ true → step user s b ≡ Some (inside_at level (Inside.InNumber c (record { negative = negative; count = 1; value = b - 48 }))))
    (ds : List ℕ) → is_operand (WrittenOperand.Digits negative ds) ≡ true → (rest : List ℕ) → run user (ds ++ rest) s ≡ run user rest (number_at level c negative ds)
digits_run user level c negative s first [] is rest = cc
digits_run user level c negative s first (b ∷ ds) is rest =
    let all = and_left (list_all is_ascii_digit (b ∷ ds)) _ is in
    let digit = and_left (is_ascii_digit b) _ all in
    let few : length (b ∷ ds) ≤ 18 = test_le _ _ (and_right (nat_lt 0 (length (b ∷ ds))) _ (and_right (list_all is_ascii_digit (b ∷ ds)) _ is)) in
    takes user b (ds ++ rest) s (number_at level c negative (b ∷ [])) (number_starts user level c negative s b digit (first b digit))
    ∙ run_more user is_ascii_digit 18 (number_at level c negative) (number_goes user level c negative) (b ∷ []) ds rest (and_both _ _ digit refl) (and_right (is_ascii_digit b) _ all) (omega arith)

pub operand_run : (user : List ℕ) (level : Level) (c : Compared) (operand : WrittenOperand) → is_operand operand ≡ true → (n : ℕ) (rest : List ℕ)
    → run user (operand_text operand ++ closing n rest) (inside_at level (Inside.AfterSign c))
    ≡ run user (closing n rest) (inside_at level (Inside.AfterOperand (compared_pred c (operand_of user operand))))
operand_run user level c (WrittenOperand.Quoted quote bytes) is n rest =
    takes user (quote_byte quote) ((bytes ++ quote_byte quote ∷ []) ++ closing n rest) (inside_at level (Inside.AfterSign c)) (inside_at level (Inside.InLiteral c quote [])) (literal_opens user level c quote)
    ∙ ap (λ t. run user t (inside_at level (Inside.InLiteral c quote []))) (append_assoc bytes (quote_byte quote ∷ []) (closing n rest))
    ∙ run_more user (is_quotable quote) 255 (λ xs. inside_at level (Inside.InLiteral c quote xs)) (literal_goes user level c quote) [] bytes (quote_byte quote ∷ closing n rest) refl
    (and_left (list_all (is_quotable quote) bytes) _ is) (let few = test_le _ _ (and_right (list_all (is_quotable quote) bytes) _ is) in omega (arith, few))
    ∙ takes user (quote_byte quote) (closing n rest) (inside_at level (Inside.InLiteral c quote bytes)) (inside_at level (Inside.AfterOperand (compared_pred c (Text bytes)))) (literal_closes user level c quote bytes)
operand_run user level c (WrittenOperand.Digits false ds) is n rest =
    digits_run user level c false (inside_at level (Inside.AfterSign c)) (λ b h. first b h) ds is (closing n rest) ∙ number_ends user level c false ds is n rest
  where
    first : (b : ℕ) → is_ascii_digit b ≡ true → step user (inside_at level (Inside.AfterSign c)) b ≡ Some (inside_at level (Inside.InNumber c (record { negative = false; count = 1; value = b - 48 })))
    first b h =
        let a = other_than is_ascii_digit b 32 h refl in let d = other_than is_ascii_digit b 34 h refl in
        let e = other_than is_ascii_digit b 39 h refl in let f = other_than is_ascii_digit b 45 h refl in rw (a, d, e, f, h) refl
operand_run user level c (WrittenOperand.Digits true ds) is n rest =
    takes user 45 (ds ++ closing n rest) (inside_at level (Inside.AfterSign c)) (inside_at level (Inside.Minus c)) refl
    ∙ digits_run user level c true (inside_at level (Inside.Minus c)) (λ b h. rw h refl) ds is (closing n rest) ∙ number_ends user level c true ds is n rest
operand_run user level c WrittenOperand.TheUser is n rest =
    takes user 85 (83 ∷ 69 ∷ 82 ∷ closing n rest) (inside_at level (Inside.AfterSign c)) (inside_at level (Inside.LetterU c)) refl
    ∙ takes user 83 (69 ∷ 82 ∷ closing n rest) (inside_at level (Inside.LetterU c)) (inside_at level (Inside.LettersUs c)) refl
    ∙ takes user 69 (82 ∷ closing n rest) (inside_at level (Inside.LettersUs c)) (inside_at level (Inside.LettersUse c)) refl
    ∙ takes user 82 (closing n rest) (inside_at level (Inside.LettersUse c)) (inside_at level (Inside.AfterOperand (compared_pred c (User user)))) refl
