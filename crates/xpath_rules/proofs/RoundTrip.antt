-- The canonical spelling of a path that can be read spells that path, and is no longer than any other spelling.
use Rattle.std.proofs.Common.{◌≡◌, ℕ, ℤ, zero, suc, pos, negsuc, ◌+◌, ◌*◌, ◌^◌, ◌<◌, ◌≤◌, Bool, true, false, not, cond, nat_eq, nat_le, nat_lt, ◌&&◌, ◌||◌, Option, Some, None, is_some, Ok, List, [], ◌∷◌, ◌++◌, length, map, flat_map, get_or, refl, sym, ap, subst, ◌∙◌, arith, append_assoc, append-nil, length-append}
use lib.ListN.{replicate}
use lib.IntN.{neg_ℤ}
use Rattle.std.specs.List.{list_all}
use Rattle.std.specs.Char.{is_ascii_digit}
use Rattle.std.specs.Fmt.{decimal}
use Rattle.std.specs.Option.{option_map}
use Rattle.std.specs.Str.Parse.{digits_value}
use Rattle.std.proofs.lemmas.Str.Parse.{digits_value_short}
use Rattle.std.proofs.lemmas.Fmt.{digits_decimal, digits_value-decimal, length-decimal-le, decimal_nonempty}
use Rattle.std.proofs.Math.Nat.{pow-le-pow_right}
use Rattle.acl_model.specs.Limits.{most_path_bytes}
use Rattle.acl_model.specs.Ascii.{is_byte, line_feed}
use Rattle.acl_model.specs.declared.path.Path.{Path}
use Rattle.acl_model.specs.declared.path.Step.{Step}
use Rattle.acl_model.specs.declared.path.Pred.{Pred}
use Rattle.acl_model.specs.declared.path.Cmp.{Cmp}
use Rattle.acl_model.specs.declared.path.Operand.{Operand}
use Rattle.acl_model.specs.declared.path.Operand.TheVariants.{Text, Number, User}
use Rattle.xpath_rules.specs.declared.quote.Quote.{Quote}
use Rattle.xpath_rules.specs.declared.quote.Quote.TheVariants.{Double, Single}
use Rattle.xpath_rules.specs.Grammar.{WrittenOperand, WrittenCmp, WrittenPred, WrittenStep, spaces, slash_text, test_text, is_test, body_text, is_way, is_attribute, is_dot, sign_text, quote_byte, is_quotable, minus_text, signed_number, operand_text, is_operand, operand_of, cmp_text, is_cmp, cmp_of, pred_text, is_pred, pred_of, step_text, is_step, step_of, path_text, is_path, path_of}
use Rattle.xpath_rules.specs.Canonical.{quote_for, canonical_number, canonical_operand, canonical_cmp, canonical_pred, canonical_step, canonical_text}
use Rattle.xpath_rules.specs.PathReading.{Spells}
use Rattle.xpath_rules.specs.PathMachine.{read_path_of}
use Rattle.xpath_rules.specs.PathAnswers.{CanBeRead}
use Rattle.xpath_rules.proofs.Names.{and_left, and_right, and_both, le_test, test_le, test_lt, lt_test, own}
use Rattle.xpath_rules.proofs.Places.{spelled_read, read_within, read_spelled}

-- ---- operands

-- What is proved of the canonical operand of one that was written.
record IsAsGood (user : List ℕ) (w : WrittenOperand) (c : WrittenOperand) : Type 0 where
  in_form : is_operand c ≡ true
  meaning : operand_of user c ≡ operand_of user w
  shorter : length (operand_text c) ≤ length (operand_text w)

quotable_double : (quote : Quote) (bytes : List ℕ) → list_all (is_quotable quote) bytes ≡ true → list_all (λ b. not (nat_eq b 34)) bytes ≡ true → list_all (is_quotable Double) bytes ≡ true
quotable_double quote [] all none = refl
quotable_double quote (b ∷ bytes) all none =
    let one : is_quotable quote b ≡ true = and_left (is_quotable quote b) _ all in
    and_both _ _
    (and_both _ _ (and_left (is_byte b) _ one) (and_both _ _ (and_left (not (nat_eq b 34)) _ none) (and_right (not (nat_eq b (quote_byte quote))) _ (and_right (is_byte b) _ one))))
    (quotable_double quote bytes (and_right (is_quotable quote b) _ all) (and_right (not (nat_eq b 34)) _ none))

double_holds_none : (bytes : List ℕ) → list_all (is_quotable Double) bytes ≡ true → list_all (λ b. not (nat_eq b 34)) bytes ≡ true
double_holds_none [] all = refl
double_holds_none (b ∷ bytes) all =
    and_both _ _ (and_left (not (nat_eq b 34)) _ (and_right (is_byte b) _ (and_left (is_quotable Double b) _ all))) (double_holds_none bytes (and_right (is_quotable Double b) _ all))

quote_is_good : (quote : Quote) (bytes : List ℕ) → list_all (is_quotable quote) bytes ≡ true → list_all (is_quotable (quote_for bytes)) bytes ≡ true
quote_is_good quote bytes all = elim (list_all (λ b. not (nat_eq b 34)) bytes) as (λ v. list_all (λ b. not (nat_eq b 34)) bytes ≡ v → list_all (is_quotable (cond v Double Single)) bytes ≡ true) [
  | true ↦ λ is. quotable_double quote bytes all is
  | false ↦ λ is. by_quote quote all is
] refl
  where
    by_quote : (quote : Quote) → list_all (is_quotable quote) bytes ≡ true → list_all (λ b. not (nat_eq b 34)) bytes ≡ false → list_all (is_quotable Single) bytes ≡ true
    by_quote Single all is = all
    by_quote Double all is = let none = double_holds_none bytes all in cc

same_length : (p q : ℕ) (bytes : List ℕ) → length (p ∷ (bytes ++ p ∷ [])) ≤ length (q ∷ (bytes ++ q ∷ []))
same_length p q bytes = let a = length-append bytes (p ∷ []) in let b = length-append bytes (q ∷ []) in omega (arith, a, b)

literal_good : (user : List ℕ) (quote : Quote) (bytes : List ℕ) → is_operand (WrittenOperand.Quoted quote bytes) ≡ true → IsAsGood user (WrittenOperand.Quoted quote bytes) (canonical_operand (Text bytes))
literal_good user quote bytes is = record {
  in_form = and_both _ _ (quote_is_good quote bytes (and_left (list_all (is_quotable quote) bytes) _ is)) (and_right (list_all (is_quotable quote) bytes) _ is);
  meaning = refl;
  shorter = same_length (quote_byte (quote_for bytes)) (quote_byte quote) bytes;
}

-- ---- numbers

below_18 : (k n : ℕ) → k ≤ 18 → n < 10 ^ k → n < 10 ^ 18
below_18 k n few below = let grows : 10 ^ k ≤ 10 ^ 18 = pow-le-pow_right {n = 10} (omega arith) {i = k} {j = 18} few in omega (arith, grows, below)

-- The decimal digits of a number that 1 to 18 digits write.
decimal_good : (ds : List ℕ) → list_all is_ascii_digit ds ≡ true → 0 < length ds → length ds ≤ 18
    → (is_operand (WrittenOperand.Digits false (decimal (digits_value 10 ds))) ≡ true) × (length (decimal (digits_value 10 ds)) ≤ length ds) × (digits_value 10 (decimal (digits_value 10 ds)) ≡ digits_value 10 ds)
decimal_good ds all some few =
    let below : digits_value 10 ds < 10 ^ length ds = digits_value_short own ds (length ds) all (omega arith) in
    let below18 : digits_value 10 ds < 10 ^ 18 = below_18 (length ds) (digits_value 10 ds) few below in
    let fits : digits_value 10 ds < 2 ^ 64 = omega (arith, below18) in
    let short : length (decimal (digits_value 10 ds)) ≤ length ds = length-decimal-le (length ds) (digits_value 10 ds) some below fits in
    let any : 0 < length (decimal (digits_value 10 ds)) = decimal_nonempty (digits_value 10 ds) fits in (
      and_both _ _ (digits_decimal own (digits_value 10 ds) fits) (and_both _ _ (lt_test 0 (length (decimal (digits_value 10 ds))) any) (le_test (length (decimal (digits_value 10 ds))) 18 (omega (arith, short, few)))),
      short,
      digits_value-decimal own (digits_value 10 ds) fits,
    )

-- A number is written by its value alone.
number_good : (user : List ℕ) (negative : Bool) (ds : List ℕ) (n : ℕ) → n ≡ digits_value 10 ds
    → is_operand (WrittenOperand.Digits false (decimal n)) ≡ true → length (decimal n) ≤ length ds → digits_value 10 (decimal n) ≡ n
    → IsAsGood user (WrittenOperand.Digits negative ds) (canonical_number (signed_number negative n))
number_good user false ds n same form short value = record { in_form = form; meaning = ap (λ (v : ℕ). Number (pos v)) (value ∙ same); shorter = short }
number_good user true ds zero same form short value = record { in_form = form; meaning = ap (λ (v : ℕ). Number (pos v)) value ∙ ap (λ (v : ℕ). Number (neg_ℤ (pos v))) same; shorter = omega (arith, short) }
number_good user true ds (suc m) same form short value = record { in_form = form; meaning = ap (λ (v : ℕ). Number (neg_ℤ (pos v))) (value ∙ same); shorter = omega (arith, short) }

operand_good : (user : List ℕ) (w : WrittenOperand) → is_operand w ≡ true → IsAsGood user w (canonical_operand (operand_of user w))
operand_good user (WrittenOperand.Quoted quote bytes) is = literal_good user quote bytes is
operand_good user (WrittenOperand.Digits negative ds) is =
    let more : (nat_lt 0 (length ds) && nat_le (length ds) 18) ≡ true = and_right (list_all is_ascii_digit ds) _ is in
    let good = decimal_good ds (and_left (list_all is_ascii_digit ds) _ is) (test_lt 0 (length ds) (and_left (nat_lt 0 (length ds)) _ more)) (test_le (length ds) 18 (and_right (nat_lt 0 (length ds)) _ more)) in
    number_good user negative ds (digits_value 10 ds) refl good.0 good.1 good.2
operand_good user WrittenOperand.TheUser is = record { in_form = refl; meaning = refl; shorter = omega arith }

-- ---- predicates

cmp_form : (user : List ℕ) (cmp : Option WrittenCmp) → is_cmp cmp ≡ true → is_cmp (option_map canonical_cmp (option_map (cmp_of user) cmp)) ≡ true
cmp_form user None is = refl
cmp_form user (Some c) is = (operand_good user c.operand is).in_form

cmp_meaning : (user : List ℕ) (cmp : Option WrittenCmp) → is_cmp cmp ≡ true → option_map (cmp_of user) (option_map canonical_cmp (option_map (cmp_of user) cmp)) ≡ option_map (cmp_of user) cmp
cmp_meaning user None is = refl
cmp_meaning user (Some c) is = ap (λ (o : Operand). Some (record { op = c.op; operand = o })) (operand_good user c.operand is).meaning

cmp_shorter : (user : List ℕ) (cmp : Option WrittenCmp) → is_cmp cmp ≡ true → length (cmp_text (option_map canonical_cmp (option_map (cmp_of user) cmp))) ≤ length (cmp_text cmp)
cmp_shorter user None is = omega arith
cmp_shorter user (Some c) is =
    let good = (operand_good user c.operand is).shorter in
    let a = length-append (sign_text c.op) (operand_text (canonical_operand (operand_of user c.operand))) in
    let b = length-append (spaces c.before) (sign_text c.op ++ (spaces c.between ++ operand_text c.operand)) in
    let d = length-append (sign_text c.op) (spaces c.between ++ operand_text c.operand) in
    let e = length-append (spaces c.between) (operand_text c.operand) in
    omega (arith, good, a, b, d, e)

some_stays : (user : List ℕ) (cmp : Option WrittenCmp) → is_some (option_map canonical_cmp (option_map (cmp_of user) cmp)) ≡ is_some cmp
some_stays user None = refl
some_stays user (Some c) = refl

pred_form : (user : List ℕ) (p : WrittenPred) → is_pred p ≡ true → is_pred (canonical_pred (pred_of user p)) ≡ true
pred_form user p is =
    let more : (is_attribute p.attribute && (is_cmp p.cmp && (not (is_dot p.way p.attribute) || is_some p.cmp))) ≡ true = and_right (is_way p.way) _ is in
    let last : (is_cmp p.cmp && (not (is_dot p.way p.attribute) || is_some p.cmp)) ≡ true = and_right (is_attribute p.attribute) _ more in
    and_both _ _ (and_left (is_way p.way) _ is) (and_both _ _ (and_left (is_attribute p.attribute) _ more)
    (and_both _ _ (cmp_form user p.cmp (and_left (is_cmp p.cmp) _ last))
    (ap (λ (b : Bool). not (is_dot p.way p.attribute) || b) (some_stays user p.cmp) ∙ and_right (is_cmp p.cmp) _ last)))

cmp_is : (p : WrittenPred) → is_pred p ≡ true → is_cmp p.cmp ≡ true
cmp_is p is = and_left (is_cmp p.cmp) _ (and_right (is_attribute p.attribute) _ (and_right (is_way p.way) _ is))

pred_meaning : (user : List ℕ) (p : WrittenPred) → is_pred p ≡ true → pred_of user (canonical_pred (pred_of user p)) ≡ pred_of user p
pred_meaning user p is = ap (λ (cmp : Option Cmp). record { way = p.way; attribute = p.attribute; cmp = cmp }) (cmp_meaning user p.cmp (cmp_is p is))

pred_shorter : (user : List ℕ) (p : WrittenPred) → is_pred p ≡ true → length (pred_text (canonical_pred (pred_of user p))) ≤ length (pred_text p)
pred_shorter user p is =
    let body : List ℕ = body_text p.way p.attribute in
    let short : List ℕ = cmp_text (option_map canonical_cmp (option_map (cmp_of user) p.cmp)) in
    let good = cmp_shorter user p.cmp (cmp_is p is) in
    let a = length-append body (short ++ 93 ∷ []) in
    let b = length-append short (93 ∷ []) in
    let d = length-append (spaces p.before) (body ++ (cmp_text p.cmp ++ (spaces p.after ++ 93 ∷ []))) in
    let e = length-append body (cmp_text p.cmp ++ (spaces p.after ++ 93 ∷ [])) in
    let f = length-append (cmp_text p.cmp) (spaces p.after ++ 93 ∷ []) in
    let g = length-append (spaces p.after) (93 ∷ []) in
    omega (arith, good, a, b, d, e, f, g)

-- ---- steps and paths

preds_form : (user : List ℕ) (preds : List WrittenPred) → list_all is_pred preds ≡ true → list_all is_pred (map canonical_pred (map (pred_of user) preds)) ≡ true
preds_form user [] is = refl
preds_form user (p ∷ preds) is = and_both _ _ (pred_form user p (and_left (is_pred p) _ is)) (preds_form user preds (and_right (is_pred p) _ is))

preds_meaning : (user : List ℕ) (preds : List WrittenPred) → list_all is_pred preds ≡ true → map (pred_of user) (map canonical_pred (map (pred_of user) preds)) ≡ map (pred_of user) preds
preds_meaning user [] is = refl
preds_meaning user (p ∷ preds) is = let a = pred_meaning user p (and_left (is_pred p) _ is) in let b = preds_meaning user preds (and_right (is_pred p) _ is) in
    ap (λ (x : Pred). x ∷ map (pred_of user) (map canonical_pred (map (pred_of user) preds))) a ∙ ap (λ (l : List Pred). pred_of user p ∷ l) b

preds_shorter : (user : List ℕ) (preds : List WrittenPred) → list_all is_pred preds ≡ true → length (flat_map pred_text (map canonical_pred (map (pred_of user) preds))) ≤ length (flat_map pred_text preds)
preds_shorter user [] is = omega arith
preds_shorter user (p ∷ preds) is =
    let one = pred_shorter user p (and_left (is_pred p) _ is) in
    let more = preds_shorter user preds (and_right (is_pred p) _ is) in
    let a = length-append (pred_text (canonical_pred (pred_of user p))) (flat_map pred_text (map canonical_pred (map (pred_of user) preds))) in
    let b = length-append (pred_text p) (flat_map pred_text preds) in
    omega (arith, one, more, a, b)

step_form : (user : List ℕ) (s : WrittenStep) → is_step s ≡ true → is_step (canonical_step (step_of user s)) ≡ true
step_form user s is = and_both _ _ (and_left (is_test s.test) _ is) (preds_form user s.preds (and_right (is_test s.test) _ is))

step_meaning : (user : List ℕ) (s : WrittenStep) → is_step s ≡ true → step_of user (canonical_step (step_of user s)) ≡ step_of user s
step_meaning user s is = ap (λ (l : List Pred). record { axis = s.axis; test = s.test; preds = l }) (preds_meaning user s.preds (and_right (is_test s.test) _ is))

step_shorter : (user : List ℕ) (s : WrittenStep) → is_step s ≡ true → length (step_text (canonical_step (step_of user s))) ≤ length (step_text s)
step_shorter user s is =
    let more = preds_shorter user s.preds (and_right (is_test s.test) _ is) in
    let short : List ℕ = flat_map pred_text (map canonical_pred (map (pred_of user) s.preds)) in
    let a = length-append (slash_text s.axis) (test_text s.test ++ short) in
    let b = length-append (test_text s.test) short in
    let d = length-append (slash_text s.axis) (test_text s.test ++ flat_map pred_text s.preds) in
    let e = length-append (test_text s.test) (flat_map pred_text s.preds) in
    omega (arith, more, a, b, d, e)

steps_form : (user : List ℕ) (steps : List WrittenStep) → list_all is_step steps ≡ true → list_all is_step (map canonical_step (map (step_of user) steps)) ≡ true
steps_form user [] is = refl
steps_form user (s ∷ steps) is = and_both _ _ (step_form user s (and_left (is_step s) _ is)) (steps_form user steps (and_right (is_step s) _ is))

steps_meaning : (user : List ℕ) (steps : List WrittenStep) → list_all is_step steps ≡ true → map (step_of user) (map canonical_step (map (step_of user) steps)) ≡ map (step_of user) steps
steps_meaning user [] is = refl
steps_meaning user (s ∷ steps) is = let a = step_meaning user s (and_left (is_step s) _ is) in let b = steps_meaning user steps (and_right (is_step s) _ is) in
    ap (λ (x : Step). x ∷ map (step_of user) (map canonical_step (map (step_of user) steps))) a ∙ ap (λ (l : List Step). step_of user s ∷ l) b

steps_shorter : (user : List ℕ) (steps : List WrittenStep) → list_all is_step steps ≡ true → length (path_text (map canonical_step (map (step_of user) steps))) ≤ length (path_text steps)
steps_shorter user [] is = omega arith
steps_shorter user (s ∷ steps) is =
    let one = step_shorter user s (and_left (is_step s) _ is) in
    let more = steps_shorter user steps (and_right (is_step s) _ is) in
    let a = length-append (step_text (canonical_step (step_of user s))) (path_text (map canonical_step (map (step_of user) steps))) in
    let b = length-append (step_text s) (path_text steps) in
    omega (arith, one, more, a, b)

path_form : (user : List ℕ) (steps : List WrittenStep) → is_path steps ≡ true → is_path (map canonical_step (map (step_of user) steps)) ≡ true
path_form user [] is = is
path_form user (s ∷ steps) is = steps_form user (s ∷ steps) is

all_steps : (steps : List WrittenStep) → is_path steps ≡ true → list_all is_step steps ≡ true
all_steps [] is = refl
all_steps (s ∷ steps) is = is

-- The written path of the canonical spelling, for a path that some bytes spell.
pub canonical_spells : (user bytes : List ℕ) (path : Path) → Spells user bytes path → Spells user (canonical_text path) path
canonical_spells user bytes path s = record {
  written = map canonical_step path.steps;
  in_form = ap (λ (p : Path). is_path (map canonical_step p.steps)) s.meaning ∙ path_form user s.written s.in_form;
  text = refl;
  meaning = s.meaning
      ∙ sym (ap (λ (l : List Step). record { steps = l }) (steps_meaning user s.written (all_steps s.written s.in_form)))
      ∙ sym (ap (λ (p : Path). path_of user (map canonical_step p.steps)) s.meaning);
}

pub canonical_shorter : (user bytes : List ℕ) (path : Path) → Spells user bytes path → length (canonical_text path) ≤ length bytes
canonical_shorter user bytes path s =
    let short = steps_shorter user s.written (all_steps s.written s.in_form) in
    let a = ap (λ (p : Path). length (canonical_text p)) s.meaning in
    let b = ap (length {A = ℕ}) s.text in
    omega (arith, short, a, b)

-- Reading the canonical spelling with the same user gives the path again.
pub canonical_read : (user bytes : List ℕ) (path : Path) → read_path_of bytes user ≡ Ok path → read_path_of (canonical_text path) user ≡ Ok path
canonical_read user bytes path e =
    let s = read_spelled user bytes path e in
    let short = canonical_shorter user bytes path s in
    let few = read_within user bytes path e in
    spelled_read user (canonical_text path) path (canonical_spells user bytes path s) (omega (arith, short, few))

-- What is written is read again.
pub written_read : (bytes : List ℕ) (path : Path) → bytes ≡ canonical_text path → (user : List ℕ) → CanBeRead user path → read_path_of bytes user ≡ Ok path
written_read bytes path is user can = ap (λ t. read_path_of t user) is ∙ canonical_read user can.0 path can.1

-- What is written spells the path.
pub written_spells : (bytes : List ℕ) (path : Path) → bytes ≡ canonical_text path → (user : List ℕ) → CanBeRead user path → Spells user bytes path
written_spells bytes path is user can = read_spelled user bytes path (written_read bytes path is user can)
