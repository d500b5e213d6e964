-- What was read in a predicate is spelled so: each row of a table makes the text one byte longer.
use Rattle.std.proofs.Common.{◌≡◌, ℕ, suc, ◌+◌, ◌-◌, ◌*◌, ◌<◌, ◌≤◌, min, Bool, true, false, not, nat_eq, nat_le, nat_lt, ◌&&◌, ◌||◌, Option, Some, None, is_some, List, [], ◌∷◌, ◌++◌, length, map, refl, sym, ap, subst, ◌∙◌, arith, append_assoc, append-nil, length-append}
use lib.ListN.{replicate}
use Rattle.std.specs.List.{list_all}
use Rattle.std.specs.Char.{is_ascii_digit}
use Rattle.std.specs.Str.Parse.{digits_value}
use Rattle.std.proofs.lemmas.List.{replicate_more}
use borrow.Author.Tests.{eqb-true}
use Rattle.acl_model.specs.Ascii.{space}
use Rattle.acl_model.specs.Names.{begins_name, continues_name, is_name}
use Rattle.acl_model.specs.declared.path.Pred.{Pred}
use Rattle.acl_model.specs.declared.path.PredStep.{PredStep}
use Rattle.acl_model.specs.declared.path.Axis.{Axis}
use Rattle.acl_model.specs.declared.path.Axis.TheVariants.{Child, Descendant}
use Rattle.acl_model.specs.declared.path.Test.{Test}
use Rattle.acl_model.specs.declared.path.Test.TheVariants.{Any, Named}
use Rattle.acl_model.specs.declared.path.Op.{Op}
use Rattle.acl_model.specs.declared.path.Op.TheVariants.{Eq, Ne, Lt, Le, Gt, Ge}
use Rattle.acl_model.specs.declared.path.Operand.{Operand}
use Rattle.acl_model.specs.declared.path.Operand.TheVariants.{Text, Number, User}
use Rattle.xpath_rules.specs.declared.quote.Quote.{Quote}
use Rattle.xpath_rules.specs.declared.quote.Quote.TheVariants.{Double, Single}
use Rattle.xpath_rules.specs.declared.state.Inside.{Inside}
use Rattle.xpath_rules.specs.declared.state.WayLevel.{WayLevel}
use Rattle.xpath_rules.specs.declared.state.Body.{Body}
use Rattle.xpath_rules.specs.declared.state.Compared.{Compared}
use Rattle.xpath_rules.specs.declared.state.Digits.{Digits}
use Rattle.xpath_rules.specs.declared.state.Next.{Next}
use Rattle.xpath_rules.specs.Grammar.{WrittenOperand, WrittenCmp, WrittenPred, spaces, slash_text, test_text, lead_text, way_text, is_way, is_test, body_text, is_attribute, is_dot, sign_text, quote_byte, is_quotable, signed_number, minus_text, operand_text, is_operand, operand_of, cmp_text, pred_text, is_pred, pred_of}
use Rattle.xpath_rules.specs.PathMachine.{Row, byte, some, test_rows, longer_test, has_room, whole_way, way_step, longer_way, bare_pred, compared_pred, body_rows, operand_rows, closing_rows, longer_digits, takes_digit, number, inside_rows}
use Rattle.xpath_rules.proofs.Tables.{AllRows}
use Rattle.xpath_rules.proofs.Names.{and_left, and_right, and_both, le_test, test_le, test_lt, lt_test, all_more, length_more, first_name, name_more, test_more, test_text_more, opening, way_text_more, way_more, body_of_way, at_text, at_text_after, opening_after, body_of_attribute, value_more, value_first, value_of_18}
use Rattle.xpath_rules.proofs.SoFar.{Prefix, Signed, SoFar, prefix_text, signed_text, begun_text, text_in, body_in, compared_in, state_in, IsLevel, IsPrefix, IsFormed, Writes, WritesPred, Leads}

-- ---- one byte more

-- the row of the byte k
pub more : (user before : List ℕ) (k : ℕ) (c : SoFar) → text_in c ≡ before ++ k ∷ [] → IsFormed c
    → (b : ℕ) → nat_eq b k ≡ true → Leads user (before ++ b ∷ []) (Next.More (state_in user c))
more user before k c text formed b is =
    record { written = c; formed = formed; text_is = text ∙ ap (λ x. before ++ x ∷ []) (sym (eqb-true b k is)); state_is = refl }

-- a row of other bytes
pub other : (user before : List ℕ) (c : SoFar) (b : ℕ) → text_in c ≡ before ++ b ∷ [] → IsFormed c
    → Leads user (before ++ b ∷ []) (Next.More (state_in user c))
other user before c b text formed = record { written = c; formed = formed; text_is = text; state_is = refl }

pub whole : (user before : List ℕ) (k : ℕ) (p : WrittenPred) → pred_text p ≡ before ++ k ∷ [] → is_pred p ≡ true
    → (b : ℕ) → nat_eq b k ≡ true → Leads user (before ++ b ∷ []) (Next.Whole (pred_of user p))
whole user before k p text in_form b is =
    record { written = p; in_form = in_form; text_is = text ∙ ap (λ x. before ++ x ∷ []) (sym (eqb-true b k is)); meaning = refl }

-- Texts in another grouping.
pub regroup_three : (a b c d : List ℕ) → a ++ (b ++ (c ++ d)) ≡ (a ++ (b ++ c)) ++ d
regroup_three a b c d = simp append_assoc

pub regroup_four : (a b c d e : List ℕ) → a ++ (b ++ (c ++ (d ++ e))) ≡ (a ++ (b ++ (c ++ d))) ++ e
regroup_four a b c d e = simp append_assoc

-- one space more
pub space_more : (n : ℕ) → spaces (n + 1) ≡ spaces n ++ 32 ∷ []
space_more n = sym (replicate_more n 32)

pub prefix_more : (f : Prefix) → prefix_text (record f { between = f.between + 1 }) ≡ prefix_text f ++ 32 ∷ []
prefix_more f = rw (space_more f.between) (simp append_assoc)

pub signed_more : (s : Signed) → signed_text (record s { after = s.after + 1 }) ≡ signed_text s ++ 32 ∷ []
signed_more s = ap (λ t. prefix_text s.prefix ++ (sign_text s.op ++ t)) (space_more s.after) ∙ regroup_three (prefix_text s.prefix) (sign_text s.op) (spaces s.after) (32 ∷ [])

-- ---- the tables that states share

-- A table for one text is a table for an equal one.
pub at_text_of : (user t u : List ℕ) (rows : List (Row Next)) → t ≡ u
    → AllRows (λ b next. Leads user (t ++ b ∷ []) next) rows → AllRows (λ b next. Leads user (u ++ b ∷ []) next) rows
at_text_of user t u rows e all = subst (λ (x : List ℕ). AllRows (λ b next. Leads user (x ++ b ∷ []) next) rows) e all

-- A comparison operator after a body.
pub sign_after : (f : Prefix) (op : Op) → signed_text (record { prefix = f; op = op; after = 0 }) ≡ prefix_text f ++ sign_text op
sign_after f op = simp append-nil

pub bare_text : (f : Prefix) → pred_text (record { before = f.before; way = f.way; attribute = f.attribute; cmp = None; after = f.between }) ≡ prefix_text f ++ 93 ∷ []
bare_text f = simp append_assoc

pub bare_formed : (f : Prefix) → IsPrefix f → not (is_dot f.way f.attribute) ≡ true
    → is_pred (record { before = f.before; way = f.way; attribute = f.attribute; cmp = None; after = f.between }) ≡ true
bare_formed f formed dot = and_both _ _ formed.0 (and_both _ _ formed.1 (rw dot refl))

pub body_lead : (user : List ℕ) (f : Prefix) → IsPrefix f → AllRows (λ b next. Leads user (prefix_text f ++ b ∷ []) next) (body_rows (body_in f))
body_lead user f formed = (
  more user (prefix_text f) 32 (SoFar.AfterBody (record f { between = f.between + 1 })) (prefix_more f) formed,
  (
    more user (prefix_text f) 61 (SoFar.AfterSign (record { prefix = f; op = Eq; after = 0 })) (sign_after f Eq) formed,
    (
      more user (prefix_text f) 33 (SoFar.Exclamation f) refl formed,
      (
        more user (prefix_text f) 60 (SoFar.Less f) refl formed,
        (
          more user (prefix_text f) 62 (SoFar.Greater f) refl formed,
          (
            λ b is. whole user (prefix_text f) 93 (record { before = f.before; way = f.way; attribute = f.attribute; cmp = None; after = f.between })
                (bare_text f) (bare_formed f formed (and_right (nat_eq b 93) _ is)) b (and_left (nat_eq b 93) _ is),
            tt,
          ),
        ),
      ),
    ),
  ),
)

-- The first digit of a number.
pub digit_lead : (user : List ℕ) (s : Signed) (negative : Bool) (t : List ℕ) → t ≡ signed_text s ++ minus_text negative → IsPrefix s.prefix
    → (b : ℕ) → is_ascii_digit b ≡ true
    → Leads user (t ++ b ∷ []) (Next.More (Inside.InNumber (compared_in s) (record { negative = negative; count = 1; value = b - 48 })))
digit_lead user s negative t text formed b is = record {
  written = SoFar.InNumber s negative (b ∷ []);
  formed = (formed, and_both _ _ (and_both _ _ is refl) refl);
  text_is = rw text (simp append_assoc);
  state_is = ap (λ (v : ℕ). Inside.InNumber (compared_in s) (record { negative = negative; count = 1; value = v })) (sym (value_first b is));
}

pub operand_lead : (user : List ℕ) (s : Signed) → IsPrefix s.prefix → AllRows (λ b next. Leads user (signed_text s ++ b ∷ []) next) (operand_rows (compared_in s))
operand_lead user s formed = (
  more user (signed_text s) 32 (SoFar.AfterSign (record s { after = s.after + 1 })) (signed_more s) formed,
  (
    more user (signed_text s) 34 (SoFar.InLiteral s Double []) refl (formed, refl),
    (
      more user (signed_text s) 39 (SoFar.InLiteral s Single []) refl (formed, refl),
      (
        more user (signed_text s) 45 (SoFar.Minus s) refl formed,
        (
          digit_lead user s false (signed_text s) (sym (append-nil (signed_text s))) formed,
          (
            more user (signed_text s) 85 (SoFar.LetterU s) refl formed,
            tt,
          ),
        ),
      ),
    ),
  ),
)

-- A predicate with a comparison.
abbrev pub compared_written : Signed → WrittenOperand → ℕ → WrittenPred
compared_written s operand n = record {
  before = s.prefix.before;
  way = s.prefix.way;
  attribute = s.prefix.attribute;
  cmp = Some (record { before = s.prefix.between; op = s.op; between = s.after; operand = operand });
  after = n;
}

pub compared_text : (s : Signed) (operand : WrittenOperand) (n : ℕ) → pred_text (compared_written s operand n) ≡ (signed_text s ++ (operand_text operand ++ spaces n)) ++ 93 ∷ []
compared_text s operand n = simp append_assoc

pub compared_formed : (s : Signed) (operand : WrittenOperand) (n : ℕ) → IsPrefix s.prefix → is_operand operand ≡ true → is_pred (compared_written s operand n) ≡ true
compared_formed s operand n formed is = and_both _ _ formed.0 (and_both _ _ formed.1 (and_both _ _ is (or_true (not (is_dot s.prefix.way s.prefix.attribute)))))
  where
    or_true : (a : Bool) → (a || true) ≡ true
    or_true true = refl
    or_true false = refl

pub operand_more : (s : Signed) (operand : WrittenOperand) (n : ℕ) → signed_text s ++ (operand_text operand ++ spaces (n + 1)) ≡ (signed_text s ++ (operand_text operand ++ spaces n)) ++ 32 ∷ []
operand_more s operand n = ap (λ t. signed_text s ++ (operand_text operand ++ t)) (space_more n) ∙ regroup_three (signed_text s) (operand_text operand) (spaces n) (32 ∷ [])

pub closing_lead : (user : List ℕ) (s : Signed) (operand : WrittenOperand) (n : ℕ) → IsPrefix s.prefix → is_operand operand ≡ true
    → AllRows (λ b next. Leads user ((signed_text s ++ (operand_text operand ++ spaces n)) ++ b ∷ []) next) (closing_rows (compared_pred (compared_in s) (operand_of user operand)))
closing_lead user s operand n formed is = (
  more user (text_in (SoFar.AfterOperand s operand n)) 32 (SoFar.AfterOperand s operand (n + 1)) (operand_more s operand n) (formed, is),
  (
    whole user (text_in (SoFar.AfterOperand s operand n)) 93 (compared_written s operand n) (compared_text s operand n) (compared_formed s operand n formed is),
    tt,
  ),
)

-- A step of a way begins.
pub test_lead : (user before : List ℕ) (n : ℕ) (way : List PredStep) (axis : Axis) → before ≡ begun_text n way (opening way axis) → is_way way ≡ true
    → AllRows (λ b next. Leads user (before ++ b ∷ []) next) (test_rows (way_step way axis))
test_lead user before n way axis text formed = (
  more user before 42 (SoFar.InWay n (record { done = way; step = record { axis = axis; test = Any } })) (step_text (record { axis = axis; test = Any }) refl) (formed, refl),
  (
    λ b is. other user before (SoFar.InWay n (record { done = way; step = record { axis = axis; test = Named (b ∷ []) } })) b (step_text (record { axis = axis; test = Named (b ∷ []) }) refl) (formed, first_name b is),
    tt,
  ),
)
  where
    step_text : (s : PredStep) → s.axis ≡ axis → 91 ∷ (spaces n ++ way_text (way ++ s ∷ [])) ≡ before ++ test_text s.test
    step_text s same = rw (way_text_more way s, text, same) (simp append_assoc)

-- ---- each state

pub way_longer : (n : ℕ) (level : WayLevel) (b : ℕ) → has_room level.step.test ≡ true → text_in (SoFar.InWay n (longer_way level b)) ≡ text_in (SoFar.InWay n level) ++ b ∷ []
way_longer n level b room =
    ap (λ t. 91 ∷ (spaces n ++ t)) (way_text_more level.done (longer_way level b).step ∙ ap (λ t. way_text level.done ++ (opening level.done level.step.axis ++ t)) (test_text_more level.step.test b room))
    ∙ ap (λ t. 91 ∷ t) (regroup_four (spaces n) (way_text level.done) (opening level.done level.step.axis) (test_text level.step.test) (b ∷ []))
    ∙ ap (λ t. 91 ∷ ((spaces n ++ t) ++ b ∷ [])) (sym (way_text_more level.done level.step))

-- The prefix that a way or an attribute is, with no spaces after it.
pub way_prefix : (n : ℕ) (level : WayLevel) → prefix_text (record { before = n; way = whole_way level; attribute = None; between = 0 }) ≡ text_in (SoFar.InWay n level)
way_prefix n level = rw (body_of_way level.done level.step) (simp append-nil)

pub attribute_prefix : (n : ℕ) (way : List PredStep) (name : List ℕ) → prefix_text (record { before = n; way = way; attribute = Some name; between = 0 }) ≡ text_in (SoFar.InAttribute n way name)
attribute_prefix n way name = rw (body_of_attribute way name) (simp append-nil)

pub whole_formed : (level : WayLevel) → IsLevel level → is_way (whole_way level) ≡ true
whole_formed level formed = way_more level.done level.step formed.0 formed.1

pub literal_more : (quote : Quote) (bytes : List ℕ) (b : ℕ) → is_operand (WrittenOperand.Quoted quote bytes) ≡ true → (is_quotable quote b && nat_lt (length bytes) 255) ≡ true
    → is_operand (WrittenOperand.Quoted quote (bytes ++ b ∷ [])) ≡ true
literal_more quote bytes b is more = and_both _ _
    (all_more (is_quotable quote) bytes b (and_left (list_all (is_quotable quote) bytes) _ is) (and_left (is_quotable quote b) _ more))
    (le_test _ _ (let lt = test_lt _ _ (and_right (is_quotable quote b) _ more) in let n = length_more bytes b in omega (arith, lt, n)))

pub number_more : (negative : Bool) (digits : List ℕ) (b : ℕ) → is_operand (WrittenOperand.Digits negative digits) ≡ true → is_ascii_digit b ≡ true → length digits < 18
    → is_operand (WrittenOperand.Digits negative (digits ++ b ∷ [])) ≡ true
number_more negative digits b is digit few = let n = length_more digits b in and_both _ _
    (all_more is_ascii_digit digits b (and_left (list_all is_ascii_digit digits) _ is) digit)
    (and_both _ _ (lt_test 0 (length (digits ++ b ∷ [])) (omega (arith, n))) (le_test (length (digits ++ b ∷ [])) 18 (omega (arith, n, few))))

pub digits_of_number : (negative : Bool) (digits : List ℕ) → is_operand (WrittenOperand.Digits negative digits) ≡ true → list_all is_ascii_digit digits ≡ true
digits_of_number negative digits is = and_left (list_all is_ascii_digit digits) _ is

pub few_of_number : (negative : Bool) (digits : List ℕ) → is_operand (WrittenOperand.Digits negative digits) ≡ true → length digits ≤ 18
few_of_number negative digits is = test_le _ _ (and_right (nat_lt 0 (length digits)) _ (and_right (list_all is_ascii_digit digits) _ is))

pub digits_longer : (user : List ℕ) (s : Signed) (negative : Bool) (digits : List ℕ) → IsPrefix s.prefix → is_operand (WrittenOperand.Digits negative digits) ≡ true
    → (b : ℕ) → (is_ascii_digit b && (nat_lt (length digits) 18 && nat_lt (digits_value 10 digits) 100000000000000000)) ≡ true
    → Leads user (text_in (SoFar.InNumber s negative digits) ++ b ∷ []) (Next.More (Inside.InNumber (compared_in s) (longer_digits (record { negative = negative; count = length digits; value = digits_value 10 digits }) b)))
digits_longer user s negative digits formed is b more =
    let digit = and_left (is_ascii_digit b) _ more in
    record {
      written = SoFar.InNumber s negative (digits ++ b ∷ []);
      formed = (formed, number_more negative digits b is digit (test_lt _ _ (and_left (nat_lt (length digits) 18) _ (and_right (is_ascii_digit b) _ more))));
      text_is = simp append_assoc;
      state_is = state_of_digits (length (digits ++ b ∷ [])) (length digits + 1) (digits_value 10 (digits ++ b ∷ [])) (digits_value 10 digits * 10 + (b - 48))
          (length_more digits b ∙ omega arith) (sym (value_more digits b digit));
    }
  where
    state_of_digits : (m n v w : ℕ) → m ≡ n → v ≡ w → Inside.InNumber (compared_in s) (record { negative = negative; count = m; value = v }) ≡ Inside.InNumber (compared_in s) (record { negative = negative; count = n; value = w })
    state_of_digits m n v w p q = rw (p, q) refl

pub number_is : (user : List ℕ) (negative : Bool) (digits : List ℕ) → is_operand (WrittenOperand.Digits negative digits) ≡ true
    → operand_of user (WrittenOperand.Digits negative digits) ≡ number (record { negative = negative; count = length digits; value = digits_value 10 digits })
number_is user negative digits is = ap (λ (n : ℕ). Number (signed_number negative n)) (sym (value_of_18 digits (digits_of_number negative digits is) (few_of_number negative digits is)))

-- In each state, each row leads to a state with the longer text.
pub rows_lead : (user : List ℕ) (w : SoFar) → IsFormed w → AllRows (λ b next. Leads user (text_in w ++ b ∷ []) next) (inside_rows user (state_in user w))
rows_lead user (SoFar.Open n) formed = (
  more user (text_in (SoFar.Open n)) 32 (SoFar.Open (n + 1)) (ap (λ t. 91 ∷ t) (space_more n)) tt,
  (
    more user (text_in (SoFar.Open n)) 46 (SoFar.Dot n) refl tt,
    (
      more user (text_in (SoFar.Open n)) 64 (SoFar.AfterAt n []) refl refl,
      test_lead user (text_in (SoFar.Open n)) n [] Child (ap (λ t. 91 ∷ t) (sym (append-nil (spaces n)))) refl,
    ),
  ),
)
rows_lead user (SoFar.Dot n) formed = (
  more user (text_in (SoFar.Dot n)) 47 (SoFar.DotSlash n) (simp append_assoc) tt,
  body_lead user (record { before = n; way = []; attribute = None; between = 0 }) (refl, refl),
)
rows_lead user (SoFar.DotSlash n) formed =
    (more user (text_in (SoFar.DotSlash n)) 47 (SoFar.WaySlashes n []) (simp append_assoc) refl, tt)
rows_lead user (SoFar.InWay n level) formed = (
  λ b is. let go = is in other user (text_in (SoFar.InWay n level)) (SoFar.InWay n (longer_way level b)) b
      (way_longer n level b (and_right (continues_name b) _ go)) (formed.0, test_more level.step.test b formed.1 go),
  (
    more user (text_in (SoFar.InWay n level)) 47 (SoFar.WaySlash n level) (simp append_assoc) formed,
    at_text_of user _ (text_in (SoFar.InWay n level)) (body_rows (record { way = whole_way level; attribute = None })) (way_prefix n level)
        (body_lead user (record { before = n; way = whole_way level; attribute = None; between = 0 }) (whole_formed level formed, refl)),
  ),
)
rows_lead user (SoFar.WaySlash n level) formed = (
  more user (text_in (SoFar.WaySlash n level)) 47 (SoFar.WaySlashes n (whole_way level)) (rw (opening_after level.done level.step Descendant) (simp append_assoc)) (whole_formed level formed),
  (
    more user (text_in (SoFar.WaySlash n level)) 64 (SoFar.AfterAt n (whole_way level)) (rw (at_text_after level.done level.step) (simp append_assoc)) (whole_formed level formed),
    test_lead user (text_in (SoFar.WaySlash n level)) n (whole_way level) Child (rw (opening_after level.done level.step Child) refl) (whole_formed level formed),
  ),
)
rows_lead user (SoFar.WaySlashes n way) formed = test_lead user (text_in (SoFar.WaySlashes n way)) n way Descendant refl formed
rows_lead user (SoFar.AfterAt n way) formed =
    (λ b is. other user (text_in (SoFar.AfterAt n way)) (SoFar.InAttribute n way (b ∷ [])) b (simp append_assoc) (formed, first_name b is), tt)
rows_lead user (SoFar.InAttribute n way name) formed = (
  λ b is. other user (text_in (SoFar.InAttribute n way name)) (SoFar.InAttribute n way (name ++ b ∷ [])) b (simp append_assoc) (formed.0, name_more name b formed.1 is),
  at_text_of user _ (text_in (SoFar.InAttribute n way name)) (body_rows (record { way = way; attribute = Some name })) (attribute_prefix n way name)
      (body_lead user (record { before = n; way = way; attribute = Some name; between = 0 }) formed),
)
rows_lead user (SoFar.AfterBody f) formed = body_lead user f formed
rows_lead user (SoFar.Exclamation f) formed =
    (more user (text_in (SoFar.Exclamation f)) 61 (SoFar.AfterSign (record { prefix = f; op = Ne; after = 0 })) (sign_after f Ne ∙ simp append_assoc) formed, tt)
rows_lead user (SoFar.Less f) formed = (
  more user (text_in (SoFar.Less f)) 61 (SoFar.AfterSign (record { prefix = f; op = Le; after = 0 })) (sign_after f Le ∙ simp append_assoc) formed,
  at_text_of user _ (text_in (SoFar.Less f)) (operand_rows (record { body = body_in f; op = Lt })) (sign_after f Lt)
      (operand_lead user (record { prefix = f; op = Lt; after = 0 }) formed),
)
rows_lead user (SoFar.Greater f) formed = (
  more user (text_in (SoFar.Greater f)) 61 (SoFar.AfterSign (record { prefix = f; op = Ge; after = 0 })) (sign_after f Ge ∙ simp append_assoc) formed,
  at_text_of user _ (text_in (SoFar.Greater f)) (operand_rows (record { body = body_in f; op = Gt })) (sign_after f Gt)
      (operand_lead user (record { prefix = f; op = Gt; after = 0 }) formed),
)
rows_lead user (SoFar.AfterSign s) formed = operand_lead user s formed
rows_lead user (SoFar.InLiteral s quote bytes) formed = (
  more user (text_in (SoFar.InLiteral s quote bytes)) (quote_byte quote) (SoFar.AfterOperand s (WrittenOperand.Quoted quote bytes) 0) (simp (append_assoc, append-nil)) formed,
  (λ b is. other user (text_in (SoFar.InLiteral s quote bytes)) (SoFar.InLiteral s quote (bytes ++ b ∷ [])) b (simp append_assoc) (formed.0, literal_more quote bytes b formed.1 is), tt),
)
rows_lead user (SoFar.Minus s) formed = (digit_lead user s true (text_in (SoFar.Minus s)) refl formed, tt)
rows_lead user (SoFar.InNumber s negative digits) formed = (
  digits_longer user s negative digits formed.0 formed.1,
  at_text_of user _ (text_in (SoFar.InNumber s negative digits)) (closing_rows (compared_pred (compared_in s) (number (record { negative = negative; count = length digits; value = digits_value 10 digits }))))
      (ap (λ t. signed_text s ++ t) (append-nil (minus_text negative ++ digits)))
      (subst (λ (o : Operand). AllRows (λ b next. Leads user ((signed_text s ++ ((minus_text negative ++ digits) ++ [])) ++ b ∷ []) next) (closing_rows (compared_pred (compared_in s) o)))
      (number_is user negative digits formed.1) (closing_lead user s (WrittenOperand.Digits negative digits) 0 formed.0 formed.1)),
)
rows_lead user (SoFar.LetterU s) formed = (more user (text_in (SoFar.LetterU s)) 83 (SoFar.LettersUs s) (simp append_assoc) formed, tt)
rows_lead user (SoFar.LettersUs s) formed = (more user (text_in (SoFar.LettersUs s)) 69 (SoFar.LettersUse s) (simp append_assoc) formed, tt)
rows_lead user (SoFar.LettersUse s) formed =
    (more user (text_in (SoFar.LettersUse s)) 82 (SoFar.AfterOperand s WrittenOperand.TheUser 0) (simp append_assoc) (formed, refl), tt)
rows_lead user (SoFar.AfterOperand s operand n) formed = closing_lead user s operand n formed.0 formed.1
