-- What was written of a predicate, for each state in it: its text, and that it is of the right form.
use Rattle.std.proofs.Common.{◌≡◌, ℕ, suc, ◌+◌, ◌-◌, ◌*◌, ◌<◌, ◌≤◌, min, Bool, true, false, not, nat_eq, nat_le, nat_lt, ◌&&◌, ◌||◌, Option, Some, None, is_some, List, [], ◌∷◌, ◌++◌, length, map, refl, sym, ap, subst, ◌∙◌, arith, append_assoc, append-nil, length-append}
use lib.ListN.{replicate}
use Rattle.std.specs.List.{list_all}
use Rattle.std.specs.Char.{is_ascii_digit}
use Rattle.std.specs.Str.Parse.{digits_value}
use Rattle.std.proofs.lemmas.List.{replicate_more}
use borrow.Author.Tests.{eqb-true}
use Rattle.acl_model.specs.Ascii.{space}
use Rattle.acl_model.specs.Names.{begins_name, continues_name, is_name}
use Rattle.acl_model.specs.declared.path.Pred.{Pred}
use Rattle.acl_model.specs.declared.path.PredStep.{PredStep}
use Rattle.acl_model.specs.declared.path.Axis.{Axis}
use Rattle.acl_model.specs.declared.path.Axis.TheVariants.{Child, Descendant}
use Rattle.acl_model.specs.declared.path.Test.{Test}
use Rattle.acl_model.specs.declared.path.Test.TheVariants.{Any, Named}
use Rattle.acl_model.specs.declared.path.Op.{Op}
use Rattle.acl_model.specs.declared.path.Op.TheVariants.{Eq, Ne, Lt, Le, Gt, Ge}
use Rattle.acl_model.specs.declared.path.Operand.{Operand}
use Rattle.acl_model.specs.declared.path.Operand.TheVariants.{Text, Number, User}
use Rattle.xpath_rules.specs.declared.quote.Quote.{Quote}
use Rattle.xpath_rules.specs.declared.quote.Quote.TheVariants.{Double, Single}
use Rattle.xpath_rules.specs.declared.state.Inside.{Inside}
use Rattle.xpath_rules.specs.declared.state.WayLevel.{WayLevel}
use Rattle.xpath_rules.specs.declared.state.Body.{Body}
use Rattle.xpath_rules.specs.declared.state.Compared.{Compared}
use Rattle.xpath_rules.specs.declared.state.Digits.{Digits}
use Rattle.xpath_rules.specs.declared.state.Next.{Next}
use Rattle.xpath_rules.specs.Grammar.{WrittenOperand, WrittenCmp, WrittenPred, spaces, slash_text, test_text, lead_text, way_text, is_way, is_test, body_text, is_attribute, is_dot, sign_text, quote_byte, is_quotable, signed_number, minus_text, operand_text, is_operand, operand_of, cmp_text, pred_text, is_pred, pred_of}
use Rattle.xpath_rules.specs.PathMachine.{Row, byte, some, test_rows, longer_test, has_room, whole_way, way_step, longer_way, bare_pred, compared_pred, body_rows, operand_rows, closing_rows, longer_digits, takes_digit, number, inside_rows}
use Rattle.xpath_rules.proofs.Tables.{AllRows}
use Rattle.xpath_rules.proofs.Names.{and_left, and_right, and_both, le_test, test_le, test_lt, lt_test, all_more, length_more, first_name, name_more, test_more, test_text_more, opening, way_text_more, way_more, body_of_way, at_text, at_text_after, opening_after, body_of_attribute, value_more, value_first, value_of_18}

-- ---- what was written so far

-- A predicate up to the spaces after its body.
pub record Prefix : Type 0 where
  pub before : ℕ
  pub way : List PredStep
  pub attribute : Option (List ℕ)
  pub between : ℕ

-- A predicate up to the spaces after its comparison operator.
pub record Signed : Type 0 where
  pub prefix : Prefix
  pub op : Op
  pub after : ℕ

-- What was written of a predicate, for each state in it.
pub data SoFar : Type 0 where
  Open : ℕ → SoFar
  Dot : ℕ → SoFar
  DotSlash : ℕ → SoFar
  InWay : ℕ → WayLevel → SoFar
  WaySlash : ℕ → WayLevel → SoFar
  WaySlashes : ℕ → List PredStep → SoFar
  AfterAt : ℕ → List PredStep → SoFar
  InAttribute : ℕ → List PredStep → List ℕ → SoFar
  AfterBody : Prefix → SoFar
  Exclamation : Prefix → SoFar
  Less : Prefix → SoFar
  Greater : Prefix → SoFar
  AfterSign : Signed → SoFar
  InLiteral : Signed → Quote → List ℕ → SoFar
  Minus : Signed → SoFar
  InNumber : Signed → Bool → List ℕ → SoFar
  LetterU : Signed → SoFar
  LettersUs : Signed → SoFar
  LettersUse : Signed → SoFar
  AfterOperand : Signed → WrittenOperand → ℕ → SoFar

abbrev pub prefix_text : Prefix → List ℕ
prefix_text f = 91 ∷ (spaces f.before ++ (body_text f.way f.attribute ++ spaces f.between))

abbrev pub signed_text : Signed → List ℕ
signed_text s = prefix_text s.prefix ++ (sign_text s.op ++ spaces s.after)

abbrev pub begun_text : ℕ → List PredStep → List ℕ → List ℕ
begun_text n way more = 91 ∷ (spaces n ++ (way_text way ++ more))

abbrev pub text_in : SoFar → List ℕ
text_in (SoFar.Open n) = 91 ∷ spaces n
text_in (SoFar.Dot n) = 91 ∷ (spaces n ++ 46 ∷ [])
text_in (SoFar.DotSlash n) = 91 ∷ (spaces n ++ 46 ∷ 47 ∷ [])
text_in (SoFar.InWay n level) = 91 ∷ (spaces n ++ way_text (whole_way level))
text_in (SoFar.WaySlash n level) = begun_text n (whole_way level) (47 ∷ [])
text_in (SoFar.WaySlashes n way) = begun_text n way (opening way Descendant)
text_in (SoFar.AfterAt n way) = begun_text n way (at_text way)
text_in (SoFar.InAttribute n way name) = begun_text n way (at_text way ++ name)
text_in (SoFar.AfterBody f) = prefix_text f
text_in (SoFar.Exclamation f) = prefix_text f ++ 33 ∷ []
text_in (SoFar.Less f) = prefix_text f ++ 60 ∷ []
text_in (SoFar.Greater f) = prefix_text f ++ 62 ∷ []
text_in (SoFar.AfterSign s) = signed_text s
text_in (SoFar.InLiteral s quote bytes) = signed_text s ++ (quote_byte quote ∷ bytes)
text_in (SoFar.Minus s) = signed_text s ++ 45 ∷ []
text_in (SoFar.InNumber s negative digits) = signed_text s ++ (minus_text negative ++ digits)
text_in (SoFar.LetterU s) = signed_text s ++ 85 ∷ []
text_in (SoFar.LettersUs s) = signed_text s ++ 85 ∷ 83 ∷ []
text_in (SoFar.LettersUse s) = signed_text s ++ 85 ∷ 83 ∷ 69 ∷ []
text_in (SoFar.AfterOperand s operand n) = signed_text s ++ (operand_text operand ++ spaces n)

abbrev pub body_in : Prefix → Body
body_in f = record { way = f.way; attribute = f.attribute }

abbrev pub compared_in : Signed → Compared
compared_in s = record { body = body_in s.prefix; op = s.op }

abbrev pub state_in : List ℕ → SoFar → Inside
state_in user (SoFar.Open n) = Inside.Open
state_in user (SoFar.Dot n) = Inside.Dot
state_in user (SoFar.DotSlash n) = Inside.DotSlash
state_in user (SoFar.InWay n level) = Inside.InWay level
state_in user (SoFar.WaySlash n level) = Inside.WaySlash (whole_way level)
state_in user (SoFar.WaySlashes n way) = Inside.WaySlashes way
state_in user (SoFar.AfterAt n way) = Inside.AfterAt way
state_in user (SoFar.InAttribute n way name) = Inside.InAttribute way name
state_in user (SoFar.AfterBody f) = Inside.AfterBody (body_in f)
state_in user (SoFar.Exclamation f) = Inside.Exclamation (body_in f)
state_in user (SoFar.Less f) = Inside.Less (body_in f)
state_in user (SoFar.Greater f) = Inside.Greater (body_in f)
state_in user (SoFar.AfterSign s) = Inside.AfterSign (compared_in s)
state_in user (SoFar.InLiteral s quote bytes) = Inside.InLiteral (compared_in s) quote bytes
state_in user (SoFar.Minus s) = Inside.Minus (compared_in s)
state_in user (SoFar.InNumber s negative digits) =
    Inside.InNumber (compared_in s) (record { negative = negative; count = length digits; value = digits_value 10 digits })
state_in user (SoFar.LetterU s) = Inside.LetterU (compared_in s)
state_in user (SoFar.LettersUs s) = Inside.LettersUs (compared_in s)
state_in user (SoFar.LettersUse s) = Inside.LettersUse (compared_in s)
state_in user (SoFar.AfterOperand s operand n) =
    Inside.AfterOperand (compared_pred (compared_in s) (operand_of user operand))

abbrev pub IsLevel : WayLevel → Type 0
IsLevel level = (is_way level.done ≡ true) × (is_test level.step.test ≡ true)

abbrev pub IsPrefix : Prefix → Type 0
IsPrefix f = (is_way f.way ≡ true) × (is_attribute f.attribute ≡ true)

abbrev pub IsFormed : SoFar → Type 0
IsFormed (SoFar.Open n) = Unit {0}
IsFormed (SoFar.Dot n) = Unit {0}
IsFormed (SoFar.DotSlash n) = Unit {0}
IsFormed (SoFar.InWay n level) = IsLevel level
IsFormed (SoFar.WaySlash n level) = IsLevel level
IsFormed (SoFar.WaySlashes n way) = is_way way ≡ true
IsFormed (SoFar.AfterAt n way) = is_way way ≡ true
IsFormed (SoFar.InAttribute n way name) = (is_way way ≡ true) × (is_name name ≡ true)
IsFormed (SoFar.AfterBody f) = IsPrefix f
IsFormed (SoFar.Exclamation f) = IsPrefix f
IsFormed (SoFar.Less f) = IsPrefix f
IsFormed (SoFar.Greater f) = IsPrefix f
IsFormed (SoFar.AfterSign s) = IsPrefix s.prefix
IsFormed (SoFar.InLiteral s quote bytes) = IsPrefix s.prefix × (is_operand (WrittenOperand.Quoted quote bytes) ≡ true)
IsFormed (SoFar.Minus s) = IsPrefix s.prefix
IsFormed (SoFar.InNumber s negative digits) = IsPrefix s.prefix × (is_operand (WrittenOperand.Digits negative digits) ≡ true)
IsFormed (SoFar.LetterU s) = IsPrefix s.prefix
IsFormed (SoFar.LettersUs s) = IsPrefix s.prefix
IsFormed (SoFar.LettersUse s) = IsPrefix s.prefix
IsFormed (SoFar.AfterOperand s operand n) = IsPrefix s.prefix × (is_operand operand ≡ true)

-- The text leads to this state in a predicate.
pub record Writes (user text : List ℕ) (inside : Inside) : Type 0 where
  pub written : SoFar
  pub formed : IsFormed written
  pub text_is : text_in written ≡ text
  pub state_is : state_in user written ≡ inside

-- The text is that of a predicate.
pub record WritesPred (user text : List ℕ) (pred : Pred) : Type 0 where
  pub written : WrittenPred
  pub in_form : is_pred written ≡ true
  pub text_is : pred_text written ≡ text
  pub meaning : pred_of user written ≡ pred

abbrev pub Leads : List ℕ → List ℕ → Next → Type 0
Leads user text (Next.More inside) = Writes user text inside
Leads user text (Next.Whole pred) = WritesPred user text pred
