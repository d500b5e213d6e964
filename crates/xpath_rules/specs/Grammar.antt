-- The grammar of paths: this project's profile of XPath 1.0. Each rule of the grammar is above the
-- definition of its text. After it come two more definitions: which parts are of the right form, and
-- what they mean.
--
-- A written path (`WrittenStep` and its parts) is a syntax tree that has all that its text shows. A
-- path (`Path`) has no spaces, no choice of quotes, and a number in place of its digits. No byte that
-- may continue a name may follow one, so no rule says that a name is as long as possible.
use Rattle.std.specs.Prelude.{ℕ, ℤ, pos, Bool, true, false, not, nat_eq, nat_le, nat_lt, ◌&&◌, ◌||◌, Option, Some, None, is_some, List, [], ◌∷◌, ◌++◌, length, map, flat_map}
use Rattle.std.specs.List.{list_all}
use Rattle.std.specs.Char.{is_ascii_digit}
use Rattle.std.specs.Option.{option_map}
use Rattle.std.specs.Str.Parse.{digits_value}
use lib.ListN.{replicate}
use lib.IntN.{neg_ℤ}
use Rattle.acl_model.specs.Limits.{most_literal_bytes, most_digits}
use Rattle.acl_model.specs.Ascii.{is_byte, line_feed, space, asterisk, hyphen, full_stop, slash}
use Rattle.acl_model.specs.Names.{is_name}
use Rattle.acl_model.specs.declared.path.Path.{Path}
use Rattle.acl_model.specs.declared.path.Step.{Step}
use Rattle.acl_model.specs.declared.path.Axis.{Axis}
use Rattle.acl_model.specs.declared.path.Axis.TheVariants.{Child, Descendant}
use Rattle.acl_model.specs.declared.path.Test.{Test}
use Rattle.acl_model.specs.declared.path.Test.TheVariants.{Any, Named}
use Rattle.acl_model.specs.declared.path.Pred.{Pred}
use Rattle.acl_model.specs.declared.path.PredStep.{PredStep}
use Rattle.acl_model.specs.declared.path.Cmp.{Cmp}
use Rattle.acl_model.specs.declared.path.Op.{Op}
use Rattle.acl_model.specs.declared.path.Op.TheVariants.{Eq, Ne, Lt, Le, Gt, Ge}
use Rattle.acl_model.specs.declared.path.Operand.{Operand}
use Rattle.acl_model.specs.declared.path.Operand.TheVariants.{Text, Number, User}
use Rattle.xpath_rules.specs.declared.quote.Quote.{Quote}
use Rattle.xpath_rules.specs.declared.quote.Quote.TheVariants.{Double, Single}
use Rattle.xpath_rules.specs.PathBytes.{exclamation_mark, quotation_mark, apostrophe, less_than_sign, equals_sign, greater_than_sign, commercial_at, capital_u, capital_s, capital_e, capital_r, left_bracket, right_bracket}

-- ---- steps and tests

-- slash = "/" | "//": one slash is the child axis, and two slashes select all proper descendants
-- (XPath 1.0, 2.5).
abbrev pub slash_text : Axis → List ℕ
slash_text Child = slash ∷ []
slash_text Descendant = slash ∷ slash ∷ []

-- test = name | "*" (XPath 1.0, 2.3).
abbrev pub test_text : Test → List ℕ
test_text Any = asterisk ∷ []
test_text (Named name) = name

-- A test is '*', or a name of 1 to 255 bytes.
abbrev pub is_test : Test → Bool
is_test Any = true
is_test (Named name) = is_name name

-- sp = any number of spaces.
abbrev pub spaces : ℕ → List ℕ
spaces n = replicate n space

-- ---- the body of a predicate: what it selects

-- A *way* is the path of a predicate, relative to the context node. It begins with its first test, or
-- with ".//" and then that test (XPath 1.0, 2.5).
abbrev pub lead_text : Axis → List ℕ
lead_text Child = []
lead_text Descendant = full_stop ∷ slash ∷ slash ∷ []

-- A later step of a way: slash test.
abbrev pub further_text : PredStep → List ℕ
further_text s = slash_text s.axis ++ test_text s.test

-- way = [ ".//" ] test *( slash test ). No way in a text is empty. The empty list means that the body
-- has no way, so it is "." or "@" name.
abbrev pub way_text : List PredStep → List ℕ
way_text [] = []
way_text (s ∷ more) = lead_text s.axis ++ (test_text s.test ++ flat_map further_text more)

-- Each test of a way is '*', or a name of 1 to 255 bytes. The empty list has no test.
abbrev pub is_way : List PredStep → Bool
is_way way = list_all (λ s. is_test s.test) way

-- body = "." | "@" name | way [ "/@" name ]. Without a way it selects the context node itself, or an
-- attribute of it.
abbrev pub body_text : List PredStep → Option (List ℕ) → List ℕ
body_text [] None = full_stop ∷ []
body_text [] (Some name) = commercial_at ∷ name
body_text (s ∷ more) None = way_text (s ∷ more)
body_text (s ∷ more) (Some name) = way_text (s ∷ more) ++ (slash ∷ commercial_at ∷ name)

-- Where a body has an attribute, the attribute's name has 1 to 255 bytes and the form of a name.
abbrev pub is_attribute : Option (List ℕ) → Bool
is_attribute None = true
is_attribute (Some name) = is_name name

-- The body is ".": it has no way and no attribute.
abbrev pub is_dot : List PredStep → Option (List ℕ) → Bool
is_dot [] None = true
is_dot [] (Some name) = false
is_dot (s ∷ more) None = false
is_dot (s ∷ more) (Some name) = false

-- ---- the comparison of a predicate

-- The comparison operators: cmp = "=" | "!=" | "<" | "<=" | ">" | ">=" (XPath 1.0, 3.4).
abbrev pub sign_text : Op → List ℕ
sign_text Eq = equals_sign ∷ []
sign_text Ne = exclamation_mark ∷ equals_sign ∷ []
sign_text Lt = less_than_sign ∷ []
sign_text Le = less_than_sign ∷ equals_sign ∷ []
sign_text Gt = greater_than_sign ∷ []
sign_text Ge = greater_than_sign ∷ equals_sign ∷ []

-- The byte of a quote (XPath 1.0, 3.7).
abbrev pub quote_byte : Quote → ℕ
quote_byte Double = quotation_mark
quote_byte Single = apostrophe

-- A byte may be in a literal with this quote: any byte but the quote itself and a line feed.
abbrev pub is_quotable : Quote → ℕ → Bool
is_quotable quote b = is_byte b && (not (nat_eq b (quote_byte quote)) && not (nat_eq b line_feed))

-- The text of a number's sign: '-' where it is negative, and nothing otherwise.
abbrev pub minus_text : Bool → List ℕ
minus_text false = []
minus_text true = hyphen ∷ []

-- The whole number with this sign and this absolute value.
abbrev pub signed_number : Bool → ℕ → ℤ
signed_number false n = pos n
signed_number true n = neg_ℤ (pos n)

-- An operand as it is written: bytes between quotes, digits with or without a '-' before them, or the
-- keyword "USER".
pub data WrittenOperand : Type 0 where
  Quoted : Quote → List ℕ → WrittenOperand
  Digits : Bool → List ℕ → WrittenOperand
  TheUser : WrittenOperand

-- operand = literal | number | "USER". A literal is a quote, 0 to 255 bytes, and the same quote. A
-- number is [ "-" ] and 1 to 18 digits.
abbrev pub operand_text : WrittenOperand → List ℕ
operand_text (WrittenOperand.Quoted quote bytes) = quote_byte quote ∷ (bytes ++ quote_byte quote ∷ [])
operand_text (WrittenOperand.Digits negative digits) = minus_text negative ++ digits
operand_text WrittenOperand.TheUser = capital_u ∷ capital_s ∷ capital_e ∷ capital_r ∷ []

-- A literal has at most 255 bytes, none of them its quote or a line feed; a number has 1 to 18
-- digits.
abbrev pub is_operand : WrittenOperand → Bool
is_operand (WrittenOperand.Quoted quote bytes) =
    list_all (is_quotable quote) bytes && nat_le (length bytes) most_literal_bytes
is_operand (WrittenOperand.Digits negative digits) =
    list_all is_ascii_digit digits
    && (nat_lt 0 (length digits) && nat_le (length digits) most_digits)
is_operand WrittenOperand.TheUser = true

-- What an operand means for a user: the bytes of a literal, the value of a number, the bytes of the
-- user.
abbrev pub operand_of : List ℕ → WrittenOperand → Operand
operand_of user (WrittenOperand.Quoted quote bytes) = Text bytes
operand_of user (WrittenOperand.Digits negative digits) = Number (signed_number negative (digits_value 10 digits))
operand_of user WrittenOperand.TheUser = User user

-- A comparison as it is written: its operator, the numbers of spaces before and after the operator,
-- and its operand.
pub record WrittenCmp : Type 0 where
  pub before : ℕ
  pub op : Op
  pub between : ℕ
  pub operand : WrittenOperand

-- The text of a comparison: sp cmp sp operand. Where there is no comparison, the text is empty.
abbrev pub cmp_text : Option WrittenCmp → List ℕ
cmp_text None = []
cmp_text (Some c) = spaces c.before ++ (sign_text c.op ++ (spaces c.between ++ operand_text c.operand))

-- Where there is a comparison, its operand is of the right form.
abbrev pub is_cmp : Option WrittenCmp → Bool
is_cmp None = true
is_cmp (Some c) = is_operand c.operand

-- What a comparison means for a user: its operator, and the meaning of its operand.
abbrev pub cmp_of : List ℕ → WrittenCmp → Cmp
cmp_of user c = record { op = c.op; operand = operand_of user c.operand }

-- ---- predicates

-- A predicate as it is written: its body, its comparison if it has one, and the numbers of spaces
-- before and after these.
pub record WrittenPred : Type 0 where
  pub before : ℕ
  pub way : List PredStep
  pub attribute : Option (List ℕ)
  pub cmp : Option WrittenCmp
  pub after : ℕ

-- pred = "[" sp body [ sp cmp sp operand ] sp "]" (XPath 1.0, 2.4).
abbrev pub pred_text : WrittenPred → List ℕ
pred_text p =
    left_bracket ∷ (spaces p.before ++ (body_text p.way p.attribute
    ++ (cmp_text p.cmp ++ (spaces p.after ++ right_bracket ∷ []))))

-- The parts of a predicate are of the right form, and where its body is ".", it has a comparison.
abbrev pub is_pred : WrittenPred → Bool
is_pred p =
    is_way p.way && (is_attribute p.attribute && (is_cmp p.cmp && (not (is_dot p.way p.attribute) || is_some p.cmp)))

-- What a predicate means for a user: its body, and the meaning of its comparison.
abbrev pub pred_of : List ℕ → WrittenPred → Pred
pred_of user p = record { way = p.way; attribute = p.attribute; cmp = option_map (cmp_of user) p.cmp }

-- ---- paths

-- A step as it is written: its axis, its test, and its written predicates.
pub record WrittenStep : Type 0 where
  pub axis : Axis
  pub test : Test
  pub preds : List WrittenPred

-- A step of a path: slash test *pred.
abbrev pub step_text : WrittenStep → List ℕ
step_text s = slash_text s.axis ++ (test_text s.test ++ flat_map pred_text s.preds)

-- The test of a step and each of its predicates are of the right form.
abbrev pub is_step : WrittenStep → Bool
is_step s = is_test s.test && list_all is_pred s.preds

-- What a step means for a user: its axis, its test, and the meaning of each of its predicates.
abbrev pub step_of : List ℕ → WrittenStep → Step
step_of user s = record { axis = s.axis; test = s.test; preds = map (pred_of user) s.preds }

-- path = 1*( slash test *pred ) (XPath 1.0, 2.5).
abbrev pub path_text : List WrittenStep → List ℕ
path_text steps = flat_map step_text steps

-- A path has at least one step, and each step is of the right form.
abbrev pub is_path : List WrittenStep → Bool
is_path [] = false
is_path (s ∷ more) = list_all is_step (s ∷ more)

-- What a written path means for a user: the meaning of each step.
abbrev pub path_of : List ℕ → List WrittenStep → Path
path_of user steps = record { steps = map (step_of user) steps }
