-- A state machine that reads a path byte by byte: the transition table of each state, and the result
-- of a run. The code implements this machine. The laws in `laws.rt` say that it reads exactly what the
-- grammar in `Grammar` spells. Defined by this project.
use Rattle.std.specs.Prelude.{ℕ, ◌+◌, ◌-◌, ◌*◌, suc, min, Bool, true, false, not, nat_eq, nat_le, nat_lt, ◌&&◌, if◌then◌else◌, Option, Some, None, Result, Ok, Err, List, [], ◌∷◌, ◌++◌, length}
use Rattle.std.specs.Char.{is_ascii_digit}
use Rattle.std.specs.Option.{option_map, option_and_then}
use Rattle.acl_model.specs.Limits.{most_path_bytes, most_name_bytes, most_literal_bytes, most_digits}
use Rattle.acl_model.specs.Ascii.{space, asterisk, hyphen, full_stop, slash}
use Rattle.acl_model.specs.Names.{begins_name, continues_name}
use Rattle.acl_model.specs.declared.path.Path.{Path}
use Rattle.acl_model.specs.declared.path.Step.{Step}
use Rattle.acl_model.specs.declared.path.Axis.{Axis}
use Rattle.acl_model.specs.declared.path.Axis.TheVariants.{Child, Descendant}
use Rattle.acl_model.specs.declared.path.Test.{Test}
use Rattle.acl_model.specs.declared.path.Test.TheVariants.{Any, Named}
use Rattle.acl_model.specs.declared.path.Pred.{Pred}
use Rattle.acl_model.specs.declared.path.PredStep.{PredStep}
use Rattle.acl_model.specs.declared.path.Op.TheVariants.{Eq, Ne, Lt, Le, Gt, Ge}
use Rattle.acl_model.specs.declared.path.Operand.{Operand}
use Rattle.acl_model.specs.declared.path.Operand.TheVariants.{Text, Number, User}
use Rattle.xpath_rules.specs.declared.quote.Quote.{Quote}
use Rattle.xpath_rules.specs.declared.quote.Quote.TheVariants.{Double, Single}
use Rattle.xpath_rules.specs.declared.state.State.{State}
use Rattle.xpath_rules.specs.declared.state.Level.{Level}
use Rattle.xpath_rules.specs.declared.state.Inside.{Inside}
use Rattle.xpath_rules.specs.declared.state.WayLevel.{WayLevel}
use Rattle.xpath_rules.specs.declared.state.Body.{Body}
use Rattle.xpath_rules.specs.declared.state.Compared.{Compared}
use Rattle.xpath_rules.specs.declared.state.Digits.{Digits}
use Rattle.xpath_rules.specs.declared.state.Next.{Next}
use Rattle.xpath_rules.specs.PathBytes.{exclamation_mark, quotation_mark, apostrophe, less_than_sign, equals_sign, greater_than_sign, commercial_at, capital_u, capital_s, capital_e, capital_r, left_bracket, right_bracket}
use Rattle.xpath_rules.specs.Grammar.{quote_byte, is_quotable, is_dot, signed_number}

-- ---- tables

-- A row of a state's transition table: the bytes that it accepts, and the result of each.
pub record Row (X : Type 0) : Type 0 where
  pub takes : ℕ → Bool
  pub next : ℕ → X

-- The row that accepts one byte.
abbrev pub byte : {X : Type 0} → ℕ → X → Row X
byte b x = record { takes = λ c. nat_eq c b; next = λ c. x }

-- The row that accepts all bytes for which `takes` is true.
abbrev pub some : {X : Type 0} → (ℕ → Bool) → (ℕ → X) → Row X
some takes next = record { takes = takes; next = next }

-- The result of a byte is that of the first row that accepts it. Where no row does, the byte is refused.
abbrev pub choose : {X : Type 0} → List (Row X) → ℕ → Option X
choose [] b = None
choose (r ∷ rows) b = if r.takes b then Some (r.next b) else choose rows b

-- ---- tests

-- The rows for the first byte of a name test: '*', or the first byte of a name.
abbrev pub test_rows : {X : Type 0} → (Test → X) → List (Row X)
test_rows next = byte asterisk (next Any) ∷ some begins_name (λ b. next (Named (b ∷ []))) ∷ []

-- A test whose name has one more byte. A '*' stays as it is.
abbrev pub longer_test : Test → ℕ → Test
longer_test Any b = Any
longer_test (Named name) b = Named (name ++ b ∷ [])

-- The test is a name of fewer than 255 bytes.
abbrev pub has_room : Test → Bool
has_room Any = false
has_room (Named name) = nat_lt (length name) most_name_bytes

-- ---- in a predicate

-- All steps of a way, including the step that was being read.
abbrev pub whole_way : WayLevel → List PredStep
whole_way level = level.done ++ level.step ∷ []

-- A new step of a way begins with this axis and this test.
abbrev pub way_step : List PredStep → Axis → Test → Next
way_step way axis test = Next.More (Inside.InWay (record { done = way; step = record { axis = axis; test = test } }))

-- A way whose last name has one more byte.
abbrev pub longer_way : WayLevel → ℕ → WayLevel
longer_way level b = record {
  done = level.done;
  step = record { axis = level.step.axis; test = longer_test level.step.test b };
}

-- The predicate that has this body and no comparison.
abbrev pub bare_pred : Body → Pred
bare_pred body = record { way = body.way; attribute = body.attribute; cmp = None }

-- The predicate that has this body, this operator and this operand.
abbrev pub compared_pred : Compared → Operand → Pred
compared_pred c operand =
    record { way = c.body.way; attribute = c.body.attribute; cmp = Some (record { op = c.op; operand = operand }) }

-- After a body: a space, the first byte of an operator, or the end of the predicate.
abbrev pub body_rows : Body → List (Row Next)
body_rows body =
    byte space (Next.More (Inside.AfterBody body))
    ∷ byte equals_sign (Next.More (Inside.AfterSign (record { body = body; op = Eq })))
    ∷ byte exclamation_mark (Next.More (Inside.Exclamation body))
    ∷ byte less_than_sign (Next.More (Inside.Less body))
    ∷ byte greater_than_sign (Next.More (Inside.Greater body))
    ∷ some (λ b. nat_eq b right_bracket && not (is_dot body.way body.attribute)) (λ b. Next.Whole (bare_pred body))
    ∷ []

-- A number of one digit, and whether there is a '-' before it.
abbrev pub one_digit : Bool → ℕ → Digits
one_digit negative b = record { negative = negative; count = 1; value = b - 48 }

-- After an operator: a space, or the first byte of an operand.
abbrev pub operand_rows : Compared → List (Row Next)
operand_rows c =
    byte space (Next.More (Inside.AfterSign c))
    ∷ byte quotation_mark (Next.More (Inside.InLiteral c Double []))
    ∷ byte apostrophe (Next.More (Inside.InLiteral c Single []))
    ∷ byte hyphen (Next.More (Inside.Minus c))
    ∷ some is_ascii_digit (λ b. Next.More (Inside.InNumber c (one_digit false b)))
    ∷ byte capital_u (Next.More (Inside.LetterU c))
    ∷ []

-- After an operand: a space, or the end of the predicate.
abbrev pub closing_rows : Pred → List (Row Next)
closing_rows pred =
    byte space (Next.More (Inside.AfterOperand pred)) ∷ byte right_bracket (Next.Whole pred) ∷ []

-- The number with one more digit at its end.
abbrev pub longer_digits : Digits → ℕ → Digits
longer_digits d b = record { negative = d.negative; count = d.count + 1; value = d.value * 10 + (b - 48) }

-- One more digit is accepted where there are fewer than 18. Their value is then below 10^17, so the
-- second test refuses nothing.
abbrev pub takes_digit : Digits → Bool
takes_digit d = nat_lt d.count most_digits && nat_lt d.value 100000000000000000

-- The operand for these digits. Their value is below 10^18, so the lesser of the two is that value.
abbrev pub number : Digits → Operand
number d = Number (signed_number d.negative (min d.value 999999999999999999))

-- The transition table of each state in a predicate.
abbrev pub inside_rows : List ℕ → Inside → List (Row Next)
inside_rows user Inside.Open =
    byte space (Next.More Inside.Open) ∷ byte full_stop (Next.More Inside.Dot)
    ∷ byte commercial_at (Next.More (Inside.AfterAt [])) ∷ test_rows (way_step [] Child)
inside_rows user Inside.Dot =
    byte slash (Next.More Inside.DotSlash) ∷ body_rows (record { way = []; attribute = None })
inside_rows user Inside.DotSlash = byte slash (Next.More (Inside.WaySlashes [])) ∷ []
inside_rows user (Inside.InWay level) =
    some (λ b. continues_name b && has_room level.step.test)
    (λ b. Next.More (Inside.InWay (longer_way level b)))
    ∷ byte slash (Next.More (Inside.WaySlash (whole_way level)))
    ∷ body_rows (record { way = whole_way level; attribute = None })
inside_rows user (Inside.WaySlash way) =
    byte slash (Next.More (Inside.WaySlashes way)) ∷ byte commercial_at (Next.More (Inside.AfterAt way))
    ∷ test_rows (way_step way Child)
inside_rows user (Inside.WaySlashes way) = test_rows (way_step way Descendant)
inside_rows user (Inside.AfterAt way) =
    some begins_name (λ b. Next.More (Inside.InAttribute way (b ∷ []))) ∷ []
inside_rows user (Inside.InAttribute way name) =
    some (λ b. continues_name b && nat_lt (length name) most_name_bytes)
    (λ b. Next.More (Inside.InAttribute way (name ++ b ∷ [])))
    ∷ body_rows (record { way = way; attribute = Some name })
inside_rows user (Inside.AfterBody body) = body_rows body
inside_rows user (Inside.Exclamation body) =
    byte equals_sign (Next.More (Inside.AfterSign (record { body = body; op = Ne }))) ∷ []
inside_rows user (Inside.Less body) =
    byte equals_sign (Next.More (Inside.AfterSign (record { body = body; op = Le })))
    ∷ operand_rows (record { body = body; op = Lt })
inside_rows user (Inside.Greater body) =
    byte equals_sign (Next.More (Inside.AfterSign (record { body = body; op = Ge })))
    ∷ operand_rows (record { body = body; op = Gt })
inside_rows user (Inside.AfterSign c) = operand_rows c
inside_rows user (Inside.InLiteral c quote bytes) =
    byte (quote_byte quote) (Next.More (Inside.AfterOperand (compared_pred c (Text bytes))))
    ∷ some (λ b. is_quotable quote b && nat_lt (length bytes) most_literal_bytes)
    (λ b. Next.More (Inside.InLiteral c quote (bytes ++ b ∷ [])))
    ∷ []
inside_rows user (Inside.Minus c) =
    some is_ascii_digit (λ b. Next.More (Inside.InNumber c (one_digit true b))) ∷ []
inside_rows user (Inside.InNumber c digits) =
    some (λ b. is_ascii_digit b && takes_digit digits) (λ b. Next.More (Inside.InNumber c (longer_digits digits b)))
    ∷ closing_rows (compared_pred c (number digits))
inside_rows user (Inside.LetterU c) = byte capital_s (Next.More (Inside.LettersUs c)) ∷ []
inside_rows user (Inside.LettersUs c) = byte capital_e (Next.More (Inside.LettersUse c)) ∷ []
inside_rows user (Inside.LettersUse c) =
    byte capital_r (Next.More (Inside.AfterOperand (compared_pred c (User user)))) ∷ []
inside_rows user (Inside.AfterOperand pred) = closing_rows pred

-- ---- in a path

-- All steps of a path, including the step that was being read.
abbrev pub whole_steps : Level → List Step
whole_steps level = level.done ++ level.step ∷ []

-- A new step begins with this axis and this test, and has no predicate yet.
abbrev pub path_step : List Step → Axis → Test → State
path_step done axis test =
    State.InStep (record { done = done; step = record { axis = axis; test = test; preds = [] } })

-- One more byte may continue the step's name: it has fewer than 255 bytes, and no predicate follows it.
abbrev pub goes_on : Step → Bool
goes_on s = has_room s.test && nat_eq (length s.preds) 0

-- The open step, whose name has one more byte.
abbrev pub longer_step : Level → ℕ → Level
longer_step level b = record {
  done = level.done;
  step = record { axis = level.step.axis; test = longer_test level.step.test b; preds = level.step.preds };
}

-- The open step with one more predicate.
abbrev pub with_pred : Level → Pred → Level
with_pred level pred = record {
  done = level.done;
  step = record { axis = level.step.axis; test = level.step.test; preds = level.step.preds ++ pred ∷ [] };
}

-- The state after a byte of a predicate: still in the predicate, or after it. In the second case the
-- predicate is added to the open step.
abbrev pub state_after : Level → Next → State
state_after level (Next.More inside) = State.InPredicate level inside
state_after level (Next.Whole pred) = State.InStep (with_pred level pred)

-- The transition table of each state outside predicates. A state in a predicate has its own table above.
abbrev pub path_rows : State → List (Row State)
path_rows State.Start = byte slash (State.AfterSlash []) ∷ []
path_rows (State.AfterSlash done) = byte slash (State.AfterSlashes done) ∷ test_rows (path_step done Child)
path_rows (State.AfterSlashes done) = test_rows (path_step done Descendant)
path_rows (State.InStep level) =
    some (λ b. continues_name b && goes_on level.step) (λ b. State.InStep (longer_step level b))
    ∷ byte slash (State.AfterSlash (whole_steps level))
    ∷ byte left_bracket (State.InPredicate level Inside.Open)
    ∷ []
path_rows (State.InPredicate level inside) = []

-- The state after one byte, or None where the byte is refused.
abbrev pub step : List ℕ → State → ℕ → Option State
step user State.Start b = choose (path_rows State.Start) b
step user (State.AfterSlash done) b = choose (path_rows (State.AfterSlash done)) b
step user (State.AfterSlashes done) b = choose (path_rows (State.AfterSlashes done)) b
step user (State.InStep level) b = choose (path_rows (State.InStep level)) b
step user (State.InPredicate level inside) b = option_map (state_after level) (choose (inside_rows user inside) b)

-- ---- runs

-- The state after all bytes, or None where one of them is refused.
unfoldable pub run : List ℕ → List ℕ → State → Option State
run user [] s = Some s
run user (b ∷ bs) s = option_and_then (run user bs) (step user s b)

-- A byte that is accepted adds one to the count for the bytes after it. The count from a refused byte
-- on is 0.
abbrev pub count_after : (State → ℕ) → Option State → ℕ
count_after count None = 0
count_after count (Some s) = suc (count s)

-- How many bytes are accepted before the first one that is refused.
unfoldable pub live : List ℕ → List ℕ → State → ℕ
live user [] s = 0
live user (b ∷ bs) s = count_after (live user bs) (step user s b)

-- The path that ends in this state. A path may end after a step, and nowhere else.
abbrev pub path_at_end : State → Option Path
path_at_end State.Start = None
path_at_end (State.AfterSlash done) = None
path_at_end (State.AfterSlashes done) = None
path_at_end (State.InStep level) = Some (record { steps = whole_steps level })
path_at_end (State.InPredicate level inside) = None

-- The path, or the byte offset of the fault where there is none.
abbrev pub path_or_place : Option Path → ℕ → Result Path ℕ
path_or_place None at = Err at
path_or_place (Some path) at = Ok path

-- The path that the bytes spell for the user, or the byte offset of the first fault. The offset is
-- 1,024 where the first 1,024 bytes are accepted and there are more.
unfoldable pub read_path_of : List ℕ → List ℕ → Result Path ℕ
read_path_of bytes user =
    let at = min most_path_bytes (live user bytes State.Start) in
    if nat_le (length bytes) most_path_bytes
    then path_or_place (option_and_then path_at_end (run user bytes State.Start)) at
    else Err at
