-- The canonical spelling of a path: no spaces, the quote '"' wherever possible, numbers without
-- leading zeros, and "USER" for the user. Defined by this project.
use Rattle.std.specs.Prelude.{◌≡◌, OnOk, Result, ℕ, ℤ, pos, negsuc, suc, Bool, true, false, not, nat_eq, Option, Some, None, List, [], ◌∷◌, ◌++◌, map, if◌then◌else◌}
use Rattle.std.specs.List.{list_all}
use Rattle.std.specs.Option.{option_map}
use Rattle.std.specs.Fmt.{decimal}
use Rattle.acl_model.specs.declared.path.Path.{Path}
use Rattle.acl_model.specs.declared.path.Step.{Step}
use Rattle.acl_model.specs.declared.path.Pred.{Pred}
use Rattle.acl_model.specs.declared.path.Cmp.{Cmp}
use Rattle.acl_model.specs.declared.path.Operand.{Operand}
use Rattle.acl_model.specs.declared.path.Operand.TheVariants.{Text, Number, User}
use Rattle.xpath_rules.specs.declared.quote.Quote.{Quote}
use Rattle.xpath_rules.specs.declared.quote.Quote.TheVariants.{Double, Single}
use Rattle.xpath_rules.specs.PathBytes.{quotation_mark}
use Rattle.xpath_rules.specs.Grammar.{WrittenOperand, WrittenCmp, WrittenPred, WrittenStep, path_text}

-- The quote of a literal is '"' where the literal contains none, and the apostrophe otherwise.
abbrev pub quote_for : List ℕ → Quote
quote_for bytes = if list_all (λ b. not (nat_eq b quotation_mark)) bytes then Double else Single

-- A number is written as its decimal digits, with a '-' before them where it is negative. So -0 is
-- written as 0.
abbrev pub canonical_number : ℤ → WrittenOperand
canonical_number (pos n) = WrittenOperand.Digits false (decimal n)
canonical_number (negsuc n) = WrittenOperand.Digits true (decimal (suc n))

-- A literal is quoted, a number has its canonical digits, and an operand that was read from "USER" is
-- written as "USER".
abbrev pub canonical_operand : Operand → WrittenOperand
canonical_operand (Text bytes) = WrittenOperand.Quoted (quote_for bytes) bytes
canonical_operand (Number n) = canonical_number n
canonical_operand (User user) = WrittenOperand.TheUser

-- There are no spaces around a comparison operator.
abbrev pub canonical_cmp : Cmp → WrittenCmp
canonical_cmp c = record { before = 0; op = c.op; between = 0; operand = canonical_operand c.operand }

-- There are no spaces inside the brackets.
abbrev pub canonical_pred : Pred → WrittenPred
canonical_pred p =
    record { before = 0; way = p.way; attribute = p.attribute; cmp = option_map canonical_cmp p.cmp; after = 0 }

-- A step has its axis, its test, and its predicates in order.
abbrev pub canonical_step : Step → WrittenStep
canonical_step s = record { axis = s.axis; test = s.test; preds = map canonical_pred s.preds }

-- The canonical spelling of a path is the text of its steps, each written as above.
abbrev pub canonical_text : Path → List ℕ
canonical_text path = path_text (map canonical_step path.steps)

-- Where a call succeeds, it appended the text to what was there before.
abbrev pub AddsText : {T E : Type 0} → Result T E → List ℕ → List ℕ → List ℕ → Type 0
AddsText result old new text = OnOk result (new ≡ old ++ text)
