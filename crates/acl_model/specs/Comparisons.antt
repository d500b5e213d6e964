-- How one value compares with an operand (XPath 1.0, 3.4). `Predicates` says what is true of several values. This is a
-- profile of XPath, defined by this project: texts are compared by their bytes, and only whole numbers are numbers.
use Rattle.std.specs.Prelude.{ℕ, ℤ, Bool, false, not, nat_eq, int_lt, int_le, Option, Some, None, List}
use Rattle.std.specs.Option.{option_map_or}
use Rattle.std.specs.Ordering.{int_eq}
use Rattle.std.specs.Cmp.Lexicographic.{pointwise}
use Rattle.acl_model.specs.Numbers.{whole}
use Rattle.acl_model.specs.declared.path.Op.{Op}
use Rattle.acl_model.specs.declared.path.Op.TheVariants.{Eq, Ne, Lt, Le, Gt, Ge}
use Rattle.acl_model.specs.declared.path.Operand.{Operand}
use Rattle.acl_model.specs.declared.path.Operand.TheVariants.{Text, Number, User}

-- A value equals a literal or the user where the bytes are the same, and a number where it is a whole number of the
-- same value.
abbrev pub equals : Operand → List ℕ → Bool
equals (Text bytes) value = pointwise nat_eq value bytes
equals (Number n) value = option_map_or (λ m. int_eq m n) (whole value) false
equals (User bytes) value = pointwise nat_eq value bytes

-- the operand as a whole number, if it is one; a literal and the user are read as values are
abbrev pub operand_number : Operand → Option ℤ
operand_number (Text bytes) = whole bytes
operand_number (Number n) = Some n
operand_number (User bytes) = whole bytes

-- Both are whole numbers, and `order` is true of them.
abbrev pub are_ordered : (ℤ → ℤ → Bool) → Option ℤ → Option ℤ → Bool
are_ordered order None None = false
are_ordered order None (Some n) = false
are_ordered order (Some m) None = false
are_ordered order (Some m) (Some n) = order m n

-- A value satisfies '=' where it equals the operand, and '!=' where it doesn't. It satisfies '<', '<=', '>' and '>='
-- where value and operand are whole numbers in that order (XPath 1.0, 3.4).
abbrev pub satisfies : Op → Operand → List ℕ → Bool
satisfies Eq operand value = equals operand value
satisfies Ne operand value = not (equals operand value)
satisfies Lt operand value = are_ordered int_lt (whole value) (operand_number operand)
satisfies Le operand value = are_ordered int_le (whole value) (operand_number operand)
satisfies Gt operand value = are_ordered int_lt (operand_number operand) (whole value)
satisfies Ge operand value = are_ordered int_le (operand_number operand) (whole value)
