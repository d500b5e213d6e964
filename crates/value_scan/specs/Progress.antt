-- What is known of a value from the bytes read so far, so that a value may come in pieces. Defined by this project. It
-- is proved that this decides comparisons as `acl_model` does.
use Rattle.std.specs.Prelude.{ℕ, ◌+◌, Bool, true, false, not, nat_eq, nat_lt, ◌&&◌, int_lt, int_le, Option, Some, None, List, [], ◌∷◌, length, slice_index_or, if◌then◌else◌}
use Rattle.std.specs.Option.{option_map_or, is_some}
use Rattle.std.specs.Ordering.{int_eq}
use Rattle.acl_model.specs.Comparisons.{operand_number, are_ordered}
use Rattle.acl_model.specs.declared.path.Cmp.{Cmp}
use Rattle.acl_model.specs.declared.path.Op.{Op}
use Rattle.acl_model.specs.declared.path.Op.TheVariants.{Eq, Ne, Lt, Le, Gt, Ge}
use Rattle.acl_model.specs.declared.path.Operand.{Operand}
use Rattle.acl_model.specs.declared.path.Operand.TheVariants.{Text, Number, User}
use Rattle.value_scan.specs.Numerals.{numeral_after, number_of}
use Rattle.value_scan.specs.declared.numeral.Numeral.{Numeral}
use Rattle.value_scan.specs.declared.numeral.Numeral.TheVariants.{Start, Minus, Digits, Unfit}
use Rattle.value_scan.specs.declared.progress.Progress.{Progress}

-- ---- from byte to byte

-- the state before the first byte of a value: no byte of the literal is matched, and no number has begun
abbrev pub begun : Progress
begun = record { matched = Some 0; numeral = Start }

-- The list has this byte at the index.
abbrev pub has_byte_at : List ℕ → ℕ → ℕ → Bool
has_byte_at bytes index b = nat_lt index (length bytes) && nat_eq (slice_index_or bytes index 0) b

-- The literal or the user has this byte at the index; a number has no bytes.
abbrev pub has_at : Operand → ℕ → ℕ → Bool
has_at (Text bytes) index b = has_byte_at bytes index b
has_at (Number n) index b = false
has_at (User bytes) index b = has_byte_at bytes index b

-- how many bytes of the literal are matched after one more byte: one more, where the byte is the literal's next. After
-- any other byte the result is None, and it stays None.
abbrev pub matched_after : Operand → Option ℕ → ℕ → Option ℕ
matched_after operand None b = None
matched_after operand (Some count) b = if has_at operand count b then Some (count + 1) else None

-- the state after one more byte
abbrev pub fed_byte : Operand → Progress → ℕ → Progress
fed_byte operand progress b =
    record {
      matched = matched_after operand progress.matched b;
      numeral = numeral_after progress.numeral b;
    }

-- the state after many bytes, one after the other
abbrev pub fed : Operand → Progress → List ℕ → Progress
fed operand progress [] = progress
fed operand progress (b ∷ bs) = fed operand (fed_byte operand progress b) bs

-- ---- what the state says about the value

-- All bytes of the literal are matched.
abbrev pub is_all_matched : List ℕ → Option ℕ → Bool
is_all_matched literal matched =
    option_map_or (λ count. nat_eq count (length literal)) matched false

-- The value equals the operand, if it ends here.
abbrev pub is_equal : Operand → Progress → Bool
is_equal (Text bytes) progress = is_all_matched bytes progress.matched
is_equal (Number n) progress = option_map_or (λ m. int_eq m n) (number_of progress.numeral) false
is_equal (User bytes) progress = is_all_matched bytes progress.matched

-- The comparison of the value with the operand is true, if the value ends here.
abbrev pub satisfies_so_far : Op → Operand → Progress → Bool
satisfies_so_far Eq operand progress = is_equal operand progress
satisfies_so_far Ne operand progress = not (is_equal operand progress)
satisfies_so_far Lt operand progress =
    are_ordered int_lt (number_of progress.numeral) (operand_number operand)
satisfies_so_far Le operand progress =
    are_ordered int_le (number_of progress.numeral) (operand_number operand)
satisfies_so_far Gt operand progress =
    are_ordered int_lt (operand_number operand) (number_of progress.numeral)
satisfies_so_far Ge operand progress =
    are_ordered int_le (operand_number operand) (number_of progress.numeral)

-- The value satisfies the comparison, if it ends here.
abbrev pub is_satisfied : Cmp → Progress → Bool
is_satisfied cmp progress = satisfies_so_far cmp.op cmp.operand progress

-- The bytes don't begin a number, whatever follows.
abbrev pub is_unfit : Numeral → Bool
is_unfit Start = false
is_unfit Minus = false
is_unfit (Digits minus count number) = false
is_unfit Unfit = true

-- The state is settled: no further byte changes it, since the value differs from the literal and is not a number.
abbrev pub is_settled : Progress → Bool
is_settled progress = not (is_some progress.matched) && is_unfit progress.numeral
