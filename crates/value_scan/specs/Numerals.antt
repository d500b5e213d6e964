-- The whole number that the bytes read so far write. Defined by this project. It is proved that all bytes of a value
-- give the number that `acl_model` defines.
use Rattle.std.specs.Prelude.{ℕ, ◌+◌, ◌-◌, ◌*◌, ℤ, pos, Bool, true, false, nat_eq, nat_lt, ◌&&◌, Option, Some, None, List, [], ◌∷◌, if◌then◌else◌}
use Rattle.std.specs.Char.{is_ascii_digit}
use Rattle.acl_model.specs.Limits.{most_digits}
use Rattle.acl_model.specs.Ascii.{hyphen}
use Rattle.acl_model.specs.Numbers.{negative}
use Rattle.value_scan.specs.declared.numeral.Numeral.{Numeral}
use Rattle.value_scan.specs.declared.numeral.Numeral.TheVariants.{Start, Minus, Digits, Unfit}

-- the state after the first byte of a number: Digits for a digit, and Unfit for any other byte
abbrev pub leading_digit : Bool → ℕ → Numeral
leading_digit minus b = if is_ascii_digit b then Digits minus 1 (b - 48) else Unfit

-- the state after one more byte. A digit is appended to the number, up to 18 digits. Any other byte gives Unfit, except
-- a first '-'.
abbrev pub numeral_after : Numeral → ℕ → Numeral
numeral_after Start b = if nat_eq b hyphen then Minus else leading_digit false b
numeral_after Minus b = leading_digit true b
numeral_after (Digits minus count number) b =
    if is_ascii_digit b && nat_lt count most_digits && nat_lt number 100000000000000000
    then Digits minus (count + 1) (number * 10 + (b - 48)) else Unfit
numeral_after Unfit b = Unfit

-- the state after many bytes
abbrev pub numeral_after_all : Numeral → List ℕ → Numeral
numeral_after_all numeral [] = numeral
numeral_after_all numeral (b ∷ bs) = numeral_after_all (numeral_after numeral b) bs

-- the integer with this sign and absolute value
abbrev pub signed : Bool → ℕ → ℤ
signed true n = negative n
signed false n = pos n

-- the number of a state: None where no digit was read, or where the bytes are not a number
abbrev pub number_of : Numeral → Option ℤ
number_of Start = None
number_of Minus = None
number_of (Digits minus count number) =
    if nat_lt number 1000000000000000000 then Some (signed minus number) else None
number_of Unfit = None
