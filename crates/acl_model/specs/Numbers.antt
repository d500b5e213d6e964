-- Whole numbers, as values and operands write them: a profile of the numbers of XPath 1.0, 3.5, defined by this
-- project.
use Rattle.std.specs.Prelude.{ℕ, ℤ, pos, neg_ℤ, Bool, nat_eq, nat_le, ◌&&◌, Option, Some, None, List, [], ◌∷◌, length, if◌then◌else◌}
use Rattle.std.specs.List.{list_all}
use Rattle.std.specs.Option.{option_map}
use Rattle.std.specs.Char.{is_ascii_digit}
use Rattle.std.specs.Str.Parse.{digits_value}
use Rattle.acl_model.specs.Limits.{most_digits}
use Rattle.acl_model.specs.Ascii.{hyphen}

-- The list is 1 to 18 digits.
abbrev pub are_digits : List ℕ → Bool
are_digits ds = list_all is_ascii_digit ds && nat_le 1 (length ds) && nat_le (length ds) most_digits

-- the decimal number of 1 to 18 digits; leading zeros count as digits
abbrev pub number_of_digits : List ℕ → Option ℕ
number_of_digits ds = if are_digits ds then Some (digits_value 10 ds) else None

-- the negative number, whose digits follow a '-'
abbrev pub negative : ℕ → ℤ
negative n = neg_ℤ (pos n)

-- A whole number is 1 to 18 digits, with or without a '-' before them, and nothing else.
abbrev pub whole : List ℕ → Option ℤ
whole [] = None
whole (b ∷ bs) = if nat_eq b hyphen then option_map negative (number_of_digits bs) else option_map pos (number_of_digits (b ∷ bs))
