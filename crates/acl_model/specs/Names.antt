-- What a name is: a profile of XML names, as bytes, defined by this project.
use Rattle.std.specs.Prelude.{ℕ, Bool, false, nat_eq, nat_le, ◌&&◌, ◌||◌, List, [], ◌∷◌, length}
use Rattle.std.specs.List.{list_all}
use Rattle.std.specs.Char.{is_ascii_alphabetic, is_ascii_digit}
use Rattle.acl_model.specs.Limits.{most_name_bytes}
use Rattle.acl_model.specs.Ascii.{is_byte, hyphen, full_stop, colon, underscore}

-- A name begins with a letter, '_', ':' or a byte from 128 to 255.
abbrev pub begins_name : ℕ → Bool
begins_name b = is_ascii_alphabetic b || nat_eq b underscore || nat_eq b colon || (nat_le 128 b && is_byte b)

-- After its first byte a name may also contain digits, '-' and '.'.
abbrev pub continues_name : ℕ → Bool
continues_name b = begins_name b || is_ascii_digit b || nat_eq b hyphen || nat_eq b full_stop

-- The bytes have the form of a name, whatever their length.
abbrev pub is_spelled_as_name : List ℕ → Bool
is_spelled_as_name [] = false
is_spelled_as_name (b ∷ bs) = begins_name b && list_all continues_name bs

-- A name has this form and at most 255 bytes. So '-' is not a name.
abbrev pub is_name : List ℕ → Bool
is_name name = is_spelled_as_name name && nat_le (length name) most_name_bytes
