-- A line by itself: what its first byte means, and which form the rest has. This project's profile of the ESIS line
-- form.
use Rattle.std.specs.Prelude.{ℕ, Bool, false, nat_eq, nat_lt, ◌&&◌, ◌||◌, List, [], ◌∷◌, length, codes, if◌then◌else◌}
use Rattle.std.specs.List.{list_any}
use Rattle.acl_model.specs.Limits.{most_name_bytes}
use Rattle.acl_model.specs.Ascii.{left_parenthesis, right_parenthesis, hyphen, capital_a}
use Rattle.acl_model.specs.Document.{is_type}
use Rattle.acl_model.specs.Names.{is_spelled_as_name}
use Rattle.acl_model.specs.Values.{attribute_name, attribute_type}

-- '#', which begins a line that an application defines
abbrev pub number_sign : ℕ
number_sign = 35

-- '?', which begins the line of a processing instruction
abbrev pub question_mark : ℕ
question_mark = 63

-- 'C', the line that says that all lines were written
abbrev pub capital_c : ℕ
capital_c = 67

-- 'L', which begins a line with a location in the source of the document
abbrev pub capital_l : ℕ
capital_l = 76

-- The line's first byte is this one.
abbrev pub begins : ℕ → List ℕ → Bool
begins kind [] = false
begins kind (b ∷ rest) = nat_eq b kind

-- the first byte of a line, and 0 of an empty one
abbrev pub first_byte : List ℕ → ℕ
first_byte [] = 0
first_byte (b ∷ rest) = b

-- what follows the first byte of a line
abbrev pub argument : List ℕ → List ℕ
argument [] = []
argument (b ∷ rest) = rest

-- A '(' line starts an element.
abbrev pub is_start : List ℕ → Bool
is_start l = begins left_parenthesis l

-- A ')' line ends an element.
abbrev pub is_end : List ℕ → Bool
is_end l = begins right_parenthesis l

-- A '-' line is a text.
abbrev pub is_text : List ℕ → Bool
is_text l = begins hyphen l

-- An 'A' line is an attribute.
abbrev pub is_attribute : List ℕ → Bool
is_attribute l = begins capital_a l

-- A line that begins with '?', 'L' or '#' is *passed by*: it belongs to no document.
abbrev pub is_passed_by : List ℕ → Bool
is_passed_by l = begins question_mark l || begins capital_l l || begins number_sign l

-- The line 'C' closes the lines: it has no other byte.
abbrev pub is_closing : List ℕ → Bool
is_closing l = begins capital_c l && nat_eq (length (argument l)) 0

-- the first bytes of lines that `nsgmls` writes under other settings, and that this profile doesn't support
abbrev pub unsupported_kinds : List ℕ
unsupported_kinds = codes "&DaNEISTspf{}ieo"

-- The byte is one of them.
unfoldable pub is_unsupported_kind : ℕ → Bool
is_unsupported_kind kind = list_any (λ k. nat_eq k kind) unsupported_kinds

-- The line begins with one of them.
abbrev pub is_unsupported : List ℕ → Bool
is_unsupported [] = false
is_unsupported (b ∷ rest) = is_unsupported_kind b

-- A raw attribute begins with a name of any length, and has a type.
abbrev pub is_spelled_as_attribute : List ℕ → Bool
is_spelled_as_attribute raw = is_spelled_as_name (attribute_name raw) && is_type (attribute_type raw)

-- The line has one of these forms, where a name may have any length: a '(' or ')' and a name, a '-' and any bytes, an
-- 'A' and a raw attribute, a '?', 'L' or '#' and any bytes, or 'C' alone.
abbrev pub is_of_form : List ℕ → Bool
is_of_form l =
    ((is_start l || is_end l) && is_spelled_as_name (argument l))
    || is_text l
    || (is_attribute l && is_spelled_as_attribute (argument l))
    || is_passed_by l
    || is_closing l

-- the name in a line: all bytes after the first, or in an attribute those of them before the first space
abbrev pub name_in : List ℕ → List ℕ
name_in l = if is_attribute l then attribute_name (argument l) else argument l

-- The line is of a kind that has a name, and the name has more than 255 bytes.
abbrev pub has_long_name : List ℕ → Bool
has_long_name l =
    (is_start l || is_end l || is_attribute l) && nat_lt most_name_bytes (length (name_in l))
