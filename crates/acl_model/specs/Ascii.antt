-- Names for the ASCII bytes that lines, names and paths use.
use Rattle.std.specs.Prelude.{ℕ, Bool, nat_lt, List}
use Rattle.std.specs.List.{list_all}

-- A byte is a number below 256.
abbrev pub is_byte : ℕ → Bool
is_byte b = nat_lt b 256

-- Each number of the list is a byte.
abbrev pub are_bytes : List ℕ → Bool
are_bytes bytes = list_all is_byte bytes

-- the byte that ends a line
abbrev pub line_feed : ℕ
line_feed = 10

-- ' ', which separates the parts of a line
abbrev pub space : ℕ
space = 32

-- '(', which begins the line that starts an element
abbrev pub left_parenthesis : ℕ
left_parenthesis = 40

-- ')', which begins the line that ends an element
abbrev pub right_parenthesis : ℕ
right_parenthesis = 41

-- '*', the name test that every name passes (XPath 1.0, 2.3)
abbrev pub asterisk : ℕ
asterisk = 42

-- '+', which begins the line of a rule that grants
abbrev pub plus : ℕ
plus = 43

-- '-', which begins the line of a text and that of a rule that denies, and is the name of a dummy
abbrev pub hyphen : ℕ
hyphen = 45

-- '.', which a name may contain after its first byte
abbrev pub full_stop : ℕ
full_stop = 46

-- '/', which begins a step of a path (XPath 1.0, 2.5)
abbrev pub slash : ℕ
slash = 47

-- ':', which a name may contain
abbrev pub colon : ℕ
colon = 58

-- 'A', which begins the line of an attribute
abbrev pub capital_a : ℕ
capital_a = 65

-- '_', which a name may contain
abbrev pub underscore : ℕ
underscore = 95

-- DEL, the last control character of ASCII, which isn't printable
abbrev pub delete : ℕ
delete = 127
