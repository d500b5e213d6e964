-- The bytes that paths are made of besides names. Each has its ASCII name.
use Rattle.std.specs.Prelude.{ℕ}

-- '!', the first byte of the operator '!='.
abbrev pub exclamation_mark : ℕ
exclamation_mark = 33

-- '"', one of the two quotes of a literal.
abbrev pub quotation_mark : ℕ
quotation_mark = 34

-- The apostrophe, the other quote of a literal.
abbrev pub apostrophe : ℕ
apostrophe = 39

-- '<', the operator for a lesser value.
abbrev pub less_than_sign : ℕ
less_than_sign = 60

-- '=', the operator for an equal value.
abbrev pub equals_sign : ℕ
equals_sign = 61

-- '>', the operator for a greater value.
abbrev pub greater_than_sign : ℕ
greater_than_sign = 62

-- '@', which comes before the name of an attribute.
abbrev pub commercial_at : ℕ
commercial_at = 64

-- The first letter of 'USER', the keyword for the user.
abbrev pub capital_u : ℕ
capital_u = 85

-- The second letter of 'USER'.
abbrev pub capital_s : ℕ
capital_s = 83

-- The third letter of 'USER'.
abbrev pub capital_e : ℕ
capital_e = 69

-- The last letter of 'USER'.
abbrev pub capital_r : ℕ
capital_r = 82

-- '[', which begins a predicate.
abbrev pub left_bracket : ℕ
left_bracket = 91

-- ']', which ends a predicate.
abbrev pub right_bracket : ℕ
right_bracket = 93
